-- A turn that is a step of one end, as the step's contract tells it, and what a whole call does to the end that it is lent.
use Rattle.std.specs.Prelude.{◌≡◌, ◌⊎◌, ℕ, List, length, Option, Some, None}
use Rattle.voe_disk.specs.declared.disk.Disk.{Ghosts}
use Rattle.voe_disk.specs.declared.fail.DiskFail.{DiskFail}
use Rattle.gate_journal.specs.Device.{IsSameDisk}
use Rattle.net_model.specs.Rules.{NodeRules}
use Rattle.net_model.specs.declared.step.AuthorStep.{AuthorStep}
use Rattle.net_model.specs.declared.step.AuthorStep.TheVariants as author
use Rattle.net_model.specs.declared.step.SubscriberStep.{SubscriberStep}
use Rattle.net_model.specs.declared.step.SubscriberStep.TheVariants as subscriber
use Rattle.node_book.specs.Ends.{EndView, IsSound, after_step, is_stopped, one_more}
use Rattle.node_book.specs.EndSteps.{Happens, IsUnchanged, lacked_memory}
use Rattle.author_end.specs.Author.{AreRightFor as AreRightForAuthor, fate_of as author_fate, outcome_of as author_outcome}
use Rattle.author_end.specs.declared.event.AuthorEvent.{AuthorEvent}
use Rattle.author_end.specs.declared.event.AuthorEvent.TheVariants as event
use Rattle.subscriber_end.specs.Subscriber.{AreRightFor as AreRightForSubscriber, fate_of as subscriber_fate, outcome_of as subscriber_outcome}
use Rattle.subscriber_end.specs.declared.event.SubscriberEvent.{SubscriberEvent}
use Rattle.subscriber_end.specs.declared.event.SubscriberEvent.TheVariants as subscriber_event
use Rattle.vtp_server.specs.NodeState.{NodeState}
use Rattle.vtp_server.specs.declared.author.AuthorAsk.{AuthorAsk}
use Rattle.vtp_server.specs.declared.author.AuthorAsk.TheVariants as ask

-- ---- an end, as a connection sees it

-- the count of faults that an end answers which is down
abbrev pub down_of : {D : Type 0} → Ghosts D → D → Option DiskFail → Option ℕ
down_of disk state None = None
down_of disk state (Some fail) = Some (disk.faults state)

abbrev pub state_of : {D : Type 0} → Ghosts D → EndView D → NodeState
state_of disk end = record { notes = end.notes; down = down_of disk end.disk end.down }

-- the configuration stays, and the disk tells what it told
pub record IsSameEnd {D : Type 0} (disk : Ghosts D) (old new : EndView D) : Type 0 where
  pub config : new.config ≡ old.config
  pub same_disk : IsSameDisk disk old.disk new.disk

-- ---- an author

abbrev pub author_event : ℕ → AuthorAsk → AuthorEvent
author_event line (ask.Next after) = event.Next line after
author_event line (ask.Answer identifier ack) = event.Answer line identifier ack

-- a step of an author
pub record IsAuthorStep {D : Type 0} (disk : Ghosts D) (old : EndView D) (happened : AuthorEvent) (reply : AuthorStep) (new : EndView D) : Type 0 where
  pub config : new.config ≡ old.config
  pub sessions : new.sessions ≡ old.sessions
  pub steps : new.steps ≡ one_more old.steps
  pub same_disk : IsSameDisk disk old.disk new.disk
  pub sound : IsSound disk new
  pub was_down : (fail : DiskFail) → old.down ≡ Some fail → (reply ≡ author.Down (disk.faults old.disk) (is_stopped fail)) × (new ≡ after_step old)
  pub happens : old.down ≡ None → (rules : NodeRules) → AreRightForAuthor old.config happened rules → Happens disk old new (author_outcome rules old.notes happened) reply (author_fate reply)
  pub rules : old.down ≡ None → (author_fate reply ≡ lacked_memory) ⊎ ((rules : NodeRules) × AreRightForAuthor old.config happened rules)
  pub no_memory : author_fate reply ≡ lacked_memory → IsUnchanged disk old new

-- the same as a turn, which acts on all records of the end
pub record IsAuthorTurn {D : Type 0} (disk : Ghosts D) (line : ℕ) (old : EndView D) (asked : AuthorAsk) (reply : AuthorStep) (place front : ℕ) (new : EndView D) : Type 0 where
  pub step : IsAuthorStep disk old (author_event line asked) reply new
  pub place_is : place ≡ length old.notes
  pub front_is : front ≡ length new.notes

-- ---- a subscriber

-- a step of a subscriber
pub record IsSubscriberStep {D : Type 0} (disk : Ghosts D) (old : EndView D) (happened : SubscriberEvent) (reply : SubscriberStep) (new : EndView D) : Type 0 where
  pub config : new.config ≡ old.config
  pub sessions : new.sessions ≡ old.sessions
  pub steps : new.steps ≡ one_more old.steps
  pub same_disk : IsSameDisk disk old.disk new.disk
  pub sound : IsSound disk new
  pub was_down : (fail : DiskFail) → old.down ≡ Some fail → (reply ≡ subscriber.Down (disk.faults old.disk) (is_stopped fail)) × (new ≡ after_step old)
  pub happens : old.down ≡ None → (rules : NodeRules) → AreRightForSubscriber old.config happened rules → Happens disk old new (subscriber_outcome rules old.notes happened) reply (subscriber_fate reply)
  pub rules : old.down ≡ None → (subscriber_fate reply ≡ lacked_memory) ⊎ ((rules : NodeRules) × AreRightForSubscriber old.config happened rules)
  pub no_memory : subscriber_fate reply ≡ lacked_memory → IsUnchanged disk old new

pub record IsSubscriberTurn {D : Type 0} (disk : Ghosts D) (old : EndView D) (packet : List ℕ) (reply : SubscriberStep) (place front : ℕ) (new : EndView D) : Type 0 where
  pub step : IsSubscriberStep disk old (subscriber_event.Packet packet) reply new
  pub place_is : place ≡ length old.notes
  pub front_is : front ≡ length new.notes
