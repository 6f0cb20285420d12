-- A turn of a broker at a hub.
use Rattle.std.specs.Prelude.{◌≡◌, ◌⊎◌, ◌&&◌, ℕ, Bool, true, List, length, min, nat_le, nat_lt, cond, Option, Some, None}
use Rattle.voe_disk.specs.declared.disk.Disk.{Ghosts}
use Rattle.voe_disk.specs.declared.fail.DiskFail.{DiskFail}
use Rattle.gate_journal.specs.Device.{IsSameDisk}
use Rattle.gate_journal.specs.Journal.{EachFile}
use Rattle.net_model.specs.Rules.{NodeRules}
use Rattle.net_model.specs.Steps.{last_of}
use Rattle.net_model.specs.declared.step.BrokerStep.{BrokerStep}
use Rattle.net_model.specs.declared.step.BrokerStep.TheVariants as b
use Rattle.node_notes.specs.Forms.{is_identifier, is_packet}
use Rattle.node_notes.specs.declared.config.Config.{Config}
use Rattle.node_book.specs.Keeps.{Keeps}
use Rattle.node_book.specs.Ends.{EndView, IsSound, after_step, is_stopped, one_more}
use Rattle.node_book.specs.EndSteps.{Happens, IsUnchanged, answered, lacked_memory}
use Rattle.broker_end.specs.Broker.{AreRightFor, HasRules, IsPlain, LeavesAll, fate_of, outcome_of, sessions_after}
use Rattle.broker_end.specs.declared.event.BrokerEvent.{BrokerEvent}
use Rattle.broker_end.specs.declared.event.BrokerEvent.TheVariants.{Packet, Join, Next, Acked, Live}

-- ---- which event an ask is stepped with

abbrev pub is_whole : List ℕ → Bool
is_whole packet = nat_le 1 (length packet) && nat_le (length packet) 1048576

-- a session above its link's last counts as the last
abbrev pub with_last : List ℕ → ℕ → ℕ → ℕ
with_last sessions link session = min session (last_of sessions link)

-- none where the ask breaks another condition of a step
abbrev pub admitted : Config → List ℕ → BrokerEvent → Option BrokerEvent
admitted config sessions (Packet from packet) = cond (is_whole packet) (Some (Packet from packet)) None
admitted config sessions (Join name) = Some (Join name)
admitted config sessions (Next link session after) = cond (nat_lt link (length config.links)) (Some (Next link (with_last sessions link session) after)) None
admitted config sessions (Acked link session identifier) = cond (nat_lt link (length config.links)) (Some (Acked link (with_last sessions link session) identifier)) None
admitted config sessions (Live after filters) = Some (Live after filters)

-- what such an ask is answered
abbrev pub refused : BrokerEvent → BrokerStep
refused (Packet from packet) = b.Passed
refused (Join name) = b.Passed
refused (Next link session after) = b.Nothing
refused (Acked link session identifier) = b.Passed
refused (Live after filters) = b.Passed

-- ---- what a turn means

-- a packet that is given has an identifier, and few enough bytes to be sent
abbrev pub IsGoodReply : BrokerStep → Type 0
IsGoodReply (b.Packet at identifier packet) = (is_identifier identifier ≡ true) × (is_packet packet ≡ true)
IsGoodReply _ = Unit {0}

-- a step, as its contract tells it
pub record IsBrokerStep {D : Type 0} (disk : Ghosts D) (old : EndView D) (event : BrokerEvent) (reply : BrokerStep) (new : EndView D) : Type 0 where
  pub config : new.config ≡ old.config
  pub sessions : old.down ≡ None → new.sessions ≡ sessions_after old.config old.notes old.sessions event
  pub steps : new.steps ≡ one_more old.steps
  pub same_disk : IsSameDisk disk old.disk new.disk
  pub sound : IsSound disk new
  pub was_down : (fail : DiskFail) → old.down ≡ Some fail → (reply ≡ b.Down (disk.faults old.disk) (is_stopped fail)) × (new ≡ after_step old)
  pub happens : old.down ≡ None → (rules : NodeRules) (shows : List ℕ → Bool) → AreRightFor old.config old.notes event rules shows
      → Happens disk old new (outcome_of rules shows old.config old.notes old.sessions event) reply (fate_of reply)
  pub asks : old.down ≡ None → LeavesAll old new event
  pub plain : old.down ≡ None → IsPlain old.notes event reply
  pub rules : old.down ≡ None → (fate_of reply ≡ lacked_memory) ⊎ HasRules old.config old.notes event
  pub no_memory : fate_of reply ≡ lacked_memory → IsUnchanged disk old new × (new.sessions ≡ old.sessions)

-- it is a step with that event, or an answer and nothing else
abbrev pub Turns : {D : Type 0} → Ghosts D → EndView D → BrokerEvent → Option BrokerEvent → BrokerStep → EndView D → Type 0
Turns disk old ask (Some event) reply new = IsBrokerStep disk old event reply new
Turns disk old ask None reply new = (reply ≡ refused ask) × (new ≡ old)

-- the end is up, and what its disk reads and whatever a crash leaves of it keep its configuration and notes
abbrev pub IsKept : {D : Type 0} → Ghosts D → EndView D → Type 0
IsKept disk end = (end.down ≡ None) × EachFile disk end.disk (λ file. Keeps file end.config end.notes)

-- A turn steps with the event that is admitted, or answers at once. An end that was up and answers neither `Down` nor
-- `NoMemory` is up, and a crash leaves its notes with what the turn added; with these two answers nothing is added.
pub record MeansTurn {D : Type 0} (disk : Ghosts D) (old : EndView D) (ask : BrokerEvent) (reply : BrokerStep) (new : EndView D) : Type 0 where
  pub turns : Turns disk old ask (admitted old.config old.sessions ask) reply new
  pub good : IsGoodReply reply
  pub kept : old.down ≡ None → fate_of reply ≡ answered → IsKept disk new
  pub nothing : (fate_of reply ≡ answered → ⊥) → new.notes ≡ old.notes

-- a down end, and a link's newer session, have signs of their own
abbrev pub sign_of : BrokerStep → ℕ
sign_of (b.Down faults stopped) = 1
sign_of (b.Replaced newer) = 2
sign_of (b.Answer verdict) = 0
sign_of (b.Joined link session) = 0
sign_of (b.Guest after) = 0
sign_of (b.Packet at identifier packet) = 0
sign_of b.Nothing = 0
sign_of b.Noted = 0
sign_of b.Passed = 0
sign_of b.Full = 0
sign_of b.NoMemory = 0
