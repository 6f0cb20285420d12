-- What must have been counted where a talk ended.
use Rattle.std.proofs.Common.{◌≡◌, ℕ, List}
use Rattle.vtp_server.specs.Counts.{Counts}
use Rattle.vtp_server.specs.EndCauses.{HasCause, HasLinkCause, HasSubmitCause}
use Rattle.vtp_server.specs.Endings.{ended_by, listen_ended, serve_ended, submitted_by}
use Rattle.vtp_server.specs.Ends.{Breaks, EndsBy, EndsInLine, Lost}
use Rattle.vtp_server.specs.Moves.{Move}
use Rattle.vtp_server.specs.Talk.{Course, Terms}
use Rattle.vtp_server.specs.declared.breach.Breach.{Breach}
use Rattle.vtp_server.specs.declared.breach.Breach.TheVariants as breach
use Rattle.vtp_server.specs.declared.breach.Parted.{Parted}
use Rattle.vtp_server.specs.declared.breach.Parted.TheVariants.{Broken, Stopped}
use Rattle.vtp_server.specs.declared.ended.ListenStop.{ListenStop}
use Rattle.vtp_server.specs.declared.ended.ListenStop.TheVariants as listen
use Rattle.vtp_server.specs.declared.ended.Stop.{Stop}
use Rattle.vtp_server.specs.declared.ended.Stop.TheVariants as stop
use Rattle.vtp_server.specs.declared.ended.SubmitStop.{SubmitStop}
use Rattle.vtp_server.specs.declared.ended.SubmitStop.TheVariants as submit

module _ {S A R E : Type 0} (terms : Terms) (c : Course S A E) (moves : List (Move A R)) (rest : List ℕ) (lost : Lost) (old new : Counts) where
  pub broken_cause : (why : Breach) → Breaks terms why c moves rest lost old new → HasCause (ended_by why) old new
  broken_cause breach.PeerClosed h = h.2
  broken_cause breach.LinkFault h = h.1
  broken_cause breach.SinkFault h = h.2
  broken_cause (breach.Garbage place why) h = tt
  broken_cause (breach.Silent heard now) h = h.2
  broken_cause breach.NoMemory h = tt

  -- where no line was told
  pub broken_link : (EndsInLine moves → ⊥) → (why : Breach) → Breaks terms why c moves rest lost old new → HasLinkCause (ended_by why) old.link new.link
  broken_link quiet breach.PeerClosed h = h.2
  broken_link quiet breach.LinkFault h = h.1
  broken_link quiet breach.SinkFault h = quiet h.0
  broken_link quiet (breach.Garbage place why) h = tt
  broken_link quiet (breach.Silent heard now) h = h.2
  broken_link quiet breach.NoMemory h = tt

module _ {S A R : Type 0} (terms : Terms) (moves : List (Move A R)) (rest : List ℕ) (lost : Lost) (old new : Counts) where
  pub serve_cause : (c : Course S A Stop) → (EndsInLine moves → ⊥) → (parted : Parted Stop) → EndsBy terms parted c moves rest lost old new → HasLinkCause (serve_ended parted) old.link new.link
  serve_cause c quiet (Broken why) h = broken_link terms c moves rest lost old new quiet why h
  serve_cause c quiet (Stopped (stop.Replaced newer)) h = tt
  serve_cause c quiet (Stopped (stop.Down faults)) h = tt
  serve_cause c quiet (Stopped stop.NoMemory) h = tt

  pub listen_cause : (c : Course S A ListenStop) → (parted : Parted ListenStop) → EndsBy terms parted c moves rest lost old new → HasCause (listen_ended parted) old new
  listen_cause c (Broken why) h = broken_cause terms c moves rest lost old new why h
  listen_cause c (Stopped listen.Counted) h = tt
  listen_cause c (Stopped (listen.Down faults)) h = tt
  listen_cause c (Stopped listen.NoMemory) h = tt

  pub submit_cause : (c : Course S A SubmitStop) → (EndsInLine moves → ⊥) → (parted : Parted SubmitStop) → EndsBy terms parted c moves rest lost old new → HasSubmitCause (submitted_by parted) old.link new.link
  submit_cause c quiet (Broken why) h = broken_link terms c moves rest lost old new quiet why h
  submit_cause c quiet (Stopped (submit.Ack identifier)) h = tt
  submit_cause c quiet (Stopped (submit.Nak why)) h = tt
  submit_cause c quiet (Stopped submit.Nothing) h = tt
  submit_cause c quiet (Stopped submit.Full) h = tt
  submit_cause c quiet (Stopped (submit.Down faults)) h = tt
  submit_cause c quiet (Stopped submit.NoMemory) h = tt
