-- A read over a link.
use Rattle.std.specs.Prelude.{ℕ, List, []}
use Rattle.std.specs.declared.option.Option.{Option}
use Rattle.voe_outside.specs.Causes.{Rose}
use Rattle.voe_outside.specs.Traffic.{Traffic}
use Rattle.vtp_framing.specs.Front.{IsUnfinished}
use Rattle.vtp_session.specs.State.{SessionState}
use Rattle.vtp_server.specs.declared.breach.Breach.{Breach}
use Rattle.vtp_server.specs.declared.breach.Breach.TheVariants.{PeerClosed, Garbage, Silent, LinkFault, SinkFault, NoMemory}
use Rattle.vtp_server.specs.declared.reading.Seen.{Seen}
use Rattle.vtp_server.specs.Carried.{Carried}
use Rattle.vtp_server.specs.Counts.{LinkCounts}
use Rattle.vtp_server.specs.Moves.{Found}
use Rattle.vtp_server.specs.Reading.{Hearing, FindsGarbage, FindsSilence}

-- bytes were taken, and this is what was found
pub record ReadMade (s : SessionState) (before : Option Traffic) (seen : Seen) (t : SessionState) (after : Option Traffic) : Type 0 where
  pub found : Found
  pub piece : List ℕ
  pub carried : Carried before after piece []
  pub heard : Hearing s piece seen.moment found seen t

-- nothing was taken, for this cause
pub record NothingCame (s : SessionState) (before after : Option Traffic) (Cause : Type 0) : Type 0 where
  pub unfinished : IsUnfinished s.left
  pub carried : Carried before after [] []
  pub cause : Cause

-- why a read was the last one
abbrev pub ReadEnds : Breach → SessionState → Option Traffic → SessionState → Option Traffic → LinkCounts → LinkCounts → Type 0
ReadEnds PeerClosed s before t after old new = NothingCame s before after (Rose old.ends new.ends)
ReadEnds LinkFault s before t after old new = NothingCame s before after (Rose old.faults new.faults)
ReadEnds (Garbage place why) s before t after old new = (piece : List ℕ) × Carried before after piece [] × FindsGarbage s piece place why t
ReadEnds (Silent heard moment) s before t after old new = (now : ℕ) × FindsSilence s now heard moment t × NothingCame s before after (Rose old.idles new.idles)
ReadEnds SinkFault s before t after old new = ⊥
ReadEnds NoMemory s before t after old new = (piece : List ℕ) × Carried before after piece []
