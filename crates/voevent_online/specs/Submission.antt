-- What becomes of a good packet that an author's end is to submit on line 0.
use Rattle.std.specs.Prelude.{◌≡◌, ◌⊎◌, ℕ, Bool, true, false, List, [], ◌∷◌, None}
use Rattle.std.specs.declared.option.Option.{Option}
use Rattle.voe_disk.specs.declared.disk.Disk.{Ghosts as DiskGhosts}
use Rattle.voe_outside.specs.Returns.{Returns}
use Rattle.voe_outside.specs.declared.link.Link.{Ghosts as LinkGhosts}
use Rattle.net_model.specs.Steps.{answer_note}
use Rattle.net_model.specs.declared.note.Note.{Note}
use Rattle.net_model.specs.declared.note.Note.TheVariants.{Wrote}
use Rattle.voevent_online.specs.Held.{HasFallenAt, IsHeld, IsUnwritten, LacksRoom, has_answer, holds_other}
use Rattle.voevent_online.specs.Rounds.{EndsRounds, Standing}
use Rattle.voevent_online.specs.declared.submit_lines.Outcome.{Outcome}
use Rattle.voevent_online.specs.declared.submit_lines.Outcome.TheVariants.{Acked, Nak, Conflict, NoLine, Full, DiskFault, NoMemory}

-- the end alone has changed
pub record OnlyEnd {D Di : Type 0} (s t : Standing D Di) : Type 0 where
  pub same_moment : t.moment ≡ s.moment
  pub same_dialer : t.dialer ≡ s.dialer

-- this answer to the identifier stands among the notes on line 0; its reason does not
abbrev pub StandsAs : Outcome → List ℕ → List Note → Type 0
StandsAs Acked identifier notes = has_answer true 0 identifier notes ≡ true
StandsAs (Nak None) identifier notes = has_answer false 0 identifier notes ≡ true
StandsAs _ identifier notes = ⊥

-- the note is the record of this packet, or of an answer on line 0
abbrev pub IsOwnNote : List ℕ → List ℕ → Note → Type 0
IsOwnNote identifier packet note = (note ≡ Wrote identifier packet) ⊎ ((ack : Bool) × (own : List ℕ) × (note ≡ answer_note ack 0 own))

abbrev pub AreOwnNotes : List ℕ → List ℕ → List Note → Type 0
AreOwnNotes identifier packet [] = Unit {0}
AreOwnNotes identifier packet (note ∷ notes) = IsOwnNote identifier packet note × AreOwnNotes identifier packet notes

module _ {D Di L : Type 0} (disk : DiskGhosts D) (link : LinkGhosts L) (returns : Di → Option (Returns L)) (faults : Di → ℕ) (identifier : List ℕ) where
  -- what becomes of a packet that the journal holds: its answer stands there, and nothing is done, or rounds bring it, or fail
  abbrev pub Settles : Outcome → Standing D Di → Standing D Di → Type 0
  Settles became s t = (StandsAs became identifier s.end.notes × (t ≡ s)) ⊎ EndsRounds disk link returns faults identifier became s t

module _ {D Di L : Type 0} (disk : DiskGhosts D) (link : LinkGhosts L) (returns : Di → Option (Returns L)) (faults : Di → ℕ) (identifier packet : List ℕ) where
  -- the packet did not come into the journal
  abbrev pub StaysOut : Outcome → Standing D Di → Standing D Di → Type 0
  StaysOut NoLine s t = (s.end.config.links ≡ []) × (t ≡ s)
  StaysOut Conflict s t = (holds_other s.end.notes identifier packet ≡ true) × (t ≡ s)
  StaysOut Full s t = LacksRoom disk identifier packet s.end t.end × OnlyEnd s t
  StaysOut DiskFault s t = HasFallenAt disk identifier packet s.end t.end × OnlyEnd s t
  StaysOut NoMemory s t = IsUnwritten disk s.end t.end × OnlyEnd s t
  StaysOut _ s t = ⊥

  -- the packet stood in the journal with the same digest, or was written there, and then was settled
  pub record ComesIn (became : Outcome) (s t : Standing D Di) : Type 0 where
    pub begun : Standing D Di
    pub same_digest : holds_other s.end.notes identifier packet ≡ false
    pub held : IsHeld disk identifier packet s.end begun.end
    pub only_end : OnlyEnd s begun
    pub settles : Settles disk link returns faults identifier became begun t

  -- what becomes of the packet
  abbrev pub Becomes : Outcome → Standing D Di → Standing D Di → Type 0
  Becomes became s t = StaysOut became s t ⊎ ComesIn became s t
