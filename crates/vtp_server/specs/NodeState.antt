-- What a connection changes of the end that it is lent.
use Rattle.std.specs.Prelude.{ℕ, List, Option, Some, None}
use Rattle.net_model.specs.declared.note.Note.{Note}

-- the notes, and the count of faults that an end answers which is down
pub record NodeState : Type 0 where
  pub notes : List Note
  pub down : Option ℕ

abbrev pub up_with : List Note → NodeState
up_with notes = record { notes = notes; down = None }

-- the notes stay, and the end is down
abbrev pub fallen : NodeState → ℕ → NodeState
fallen s faults = record { notes = s.notes; down = Some faults }
