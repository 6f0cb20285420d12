-- Which notes have something to send over an edge.
use Rattle.std.specs.Prelude.{ℕ, is_some, count_by, List, Option}
use Rattle.std.specs.Option.{option_map}
use Rattle.net_model.specs.declared.note.Note.{Note}
use Rattle.net_model.specs.Notes.{Placed, to_send}

-- how many identifiers are unanswered on an author's line, or owed on a broker's link
unfoldable pub count_open : List Note → ℕ → ℕ
count_open notes number = count_by (λ note. is_some (to_send notes number note)) notes

-- the place of what was found
abbrev pub place_of : Option Placed → Option ℕ
place_of found = option_map (λ (placed : Placed). placed.0) found
