-- The entries of a journal's front.
use Rattle.std.specs.Prelude.{ℕ, ◌+◌, Bool, ◌&&◌, ◌==◌, List, [], ◌∷◌, map, take, drop}
use Rattle.gate_journal.specs.declared.entry.Entry.{Entry}

-- the payload of an entry stands behind its gate and its length
abbrev pub payload_at : List ℕ → Entry → List ℕ
payload_at bytes entry = take entry.count (drop (entry.gate + 5) bytes)

abbrev pub payloads_at : List ℕ → List Entry → List (List ℕ)
payloads_at bytes entries = map (payload_at bytes) entries

-- the entries stand one behind another, from the first of these places to the last
abbrev pub are_chained : ℕ → List Entry → ℕ → Bool
are_chained first [] last = first == last
are_chained first (entry ∷ rest) last = (entry.gate == first) && are_chained (first + 5 + entry.count) rest last
