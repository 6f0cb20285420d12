-- Pairs in a list.
use Rattle.std.specs.Prelude.{◌||◌, Bool, false, List, [], ◌∷◌}
use Rattle.std.specs.List.{list_any}

-- some two items agree
abbrev pub has_pair : {A : Type 0} → (A → A → Bool) → List A → Bool
has_pair agree [] = false
has_pair agree (a ∷ more) = list_any (agree a) more || has_pair agree more
