-- Identifiers that are numbered.
use Rattle.std.specs.Prelude.{◌≡◌, ◌↔◌, ℕ, Bool, List, [], ◌∷◌, ◌++◌, map, Option, Some, slice_get, if◌then◌else◌}
use Rattle.std.specs.Global.{Vec}
use Rattle.std.specs.List.{list_any}
use Rattle.std.specs.Map.{lookup}
use Rattle.std.specs.Str.{bytes_eq}

-- whether an identifier is one of these
abbrev pub is_in : List (List ℕ) → List ℕ → Bool
is_in xs x = list_any (λ y. bytes_eq y x) xs

-- and it too, behind the others where it is new
abbrev pub with_name : List (List ℕ) → List ℕ → List (List ℕ)
with_name names x = if is_in names x then names else names ++ x ∷ []

-- the entries of a map without where their keys lie in memory
abbrev pub plain : List (Vec ℕ × ℕ) → List (List ℕ × ℕ)
plain entries = map (λ entry. (entry.0.items, entry.1)) entries

abbrev pub number_in : List (List ℕ × ℕ) → List ℕ → Option ℕ
number_in entries x = lookup (bytes_eq x) entries

-- a map finds exactly the place of each of these
abbrev pub AreNumbers : List (Vec ℕ × ℕ) → List (List ℕ) → Type 0
AreNumbers entries names = (x : List ℕ) (n : ℕ) → (number_in (plain entries) x ≡ Some n) ↔ (slice_get names n ≡ Some x)

-- no two of them are equal
abbrev pub AreDistinct : List (List ℕ) → Type 0
AreDistinct names = (n m : ℕ) (x : List ℕ) → slice_get names n ≡ Some x → slice_get names m ≡ Some x → n ≡ m
