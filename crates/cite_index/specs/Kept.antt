-- The standings that are kept beside the citations.
use Rattle.std.specs.Prelude.{◌≡◌, ℕ, Bool, true, List, All, Some, length, slice_get}
use Rattle.cite_index.specs.declared.triple.Triple.{Triple}
use Rattle.cite_index.specs.declared.standings.Standings.{Standings}
use Rattle.cite_index.specs.Cites.{standing}
use Rattle.cite_index.specs.Names.{is_in}

abbrev pub names_of : Standings → List (List ℕ)
names_of s = s.names

abbrev pub knows : Standings → List ℕ → Bool
knows s x = is_in s.names x

-- each cited identifier is known, and each known one has the standing that these citations leave of it
pub record AreStandings (cites : List Triple) (s : Standings) : Type 0 where
  pub cited : All (λ t. knows s t.cited ≡ true) cites
  pub kept : (n : ℕ) (x : List ℕ) → slice_get s.names n ≡ Some x → slice_get s.kept.items n ≡ Some (standing cites x)
