-- What the phases behind the cutting say of the tokens alone.
use Rattle.std.specs.Prelude.{◌≡◌, ℕ, List, Some, None}
use Rattle.filter_text.specs.Filter.{Path}
use Rattle.filter_tokens.specs.Token.{Placed}
use Rattle.filter_text.specs.Grammar.{IsPath}
use Rattle.filter_text.specs.Reading.{first_outside, first_too_deep, symbols_of, at_document, IsSentence, IsStop}
use Rattle.filter_text.specs.Machine.{Walked, refused, ended, Read, read_of}
use Rattle.filter_text.specs.declared.fault.FilterFault.{FilterFault}
use Rattle.filter_text.specs.declared.fault.FilterFault.TheVariants.{Length, BadToken, OutOfProfile, Syntax, TooDeep, NotPath, NoMemory}

pub record ReadsTokens (f : Path) (ks : List Placed) : Type 0 where
  pub inside : first_outside ks ≡ None
  pub spelled : Path
  pub is_path : IsPath (symbols_of ks) spelled
  pub shallow : first_too_deep 0 ks ≡ None
  pub is_filter : f ≡ at_document spelled

abbrev pub RefusesTokens : List Placed → ℕ → FilterFault → Type 0
RefusesTokens ks end (Length place) = ⊥
RefusesTokens ks end (BadToken place) = ⊥
RefusesTokens ks end (OutOfProfile place) = first_outside ks ≡ Some place
RefusesTokens ks end (Syntax place) = (first_outside ks ≡ None) × IsStop ks end place
RefusesTokens ks end (TooDeep place) = (first_outside ks ≡ None) × IsSentence (symbols_of ks) × (first_too_deep 0 ks ≡ Some place)
RefusesTokens ks end (NotPath place) =
    (first_outside ks ≡ None) × IsSentence (symbols_of ks) × (first_too_deep 0 ks ≡ None) × ((p : Path) → IsPath (symbols_of ks) p → ⊥) × (place ≡ 0)
RefusesTokens ks end NoMemory = Unit {0}

abbrev pub IsRead : Walked → Read → Type 0
IsRead (refused place) r = ⊥
IsRead (ended m) r = r ≡ read_of m

-- the fault of a walk
abbrev pub StopsWalk : Walked → FilterFault → Type 0
StopsWalk w (Syntax place) = w ≡ refused place
StopsWalk w NoMemory = Unit {0}
StopsWalk w fault = ⊥
