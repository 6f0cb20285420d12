-- The filters of a link.
use Rattle.std.specs.Prelude.{◌≡◌, ℕ, ◌<◌, ◌≤◌, List, length}
use Rattle.std.specs.List.{All, AllPass}
use Rattle.node_notes.specs.Forms.{is_filter}
use Rattle.filter_text.specs.Filter.{Path}
use Rattle.filter_text.specs.Reading.{Reads}
use Rattle.filter_text.specs.declared.fault.FilterFault.{FilterFault}
use Rattle.filter_text.specs.declared.fault.FilterFault.TheVariants.{NoMemory}

-- the text reads as a filter
abbrev pub IsFilter : List ℕ → Type 0
IsFilter text = (filter : Path) × Reads filter text

-- want of memory apart, the text reads as no filter
abbrev pub NothingReads : FilterFault → List ℕ → Type 0
NothingReads fault text = (fault ≡ NoMemory → ⊥) → IsFilter text → ⊥

-- at most 16 texts, each of 1 to 1,024 bytes and a filter's; each keeps to the form that a journal has
pub record AreFilters (texts : List (List ℕ)) : Type 0 where
  pub few : length texts ≤ 16
  pub some : All (λ text. 0 < length text) texts
  pub short : All (λ text. length text ≤ 1024) texts
  pub form : AllPass is_filter texts
  pub read : All IsFilter texts
