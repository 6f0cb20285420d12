-- What `match` says of a filter and a document.
use Rattle.std.specs.Prelude.{◌≡◌, ◌⊎◌, ℕ, List, Some, None, codes}
use Rattle.std.specs.declared.option.Option.{Option}
use Rattle.filter_text.specs.Filter.{Path}
use Rattle.filter_text.specs.Reading.{Reads}
use Rattle.filter_text.specs.Refusal.{Refuses}
use Rattle.filter_text.specs.declared.fault.FilterFault.{FilterFault}
use Rattle.filter_text.specs.declared.fault.FilterFault.TheVariants as filter
use Rattle.path_filter.specs.Meaning.{Passes}
use Rattle.voevent_cli.specs.Documents.{Document, tree, no_tree, too_long, IsDocument}
use Rattle.voevent_cli.specs.Outcomes.{done, refused}
use Rattle.voevent_cli.specs.declared.outcome.Outcome.{Outcome}
use Rattle.voevent_cli.specs.declared.refusal.Refusal.{Refusal}
use Rattle.voevent_cli.specs.declared.refusal.Refusal.TheVariants.{TooLong, Tree, Filter}

-- the refusal of a filter's text, by the phase that fails; want of memory is none
abbrev pub refusal_of_filter : FilterFault → Option Refusal
refusal_of_filter (filter.Length place) = Some (Filter 1 place)
refusal_of_filter (filter.BadToken place) = Some (Filter 2 place)
refusal_of_filter (filter.OutOfProfile place) = Some (Filter 3 place)
refusal_of_filter (filter.Syntax place) = Some (Filter 4 place)
refusal_of_filter (filter.TooDeep place) = Some (Filter 5 place)
refusal_of_filter (filter.NotPath place) = Some (Filter 6 place)
refusal_of_filter filter.NoMemory = None

-- the text is no filter, for this reason
pub record IsRefusedFilter (text : List ℕ) (refusal : Refusal) : Type 0 where
  pub fault : FilterFault
  pub refuses : Refuses text fault
  pub shown : refusal_of_filter fault ≡ Some refusal

-- no filter is spelled so
abbrev pub IsNoFilter : List ℕ → Type 0
IsNoFilter text = (f : Path) → Reads f text → ⊥

-- what is said of a document: whether the filter's path names a place of its tree, or why it is none
abbrev pub IsMatched : Path → Document → Outcome → Type 0
IsMatched f (tree root) outcome =
    (Passes f root × (outcome ≡ done (codes "passes\n"))) ⊎ ((Passes f root → ⊥) × (outcome ≡ done (codes "fails\n")))
IsMatched f (no_tree number place) outcome = outcome ≡ refused (Tree number place)
IsMatched f too_long outcome = outcome ≡ refused TooLong

-- the same of an input
abbrev pub MatchedOf : Path → List ℕ → Outcome → Type 0
MatchedOf f input outcome = (document : Document) × IsDocument input document × IsMatched f document outcome

-- the filter's text is refused, whatever the input is, or its filter is tried against the input
abbrev pub Matches : List ℕ → List ℕ → Outcome → Type 0
Matches text input outcome =
    ((refusal : Refusal) × IsRefusedFilter text refusal × (outcome ≡ refused refusal))
    ⊎ ((f : Path) × Reads f text × MatchedOf f input outcome)
