-- What a search looks for.
use Rattle.std.specs.Prelude.{◌≡◌, ◌≤◌}
use Rattle.voe_tree.specs.declared.element.Element.{Element}
use Rattle.filter_text.specs.Filter.{Text}
use Rattle.voe_tree.specs.Contents.{string_of}
use Rattle.voe_tree.specs.Shape.{depth}
use Rattle.filter_text.specs.Size.{steps_in_operand}
use Rattle.path_filter.specs.Meaning.{Related}
use Rattle.path_filter.specs.Plan.{Guarded, guards_of, newest}
use Rattle.path_filter.specs.Search.{Strings}
use Rattle.filter_text.specs.View.{comparison_of, operand_of}
use Rattle.filter_text.specs.declared.filter.Comparison.TheVariants as comparisons
use Rattle.path_filter.specs.declared.context.Context.{Context}
use Rattle.path_filter.specs.declared.wanted.Found.{Found}
use Rattle.path_filter.specs.declared.wanted.Found.TheVariants as found
use Rattle.path_filter.specs.declared.wanted.Wanted.{Wanted}
use Rattle.path_filter.specs.declared.wanted.Wanted.TheVariants as wanted

abbrev pub text_found : Found → Text
text_found (found.Element e) = string_of e.now
text_found (found.Text s) = s.now

-- elements nest in it at most 64 deep
abbrev pub IsShallow : Found → Type 0
IsShallow (found.Element e) = depth e.now ≤ 64
IsShallow (found.Text s) = Unit {0}

abbrev pub anything : Wanted
anything = wanted.Anything

-- the string that was found
abbrev pub exactly : Found → Wanted
exactly f = wanted.Related comparisons.Equal f

-- a string that differs from the one that was found
abbrev pub unlike : Found → Wanted
unlike f = wanted.Related comparisons.Differs f

-- what can be compared and has the same string
abbrev pub IsLike : Found → Found → Type 0
IsLike like f = IsShallow f × (text_found f ≡ text_found like)

-- the string is what is wanted
abbrev pub Suits : Wanted → Element → Text → Type 0
Suits wanted.Anything root s = Unit {0}
Suits (wanted.Related how other) root s = Related (comparison_of how) s (text_found other)
Suits (wanted.RelatedToOne how side e) root s = (t : Text) × Strings (operand_of side.now.operand) root e.now t × Related (comparison_of how) s t

-- The checks of a side stand for the conditions of its path, which has at most 512 steps, and its element nests no deeper
-- than the root. An element that is compared nests no deeper than 64.
abbrev pub IsSound : Wanted → Context → Type 0
IsSound (wanted.RelatedToOne how side e) c =
    Guarded (newest c.plan.now) (operand_of side.now.operand) (guards_of side.now) × (steps_in_operand (operand_of side.now.operand) ≤ 512) × (depth e.now ≤ depth c.root.now)
IsSound (wanted.Related how other) c = IsShallow other
IsSound wanted.Anything c = Unit {0}
