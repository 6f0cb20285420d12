use Rattle.std.proofs.Common.{◌≡◌, ◌↔◌, false, sym, subst}
use Rattle.std.specs.Bool.{IsTrue}
use Rattle.std.specs.Option.{MatchOption}
use Rattle.filter_text.specs.View.{path_of}
use Rattle.path_filter.specs.Meaning.{Passes}
use Rattle.path_filter.proofs.filter_set.passes_alone.Goals as goal

pub returns-in-Some : goal.returns-in-Some
returns-in-Some c = subst (λ o. MatchOption o (c.passes.result ≡ false) (λ f. IsTrue c.passes.result ↔ Passes (path_of f) c.args.tree.now.root)) (sym c.in-Some.is) c.passes.ensures
