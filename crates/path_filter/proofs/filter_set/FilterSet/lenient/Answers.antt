use Rattle.std.proofs.Common.{◌+◌, ◌∷◌, [], Option, Some, None, take, sym, subst}
use Rattle.std.specs.Option.{MatchOption}
use Rattle.xml_lexer.specs.Characters.{Text}
use Rattle.filter_text.specs.View.{path_of}
use Rattle.filter_text.specs.Reading.{Reads}
use Rattle.filter_text.specs.declared.filter.Path.{Path}
use Rattle.path_filter.specs.Sets.{AreReadLeniently, IsRefused}
use Rattle.path_filter.proofs.SearchSteps.{read, to-place}
use Rattle.path_filter.proofs.SetLaws.{one_more_leniently}
use Rattle.path_filter.proofs.filter_set.FilterSet.lenient.Goals as goal

alone : (o : Option Path) (s : Text) → MatchOption o (IsRefused s) (λ f. Reads (path_of f) s) → AreReadLeniently (o ∷ []) (s ∷ [])
alone None s refused = (refused, tt)
alone (Some f) s reads = (reads, tt)

pub loop-text-preserved : goal.loop-text-preserved
loop-text-preserved c =
    let here = read c.first-text-items.result.now c.loop-text.text-index c.text-item.result c.loop-text-test.true c.text-item.is in
    let reads = subst (λ s. MatchOption c.in_ok-filter.filter (IsRefused s) (λ f. Reads (path_of f) s)) c.as_str.ensures c.in_ok-filter.ensures in
    subst (λ fs. AreReadLeniently fs (take (c.loop-text.text-index + 1) c.first-text-items.result.now)) (sym c.in_ok-push.ensures.items)
    (subst (AreReadLeniently _) (sym (to-place c.first-text-items.result.now c.loop-text.text-index c.text-item.result here))
    (one_more_leniently _ _ c.in_ok-filter.filter c.text-item.result c.loop-text.invariant (alone c.in_ok-filter.filter c.text-item.result reads)))
