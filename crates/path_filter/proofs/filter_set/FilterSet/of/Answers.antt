use Rattle.std.proofs.Common.{◌+◌, take, sym, subst}
use Rattle.filter_text.specs.View.{path_of}
use Rattle.filter_text.specs.Reading.{Reads}
use Rattle.path_filter.specs.Sets.{AreRead}
use Rattle.path_filter.proofs.SearchSteps.{read, to-place}
use Rattle.path_filter.proofs.SetLaws.{one_more}
use Rattle.path_filter.proofs.filter_set.FilterSet.of.Goals as goal

pub loop-at-preserved : goal.loop-at-preserved
loop-at-preserved c =
    let here = read c.args.texts.now c.loop-at.at c.index-texts-at.result c.loop-at-test.true c.index-texts-at.is in
    let reads = subst (Reads (path_of c.in-Ok.filter)) c.as_str.ensures c.in-Ok.ensures in
    subst (λ fs. AreRead fs (take (c.loop-at.at + 1) c.args.texts.now)) (sym c.in_ok-add-in-Ok.ensures)
    (subst (AreRead _) (sym (to-place c.args.texts.now c.loop-at.at c.index-texts-at.result here)) (one_more _ _ c.in-Ok.filter c.index-texts-at.result c.loop-at.invariant reads))
