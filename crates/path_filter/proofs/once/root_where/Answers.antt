use Rattle.std.proofs.Common.{◌≡◌, ◌∙◌, List, ◌∷◌, ◌++◌, [], ap, map, subst, sym, true}
use Rattle.filter_text.specs.Filter.{arrived}
use Rattle.filter_text.specs.Filter as filter
use Rattle.filter_text.specs.declared.filter.Axis.TheVariants as axes
use Rattle.filter_text.specs.declared.filter.Part.TheVariants as parts
use Rattle.filter_text.specs.declared.filter.Test.TheVariants as tests
use Rattle.path_filter.specs.Plan.{ChecksRefer, check_of, checks_of, more, no_more}
use Rattle.path_filter.specs.Planned.{AllMean}
use Rattle.path_filter.specs.declared.plan.Check.{Check as CodeCheck}
use Rattle.path_filter.specs.declared.plan.Next.TheVariants as next
use Rattle.path_filter.specs.declared.plan.Sought.TheVariants as sought
use Rattle.path_filter.specs.declared.plan.Stage.{Stage}
use Rattle.path_filter.proofs.GrowLaws.{stands}
use Rattle.path_filter.proofs.OnceLaws.{ends_anywhere}
use Rattle.path_filter.proofs.once.root_where.Goals as goal

made : (k : CodeCheck) (none ks : List CodeCheck) → none ≡ [] → ks ≡ none ++ k ∷ [] → checks_of (map check_of ks) ≡ more (check_of k) no_more
made k none ks empty pushed = ap (λ l. checks_of (map check_of l)) (pushed ∙ ap (λ l. l ++ k ∷ []) empty)

pub returns-clause-refers : goal.returns-clause-refers
returns-clause-refers c = λ plan refers. (subst (ChecksRefer plan) (sym (made c.args.check c.new-checks.result c.push.new.self c.new-checks.ensures c.in_ok-push.ensures.ok)) (refers, tt), tt)

pub returns-clause-stands : goal.returns-clause-stands
returns-clause-stands c = λ plan condition means.
    let x : Stage = record { axis = axes.Child; part = parts.Element; test = tests.Any; checks = c.push.new.self; next = next.Ends sought.Anything; of_document = true } in
    stands plan x (filter.more condition filter.no_more) arrived sought.Anything
    (subst (λ ks. AllMean plan ks (filter.more condition filter.no_more)) (sym (made c.args.check c.new-checks.result c.push.new.self c.new-checks.ensures c.in_ok-push.ensures.ok)) (means, tt)) (ends_anywhere plan)
