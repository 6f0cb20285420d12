use Rattle.std.proofs.Common.{◌≡◌, ◌∙◌, ap, sym, ℕ, List, take}
use Rattle.cite_index.specs.Names.{with_name}
use Rattle.cite_index.specs.Threads.{firsts}
use Rattle.cite_index.proofs.Naming.{firsts_push, one_more}
use Rattle.cite_index.proofs.thread.number_all.Goals as goal

pub loop-identifier-preserved : goal.loop-identifier-preserved
loop-identifier-preserved c =
    let ids = c.args.identifiers.now in
    let i = c.loop-identifier.identifier-index in
    let x = c.identifier-item.result in
    c.in_ok-number.ensures.names
    ∙ (ap (λ (l : List (List ℕ)). with_name l x) c.loop-identifier.invariant
    ∙ (sym (firsts_push (take i ids) x) ∙ ap firsts (sym (one_more ids i x c.loop-identifier-test.true c.identifier-item.is))))
