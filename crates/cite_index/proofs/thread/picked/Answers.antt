use Rattle.std.proofs.Common.{◌≡◌, ◌∙◌, ◌∷◌, ◌++◌, [], ap, sym, false, ℕ, List, get_or, take}
use Rattle.std.specs.Prelude.{if◌then◌else◌}
use Rattle.cite_index.specs.Threads.{picked}
use Rattle.cite_index.proofs.Picks.{picked_more}
use Rattle.cite_index.proofs.thread.picked.Goals as goal

pub loop-at-preserved : goal.loop-at-preserved
loop-at-preserved c =
    let names = c.args.names.now in
    let marks = c.args.marks.now in
    let at = c.loop-at.at in
    let x = c.index-names-at.result in
    let before = picked (take at names) (take at marks) in
    c.in_ok-add_if.ensures
    ∙ (ap (λ (l : List (List ℕ)). l ++ (if get_or marks at false then x ∷ [] else [])) c.loop-at.invariant
    ∙ (ap (λ (y : List ℕ). before ++ (if get_or marks at false then y ∷ [] else [])) c.index-names-at.is
    ∙ sym (picked_more names marks at x c.requires c.loop-at-test.true)))
