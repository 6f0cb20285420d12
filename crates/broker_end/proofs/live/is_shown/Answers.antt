use Rattle.std.proofs.Common.{◌≡◌, ℕ, List, false, true, Some, sym, subst}
use Rattle.std.specs.Prelude.{◌↔◌, IsTrue}
use Rattle.voe_tree.specs.Document.{Spells}
use Rattle.voe_tree.specs.Fault.{RefusesTree}
use Rattle.net_model.specs.declared.note.Note.{Note}
use Rattle.path_filter.specs.Sets.{BytesPass}
use Rattle.broker_end.specs.Broker.{IsShown}
use Rattle.broker_end.proofs.Shown.{tree_passes}
use Rattle.broker_end.proofs.live.is_shown.Goals as goal

pub returns-in-Ok : goal.returns-in-Ok
returns-in-Ok c =
    let P : Note → Type 0 = λ n. IsTrue c.passes.result ↔ IsShown c.args.filters.now (Some n) in
    let spells = subst (λ (s : List ℕ). Spells c.in-Ok.tree.root s) c.as_slice.ensures c.in-Ok.ensures in
    subst P (sym c.in-Accept.is) (tree_passes c.args.filters.now c.in-Accept.packet c.in-Ok.tree.root c.passes.result spells c.passes.ensures)

pub returns-in_default-fault : goal.returns-in_default-fault
returns-in_default-fault c =
    let P : Note → Type 0 = λ n. IsTrue false ↔ IsShown c.args.filters.now (Some n) in
    let refuses = subst (λ (s : List ℕ). RefusesTree s c.in-Err.fault) c.as_slice.ensures c.in-Err.ensures in
    let none : BytesPass c.args.filters.now c.in-Accept.packet → IsTrue false =
    λ (root, spells, passes). absurd (c.in_default-fault.not-NoMemory (c.spelled_is_not_refused.ensures c.in-Accept.packet root c.in-Err.fault spells refuses)) in
    let never : IsTrue false → BytesPass c.args.filters.now c.in-Accept.packet = λ t. absurd (let bad : false ≡ true = t in cc) in
    subst P (sym c.in-Accept.is) (never, none)
