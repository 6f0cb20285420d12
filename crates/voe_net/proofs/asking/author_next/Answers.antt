use Rattle.std.proofs.Common.{◌≡◌, ℕ, ◌<◌, ◌^◌, List, Option, length, sym, ap, subst, ◌∙◌}
use Rattle.std.specs.Prelude.{Result}
use Rattle.node_book.specs.Book.{BookView}
use Rattle.net_machine.specs.declared.fault.EndFault.{EndFault}
use Rattle.voe_net.specs.Asked.{IsAsked}
use Rattle.voe_net.proofs.Asked.{author_asked}
use Rattle.voe_net.proofs.Told.{any_rules}
use Rattle.voe_net.proofs.asking.author_next.Goals as goal

pub returns : goal.returns
returns g c =
    let d = g.D.Disk in
    let old = c.args.end.now in
    let new = c.step.new.self in
    let said = c.step.ensures in
    let P : Result (Option (ℕ × List ℕ)) EndFault → Type 0 = λ r. IsAsked d c.args.line c.args.after old new r in
    let count : c.notes-notes.result ≡ length old.notes = c.notes-notes.ensures ∙ ap (λ (b : BookView _). length b.notes) c.book.ensures in
    let fits : length old.notes < 2 ^ 64 = subst (λ (n : ℕ). n < 2 ^ 64) count c.notes-notes.type_inv in
    subst P (sym c.author_given.ensures)
    (author_asked d old new c.args.line c.args.after c.step.result
    (record { config_is = said.config; sessions_are = said.sessions; steps_are = said.steps; same_disk = said.same_disk })
    fits
    (said.happens c.requires.up (any_rules old.config) tt))
