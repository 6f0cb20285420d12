use Rattle.std.proofs.Common.{true, sym, subst, ◌≡◌}
use Rattle.std.specs.Prelude.{Option}
use Rattle.std.specs.Option.{option_map}
use Rattle.gate_journal.specs.Journal.{EachFile}
use Rattle.node_notes.specs.Forms.{is_config}
use Rattle.node_book.specs.Keeps.{Keeps}
use Rattle.voe_net.specs.Kept.{end_of}
use Rattle.voe_net.specs.Nodes.{show}
use Rattle.voe_net.specs.declared.kept.Kept.{Kept}
use Rattle.voe_net.proofs.Crashed.{kept_shown}
use Rattle.voe_net.proofs.making.disk_of.Goals as goal

pub returns-clause-kept : goal.returns-clause-kept
returns-clause-kept g c =
    let d = g.D.Disk in
    let P : Option (Kept g.row.D.Denot) → Type 0 = λ k. is_config (show (option_map end_of k)).config ≡ true
    → EachFile d c.into_disk.result (λ file. Keeps file (show (option_map end_of k)).config (show (option_map end_of k)).notes) in
    subst P (sym c.in-Some.is) (kept_shown d (end_of c.in-Some.node) c.into_disk.result c.into_disk.ensures.kept)
