use Rattle.std.proofs.Common.{◌≡◌, true, subst}
use Rattle.std.specs.Prelude.{Option}
use Rattle.gate_journal.specs.Journal.{EachFile}
use Rattle.node_notes.specs.Forms.{is_config}
use Rattle.node_book.specs.Ends.{EndView}
use Rattle.node_book.specs.Keeps.{Keeps}
use Rattle.voe_net.specs.Nodes.{show}
use Rattle.voe_net.proofs.node_end.NodeEnd.into_disk.Goals as goal

pub returns-clause-kept : goal.returns-clause-kept
returns-clause-kept g c =
    let P : Option (EndView _) → Type 0 = λ v. is_config (show v).config ≡ true → EachFile g.D.Disk c.disk_of.result (λ file. Keeps file (show v).config (show v).notes) in
    subst P c.self.view_is c.disk_of.ensures.kept
