use Rattle.std.proofs.Common.{ap, ◌∙◌}
use Rattle.vtp_messages.specs.Parts.{is_transport}
use Rattle.vtp_session.proofs.said.read_told.Goals as goal

pub returns-in-Err-NotTransport : goal.returns-in-Err-NotTransport
returns-in-Err-NotTransport c root spelled =
    let no = rw c.in-Err-NotTransport.field-0-is at c.in-Err-NotTransport.ensures in
    ap is_transport (c.trees_are_unique.ensures c.args.payload.now root c.args.tree.now.root spelled c.requires) ∙ no
