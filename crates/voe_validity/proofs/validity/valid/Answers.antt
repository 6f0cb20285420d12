use Rattle.std.proofs.Common.{◌≡◌, Some, None, sym}
use Rattle.rule_table.specs.Meaning.{first_break}
use Rattle.voe_validity.proofs.Least.{packet_rows, of_packet_rows}
use Rattle.voe_validity.proofs.validity.valid.Goals as goal

pub returns-in-None-clause-decides : goal.returns-in-None-clause-decides
returns-in-None-clause-decides c =
    let found : None ≡ first_break packet_rows c.args.tree.now.root = rw c.rows_of-rows.ensures at c.in-None.ensures.least in
    sym ((of_packet_rows c.args.tree.now.root None found).1)

pub returns-in-Some-clause-decides : goal.returns-in-Some-clause-decides
returns-in-Some-clause-decides c =
    let found : Some c.in-Some.place ≡ first_break packet_rows c.args.tree.now.root = rw c.rows_of-rows.ensures at c.in-Some.ensures.least in
    sym ((of_packet_rows c.args.tree.now.root (Some c.in-Some.place) found).1)
