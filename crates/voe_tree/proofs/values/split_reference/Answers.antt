use Rattle.voe_tree.proofs.ValueLaws.{split_reference_none, split_reference_some}
use Rattle.voe_tree.proofs.values.split_reference.Goals as goal

pub returns-in-None-clause-behind : goal.returns-in-None-clause-behind
returns-in-None-clause-behind c = split_reference_none c.args.rest.now c.in-None.ensures.cases

pub returns-in-Some-clause-behind : goal.returns-in-Some-clause-behind
returns-in-Some-clause-behind c = split_reference_some c.args.rest.now (c.in-Some.body, c.in-Some.left) c.in-Some.ensures.cases
