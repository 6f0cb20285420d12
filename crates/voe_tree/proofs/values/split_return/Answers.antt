use Rattle.voe_tree.proofs.ValueLaws.{split_none, split_parts}
use Rattle.voe_tree.proofs.values.split_return.Goals as goal

pub returns-clause-none : goal.returns-clause-none
returns-clause-none c = split_none c.args.run.now c.split_once.result c.split_once.ensures.cases

pub returns-clause-parts : goal.returns-clause-parts
returns-clause-parts c = split_parts c.args.run.now c.split_once.result c.split_once.ensures.cases
