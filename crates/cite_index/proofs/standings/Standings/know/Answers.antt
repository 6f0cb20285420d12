use Rattle.cite_index.proofs.Naming.{in_of_at, not_found}
use Rattle.cite_index.proofs.standings.Standings.know.Goals as goal

pub returns-in-Some-clause-known : goal.returns-in-Some-clause-known
returns-in-Some-clause-known c = in_of_at c.args.self.now.names c.in-Some.field-0 c.args.identifier.now ((c.find.ensures c.in-Some.field-0).0 c.in-Some.is)

pub push-requires : goal.push-requires
push-requires c = not_found c.args.self.now.names c.args.identifier.now c.find.result c.in-None.is c.find.ensures
