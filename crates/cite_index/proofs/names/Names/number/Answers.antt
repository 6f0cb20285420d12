use Rattle.std.proofs.Common.{◌≡◌, ◌∙◌, sym, ℕ, None, Some, OnOk}
use Rattle.std.specs.Prelude.{IfOk}
use Rattle.cite_index.proofs.Naming.{last_named, name_kept, named_behind, not_found}
use Rattle.cite_index.proofs.names.Names.number.Goals as goal

pub returns-in-Some-clause-names : goal.returns-in-Some-clause-names
returns-in-Some-clause-names c = name_kept c.args.self.now c.in-Some.at c.args.identifier.now ((c.find.ensures c.in-Some.at).0 c.in-Some.is)

pub returns-in-None-clause-at : goal.returns-in-None-clause-at
returns-in-None-clause-at c = last_named c.push.result c.args.self.now c.push.new.self c.args.identifier.now c.push.ensures.at c.push.ensures.names

pub returns-in-None-clause-names : goal.returns-in-None-clause-names
returns-in-None-clause-names c = named_behind c.push.result c.args.self.now c.push.new.self c.args.identifier.now (not_found c.args.self.now c.args.identifier.now c.find.result c.in-None.is c.find.ensures) c.push.ensures.names
