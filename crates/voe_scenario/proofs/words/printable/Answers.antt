-- Printable bytes are text.
use Rattle.std.proofs.Common.{rules}
use Rattle.std.proofs.lemmas.Str.{IsUtf8-from_ascii}
use Rattle.voe_scenario.proofs.Printable.{printable_ascii}
use Rattle.voe_scenario.proofs.words.printable.Goals as goal

pub returns-in-Err : goal.returns-in-Err
returns-in-Err c = absurd (c.in-Err.ensures.cases.0 (IsUtf8-from_ascii c.args.line.now (printable_ascii c.args.line.now (search rules))))
