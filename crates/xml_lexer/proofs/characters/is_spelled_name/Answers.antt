use Rattle.std.proofs.Common.{arith}
use Rattle.std.proofs.lemmas.Grind.{common_steps}
use Rattle.xml_lexer.proofs.SpelledNames.{is_spelled_name-plain, is_spelled_name-colon}
use Rattle.xml_lexer.proofs.characters.is_spelled_name.Goals as goal

pub returns-in-None : goal.returns-in-None
returns-in-None c = let e = is_spelled_name-plain c.args.bytes.now (cc) in cc

pub returns-then-is_name : goal.returns-then-is_name
returns-then-is_name c = let e = is_spelled_name-colon c.args.bytes.now c.in-Some.at (cc) in grind (arith, common_steps)

pub returns-else-is_name : goal.returns-else-is_name
returns-else-is_name c = let e = is_spelled_name-colon c.args.bytes.now c.in-Some.at (cc) in grind (arith, common_steps)
