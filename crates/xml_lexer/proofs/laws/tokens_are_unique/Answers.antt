use Rattle.xml_lexer.proofs.Cuts.{same_tokens}
use Rattle.xml_lexer.proofs.laws.tokens_are_unique.Goals as goal

pub returns : goal.returns
returns c = same_tokens
