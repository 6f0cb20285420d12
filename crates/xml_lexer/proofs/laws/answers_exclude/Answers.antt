use Rattle.xml_lexer.proofs.Exclusion.{text_place, text_first, token_place, token_first, many_first}
use Rattle.xml_lexer.proofs.laws.answers_exclude.Goals as goal

pub returns : goal.returns
returns c = record { text_place = text_place; text_first = text_first; token_place = token_place; token_first = token_first; many_first = many_first }
