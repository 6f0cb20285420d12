-- The tokens of the code as those of the definitions: without where their bytes lie.
use Rattle.std.specs.Prelude.{List, map, None, Some}
use Rattle.xml_lexer.specs.Token.{Token, declaration, instruction, comment, cdata, start, end, reference, text, Spelled}
use Rattle.xml_lexer.specs.declared.token.SpelledAttribute.{SpelledAttribute}
use Rattle.xml_lexer.specs.declared.token.Token.{Token as CodeToken}
use Rattle.xml_lexer.specs.declared.token.Token.TheVariants as code

abbrev pub spelled : SpelledAttribute → Spelled
spelled a = record { name = a.name.now; value = a.value.now }

abbrev pub all_spelled : List SpelledAttribute → List Spelled
all_spelled given = map spelled given

abbrev pub token_view : CodeToken → Token
token_view (code.Declaration None) = declaration None
token_view (code.Declaration (Some encoding)) = declaration (Some encoding.now)
token_view code.Instruction = instruction
token_view code.Comment = comment
token_view (code.CharacterData run) = cdata run.now
token_view (code.Start tag) = start tag.name.now (all_spelled tag.attributes.items) tag.is_empty
token_view (code.End name) = end name.now
token_view (code.Reference c) = reference c
token_view (code.Text run) = text run.now

abbrev pub token_views : List CodeToken → List Token
token_views tokens = map token_view tokens
