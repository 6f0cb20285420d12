-- The tokens of the code as those of the definitions: without where their bytes lie.
use Rattle.std.specs.Prelude.{List, map}
use Rattle.filter_tokens.specs.Token.{Token, Placed, slash, double_slash, opening_bracket, closing_bracket, opening_parenthesis, closing_parenthesis, at_sign, star, equals, differs, name, literal, foreign}
use Rattle.filter_tokens.specs.declared.token.Placed.{Placed as CodePlaced}
use Rattle.filter_tokens.specs.declared.token.Token.{Token as CodeToken}
use Rattle.filter_tokens.specs.declared.token.Token.TheVariants as code

abbrev pub token_view : CodeToken → Token
token_view code.Slash = slash
token_view code.DoubleSlash = double_slash
token_view code.OpeningBracket = opening_bracket
token_view code.ClosingBracket = closing_bracket
token_view code.OpeningParenthesis = opening_parenthesis
token_view code.ClosingParenthesis = closing_parenthesis
token_view code.AtSign = at_sign
token_view code.Star = star
token_view code.Equals = equals
token_view code.Differs = differs
token_view (code.Name n) = name n.now
token_view (code.Literal value) = literal value.now
token_view code.Foreign = foreign

abbrev pub placed_view : CodePlaced → Placed
placed_view k = record { token = token_view k.token; place = k.place }

abbrev pub placed_views : List CodePlaced → List Placed
placed_views ks = map placed_view ks
