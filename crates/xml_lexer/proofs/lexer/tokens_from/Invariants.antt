use Rattle.std.proofs.Common.{◌≡◌, ◌-◌, length}
use denote.Shadow.{shadow}
use denote.Text.{Utf8}
use Rattle.xml_lexer.specs.View.{token_views}
use Rattle.xml_lexer.specs.Cutting.{tokens_at, behind}
use Rattle.xml_lexer.proofs.lexer.tokens_from.Given as goal

abbrev pub invariant-loop : goal.invariant-loop
invariant-loop l =
    (behind (token_views l.tokens.items) (tokens_at (length l.text - l.counter) l.rest) ≡ behind (token_views l.initial.tokens.items) (tokens_at (length l.text) l.text)) × shadow (Utf8 l.rest)
