use Rattle.std.proofs.Common.{◌≡◌, length, refl, sym, ◌∙◌, subst, arith}
use Rattle.std.proofs.lemmas.List.{length-map}
use Rattle.xml_lexer.specs.View.{token_view, token_views}
use Rattle.xml_lexer.specs.Reading.{RefusesBehind}
use Rattle.xml_lexer.proofs.Phases.{foreign, is_text, stops, covers, stopped}
use Rattle.xml_lexer.proofs.document.read_text.Goals as goal

pub returns-in-Some : goal.returns-in-Some
returns-in-Some c = (c.in-Some.at, foreign c.args.text.now c.in-Some.at c.utf8.text (sym c.foreign_byte.ensures.value ∙ c.in-Some.is), refl)

pub overflow_sub-text : goal.overflow_sub-text
overflow_sub-text c = (stops c.args.text.now (token_views c.in_ok-tokens.tokens.items) c.in_ok-tokens.left c.utf8.text c.in_ok-tokens.ensures c.if-left-gt0.true).0

pub returns-then-left-gt0 : goal.returns-then-left-gt0
returns-then-left-gt0 c =
    let text = is_text c.args.text.now c.foreign_byte.result c.utf8.text c.foreign_byte.ensures.value c.in_default.not-Some in
    let stop = (stops c.args.text.now (token_views c.in_ok-tokens.tokens.items) c.in_ok-tokens.left c.utf8.text c.in_ok-tokens.ensures c.if-left-gt0.true).1 in
    subst (λ fault. RefusesBehind c.args.mark c.args.text.now fault) (sym c.stop.ensures) (stopped c.args.mark c.args.text.now _ text stop)

pub returns-then-len-gt-MAX_TOKENS : goal.returns-then-len-gt-MAX_TOKENS
returns-then-len-gt-MAX_TOKENS c =
    let text = is_text c.args.text.now c.foreign_byte.result c.utf8.text c.foreign_byte.ensures.value c.in_default.not-Some in
    let ks = token_views c.in_ok-tokens.tokens.items in
    let size : length ks ≡ length c.in_ok-tokens.tokens.items = length-map c.in_ok-tokens.tokens.items token_view in
    (text, ks, covers c.args.text.now ks c.in_ok-tokens.left c.utf8.text c.in_ok-tokens.ensures (omega arith), omega (arith, size))

pub returns : goal.returns
returns c =
    let text = is_text c.args.text.now c.foreign_byte.result c.utf8.text c.foreign_byte.ensures.value c.in_default.not-Some in
    let ks = token_views c.in_ok-tokens.tokens.items in
    let size : length ks ≡ length c.in_ok-tokens.tokens.items = length-map c.in_ok-tokens.tokens.items token_view in
    (text, covers c.args.text.now ks c.in_ok-tokens.left c.utf8.text c.in_ok-tokens.ensures (omega arith), omega (arith, size))
