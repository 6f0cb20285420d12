use Rattle.std.proofs.Common.{◌≡◌, drop, arith}
use Rattle.std.proofs.lemmas.Grind.{common_steps}
use Rattle.xml_lexer.specs.View.{token_views}
use Rattle.xml_lexer.proofs.Phases.{answered}
use Rattle.xml_lexer.proofs.document.read_tokens.Goals as goal

pub returns-in-Ok : goal.returns-in-Ok
returns-in-Ok c =
    let split : c.in-Ok.text.now ≡ drop c.mark_len-mark.result c.args.bytes.now = first_of (cc, grind (arith, common_steps)) in
    answered (λ ks. token_views ks.items) c.args.bytes.now c.mark_len-mark.result c.in-Ok.text.now c.read_text.result c.mark_len-mark.ensures.value split c.read_text.ensures
