use Rattle.std.proofs.Common.{sym, ◌∙◌, ap}
use Rattle.xml_lexer.proofs.FirstPlaces.{end_of, text_end}
use Rattle.xml_lexer.proofs.lexer.text_len.Goals as goal

pub returns-in-None-clause-value : goal.returns-in-None-clause-value
returns-in-None-clause-value c =
    sym (ap (λ r. end_of r c.args.text.now) c.in-None.is) ∙ text_end c.as_bytes.result.now c.args.text.now c.memchr2.result c.as_bytes.ensures.value c.memchr2.ensures

pub returns-in-Some-clause-value : goal.returns-in-Some-clause-value
returns-in-Some-clause-value c =
    sym (ap (λ r. end_of r c.args.text.now) c.in-Some.is) ∙ text_end c.as_bytes.result.now c.args.text.now c.memchr2.result c.as_bytes.ensures.value c.memchr2.ensures
