-- What is kept is what is left without blanks.
use Rattle.std.proofs.Common.{◌∙◌, sym, ap, length}
use Rattle.std.specs.Prelude.{◌==◌}
use Rattle.xml_lexer.specs.Characters.{Text}
use Rattle.vtp_messages.proofs.Stripped.{stripped_is}
use Rattle.vtp_messages.proofs.children.own_text.Goals as goal

pub returns-clause-stripped : goal.returns-clause-stripped
returns-clause-stripped c =
    stripped_is c.as_str.result.now c.in_ok-kept.kept (c.in_ok-kept.ensures ∙ c.trim_blanks-text.ensures)
    (ap (λ (t : Text). length t == 0) c.in_ok-kept.ensures ∙ sym c.is_empty.ensures ∙ c.if-is_empty.false)
