use Rattle.std.proofs.Common.{sym, ◌∙◌, ap}
use Rattle.std.specs.Prelude.{◌&&◌}
use Rattle.std.specs.List.{list_all}
use Rattle.std.specs.Str.{chars}
use Rattle.std.proofs.lemmas.Str.{is_utf8-from_IsUtf8}
use Rattle.xml_lexer.specs.Characters.{is_xml_character}
use Rattle.voe_tree.proofs.contents.is_xml_text.Goals as goal

pub returns : goal.returns
returns c =
    c.are_xml_characters.ensures
    ∙ sym (ap (λ b. b && list_all is_xml_character (chars c.args.text.now)) (is_utf8-from_IsUtf8 c.args.text.now c.utf8.text))
