-- The lines that show a message.
use Rattle.std.specs.Prelude.{◌++◌, [], List, Option, Some, None, codes, map}
use Rattle.std.specs.List.{concat}
use Rattle.xml_lexer.specs.Characters.{Text}
use Rattle.voe_packet.specs.Params.{param_line}
use Rattle.voe_packet.specs.declared.param.Param.{Param}
use Rattle.vtp_messages.specs.Roles.{role_word}
use Rattle.vtp_messages.specs.declared.message.Message.{Message}
use Rattle.vtp_messages.specs.declared.role.MessageRole.{MessageRole}

abbrev pub named_line : Text → Text → Text
named_line name text = name ++ (codes " " ++ (text ++ codes "\n"))

-- none without a text
abbrev pub named_line_if : Text → Option Text → Text
named_line_if name None = []
named_line_if name (Some text) = named_line name text

-- the lines of a role, an origin, a response, a stamp, named values and a result
abbrev pub shown_parts : MessageRole → Text → Option Text → Option Text → List Param → Option Text → Text
shown_parts role origin response stamp params answer =
    named_line (codes "transport") (role_word role) ++ named_line (codes "origin") origin
    ++ named_line_if (codes "response") response ++ named_line_if (codes "stamp") stamp
    ++ concat (map param_line params) ++ named_line_if (codes "result") answer

abbrev pub shown : Message → Text
shown m = shown_parts m.role m.origin m.response m.stamp m.params m.result
