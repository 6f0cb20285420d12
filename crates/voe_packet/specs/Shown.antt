-- The lines that show a packet. Texts stand in them as they are.
use Rattle.std.specs.Prelude.{[], ◌++◌, Option, Some, None, map, unwrap_or, codes}
use Rattle.std.specs.List.{concat}
use Rattle.xml_lexer.specs.Characters.{Text}
use Rattle.voe_packet.specs.Words.{cite_word, role_word}
use Rattle.voe_packet.specs.Params.{param_line}
use Rattle.voe_packet.specs.declared.packet.Citation.{Citation}
use Rattle.voe_packet.specs.declared.packet.Packet.{Packet}
use Rattle.voe_packet.specs.declared.packet.Position.{Position}

-- a word, a blank, the text and a line feed
abbrev pub line : Text → Text → Text
line word text = word ++ codes " " ++ text ++ codes "\n"

abbrev pub line_if : Text → Option Text → Text
line_if word None = []
line_if word (Some text) = line word text

-- A missing radius is shown as `-`.
abbrev pub position_line : Option Position → Text
position_line None = []
position_line (Some p) = line (codes "position") (p.c1 ++ codes " " ++ p.c2 ++ codes " " ++ unwrap_or p.radius (codes "-"))

abbrev pub citation_line : Citation → Text
citation_line c = line (codes "cite") (cite_word c.kind ++ codes " " ++ c.identifier)

abbrev pub shown_packet : Packet → Text
shown_packet p =
    line (codes "identifier") p.identifier ++ line (codes "role") (role_word p.role)
    ++ line_if (codes "author") p.author ++ line_if (codes "date") p.date
    ++ concat (map param_line p.params) ++ concat (map (line (codes "time")) p.times)
    ++ position_line p.position ++ concat (map citation_line p.citations)
