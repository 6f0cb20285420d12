-- The tokens of a draft, written out.
use Rattle.std.specs.Prelude.{false, List, [], ◌∷◌, ◌++◌, map, codes}
use Rattle.std.specs.List.{flat_map}
use Rattle.xml_lexer.specs.Characters.{Text}
use Rattle.xml_lexer.specs.Token.{Token, start, end}
use Rattle.voe_tree.specs.Canonical.{text_tokens, written_value}
use Rattle.voe_tree.specs.Validity.{packet_namespace}
use Rattle.voe_packet.specs.Words.{cite_word, role_word}
use Rattle.voe_packet.specs.Params.{param_token}
use Rattle.voe_packet.specs.declared.draft.Draft.{Draft}
use Rattle.voe_packet.specs.declared.packet.Citation.{Citation}
use Rattle.voe_packet.specs.declared.param.Param.{Param}

abbrev pub root_token : Draft → Token
root_token d =
    start (codes "voe:VOEvent")
    (record { name = codes "xmlns:voe"; value = written_value packet_namespace }
    ∷ record { name = codes "ivorn"; value = written_value d.identifier }
    ∷ record { name = codes "role"; value = written_value (role_word d.role) }
    ∷ record { name = codes "version"; value = written_value (codes "2.0") }
    ∷ [])
    false

abbrev pub citation_tokens : Citation → List Token
citation_tokens c =
    start (codes "EventIVORN") (record { name = codes "cite"; value = written_value (cite_word c.kind) } ∷ []) false
    ∷ text_tokens c.identifier ++ end (codes "EventIVORN") ∷ []

-- A section without items is left out.
abbrev pub section_tokens : Text → List Token → List Token
section_tokens name [] = []
section_tokens name (k ∷ ks) = start name [] false ∷ (k ∷ ks) ++ end name ∷ []

abbrev pub what_tokens : List Param → List Token
what_tokens params = section_tokens (codes "What") (map param_token params)

abbrev pub cited_tokens : List Citation → List Token
cited_tokens citations = section_tokens (codes "Citations") (flat_map citation_tokens citations)

abbrev pub draft_tokens : Draft → List Token
draft_tokens d = root_token d ∷ what_tokens d.params ++ cited_tokens d.citations ++ end (codes "voe:VOEvent") ∷ []
