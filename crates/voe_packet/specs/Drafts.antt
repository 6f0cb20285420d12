-- The packet that a draft is written as.
use Rattle.std.specs.Prelude.{◌≡◌, ℕ, ◌+◌, ◌&&◌, Bool, false, List, [], ◌∷◌, ◌++◌, length, map, None, codes}
use Rattle.std.specs.List.{concat, list_all}
use Rattle.xml_lexer.specs.Characters.{Text}
use Rattle.xml_lexer.specs.Token.{Token}
use Rattle.voe_tree.specs.Texts.{is_xml_text}
use Rattle.voe_tree.specs.Canonical.{all_written, is_short, text_tokens, written_value}
use Rattle.voe_tree.specs.Identifier.{is_identifier}
use Rattle.voe_tree.specs.Prefixed.{prefixed_tokens}
use Rattle.voe_tree.specs.Validity.{packet_namespace}
use Rattle.voe_tree.specs.declared.element.Element.{Element}
use Rattle.voe_tree.specs.declared.element.Node.TheVariants as tree
use Rattle.voe_tree.specs.declared.write.WriteFault.{WriteFault}
use Rattle.voe_tree.specs.declared.write.WriteFault.TheVariants.{TooLarge, NoMemory}
use Rattle.voe_packet.specs.Words.{cite_word, role_word}
use Rattle.voe_packet.specs.Params.{param_element, param_text, plain, simple}
use Rattle.voe_packet.specs.declared.draft.Draft.{Draft}
use Rattle.voe_packet.specs.declared.packet.Citation.{Citation}
use Rattle.voe_packet.specs.declared.packet.Packet.{Packet}
use Rattle.voe_packet.specs.declared.param.Param.{Param}

-- ---- the text

abbrev pub citation_text : Citation → Text
citation_text c = codes "<EventIVORN cite=\"" ++ cite_word c.kind ++ codes "\">" ++ all_written (text_tokens c.identifier) ++ codes "</EventIVORN>"

-- A section without items is left out.
abbrev pub section_text : Text → List Text → Text
section_text name [] = []
section_text name (item ∷ items) = codes "<" ++ name ++ codes ">" ++ concat (item ∷ items) ++ codes "</" ++ name ++ codes ">"

abbrev pub packet_text : Draft → Text
packet_text d =
    codes "<voe:VOEvent xmlns:voe=\"http://www.ivoa.net/xml/VOEvent/v2.0\" ivorn=\"" ++ written_value d.identifier
    ++ codes "\" role=\"" ++ role_word d.role ++ codes "\" version=\"2.0\">"
    ++ section_text (codes "What") (map param_text d.params)
    ++ section_text (codes "Citations") (map citation_text d.citations)
    ++ codes "</voe:VOEvent>"

-- ---- the tree

abbrev pub citation_element : Citation → Element
citation_element c = simple (codes "EventIVORN") (plain (codes "cite") (cite_word c.kind) ∷ []) (tree.Text c.identifier ∷ [])

-- A section without items is left out.
abbrev pub section_of : Text → List Element → List Element
section_of name [] = []
section_of name (item ∷ items) = simple name [] (map (λ e. tree.Element e) (item ∷ items)) ∷ []

abbrev pub sections_of : Draft → List Element
sections_of d = section_of (codes "What") (map param_element d.params) ++ section_of (codes "Citations") (map citation_element d.citations)

abbrev pub draft_root : Draft → Element
draft_root d = record {
  space = packet_namespace;
  local = codes "VOEvent";
  attributes = plain (codes "ivorn") d.identifier ∷ plain (codes "role") (role_word d.role) ∷ plain (codes "version") (codes "2.0") ∷ [];
  children = map (λ e. tree.Element e) (sections_of d);
}

-- what is read from it
abbrev pub drafted_packet : Draft → Packet
drafted_packet d = record {
  identifier = d.identifier;
  role = d.role;
  author = None;
  date = None;
  params = d.params;
  times = [];
  position = None;
  citations = d.citations;
}

-- ---- what may be written

abbrev pub is_xml_param : Param → Bool
is_xml_param p = is_xml_text p.name && is_xml_text p.value

abbrev pub is_xml_citation : Citation → Bool
is_xml_citation c = is_xml_text c.identifier

-- The texts are made of XML characters; an identifier need not be.
abbrev pub has_xml_texts : Draft → Bool
has_xml_texts d = is_xml_text d.identifier && list_all is_xml_param d.params && list_all is_xml_citation d.citations

-- it cites an identifier
abbrev pub has_identifier : Citation → Bool
has_identifier c = is_identifier c.identifier

-- all identifiers are such
abbrev pub has_identifiers : Draft → Bool
has_identifiers d = is_identifier d.identifier && list_all has_identifier d.citations

abbrev pub packet_tokens : Draft → List Token
packet_tokens d = prefixed_tokens (codes "voe") (draft_root d)

-- the text can be read: at most 1,048,576 bytes, 65,536 tokens, and 64 attributes in a start tag
abbrev pub fits_packet : Draft → Bool
fits_packet d = is_short (length (packet_text d)) (packet_tokens d)

-- A draft is too large exactly where its text could not be read. Want of memory says nothing.
abbrev pub RefusesDraft : Draft → WriteFault → Type 0
RefusesDraft d TooLarge = fits_packet d ≡ false
RefusesDraft d NoMemory = Unit {0}

-- the bytes of the names and values
abbrev pub params_size : List Param → ℕ
params_size [] = 0
params_size (p ∷ more) = length p.name + length p.value + params_size more
