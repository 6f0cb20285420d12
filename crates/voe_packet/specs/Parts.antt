-- The parts of a packet: VOEvent 2.0, sections 3.1 to 3.4 and 3.7. Elements and attributes are those in no namespace.
use Rattle.std.specs.Prelude.{List, [], ◌∷◌, Option, Some, None, option_map, unwrap_or, if◌then◌else◌, map, codes}
use Rattle.std.specs.Borrow.{Bor}
use Rattle.std.specs.List.{flat_map}
use Rattle.xml_lexer.specs.Characters.{Text}
use Rattle.voe_tree.specs.Contents.{attribute_of, children_called, elements_in, is_called, text_of}
use Rattle.voe_tree.specs.Places.{below_coordinates, places}
use Rattle.voe_tree.specs.Validity.{citations_of}
use Rattle.voe_tree.specs.declared.element.Element.{Element}
use Rattle.voe_packet.specs.Words.{cite_named, role_named}
use Rattle.voe_packet.specs.Params.{param_of}
use Rattle.voe_packet.specs.declared.packet.Citation.{Citation}
use Rattle.voe_packet.specs.declared.packet.Packet.{Packet}
use Rattle.voe_packet.specs.declared.packet.Position.{Position}

-- the elements that are lent
abbrev pub elements : List (Bor Element) → List Element
elements lent = map (λ e. e.now) lent

abbrev pub first : {A : Type 0} → List A → Option A
first [] = None
first (a ∷ more) = Some a

-- the text of the first element at the end of the path
abbrev pub first_text : List Text → Element → Option Text
first_text path e = option_map text_of (first (places path e))

-- the texts of all
abbrev pub all_texts : List Text → Element → List Text
all_texts path e = map text_of (places path e)

-- ---- parameters

-- the parameters that a child of `What` is or has
abbrev pub params_in : Element → List Element
params_in e = if is_called (codes "Param") e then e ∷ [] else (if is_called (codes "Group") e then children_called e (codes "Param") else [])

abbrev pub params_within : Element → List Element
params_within what = flat_map params_in (elements_in what.children)

-- those of `What` and of its groups, in the order of the document
abbrev pub params_of : Element → List Element
params_of root = flat_map params_within (children_called root (codes "What"))

-- ---- the position

abbrev pub with_coordinates : Option Text → Option Text → Option Text → Option Position
with_coordinates (Some c1) (Some c2) radius = Some (record { c1 = c1; c2 = c2; radius = radius })
with_coordinates c1 c2 radius = None

-- The coordinates may stand in two `Value2`.
abbrev pub position_in : Element → Option Position
position_in e =
    with_coordinates (first_text (codes "Value2" ∷ codes "C1" ∷ []) e) (first_text (codes "Value2" ∷ codes "C2" ∷ []) e) (first_text (codes "Error2Radius" ∷ []) e)

abbrev pub position_at : Option Element → Option Position
position_at None = None
position_at (Some e) = position_in e

-- ---- citations

abbrev pub citation_of : Element → Citation
citation_of e = record { identifier = text_of e; kind = cite_named (attribute_of e (codes "cite")) }

-- ---- all

abbrev pub packet_of : Element → Packet
packet_of root = record {
  identifier = unwrap_or (attribute_of root (codes "ivorn")) [];
  role = role_named (attribute_of root (codes "role"));
  author = first_text (codes "Who" ∷ codes "AuthorIVORN" ∷ []) root;
  date = first_text (codes "Who" ∷ codes "Date" ∷ []) root;
  params = map param_of (params_of root);
  times = all_texts (below_coordinates (codes "Time" ∷ codes "TimeInstant" ∷ codes "ISOTime" ∷ [])) root;
  position = position_at (first (places (below_coordinates (codes "Position2D" ∷ [])) root));
  citations = map citation_of (citations_of root);
}
