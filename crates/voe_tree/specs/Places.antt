-- Where a path of names leads.
use Rattle.std.specs.Prelude.{List, [], ◌∷◌, codes}
use Rattle.std.specs.List.{flat_map}
use Rattle.xml_lexer.specs.Characters.{Text}
use Rattle.voe_tree.specs.Contents.{children_called}
use Rattle.voe_tree.specs.declared.element.Element.{Element}

-- the elements at the end of a path of names, each a child of the one before, in the order of the document
abbrev pub places : List Text → Element → List Element
places [] e = e ∷ []
places (name ∷ names) e = flat_map (places names) (children_called e name)

-- the path from a packet's root to what its position in space and time says: VOEvent 2.0, section 3.4
abbrev pub below_coordinates : List Text → List Text
below_coordinates path =
    codes "WhereWhen" ∷ codes "ObsDataLocation" ∷ codes "ObservationLocation" ∷ codes "AstroCoords" ∷ path
