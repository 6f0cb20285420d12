-- A reader's state between two tokens, and what it gives with the tokens ahead.
use Rattle.std.specs.Prelude.{◌&&◌, Bool, true, false, not, nat_le, length, if◌then◌else◌, List, [], ◌∷◌, ◌++◌, Option, Some, None, option_and_then}
use Rattle.std.specs.Char.{encode_utf8}
use Rattle.xml_lexer.specs.Characters.{Text}
use Rattle.xml_lexer.specs.Token.{Token, declaration, instruction, comment, cdata, start, end, reference, text, Spelled}
use Rattle.xml_lexer.specs.Spelling.{same}
use Rattle.voe_tree.specs.Build.{Nodes, none, node, element, characters, Levels, outermost, inside, put_text, with_line_feeds, levels_of}
use Rattle.voe_tree.specs.Names.{Bindings, declare, named, named_all, element_with, named_attributes, is_bound, prefix_of}
use Rattle.voe_tree.specs.Pairs.{has_pair}
use Rattle.voe_tree.specs.Shape.{max_depth}
use Rattle.voe_tree.specs.Rules.{Open, Rule, too_deep, repeated_attribute, unbound_prefix, root_missing, after_root, broken_rule, same_spelled, same_named, unbound_in}
use Rattle.voe_tree.specs.declared.element.Element.{Element}
use Rattle.voe_tree.specs.declared.element.Node.{Node}
use Rattle.voe_tree.specs.declared.element.Node.TheVariants as tree

-- what is found outside, or an open element by its name as spelled, with the children found and the bindings in it
pub data Stack : Type 0 where
  bottom : Bindings → List Node → Stack
  above : Text → Element → Bindings → Stack → Stack

abbrev pub bindings_at : Stack → Bindings
bindings_at (bottom bindings found) = bindings
bindings_at (above name e bindings below) = bindings

abbrev pub is_bottom : Stack → Bool
is_bottom (bottom bindings found) = true
is_bottom (above name e bindings below) = false

abbrev pub opened_in : Stack → Open
opened_in (bottom bindings found) = []
opened_in (above name e bindings below) = (name, bindings) ∷ opened_in below

-- a start tag came before
abbrev pub is_rooted : Stack → Bool
is_rooted (bottom bindings []) = false
is_rooted (bottom bindings (n ∷ found)) = true
is_rooted (above name e bindings below) = true

-- the element with more children at the end
abbrev pub with_children : Element → List Node → Element
with_children e more = record e { children = e.children ++ more }

abbrev pub push : Node → Stack → Stack
push n (bottom bindings found) = bottom bindings (found ++ n ∷ [])
push n (above name e bindings below) = above name (with_children e (n ∷ [])) bindings below

-- the text that is not yet a node
abbrev pub push_text : Text → Stack → Stack
push_text [] s = s
push_text (b ∷ bs) s = push (tree.Text (b ∷ bs)) s

-- closes the innermost element
abbrev pub pop : Stack → Stack
pop (bottom bindings found) = bottom bindings found
pop (above name e bindings below) = push (tree.Element e) below

-- the text that is not yet a node, and the stack
pub record State : Type 0 where
  pub pending : Text
  pub stack : Stack

abbrev pub initial : State
initial = record { pending = []; stack = bottom [] [] }

-- Text outside is not kept.
abbrev pub add_text : Text → State → State
add_text more s = if is_bottom s.stack then s else record s { pending = s.pending ++ more }

abbrev pub add_element : Text → List Spelled → Bool → State → State
add_element name given true s = record {
  pending = [];
  stack = push (tree.Element (element_with (declare given (bindings_at s.stack)) name given [])) (push_text s.pending s.stack);
}
add_element name given false s = record {
  pending = [];
  stack = above name (element_with (declare given (bindings_at s.stack)) name given []) (declare given (bindings_at s.stack))
      (push_text s.pending s.stack);
}

abbrev pub after : Token → State → State
after (text run) s = add_text (with_line_feeds run) s
after (cdata run) s = add_text (with_line_feeds run) s
after (reference c) s = add_text (encode_utf8 c) s
after (start name given is_empty) s = add_element name given is_empty s
after (end name) s = record { pending = []; stack = pop (push_text s.pending s.stack) }
after (declaration encoding) s = s
after instruction s = s
after comment s = s

-- the rule that a token breaks there
abbrev pub breaks : State → Token → Option Rule
breaks s k = broken_rule (opened_in s.stack) (is_rooted s.stack) k

-- the rule that content breaks there
abbrev pub content_rule : Stack → Option Rule
content_rule s = if is_bottom s then Some (if is_rooted s then after_root else root_missing) else None

-- the rule that a start tag breaks: too deep, a name repeated as spelled or under its namespace, an unbound prefix of the element or of an
-- attribute, behind the root
abbrev pub tag_rule : Bool → Bool → Bool → Bool → Bool → Bool → Option Rule
tag_rule deep twice_spelled twice_named unbound has_unbound late =
    if deep then Some too_deep
    else (if twice_spelled then Some repeated_attribute else (if twice_named then Some repeated_attribute
    else (if unbound then Some unbound_prefix else (if has_unbound then Some unbound_prefix
    else (if late then Some after_root else None)))))

-- the same of a tag whose element has these bindings
abbrev pub start_breaks : Bindings → Stack → Text → List Spelled → Option Rule
start_breaks bindings s name given =
    tag_rule (nat_le max_depth (length (opened_in s))) (has_pair same_spelled given) (has_pair same_named (named_attributes bindings given))
    (not (is_bound bindings (prefix_of name))) (unbound_in bindings given) (is_bottom s && is_rooted s)

-- Nothing was found outside, and nothing is bound there, where an element is opened.
pub data IsOpen : Stack → Type 0 where
  none_open : IsOpen (bottom [] [])
  within : (name : Text) (e : Element) (b : Bindings) (s : Stack) → IsOpen s → IsOpen (above name e b s)

-- No text is pending outside, and no more than one element stands there.
pub data IsTidy : Text → Stack → Type 0 where
  outside : IsTidy [] (bottom [] [])
  ended : (e : Element) → IsTidy [] (bottom [] (tree.Element e ∷ []))
  in_element : (pending name : Text) (e : Element) (b : Bindings) (s : Stack) → IsOpen s → IsTidy pending (above name e b s)

-- ---- what the tokens ahead give

abbrev pub named_elements : Bindings → Nodes → List Node
named_elements bindings none = []
named_elements bindings (node (characters t) ns) = named_elements bindings ns
named_elements bindings (node (element name given kids) ns) = named bindings (element name given kids) ∷ named_elements bindings ns

-- the elements outside that the stack gives with the levels that the tokens ahead build
abbrev pub finish : Text → Stack → Levels → Option (List Node)
finish pending (bottom bindings found) (outermost ns) = Some (found ++ named_elements bindings ns)
finish pending (bottom bindings found) (inside name ns levels) = None
finish pending (above name e bindings below) (outermost ns) = None
finish pending (above name e bindings below) (inside other ns levels) =
    if same name other
    then finish [] (push (tree.Element (with_children e (named_all bindings (put_text pending ns)))) below) levels
    else None

abbrev pub result_of : State → List Token → Option (List Node)
result_of s ks = option_and_then (finish s.pending s.stack) (levels_of ks)
