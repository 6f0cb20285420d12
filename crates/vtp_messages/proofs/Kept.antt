-- The tree of a message keeps what every tree keeps.
use Rattle.std.proofs.Common.{◌≡◌, ℕ, ◌≤◌, suc, true, false, List, [], ◌∷◌, ◌++◌, length, map, max, refl, sym, ◌∙◌, ap, subst, arith}
use Rattle.std.specs.Prelude.{◌&&◌, IsTrue, not, nat_le, nat_lt, Option, Some, None, Result, Ok, Err, IfOk, MatchResult, codes}
use Rattle.std.specs.List.{list_all}
use Rattle.std.proofs.lemmas.Bool.{and_from, and_parts, le-leb}
use Rattle.std.proofs.lemmas.List.Folds.{list_all-append}
use Rattle.xml_lexer.specs.Characters.{Text, is_name}
use Rattle.xml_lexer.specs.Spelling.{same}
use Rattle.voe_tree.specs.Texts.{is_xml_text}
use Rattle.voe_tree.specs.Shape.{Kept, are_apart, attribute_keeps, attributes_keep, children_keep, depth, greatest, height, is_local_name, is_xmlns, keeps, node_kept, same_attribute}
use Rattle.voe_tree.specs.Pairs.{has_pair}
use Rattle.voe_tree.specs.Document.{Spells}
use Rattle.voe_tree.specs.Writing.{RefusesWritten}
use Rattle.voe_tree.specs.declared.write.WriteFault.{WriteFault}
use Rattle.voe_tree.specs.declared.element.Attribute.{Attribute}
use Rattle.voe_tree.specs.Canonical.{all_written, is_short}
use Rattle.voe_tree.specs.Prefixed.{is_prefix, prefixed_tokens}
use Rattle.voe_tree.specs.declared.element.Element.{Element}
use Rattle.voe_tree.specs.declared.element.Node.TheVariants as tree
use Rattle.voe_tree.proofs.PrefixedDocument.{prefixed-spells}
use Rattle.voe_tree.proofs.WrittenNodes.{depth_out, height-element, height-text, keeps_out, kept-element, kept-text}
use Rattle.voe_tree.proofs.XmlTexts.{is_ascii_xml, xml-all_ascii, xml-nil}
use Rattle.voe_packet.specs.Params.{param_element, plain}
use Rattle.voe_packet.specs.declared.param.Param.{Param}
use Rattle.vtp_messages.specs.Parts.{is_stripped_if}
use Rattle.vtp_messages.specs.Roles.{role_word}
use Rattle.vtp_messages.specs.Rooted.{IsPlainName, IsPlainNameIf, has_xml_texts, inner_elements, is_xml_if, is_xml_param, leaf_element, leaf_element_if, message_root, meta_element, meta_element_if, meta_elements, node_of}
use Rattle.vtp_messages.specs.Spelling.{is_writable_message, message_tokens, spelling, transport_space}
use Rattle.vtp_messages.specs.declared.message.Message.{Message}
use Rattle.vtp_messages.specs.declared.role.MessageRole.{MessageRole}
use Rattle.vtp_messages.specs.declared.role.MessageRole.TheVariants.{IAmAlive, Authenticate, Ack, Nak}
use Rattle.vtp_messages.proofs.Names.{name_some}
use Rattle.vtp_messages.proofs.Trees.{message_is_prefixed}

-- ---- names

ascii_name : (name : Text) → is_name name ≡ true → list_all is_ascii_xml name ≡ true → is_local_name name ≡ true
ascii_name name is ascii = and_from (is_name name) (is_xml_text name) is (xml-all_ascii name ascii)

plain_keeps : (name value : Text) → is_local_name name ≡ true → is_xml_text value ≡ true → is_xmlns (plain name value) ≡ false → attribute_keeps (plain name value) ≡ true
plain_keeps name value named xml other =
    and_from (is_xml_text [] && is_local_name name && is_xml_text value) (not (is_xmlns (plain name value)))
    (and_from (is_xml_text [] && is_local_name name) (is_xml_text value) (and_from (is_xml_text []) (is_local_name name) xml-nil named) xml) (ap not other)

two_keep : (a b : Attribute) → attribute_keeps a ≡ true → attribute_keeps b ≡ true → has_pair same_attribute (a ∷ b ∷ []) ≡ false → attributes_keep (a ∷ b ∷ []) ≡ true
two_keep a b h k apart =
    and_from (list_all attribute_keeps (a ∷ b ∷ [])) (not (has_pair same_attribute (a ∷ b ∷ [])))
    (and_from (attribute_keeps a) (list_all attribute_keeps (b ∷ [])) h (and_from (attribute_keeps b) true k refl)) (ap not apart)

origin_named : is_local_name (codes "Origin") ≡ true
origin_named = ascii_name (codes "Origin") refl refl

response_named : is_local_name (codes "Response") ≡ true
response_named = ascii_name (codes "Response") refl refl

stamp_named : is_local_name (codes "TimeStamp") ≡ true
stamp_named = ascii_name (codes "TimeStamp") refl refl

result_named : is_local_name (codes "Result") ≡ true
result_named = ascii_name (codes "Result") refl refl

-- ---- elements side by side

abbrev kinds : List Element → List Kept
kinds es = map (λ e. (false, keeps e)) es

kinds_are : (es : List Element) → map node_kept (map node_of es) ≡ kinds es
kinds_are [] = refl
kinds_are (e ∷ es) = ap (λ k. k ∷ map node_kept (map node_of es)) (kept-element e) ∙ ap (λ ks. (false, keeps e) ∷ ks) (kinds_are es)

kinds_apart : (es : List Element) → are_apart (kinds es) ≡ true
kinds_apart [] = refl
kinds_apart (e ∷ []) = refl
kinds_apart (e ∷ d ∷ es) = kinds_apart (d ∷ es)

kinds_keep : (es : List Element) → list_all keeps es ≡ true → list_all (λ (k : Kept). k.1) (kinds es) ≡ true
kinds_keep [] h = refl
kinds_keep (e ∷ es) h =
    let parts = and_parts (keeps e) (list_all keeps es) h in
    and_from (keeps e) (list_all (λ (k : Kept). k.1) (kinds es)) parts.0 (kinds_keep es parts.1)

kids_keep : (es : List Element) → list_all keeps es ≡ true → children_keep (map node_kept (map node_of es)) ≡ true
kids_keep es h =
    ap children_keep (kinds_are es) ∙ and_from (are_apart (kinds es)) (list_all (λ (k : Kept). k.1) (kinds es)) (kinds_apart es) (kinds_keep es h)

-- an element with this name and these attributes
keeps_from : (e : Element) → is_xml_text e.space ≡ true → is_local_name e.local ≡ true → attributes_keep e.attributes ≡ true → children_keep (map node_kept e.children) ≡ true → keeps e ≡ true
keeps_from e space local given kids =
    keeps_out e ∙ and_from (is_xml_text e.space && is_local_name e.local && attributes_keep e.attributes) (children_keep (map node_kept e.children))
    (and_from (is_xml_text e.space && is_local_name e.local) (attributes_keep e.attributes) (and_from (is_xml_text e.space) (is_local_name e.local) space local) given) kids

-- ---- the parts

alone_keeps : (t : Text) → (nat_lt 0 (length t) && is_xml_text t) ≡ true → children_keep (map node_kept (tree.Text t ∷ [])) ≡ true
alone_keeps t h = ap (λ k. children_keep (k ∷ [])) (kept-text t) ∙ and_from (nat_lt 0 (length t) && is_xml_text t) true h refl

leaf_keeps : (name t : Text) → is_local_name name ≡ true → nat_lt 0 (length t) ≡ true → is_xml_text t ≡ true → keeps (leaf_element name t) ≡ true
leaf_keeps name t named some xml =
    keeps_from (leaf_element name t) xml-nil named refl (alone_keeps t (and_from (nat_lt 0 (length t)) (is_xml_text t) some xml))

leaf_if_keeps : (name : Text) (t : Option Text) → is_local_name name ≡ true → is_stripped_if t ≡ true → is_xml_if t ≡ true → list_all keeps (leaf_element_if name t) ≡ true
leaf_if_keeps name None named stripped xml = refl
leaf_if_keeps name (Some t) named stripped xml =
    and_from (keeps (leaf_element name t)) true (leaf_keeps name t named (and_parts (nat_lt 0 (length t)) _ stripped).0 xml) refl

name_if_keeps : (name : Text) (s : Option Text) → is_local_name name ≡ true → IsPlainNameIf s → list_all keeps (leaf_element_if name s) ≡ true
name_if_keeps name None named plain = refl
name_if_keeps name (Some s) named plain = and_from (keeps (leaf_element name s)) true (leaf_keeps name s named (name_some s plain.named) plain.xml) refl

param_attributes : (name value : Text) → is_xml_text name ≡ true → is_xml_text value ≡ true → attributes_keep (plain (codes "name") name ∷ plain (codes "value") value ∷ []) ≡ true
param_attributes name value h k =
    two_keep (plain (codes "name") name) (plain (codes "value") value)
    (plain_keeps (codes "name") name (ascii_name (codes "name") refl refl) h refl) (plain_keeps (codes "value") value (ascii_name (codes "value") refl refl) k refl) refl

param_keeps : (p : Param) → is_xml_param p ≡ true → keeps (param_element p) ≡ true
param_keeps p h =
    let parts = and_parts (is_xml_text p.name) (is_xml_text p.value) h in
    keeps_from (param_element p) xml-nil (ascii_name (codes "Param") refl refl) (param_attributes p.name p.value parts.0 parts.1) refl

params_keep : (params : List Param) → list_all is_xml_param params ≡ true → list_all keeps (map param_element params) ≡ true
params_keep [] h = refl
params_keep (p ∷ params) h =
    let parts = and_parts (is_xml_param p) (list_all is_xml_param params) h in
    and_from (keeps (param_element p)) (list_all keeps (map param_element params)) (param_keeps p parts.0) (params_keep params parts.1)

both_keep : (xs ys : List Element) → list_all keeps xs ≡ true → list_all keeps ys ≡ true → list_all keeps (xs ++ ys) ≡ true
both_keep xs ys h k = list_all-append keeps xs ys ∙ and_from (list_all keeps xs) (list_all keeps ys) h k

meta_keeps : (params : List Param) (answer : Option Text) → list_all is_xml_param params ≡ true → is_stripped_if answer ≡ true → is_xml_if answer ≡ true → keeps (meta_element params answer) ≡ true
meta_keeps params answer named stripped xml =
    keeps_from (meta_element params answer) xml-nil (ascii_name (codes "Meta") refl refl) refl
    (kids_keep (meta_elements params answer)
    (both_keep (map param_element params) (leaf_element_if (codes "Result") answer) (params_keep params named) (leaf_if_keeps (codes "Result") answer result_named stripped xml)))

meta_if_keeps : (params : List Param) (answer : Option Text) → list_all is_xml_param params ≡ true → is_stripped_if answer ≡ true → is_xml_if answer ≡ true → list_all keeps (meta_element_if params answer) ≡ true
meta_if_keeps [] None named stripped xml = refl
meta_if_keeps [] (Some answer) named stripped xml = and_from (keeps (meta_element [] (Some answer))) true (meta_keeps [] (Some answer) named stripped xml) refl
meta_if_keeps (p ∷ params) answer named stripped xml = and_from (keeps (meta_element (p ∷ params) answer)) true (meta_keeps (p ∷ params) answer named stripped xml) refl

role_xml : (role : MessageRole) → is_xml_text (role_word role) ≡ true
role_xml IAmAlive = xml-all_ascii (codes "iamalive") refl
role_xml Authenticate = xml-all_ascii (codes "authenticate") refl
role_xml Ack = xml-all_ascii (codes "ack") refl
role_xml Nak = xml-all_ascii (codes "nak") refl

root_attributes_keep : (role : MessageRole) → attributes_keep (plain (codes "role") (role_word role) ∷ plain (codes "version") (codes "1.0") ∷ []) ≡ true
root_attributes_keep role =
    two_keep (plain (codes "role") (role_word role)) (plain (codes "version") (codes "1.0"))
    (plain_keeps (codes "role") (role_word role) (ascii_name (codes "role") refl refl) (role_xml role) refl)
    (plain_keeps (codes "version") (codes "1.0") (ascii_name (codes "version") refl refl) (xml-all_ascii (codes "1.0") refl) refl) refl

-- ---- depth

abbrev AreLow : ℕ → List Element → Type 0
AreLow n [] = Unit {0}
AreLow n (e ∷ es) = (depth e ≤ n) × AreLow n es

low_heights : (n : ℕ) (es : List Element) → AreLow n es → greatest (map height (map node_of es)) ≤ n
low_heights n [] h = omega arith
low_heights n (e ∷ es) (here, more) =
    let first : height (node_of e) ≡ depth e = height-element e in
    let others = low_heights n es more in
    omega arith

low_both : (n : ℕ) (xs ys : List Element) → AreLow n xs → AreLow n ys → AreLow n (xs ++ ys)
low_both n [] ys h k = k
low_both n (e ∷ xs) ys (here, more) k = (here, low_both n xs ys more k)

leaf_depth : (name t : Text) → depth (leaf_element name t) ≡ 1
leaf_depth name t = depth_out (leaf_element name t) ∙ ap (λ n. suc (max n 0)) (height-text t)

leaf_if_low : (name : Text) (t : Option Text) → AreLow 2 (leaf_element_if name t)
leaf_if_low name None = tt
leaf_if_low name (Some t) = (let flat = leaf_depth name t in omega arith, tt)

params_low : (params : List Param) → AreLow 1 (map param_element params)
params_low [] = tt
params_low (p ∷ params) = (let flat : depth (param_element p) ≡ 1 = depth_out (param_element p) in omega arith, params_low params)

leaf_if_flat : (name : Text) (t : Option Text) → AreLow 1 (leaf_element_if name t)
leaf_if_flat name None = tt
leaf_if_flat name (Some t) = (let flat = leaf_depth name t in omega arith, tt)

meta_depth : (params : List Param) (answer : Option Text) → depth (meta_element params answer) ≤ 2
meta_depth params answer =
    let out = depth_out (meta_element params answer) in
    let below = low_heights 1 (meta_elements params answer) (low_both 1 (map param_element params) (leaf_element_if (codes "Result") answer) (params_low params) (leaf_if_flat (codes "Result") answer)) in
    omega arith

meta_if_low : (params : List Param) (answer : Option Text) → AreLow 2 (meta_element_if params answer)
meta_if_low [] None = tt
meta_if_low [] (Some answer) = (meta_depth [] (Some answer), tt)
meta_if_low (p ∷ params) answer = (meta_depth (p ∷ params) answer, tt)

inner_low : (m : Message) → AreLow 2 (inner_elements m)
inner_low m = (
  let flat = leaf_depth (codes "Origin") m.origin in omega arith,
  low_both 2 (leaf_element_if (codes "Response") m.response) (leaf_element_if (codes "TimeStamp") m.stamp ++ meta_element_if m.params m.result)
      (leaf_if_low (codes "Response") m.response)
      (low_both 2 (leaf_element_if (codes "TimeStamp") m.stamp) (meta_element_if m.params m.result) (leaf_if_low (codes "TimeStamp") m.stamp) (meta_if_low m.params m.result)),
)

root_depth : (m : Message) → nat_le (depth (message_root m)) 64 ≡ true
root_depth m =
    let out = depth_out (message_root m) in
    let below = low_heights 2 (inner_elements m) (inner_low m) in
    le-leb (depth (message_root m)) 64 (omega arith)

-- ---- the root

inner_keep : (m : Message) → IsPlainName m.origin → IsPlainNameIf m.response → has_xml_texts m ≡ true → list_all keeps (inner_elements m) ≡ true
inner_keep m origin response xml =
    let front = and_parts (is_xml_if m.stamp && list_all is_xml_param m.params) (is_xml_if m.result) xml in
    let stamp_and = and_parts (is_xml_if m.stamp) (list_all is_xml_param m.params) front.0 in
    and_from (keeps (leaf_element (codes "Origin") m.origin))
    (list_all keeps (leaf_element_if (codes "Response") m.response ++ (leaf_element_if (codes "TimeStamp") m.stamp ++ meta_element_if m.params m.result)))
    (leaf_keeps (codes "Origin") m.origin origin_named (name_some m.origin origin.named) origin.xml)
    (both_keep (leaf_element_if (codes "Response") m.response) (leaf_element_if (codes "TimeStamp") m.stamp ++ meta_element_if m.params m.result)
    (name_if_keeps (codes "Response") m.response response_named response)
    (both_keep (leaf_element_if (codes "TimeStamp") m.stamp) (meta_element_if m.params m.result)
    (leaf_if_keeps (codes "TimeStamp") m.stamp stamp_named m.stamp_is_stripped stamp_and.0)
    (meta_if_keeps m.params m.result stamp_and.1 m.result_is_stripped front.1)))

root_keeps : (m : Message) → IsPlainName m.origin → IsPlainNameIf m.response → has_xml_texts m ≡ true → keeps (message_root m) ≡ true
root_keeps m origin response xml =
    keeps_from (message_root m) (xml-all_ascii transport_space refl) (ascii_name (codes "Transport") refl refl) (root_attributes_keep m.role)
    (kids_keep (inner_elements m) (inner_keep m origin response xml))

prefix_is : is_prefix (codes "trn") ≡ true
prefix_is = and_from (is_local_name (codes "trn") && not (same (codes "trn") (codes "xml"))) (not (same (codes "trn") (codes "xmlns")))
    (and_from (is_local_name (codes "trn")) (not (same (codes "trn") (codes "xml"))) (ascii_name (codes "trn") refl refl) refl) refl

-- the text of a message spells its tree
pub message_spells : (m : Message) → IsPlainName m.origin → IsPlainNameIf m.response → has_xml_texts m ≡ true → is_writable_message m ≡ true → Spells (message_root m) (spelling m)
message_spells m origin response xml short =
    let same_tokens : prefixed_tokens (codes "trn") (message_root m) ≡ message_tokens m = message_is_prefixed m in
    subst (λ ks. Spells (message_root m) (all_written ks)) same_tokens
    (prefixed-spells (codes "trn") (message_root m) prefix_is refl
    (and_from (keeps (message_root m)) (nat_le (depth (message_root m)) 64) (root_keeps m origin response xml) (root_depth m))
    (ap (λ ks. is_short (length (all_written ks)) ks) same_tokens ∙ short))

-- what was written spells it
pub written_message : (m : Message) (r : Result Text WriteFault) → IsPlainName m.origin → IsPlainNameIf m.response → has_xml_texts m ≡ true →
    MatchResult r (λ made. (made ≡ spelling m) × IsTrue (is_writable_message m)) (λ fault. RefusesWritten (message_tokens m) fault) → IfOk r (λ made. Spells (message_root m) made)
written_message m (Ok made) origin response xml given = subst (Spells (message_root m)) (sym given.0) (message_spells m origin response xml given.1)
written_message m (Err fault) origin response xml given = tt
