-- The tree of a message says the message.
use Rattle.std.proofs.Common.{◌≡◌, true, false, List, [], ◌∷◌, ◌++◌, map, refl, sym, ◌∙◌, ap, append-nil}
use Rattle.std.specs.Prelude.{nat_lt, Option, Some, None, Result, Ok, Err, OnOk, filter, find, option_and_then, length, codes, if◌then◌else◌}
use Rattle.std.proofs.lemmas.Bool.{and_parts}
use Rattle.std.proofs.lemmas.List.Elements.{filter-append}
use Rattle.xml_lexer.specs.Characters.{Text}
use Rattle.xml_lexer.specs.Spelling.{same}
use Rattle.voe_tree.specs.Texts.{trimmed}
use Rattle.voe_tree.specs.Contents.{elements_in, string_of, text_of}
use Rattle.voe_tree.specs.declared.element.Element.{Element}
use Rattle.voe_tree.specs.declared.write.WriteFault.{WriteFault}
use Rattle.voe_tree.proofs.Contained.{element_in-element, string_in-text, string_of_children}
use Rattle.voe_tree.proofs.WrittenNames.{same-is}
use Rattle.voe_packet.specs.Params.{param_element, param_of}
use Rattle.voe_packet.specs.declared.param.Param.{Param}
use Rattle.vtp_messages.specs.Parts.{child_local, has_local, if_end_name, is_stripped, is_stripped_if, params_in, text_at, unless_empty}
use Rattle.vtp_messages.specs.Reading.{IsMessageOf}
use Rattle.vtp_messages.specs.Roles.{role_named, role_word}
use Rattle.vtp_messages.specs.Rooted.{IsPlainName, IsPlainNameIf, inner_elements, leaf_element, leaf_element_if, message_root, meta_element, meta_element_if, meta_elements, node_of}
use Rattle.vtp_messages.specs.declared.message.Message.{Message}
use Rattle.vtp_messages.specs.declared.role.MessageRole.{MessageRole}
use Rattle.vtp_messages.specs.declared.role.MessageRole.TheVariants.{IAmAlive, Authenticate, Ack, Nak}

-- ---- what is found

elements_among : (es : List Element) → elements_in (map node_of es) ≡ es
elements_among [] = refl
elements_among (e ∷ es) = rw (element_in-element e) (ap (λ l. e ∷ l) (elements_among es))

skip_leaf_if : (name other : Text) (t : Option Text) (rest : List Element) → same other name ≡ false → find (has_local name) (leaf_element_if other t ++ rest) ≡ find (has_local name) rest
skip_leaf_if name other None rest differs = refl
skip_leaf_if name other (Some t) rest differs = rw differs refl

skip_meta_if : (name : Text) (params : List Param) (answer : Option Text) → same (codes "Meta") name ≡ false → find (has_local name) (meta_element_if params answer) ≡ None
skip_meta_if name [] None differs = refl
skip_meta_if name [] (Some answer) differs = rw differs refl
skip_meta_if name (p ∷ params) answer differs = rw differs refl

-- ---- texts

leaf_string : (name t : Text) → string_of (leaf_element name t) ≡ t
leaf_string name t = string_of_children (leaf_element name t) ∙ ap (λ s. s ++ []) (string_in-text t) ∙ append-nil t

leaf_name : (name t : Text) → IsPlainName t → if_end_name (text_of (leaf_element name t)) ≡ Some t
leaf_name name t plain =
    ap if_end_name (ap trimmed (leaf_string name t) ∙ plain.stripped) ∙ ap (λ b. if b then Some t else None) plain.named

leaf_text : (name t : Text) → is_stripped t ≡ true → unless_empty (text_of (leaf_element name t)) ≡ Some t
leaf_text name t stripped =
    let parts = and_parts (nat_lt 0 (length t)) (same (trimmed t) t) stripped in
    ap unless_empty (ap trimmed (leaf_string name t) ∙ same-is (trimmed t) t parts.1) ∙ ap (λ b. if b then Some t else None) parts.0

found_name : (name : Text) (t : Option Text) (rest : List Element) → same name name ≡ true → IsPlainNameIf t → find (has_local name) rest ≡ None →
    option_and_then (λ child. if_end_name (text_of child)) (find (has_local name) (leaf_element_if name t ++ rest)) ≡ t
found_name name None rest own plain none = ap (option_and_then (λ child. if_end_name (text_of child))) none
found_name name (Some t) rest own plain none =
    ap (λ b. option_and_then (λ child. if_end_name (text_of child)) (if b then Some (leaf_element name t) else find (has_local name) rest)) own ∙ leaf_name name t plain

found_text : (name : Text) (t : Option Text) (rest : List Element) → same name name ≡ true → is_stripped_if t ≡ true → find (has_local name) rest ≡ None →
    option_and_then (λ child. unless_empty (text_of child)) (find (has_local name) (leaf_element_if name t ++ rest)) ≡ t
found_text name None rest own stripped none = ap (option_and_then (λ child. unless_empty (text_of child))) none
found_text name (Some t) rest own stripped none =
    ap (λ b. option_and_then (λ child. unless_empty (text_of child)) (if b then Some (leaf_element name t) else find (has_local name) rest)) own ∙ leaf_text name t stripped

-- ---- `Meta`

params_only : (params : List Param) → filter (has_local (codes "Param")) (map param_element params) ≡ map param_element params
params_only [] = refl
params_only (p ∷ params) = ap (λ l. param_element p ∷ l) (params_only params)

no_result : (answer : Option Text) → filter (has_local (codes "Param")) (leaf_element_if (codes "Result") answer) ≡ []
no_result None = refl
no_result (Some answer) = refl

params_again : (params : List Param) → map param_of (map param_element params) ≡ params
params_again [] = refl
params_again (p ∷ params) = ap (λ l. p ∷ l) (params_again params)

meta_params : (params : List Param) (answer : Option Text) → params_in (Some (meta_element params answer)) ≡ params
meta_params params answer =
    ap (λ es. map param_of (filter (has_local (codes "Param")) es)) (elements_among (meta_elements params answer))
    ∙ ap (map param_of) (
    filter-append (has_local (codes "Param")) (map param_element params) (leaf_element_if (codes "Result") answer)
    ∙ ap (λ l. l ++ filter (has_local (codes "Param")) (leaf_element_if (codes "Result") answer)) (params_only params)
    ∙ ap (λ l. map param_element params ++ l) (no_result answer)
    ∙ append-nil (map param_element params))
    ∙ params_again params

skip_params : (params : List Param) (rest : List Element) → find (has_local (codes "Result")) (map param_element params ++ rest) ≡ find (has_local (codes "Result")) rest
skip_params [] rest = refl
skip_params (p ∷ params) rest = skip_params params rest

meta_result : (params : List Param) (answer : Option Text) → is_stripped_if answer ≡ true → text_at (meta_element params answer) (codes "Result") ≡ answer
meta_result params answer stripped =
    ap (λ es. option_and_then (λ child. unless_empty (text_of child)) (find (has_local (codes "Result")) es)) (elements_among (meta_elements params answer))
    ∙ ap (option_and_then (λ child. unless_empty (text_of child)))
    (skip_params params (leaf_element_if (codes "Result") answer) ∙ ap (find (has_local (codes "Result"))) (sym (append-nil (leaf_element_if (codes "Result") answer))))
    ∙ found_text (codes "Result") answer [] refl stripped refl

params_if : (params : List Param) (answer : Option Text) → params_in (find (has_local (codes "Meta")) (meta_element_if params answer)) ≡ params
params_if [] None = refl
params_if [] (Some answer) = meta_params [] (Some answer)
params_if (p ∷ params) answer = meta_params (p ∷ params) answer

result_if : (params : List Param) (answer : Option Text) → is_stripped_if answer ≡ true →
    option_and_then (λ meta. text_at meta (codes "Result")) (find (has_local (codes "Meta")) (meta_element_if params answer)) ≡ answer
result_if [] None stripped = refl
result_if [] (Some answer) stripped = meta_result [] (Some answer) stripped
result_if (p ∷ params) answer stripped = meta_result (p ∷ params) answer stripped

-- ---- the root

module _ (m : Message) where
  found : (name : Text) → child_local (message_root m) name ≡ find (has_local name) (inner_elements m)
  found name = ap (find (has_local name)) (elements_among (inner_elements m))

  meta_found : child_local (message_root m) (codes "Meta") ≡ find (has_local (codes "Meta")) (meta_element_if m.params m.result)
  meta_found =
      found (codes "Meta")
      ∙ skip_leaf_if (codes "Meta") (codes "Response") m.response (leaf_element_if (codes "TimeStamp") m.stamp ++ meta_element_if m.params m.result) refl
      ∙ skip_leaf_if (codes "Meta") (codes "TimeStamp") m.stamp (meta_element_if m.params m.result) refl

  roles : (role : MessageRole) → role_named (role_word role) ≡ Some role
  roles IAmAlive = refl
  roles Authenticate = refl
  roles Ack = refl
  roles Nak = refl

  -- the tree of a message says the message
  pub message_said : IsPlainName m.origin → IsPlainNameIf m.response → IsMessageOf m (message_root m)
  message_said origin response = record {
    transport = refl;
    role = roles m.role;
    origin = ap (option_and_then (λ child. if_end_name (text_of child))) (found (codes "Origin")) ∙ leaf_name (codes "Origin") m.origin origin;
    response =
        ap (option_and_then (λ child. if_end_name (text_of child))) (found (codes "Response"))
        ∙ found_name (codes "Response") m.response (leaf_element_if (codes "TimeStamp") m.stamp ++ meta_element_if m.params m.result) refl response
        (skip_leaf_if (codes "Response") (codes "TimeStamp") m.stamp (meta_element_if m.params m.result) refl ∙ skip_meta_if (codes "Response") m.params m.result refl);
    stamp =
        ap (option_and_then (λ child. unless_empty (text_of child)))
        (found (codes "TimeStamp") ∙ skip_leaf_if (codes "TimeStamp") (codes "Response") m.response (leaf_element_if (codes "TimeStamp") m.stamp ++ meta_element_if m.params m.result) refl)
        ∙ found_text (codes "TimeStamp") m.stamp (meta_element_if m.params m.result) refl m.stamp_is_stripped (skip_meta_if (codes "TimeStamp") m.params m.result refl);
    params = ap params_in meta_found ∙ params_if m.params m.result;
    result = ap (option_and_then (λ meta. text_at meta (codes "Result"))) meta_found ∙ result_if m.params m.result m.result_is_stripped;
  }

-- it does in every case
pub said_if : (m : Message) (r : Result Text WriteFault) → IsMessageOf m (message_root m) → OnOk r (IsMessageOf m (message_root m))
said_if m (Ok made) says = says
said_if m (Err fault) says = tt
