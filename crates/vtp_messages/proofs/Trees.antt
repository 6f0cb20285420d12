-- The tokens of a message are those of its tree, under the root's prefix.
use Rattle.std.proofs.Common.{◌≡◌, ℕ, suc, false, List, [], ◌∷◌, ◌++◌, length, map, refl, sym, ◌∙◌, ap, append_assoc, append-nil, arith}
use Rattle.std.proofs.lemmas.Bool.Decides.{nat_tests}
use Rattle.std.specs.Prelude.{◌==◌, Option, Some, None, codes}
use Rattle.xml_lexer.specs.Characters.{Text}
use Rattle.xml_lexer.specs.Token.{Token, start, end}
use Rattle.voe_tree.specs.Canonical.{all_in, end_tag, text_tokens, tokens_in, tokens_of}
use Rattle.voe_tree.specs.Prefixed.{prefixed_attributes, prefixed_tokens}
use Rattle.voe_tree.specs.declared.element.Element.{Element}
use Rattle.voe_tree.proofs.WrittenTree.{tokens_of-layer, tokens_in-element, tokens_in-text}
use Rattle.voe_packet.specs.Params.{param_element, param_token, plain}
use Rattle.voe_packet.specs.declared.param.Param.{Param}
use Rattle.vtp_messages.specs.Roles.{role_word}
use Rattle.vtp_messages.specs.Rooted.{inner_elements, leaf_element, leaf_element_if, message_root, meta_element, meta_element_if, meta_elements, node_of}
use Rattle.vtp_messages.specs.Spelling.{inner, leaf, leaf_if, message_tokens, meta, meta_inner, root_attributes, root_name, transport_space}
use Rattle.vtp_messages.specs.declared.message.Message.{Message}
use Rattle.vtp_messages.specs.declared.role.MessageRole.{MessageRole}
use Rattle.vtp_messages.specs.declared.role.MessageRole.TheVariants.{IAmAlive, Authenticate, Ack, Nak}

abbrev all_tokens : List Element → List Token
all_tokens [] = []
all_tokens (e ∷ es) = tokens_of e [] ++ all_tokens es

all_tokens-append : (xs ys : List Element) → all_tokens (xs ++ ys) ≡ all_tokens xs ++ all_tokens ys
all_tokens-append [] ys = refl
all_tokens-append (e ∷ xs) ys = ap (λ ks. tokens_of e [] ++ ks) (all_tokens-append xs ys) ∙ sym (append_assoc (tokens_of e []) (all_tokens xs) (all_tokens ys))

all_in-nodes : (es : List Element) → all_in [] (map tokens_in (map node_of es)) ≡ all_tokens es
all_in-nodes [] = refl
all_in-nodes (e ∷ es) =
    ap (λ ks. ks ++ all_in [] (map tokens_in (map node_of es))) (tokens_in-element e []) ∙ ap (λ ks. tokens_of e [] ++ ks) (all_in-nodes es)

leaf_tokens : (name text : Text) → tokens_of (leaf_element name text) [] ≡ leaf name text
leaf_tokens name text =
    tokens_of-layer (leaf_element name text) []
    ∙ ap (λ ks. start name [] false ∷ (ks ++ []) ++ end name ∷ []) (tokens_in-text text [])
    ∙ ap (λ ks. start name [] false ∷ ks ++ end name ∷ []) (append-nil (text_tokens text))

leaf_if_tokens : (name : Text) (text : Option Text) → all_tokens (leaf_element_if name text) ≡ leaf_if name text
leaf_if_tokens name None = refl
leaf_if_tokens name (Some text) = append-nil (tokens_of (leaf_element name text) []) ∙ leaf_tokens name text

params_tokens : (params : List Param) → all_tokens (map param_element params) ≡ map param_token params
params_tokens [] = refl
params_tokens (p ∷ params) =
    ap (λ ks. ks ++ all_tokens (map param_element params)) (tokens_of-layer (param_element p) []) ∙ ap (λ ks. param_token p ∷ ks) (params_tokens params)

inner_of_meta : (params : List Param) (answer : Option Text) → all_tokens (meta_elements params answer) ≡ meta_inner params answer
inner_of_meta params answer =
    all_tokens-append (map param_element params) (leaf_element_if (codes "Result") answer)
    ∙ ap (λ ks. ks ++ all_tokens (leaf_element_if (codes "Result") answer)) (params_tokens params)
    ∙ ap (λ ks. map param_token params ++ ks) (leaf_if_tokens (codes "Result") answer)

not_zero : (n : ℕ) → (suc n == 0) ≡ false
not_zero n = grind (arith, nat_tests)

-- an element in no namespace, without attributes, that contains elements
around : (name : Text) (e : Element) (es : List Element) →
    tokens_of (record { space = []; local = name; attributes = []; children = map node_of (e ∷ es) }) [] ≡ start name [] false ∷ all_tokens (e ∷ es) ++ end name ∷ []
around name e es =
    tokens_of-layer (record { space = []; local = name; attributes = []; children = map node_of (e ∷ es) }) []
    ∙ ap (λ b. start name [] b ∷ all_in [] (map tokens_in (map node_of (e ∷ es))) ++ end_tag b name) (not_zero (length (map node_of es)))
    ∙ ap (λ ks. start name [] false ∷ ks ++ end name ∷ []) (all_in-nodes (e ∷ es))

meta_tokens : (params : List Param) (answer : Option Text) → all_tokens (meta_element_if params answer) ≡ meta params answer
meta_tokens [] None = refl
meta_tokens [] (Some answer) =
    append-nil (tokens_of (meta_element [] (Some answer)) []) ∙ around (codes "Meta") (leaf_element (codes "Result") answer) []
    ∙ ap (λ ks. start (codes "Meta") [] false ∷ ks ++ end (codes "Meta") ∷ []) (inner_of_meta [] (Some answer))
meta_tokens (p ∷ params) answer =
    append-nil (tokens_of (meta_element (p ∷ params) answer) [])
    ∙ around (codes "Meta") (param_element p) (map param_element params ++ leaf_element_if (codes "Result") answer)
    ∙ ap (λ ks. start (codes "Meta") [] false ∷ ks ++ end (codes "Meta") ∷ []) (inner_of_meta (p ∷ params) answer)

inner_tokens : (m : Message) → all_tokens (inner_elements m) ≡ inner m
inner_tokens m =
    let response = leaf_element_if (codes "Response") m.response in
    let stamp = leaf_element_if (codes "TimeStamp") m.stamp in
    let last = meta_element_if m.params m.result in
    ap (λ ks. ks ++ all_tokens (response ++ (stamp ++ last))) (leaf_tokens (codes "Origin") m.origin)
    ∙ ap (λ ks. leaf (codes "Origin") m.origin ++ ks) (
    all_tokens-append response (stamp ++ last)
    ∙ ap (λ ks. ks ++ all_tokens (stamp ++ last)) (leaf_if_tokens (codes "Response") m.response)
    ∙ ap (λ ks. leaf_if (codes "Response") m.response ++ ks) (
    all_tokens-append stamp last
    ∙ ap (λ ks. ks ++ all_tokens last) (leaf_if_tokens (codes "TimeStamp") m.stamp)
    ∙ ap (λ ks. leaf_if (codes "TimeStamp") m.stamp ++ ks) (meta_tokens m.params m.result)))

attributes_are : (role : MessageRole) →
    prefixed_attributes (codes "trn") transport_space (plain (codes "role") (role_word role) ∷ plain (codes "version") (codes "1.0") ∷ []) ≡ root_attributes role
attributes_are IAmAlive = refl
attributes_are Authenticate = refl
attributes_are Ack = refl
attributes_are Nak = refl

-- the tokens of the message are those of the tree
pub message_is_prefixed : (m : Message) → prefixed_tokens (codes "trn") (message_root m) ≡ message_tokens m
message_is_prefixed m =
    ap (λ given. start root_name given false ∷ all_in [] (map tokens_in (map node_of (inner_elements m))) ++ end root_name ∷ []) (attributes_are m.role)
    ∙ ap (λ ks. start root_name (root_attributes m.role) false ∷ ks ++ end root_name ∷ []) (all_in-nodes (inner_elements m) ∙ inner_tokens m)
