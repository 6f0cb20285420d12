-- What the writer's pieces put together.
use Rattle.std.proofs.Common.{◌≡◌, Bool, true, false, List, [], ◌∷◌, ◌++◌, map, refl, sym, ◌∙◌, ap, append_assoc, append-nil}
use Rattle.std.specs.Prelude.{Option, codes}
use Rattle.xml_lexer.specs.Characters.{Text}
use Rattle.xml_lexer.specs.Token.{Token, start, end}
use Rattle.voe_tree.specs.Canonical.{all_written, text_tokens, written, written_value}
use Rattle.voe_tree.proofs.WrittenRuns.{all_written-append}
use Rattle.voe_packet.specs.Params.{param_token}
use Rattle.voe_packet.specs.declared.param.Param.{Param}
use Rattle.vtp_messages.specs.Roles.{role_word}
use Rattle.vtp_messages.specs.Spelling.{has_meta, inner, leaf, leaf_if, meta, meta_inner, root_attributes, root_name, spelling}
use Rattle.vtp_messages.specs.declared.message.Message.{Message}
use Rattle.vtp_messages.specs.declared.role.MessageRole.{MessageRole}
use Rattle.vtp_messages.specs.declared.role.MessageRole.TheVariants.{IAmAlive, Authenticate, Ack, Nak}

-- one piece behind another
pub put_two : (a b c p q : Text) → b ≡ a ++ p → c ≡ b ++ q → c ≡ a ++ (p ++ q)
put_two a b c p q h k = k ∙ ap (λ s. s ++ q) h ∙ append_assoc a p q

-- tokens between two
around : (k l : Token) (ks : List Token) → all_written (k ∷ ks ++ l ∷ []) ≡ written k ++ (all_written ks ++ written l)
around k l ks =
    ap (λ s. written k ++ s) (all_written-append ks (l ∷ []) ∙ ap (λ s. all_written ks ++ s) (append-nil (written l)))

param_written : (n v : Text) →
    codes "<Param name" ++ ((codes "=\"" ++ written_value n ++ codes "\"") ++ (codes " value" ++ ((codes "=\"" ++ written_value v ++ codes "\"") ++ codes "/>")))
    ≡ written (param_token (record { name = n; value = v }))
param_written n v =
    let one = written_value n ++ codes "\"" in
    let two = written_value v ++ codes "\"" in
    let last : one ++ (codes " value=\"" ++ (two ++ codes "/>")) ≡ (one ++ (codes " value=\"" ++ (two ++ []))) ++ codes "/>" =
    ap (λ s. one ++ (codes " value=\"" ++ (s ++ codes "/>"))) (sym (append-nil two)) ∙ sym (append_assoc one (codes " value=\"" ++ (two ++ [])) (codes "/>")) in
    ap (λ s. codes "<Param name=\"" ++ s) last

value_put : (b v : Text) → b ++ codes "=\"" ++ v ++ codes "\"" ≡ b ++ (codes "=\"" ++ v ++ codes "\"")
value_put b v = ap (λ s. s ++ codes "\"") (append_assoc b (codes "=\"") v) ∙ append_assoc b (codes "=\"" ++ v) (codes "\"")

pub param_put : (param : Param) (a b c d e f n v : Text) → n ≡ param.name → v ≡ param.value → b ≡ a ++ codes "<Param name" →
    c ≡ b ++ codes "=\"" ++ written_value n ++ codes "\"" → d ≡ c ++ codes " value" → e ≡ d ++ codes "=\"" ++ written_value v ++ codes "\"" →
    f ≡ e ++ codes "/>" → f ≡ a ++ written (param_token param)
param_put param a b c d e f n v names values one two three four five =
    put_two a b f _ _ one (put_two b c f _ _ (two ∙ value_put b (written_value n)) (put_two c d f _ _ three (put_two d e f _ _ (four ∙ value_put d (written_value v)) five)))
    ∙ ap (λ s. a ++ s) (param_written n v)
    ∙ ap (λ x. a ++ written (param_token (record { name = x; value = v }))) names
    ∙ ap (λ x. a ++ written (param_token (record { name = param.name; value = x }))) values

pub leaf_put : (name text : Text) (a b c d t : Text) → t ≡ text → b ≡ a ++ written (start name [] false) → c ≡ b ++ all_written (text_tokens t) →
    d ≡ c ++ written (end name) → d ≡ a ++ all_written (leaf name text)
leaf_put name text a b c d t is one two three =
    put_two a b d _ _ one (put_two b c d _ _ two three)
    ∙ ap (λ x. a ++ (written (start name [] false) ++ (all_written (text_tokens x) ++ written (end name)))) is
    ∙ ap (λ s. a ++ s) (sym (around (start name [] false) (end name) (text_tokens text)))

pub meta_put : (params : List Param) (answer : Option Text) (stands : Bool) (a b c d e : Text) → stands ≡ has_meta params answer → stands ≡ true →
    b ≡ a ++ written (start (codes "Meta") [] false) → c ≡ b ++ all_written (map param_token params) → d ≡ c ++ all_written (leaf_if (codes "Result") answer) →
    e ≡ d ++ written (end (codes "Meta")) → e ≡ a ++ all_written (meta params answer)
meta_put params answer stands a b c d e is does one two three four =
    put_two a b e _ _ one (put_two b c e _ _ two (put_two c d e _ _ three four))
    ∙ ap (λ s. a ++ (written (start (codes "Meta") [] false) ++ s))
    (sym (append_assoc (all_written (map param_token params)) (all_written (leaf_if (codes "Result") answer)) (written (end (codes "Meta"))))
    ∙ ap (λ s. s ++ written (end (codes "Meta"))) (sym (all_written-append (map param_token params) (leaf_if (codes "Result") answer))))
    ∙ ap (λ s. a ++ s) (sym (around (start (codes "Meta") [] false) (end (codes "Meta")) (meta_inner params answer)))
    ∙ ap (λ s. a ++ s) (rw (sym is ∙ does) refl)

pub inner_put : (m : Message) (a b c d e : Text) → b ≡ a ++ all_written (leaf (codes "Origin") m.origin) → c ≡ b ++ all_written (leaf_if (codes "Response") m.response) →
    d ≡ c ++ all_written (leaf_if (codes "TimeStamp") m.stamp) → e ≡ d ++ all_written (meta m.params m.result) → e ≡ a ++ all_written (inner m)
inner_put m a b c d e one two three four =
    let last = leaf_if (codes "TimeStamp") m.stamp in
    let more = leaf_if (codes "Response") m.response in
    let rest = meta m.params m.result in
    put_two a b e _ _ one (put_two b c e _ _ two (put_two c d e _ _ three four))
    ∙ ap (λ s. a ++ (all_written (leaf (codes "Origin") m.origin) ++ (all_written more ++ s))) (sym (all_written-append last rest))
    ∙ ap (λ s. a ++ (all_written (leaf (codes "Origin") m.origin) ++ s)) (sym (all_written-append more (last ++ rest)))
    ∙ ap (λ s. a ++ s) (sym (all_written-append (leaf (codes "Origin") m.origin) (more ++ (last ++ rest))))

pub message_put : (m : Message) (a b c d : Text) → b ≡ a ++ written (start root_name (root_attributes m.role) false) → c ≡ b ++ all_written (inner m) →
    d ≡ c ++ written (end root_name) → d ≡ a ++ spelling m
message_put m a b c d one two three =
    put_two a b d _ _ one (put_two b c d _ _ two three)
    ∙ ap (λ s. a ++ s) (sym (around (start root_name (root_attributes m.role) false) (end root_name) (inner m)))

root_written : (role : MessageRole) →
    codes "<trn:Transport xmlns:trn=\"http://telescope-networks.org/schema/Transport/v1.1\" role=\"" ++ (role_word role ++ codes "\" version=\"1.0\">")
    ≡ written (start root_name (root_attributes role) false)
root_written IAmAlive = refl
root_written Authenticate = refl
root_written Ack = refl
root_written Nak = refl

pub root_put : (role : MessageRole) (a b c d w : Text) → w ≡ role_word role →
    b ≡ a ++ codes "<trn:Transport xmlns:trn=\"http://telescope-networks.org/schema/Transport/v1.1\" role=\"" → c ≡ b ++ w → d ≡ c ++ codes "\" version=\"1.0\">" →
    d ≡ a ++ written (start root_name (root_attributes role) false)
root_put role a b c d w is one two three =
    put_two a b d _ _ one (put_two b c d _ _ two three)
    ∙ ap (λ x. a ++ (codes "<trn:Transport xmlns:trn=\"http://telescope-networks.org/schema/Transport/v1.1\" role=\"" ++ (x ++ codes "\" version=\"1.0\">"))) is
    ∙ ap (λ s. a ++ s) (root_written role)
