-- A message of short texts is short enough to be read.
use Rattle.std.proofs.Common.{◌≡◌, ℕ, ◌+◌, ◌*◌, ◌≤◌, Bool, true, false, List, [], ◌∷◌, ◌++◌, length, map, sym, ◌∙◌, ap, subst, inl, inr, arith, length-append}
use Rattle.std.specs.Prelude.{◌==◌, nat_le, if◌then◌else◌, Option, Some, None, codes}
use Rattle.std.proofs.lemmas.Bool.{and_from, and_parts, cases_Bool, le-leb, leb-true}
use Rattle.xml_lexer.specs.Characters.{Text}
use Rattle.xml_lexer.specs.Token.{Token, start, end, text}
use Rattle.xml_lexer.specs.Phases.{max_tokens}
use Rattle.voe_tree.specs.Canonical.{all_written, is_escaped, is_escaped_in_value, max_bytes, put_byte, reference_to, text_tokens, written, written_value}
use Rattle.voe_tree.proofs.WrittenRuns.{all_written-append, text_tokens-escaped, text_tokens-plain}
use Rattle.voe_tree.proofs.WrittenTexts.{put_byte-written}
use Rattle.voe_packet.specs.Drafts.{params_size}
use Rattle.voe_packet.specs.Params.{param_token}
use Rattle.voe_packet.specs.declared.param.Param.{Param}
use Rattle.vtp_messages.specs.Sizes.{size_if, texts_size}
use Rattle.vtp_messages.specs.Spelling.{inner, is_writable_message, leaf, leaf_if, message_tokens, meta, meta_inner, root_attributes, root_name, spelling}
use Rattle.vtp_messages.specs.declared.message.Message.{Message}
use Rattle.vtp_messages.specs.declared.role.MessageRole.{MessageRole}
use Rattle.vtp_messages.specs.declared.role.MessageRole.TheVariants.{IAmAlive, Authenticate, Ack, Nak}
use Rattle.vtp_messages.proofs.Finished.{writable_is}

-- ---- bytes

chosen : (a b c d e f : Bool) →
    length (if a then codes "&amp;" else (if b then codes "&lt;" else (if c then codes "&gt;" else (if d then codes "&quot;" else (if e then codes "&#9;" else (if f then codes "&#10;" else codes "&#13;")))))) ≤ 6
chosen true b c d e f = omega arith
chosen false true c d e f = omega arith
chosen false false true d e f = omega arith
chosen false false false true e f = omega arith
chosen false false false false true f = omega arith
chosen false false false false false true = omega arith
chosen false false false false false false = omega arith

reference_bytes : (b : ℕ) → length (reference_to b) ≤ 6
reference_bytes b = chosen (b == 38) (b == 60) (b == 62) (b == 34) (b == 9) (b == 10)

one_byte : (b : ℕ) (t : Bool) → length (if t then reference_to b else b ∷ []) ≤ 6
one_byte b true = reference_bytes b
one_byte b false = omega arith

value_bytes : (s : Text) → length (written_value s) ≤ 6 * length s
value_bytes [] = omega arith
value_bytes (b ∷ s) =
    let own = one_byte b (is_escaped_in_value b) in
    let more = value_bytes s in
    let whole = length-append (if is_escaped_in_value b then reference_to b else b ∷ []) (written_value s) in omega arith

put_count : (x : ℕ) (ks : List Token) → length (put_byte x ks) ≤ 1 + length ks
put_count x [] = omega arith
put_count x (text run ∷ ks) = omega arith
put_count x (k ∷ ks) = omega arith

-- the bytes and the tokens of a text
record IsShortText (s : Text) (ks : List Token) : Type 0 where
  bytes : length (all_written ks) ≤ 6 * length s
  count : length ks ≤ length s

short_text : (s : Text) → IsShortText s (text_tokens s)
short_text [] = record { bytes = omega arith; count = omega arith }
short_text (x ∷ s) = elim (cases_Bool (is_escaped x)) [
  | inl escaped ↦
      let more = short_text s in
      let more_bytes = more.bytes in
      let more_count = more.count in
      let own = reference_bytes x in
      let whole = length-append (reference_to x) (all_written (text_tokens s)) in
      subst (IsShortText (x ∷ s)) (sym (text_tokens-escaped x s escaped)) (record { bytes = omega arith; count = omega arith })
  | inr plain ↦
      let more = short_text s in
      let more_bytes = more.bytes in
      let more_count = more.count in
      let whole = ap length (put_byte-written x (text_tokens s)) in
      let few = put_count x (text_tokens s) in
      subst (IsShortText (x ∷ s)) (sym (text_tokens-plain x s plain)) (record { bytes = omega arith; count = omega arith })
]

-- ---- elements

-- at most so many bytes and tokens
record AreFew (bytes count : ℕ) (ks : List Token) : Type 0 where
  most_bytes : length (all_written ks) ≤ bytes
  most_count : length ks ≤ count

few_both : (a b c d : ℕ) (ks more : List Token) → AreFew a b ks → AreFew c d more → AreFew (a + c) (b + d) (ks ++ more)
few_both a b c d ks more h k =
    let bytes = ap length (all_written-append ks more) ∙ length-append (all_written ks) (all_written more) in
    let count = length-append ks more in
    let one = h.most_bytes in
    let two = k.most_bytes in
    let three = h.most_count in
    let four = k.most_count in
    record { most_bytes = omega arith; most_count = omega arith }

few_more : (a b c d : ℕ) (ks : List Token) → AreFew a b ks → a ≤ c → b ≤ d → AreFew c d ks
few_more a b c d ks h small few = let bytes = h.most_bytes in let count = h.most_count in record { most_bytes = omega arith; most_count = omega arith }

start_few : (name : Text) → length name ≤ 10 → AreFew 12 1 (start name [] false ∷ [])
start_few name short =
    let one = length-append (codes "<" ++ name ++ []) (codes ">") in
    let two = length-append (codes "<" ++ name) [] in
    let three = length-append (written (start name [] false)) [] in
    record { most_bytes = omega arith; most_count = omega arith }

end_few : (name : Text) → length name ≤ 13 → AreFew 16 1 (end name ∷ [])
end_few name short =
    let one = length-append (codes "</" ++ name) (codes ">") in
    let three = length-append (written (end name)) [] in
    record { most_bytes = omega arith; most_count = omega arith }

text_few : (s : Text) → AreFew (6 * length s) (length s) (text_tokens s)
text_few s = let short = short_text s in record { most_bytes = short.bytes; most_count = short.count }

leaf_few : (name s : Text) → length name ≤ 10 → AreFew (28 + 6 * length s) (2 + length s) (leaf name s)
leaf_few name s short =
    few_more (12 + (6 * length s + 16)) (1 + (length s + 1)) (28 + 6 * length s) (2 + length s) (leaf name s)
    (few_both 12 1 (6 * length s + 16) (length s + 1) (start name [] false ∷ []) (text_tokens s ++ end name ∷ []) (start_few name short)
    (few_both (6 * length s) (length s) 16 1 (text_tokens s) (end name ∷ []) (text_few s) (end_few name (omega arith))))
    (omega arith) (omega arith)

leaf_if_few : (name : Text) (s : Option Text) → length name ≤ 10 → AreFew (28 + 6 * size_if s) (2 + size_if s) (leaf_if name s)
leaf_if_few name None short = record { most_bytes = omega arith; most_count = omega arith }
leaf_if_few name (Some s) short = leaf_few name s short

param_bytes : (p : Param) → length (written (param_token p)) ≤ 25 + 6 * (length p.name + length p.value)
param_bytes p =
    let n = written_value p.name in
    let v = written_value p.value in
    let whole : length (written (param_token p)) ≡ 25 + length n + length v = simp length-append (omega arith) in
    let name = value_bytes p.name in
    let value = value_bytes p.value in omega arith

params_few : (ps : List Param) → AreFew (25 * length ps + 6 * params_size ps) (length ps) (map param_token ps)
params_few [] = record { most_bytes = omega arith; most_count = omega arith }
params_few (p ∷ ps) =
    let more = params_few ps in
    let bytes = more.most_bytes in
    let count = more.most_count in
    let whole = length-append (written (param_token p)) (all_written (map param_token ps)) in
    let own = param_bytes p in
    record { most_bytes = omega arith; most_count = omega arith }

-- ---- the message

meta_around : (ps : List Param) (answer : Option Text) → AreFew (56 + 25 * length ps + 6 * (params_size ps + size_if answer)) (4 + length ps + size_if answer) (start (codes "Meta") [] false ∷ meta_inner ps answer ++ end (codes "Meta") ∷ [])
meta_around ps answer =
    few_more (12 + ((25 * length ps + 6 * params_size ps + (28 + 6 * size_if answer)) + 16)) (1 + ((length ps + (2 + size_if answer)) + 1))
    (56 + 25 * length ps + 6 * (params_size ps + size_if answer)) (4 + length ps + size_if answer) (start (codes "Meta") [] false ∷ meta_inner ps answer ++ end (codes "Meta") ∷ [])
    (few_both 12 1 ((25 * length ps + 6 * params_size ps + (28 + 6 * size_if answer)) + 16) ((length ps + (2 + size_if answer)) + 1) (start (codes "Meta") [] false ∷ []) (meta_inner ps answer ++ end (codes "Meta") ∷ []) (start_few (codes "Meta") (omega arith))
    (few_both (25 * length ps + 6 * params_size ps + (28 + 6 * size_if answer)) (length ps + (2 + size_if answer)) 16 1 (meta_inner ps answer) (end (codes "Meta") ∷ [])
    (few_both (25 * length ps + 6 * params_size ps) (length ps) (28 + 6 * size_if answer) (2 + size_if answer) (map param_token ps) (leaf_if (codes "Result") answer) (params_few ps) (leaf_if_few (codes "Result") answer (omega arith)))
    (end_few (codes "Meta") (omega arith))))
    (omega arith) (omega arith)

meta_few : (ps : List Param) (answer : Option Text) → AreFew (56 + 25 * length ps + 6 * (params_size ps + size_if answer)) (4 + length ps + size_if answer) (meta ps answer)
meta_few [] None = record { most_bytes = omega arith; most_count = omega arith }
meta_few [] (Some answer) = meta_around [] (Some answer)
meta_few (p ∷ ps) answer = meta_around (p ∷ ps) answer

root_few : (role : MessageRole) → AreFew 130 1 (start root_name (root_attributes role) false ∷ [])
root_few IAmAlive = record { most_bytes = omega arith; most_count = omega arith }
root_few Authenticate = record { most_bytes = omega arith; most_count = omega arith }
root_few Ack = record { most_bytes = omega arith; most_count = omega arith }
root_few Nak = record { most_bytes = omega arith; most_count = omega arith }

message_few : (m : Message) → AreFew (300 + 25 * length m.params + 6 * texts_size m) (12 + length m.params + texts_size m) (message_tokens m)
message_few m =
    let o = length m.origin in
    let r = size_if m.response in
    let s = size_if m.stamp in
    let p = params_size m.params in
    let n = length m.params in
    let a = size_if m.result in
    few_more (130 + ((28 + 6 * o + (28 + 6 * r + (28 + 6 * s + (56 + 25 * n + 6 * (p + a))))) + 16)) (1 + ((2 + o + (2 + r + (2 + s + (4 + n + a)))) + 1)) (300 + 25 * n + 6 * texts_size m) (12 + n + texts_size m) (message_tokens m)
    (few_both 130 1 ((28 + 6 * o + (28 + 6 * r + (28 + 6 * s + (56 + 25 * n + 6 * (p + a))))) + 16) ((2 + o + (2 + r + (2 + s + (4 + n + a)))) + 1) (start root_name (root_attributes m.role) false ∷ []) (inner m ++ end root_name ∷ []) (root_few m.role)
    (few_both (28 + 6 * o + (28 + 6 * r + (28 + 6 * s + (56 + 25 * n + 6 * (p + a))))) (2 + o + (2 + r + (2 + s + (4 + n + a)))) 16 1 (inner m) (end root_name ∷ [])
    (few_both (28 + 6 * o) (2 + o) (28 + 6 * r + (28 + 6 * s + (56 + 25 * n + 6 * (p + a)))) (2 + r + (2 + s + (4 + n + a))) (leaf (codes "Origin") m.origin) (leaf_if (codes "Response") m.response ++ (leaf_if (codes "TimeStamp") m.stamp ++ meta m.params m.result)) (leaf_few (codes "Origin") m.origin (omega arith))
    (few_both (28 + 6 * r) (2 + r) (28 + 6 * s + (56 + 25 * n + 6 * (p + a))) (2 + s + (4 + n + a)) (leaf_if (codes "Response") m.response) (leaf_if (codes "TimeStamp") m.stamp ++ meta m.params m.result) (leaf_if_few (codes "Response") m.response (omega arith))
    (few_both (28 + 6 * s) (2 + s) (56 + 25 * n + 6 * (p + a)) (4 + n + a) (leaf_if (codes "TimeStamp") m.stamp) (meta m.params m.result) (leaf_if_few (codes "TimeStamp") m.stamp (omega arith)) (meta_few m.params m.result))))
    (end_few root_name (omega arith))))
    (omega arith) (omega arith)

pub short_fits : (m : Message) → texts_size m ≤ 32768 → length m.params ≤ 1024 → is_writable_message m ≡ true
short_fits m small few =
    let short = message_few m in
    let bytes = short.most_bytes in
    let count = short.most_count in
    writable_is m ∙ and_from (nat_le (length (spelling m)) max_bytes) (nat_le (length (message_tokens m)) max_tokens)
    (le-leb (length (spelling m)) 1048576 (omega arith)) (le-leb (length (message_tokens m)) 65536 (omega arith))

pub some_bytes : (m : Message) → 1 ≤ length (spelling m)
some_bytes m = omega arith

pub within_bytes : (m : Message) → is_writable_message m ≡ true → length (spelling m) ≤ 1048576
within_bytes m short =
    leb-true (length (spelling m)) 1048576 (and_parts (nat_le (length (spelling m)) max_bytes) (nat_le (length (message_tokens m)) max_tokens) (sym (writable_is m) ∙ short)).0
