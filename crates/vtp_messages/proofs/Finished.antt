-- What a finished writer gives.
use Rattle.std.proofs.Common.{◌≡◌, ℕ, ◌+◌, Bool, true, false, List, [], ◌∷◌, ◌++◌, length, map, refl, sym, ◌∙◌, ap, zero-add}
use Rattle.std.specs.Prelude.{◌&&◌, IsTrue, Option, Some, None, Result, Ok, Err, IfOk, IfErr, MatchResult, codes}
use Rattle.std.specs.List.{list_all}
use Rattle.std.proofs.lemmas.Bool.{and_from}
use Rattle.std.proofs.lemmas.List.Folds.{list_all-append}
use Rattle.xml_lexer.specs.Characters.{Text}
use Rattle.xml_lexer.specs.Token.{Token, start, end}
use Rattle.voe_tree.specs.Canonical.{is_narrow, text_tokens}
use Rattle.voe_tree.specs.Writing.{RefusesWritten, are_few}
use Rattle.voe_tree.specs.declared.write.WriteFault.{WriteFault}
use Rattle.voe_tree.specs.declared.write.WriteFault.TheVariants.{TooLarge, NoMemory}
use Rattle.voe_tree.proofs.WrittenRuns.{text_tokens-narrow}
use Rattle.voe_packet.specs.Params.{param_token}
use Rattle.voe_packet.specs.declared.param.Param.{Param}
use Rattle.vtp_messages.specs.Spelling.{inner, is_writable_message, leaf, leaf_if, message_tokens, meta, meta_inner, spelling}
use Rattle.vtp_messages.specs.declared.message.Message.{Message}

both_narrow : (ks more : List Token) → list_all is_narrow ks ≡ true → list_all is_narrow more ≡ true → list_all is_narrow (ks ++ more) ≡ true
both_narrow ks more h k = list_all-append is_narrow ks more ∙ and_from (list_all is_narrow ks) (list_all is_narrow more) h k

leaf_narrow : (name text : Text) → list_all is_narrow (leaf name text) ≡ true
leaf_narrow name text = both_narrow (text_tokens text) (end name ∷ []) (text_tokens-narrow text) refl

leaf_if_narrow : (name : Text) (text : Option Text) → list_all is_narrow (leaf_if name text) ≡ true
leaf_if_narrow name None = refl
leaf_if_narrow name (Some text) = leaf_narrow name text

params_narrow : (params : List Param) → list_all is_narrow (map param_token params) ≡ true
params_narrow [] = refl
params_narrow (p ∷ params) = params_narrow params

inside_meta : (params : List Param) (answer : Option Text) → list_all is_narrow (start (codes "Meta") [] false ∷ meta_inner params answer ++ end (codes "Meta") ∷ []) ≡ true
inside_meta params answer =
    both_narrow (meta_inner params answer) (end (codes "Meta") ∷ [])
    (both_narrow (map param_token params) (leaf_if (codes "Result") answer) (params_narrow params) (leaf_if_narrow (codes "Result") answer)) refl

meta_narrow : (params : List Param) (answer : Option Text) → list_all is_narrow (meta params answer) ≡ true
meta_narrow [] None = refl
meta_narrow [] (Some answer) = inside_meta [] (Some answer)
meta_narrow (p ∷ params) answer = inside_meta (p ∷ params) answer

inner_narrow : (m : Message) → list_all is_narrow (inner m) ≡ true
inner_narrow m =
    both_narrow (leaf (codes "Origin") m.origin) (leaf_if (codes "Response") m.response ++ (leaf_if (codes "TimeStamp") m.stamp ++ meta m.params m.result))
    (leaf_narrow (codes "Origin") m.origin)
    (both_narrow (leaf_if (codes "Response") m.response) (leaf_if (codes "TimeStamp") m.stamp ++ meta m.params m.result)
    (leaf_if_narrow (codes "Response") m.response)
    (both_narrow (leaf_if (codes "TimeStamp") m.stamp) (meta m.params m.result) (leaf_if_narrow (codes "TimeStamp") m.stamp) (meta_narrow m.params m.result)))

message_narrow : (m : Message) → list_all is_narrow (message_tokens m) ≡ true
message_narrow m = both_narrow (inner m) (end (codes "trn:Transport") ∷ []) (inner_narrow m) refl

and-true : (a b : Bool) → b ≡ true → (a && b) ≡ a
and-true true b h = h
and-true false b h = refl

pub writable_is : (m : Message) → is_writable_message m ≡ are_few (length (spelling m)) (length (message_tokens m))
writable_is m = and-true (are_few (length (spelling m)) (length (message_tokens m))) (list_all is_narrow (message_tokens m)) (message_narrow m)

refused : (m : Message) (fault : WriteFault) → fault ≡ TooLarge → are_few (length (spelling m)) (length (message_tokens m)) ≡ false → RefusesWritten (message_tokens m) fault
refused m TooLarge is many = writable_is m ∙ many
refused m NoMemory is many = tt

module _ (m : Message) (before bytes : Text) (count tokens : ℕ) (empty : before ≡ []) (none : count ≡ 0) (put : bytes ≡ before ++ spelling m) (counted : tokens ≡ count + length (message_tokens m)) where
  bytes_are : bytes ≡ spelling m
  bytes_are = put ∙ ap (λ s. s ++ spelling m) empty

  tokens_are : tokens ≡ length (message_tokens m)
  tokens_are = counted ∙ ap (λ n. n + length (message_tokens m)) none ∙ zero-add (length (message_tokens m))

  few_are : are_few (length bytes) tokens ≡ are_few (length (spelling m)) (length (message_tokens m))
  few_are = ap (λ (s : Text). are_few (length s) tokens) bytes_are ∙ ap (λ n. are_few (length (spelling m)) n) tokens_are

  -- the finished writer gives the message's text, or it is too large
  pub finished_text : (r : Result Text WriteFault) → IfOk r (λ made. (made ≡ bytes) × IsTrue (are_few (length bytes) tokens)) →
      IfErr r (λ fault. (fault ≡ TooLarge) × (are_few (length bytes) tokens ≡ false)) →
      MatchResult r (λ made. (made ≡ spelling m) × IsTrue (is_writable_message m)) (λ fault. RefusesWritten (message_tokens m) fault)
  finished_text (Ok made) few many = (few.0 ∙ bytes_are, writable_is m ∙ sym few_are ∙ few.1)
  finished_text (Err fault) few many = refused m fault many.0 (sym few_are ∙ many.1)
