-- What texts and values are written as, by the bytes that are escaped.
use Rattle.std.proofs.Common.{◌≡◌, ℕ, suc, ◌+◌, Bool, true, false, List, [], ◌∷◌, ◌++◌, length, take, drop, refl, sym, ◌∙◌, ap, arith, one-add, append_assoc, length-append}
use Rattle.std.specs.List.{prefix_len, list_all}
use Rattle.xml_lexer.specs.Characters.{Text}
use Rattle.xml_lexer.specs.Token.{Token, reference, text}
use Rattle.voe_tree.specs.Canonical.{all_written, is_escaped, is_escaped_in_value, is_narrow, put_byte, reference_to, text_tokens, written, written_value}
use Rattle.voe_tree.specs.Writing.{is_run_byte, is_value_run_byte, run_tokens}

pub all_written-append : (ks more : List Token) → all_written (ks ++ more) ≡ all_written ks ++ all_written more
all_written-append [] more = refl
all_written-append (k ∷ ks) more = ap (λ s. written k ++ s) (all_written-append ks more) ∙ sym (append_assoc (written k) (all_written ks) (all_written more))

-- ---- texts

pub text_tokens-escaped : (x : ℕ) (s : Text) → is_escaped x ≡ true → text_tokens (x ∷ s) ≡ reference x ∷ text_tokens s
text_tokens-escaped x s e = rw e refl

pub text_tokens-plain : (x : ℕ) (s : Text) → is_escaped x ≡ false → text_tokens (x ∷ s) ≡ put_byte x (text_tokens s)
text_tokens-plain x s e = rw e refl

-- behind a run there is no run
behind_run : (x : ℕ) (s : Text) →
    put_byte x (text_tokens (drop (prefix_len is_run_byte s) s)) ≡ text (x ∷ []) ∷ text_tokens (drop (prefix_len is_run_byte s) s)
behind_run x [] = refl
behind_run x (y ∷ s) =
    let both : (t : Bool) → is_escaped y ≡ t →
    put_byte x (text_tokens (drop (prefix_len is_run_byte (y ∷ s)) (y ∷ s))) ≡ text (x ∷ []) ∷ text_tokens (drop (prefix_len is_run_byte (y ∷ s)) (y ∷ s)) =
    λ t. elim t as (λ u. is_escaped y ≡ u →
    put_byte x (text_tokens (drop (prefix_len is_run_byte (y ∷ s)) (y ∷ s))) ≡ text (x ∷ []) ∷ text_tokens (drop (prefix_len is_run_byte (y ∷ s)) (y ∷ s)))
    [ true ↦ λ e. rw e (ap (put_byte x) (text_tokens-escaped y s e) ∙ ap (λ ks. text (x ∷ []) ∷ ks) (sym (text_tokens-escaped y s e))) | false ↦ λ e. rw (e, one-add) (behind_run x s) ] in
    both (is_escaped y) refl

put_one : (x : ℕ) (r d : Text) → put_byte x (text_tokens d) ≡ text (x ∷ []) ∷ text_tokens d → put_byte x (run_tokens r ++ text_tokens d) ≡ text (x ∷ r) ∷ text_tokens d
put_one x [] d h = h
put_one x (b ∷ r) d h = refl

-- a text is a run, and what comes behind it
pub text_tokens-run : (s : Text) →
    text_tokens s ≡ run_tokens (take (prefix_len is_run_byte s) s) ++ text_tokens (drop (prefix_len is_run_byte s) s)
text_tokens-run [] = refl
text_tokens-run (x ∷ s) =
    let both : (t : Bool) → is_escaped x ≡ t →
    text_tokens (x ∷ s) ≡ run_tokens (take (prefix_len is_run_byte (x ∷ s)) (x ∷ s)) ++ text_tokens (drop (prefix_len is_run_byte (x ∷ s)) (x ∷ s)) =
    λ t. elim t as (λ u. is_escaped x ≡ u →
    text_tokens (x ∷ s) ≡ run_tokens (take (prefix_len is_run_byte (x ∷ s)) (x ∷ s)) ++ text_tokens (drop (prefix_len is_run_byte (x ∷ s)) (x ∷ s))) [
      | true ↦ λ e. rw e (sym (text_tokens-escaped x s e))
      | false ↦ λ e. rw (e, one-add) (ap (put_byte x) (text_tokens-run s) ∙ put_one x (take (prefix_len is_run_byte s) s) (drop (prefix_len is_run_byte s) s) (behind_run x s))
    ] in
    both (is_escaped x) refl

put_byte-narrow : (x : ℕ) (ks : List Token) → list_all is_narrow ks ≡ true → list_all is_narrow (put_byte x ks) ≡ true
put_byte-narrow x [] h = refl
put_byte-narrow x (text run ∷ ks) h = h
put_byte-narrow x (k ∷ ks) h = h

pub text_tokens-narrow : (s : Text) → list_all is_narrow (text_tokens s) ≡ true
text_tokens-narrow [] = refl
text_tokens-narrow (x ∷ s) =
    let both : (t : Bool) → is_escaped x ≡ t → list_all is_narrow (text_tokens (x ∷ s)) ≡ true =
    λ t. elim t as (λ u. is_escaped x ≡ u → list_all is_narrow (text_tokens (x ∷ s)) ≡ true)
    [ true ↦ λ e. rw e (text_tokens-narrow s) | false ↦ λ e. rw e (put_byte-narrow x (text_tokens s) (text_tokens-narrow s)) ] in
    both (is_escaped x) refl

-- ---- values

pub written_value-escaped : (x : ℕ) (s : Text) → is_escaped_in_value x ≡ true → written_value (x ∷ s) ≡ reference_to x ++ written_value s
written_value-escaped x s e = rw e refl

-- a value is a run, and what comes behind it
pub written_value-run : (s : Text) →
    written_value s ≡ take (prefix_len is_value_run_byte s) s ++ written_value (drop (prefix_len is_value_run_byte s) s)
written_value-run [] = refl
written_value-run (x ∷ s) =
    let both : (t : Bool) → is_escaped_in_value x ≡ t →
    written_value (x ∷ s) ≡ take (prefix_len is_value_run_byte (x ∷ s)) (x ∷ s) ++ written_value (drop (prefix_len is_value_run_byte (x ∷ s)) (x ∷ s)) =
    λ t. elim t as (λ u. is_escaped_in_value x ≡ u →
    written_value (x ∷ s) ≡ take (prefix_len is_value_run_byte (x ∷ s)) (x ∷ s) ++ written_value (drop (prefix_len is_value_run_byte (x ∷ s)) (x ∷ s)))
    [ true ↦ λ e. rw e (sym (written_value-escaped x s e)) | false ↦ λ e. rw (e, one-add) (ap (λ l. x ∷ l) (written_value-run s)) ] in
    both (is_escaped_in_value x) refl

-- ---- the code's runs

pub text_reads : (s run behind : Text) (n : ℕ) → n ≡ prefix_len is_run_byte s → run ≡ take n s → behind ≡ drop n s →
    text_tokens s ≡ run_tokens run ++ text_tokens behind
text_reads s run behind n counted front back = rw (front, back, counted) (text_tokens-run s)

pub value_reads : (s run behind : Text) (n : ℕ) → n ≡ prefix_len is_value_run_byte s → run ≡ take n s → behind ≡ drop n s →
    written_value s ≡ run ++ written_value behind
value_reads s run behind n counted front back = rw (front, back, counted) (written_value-run s)

-- one more character and run of a value
pub value_goes_on : (whole before mid after rest left run behind : Text) (x : ℕ) → before ++ written_value rest ≡ whole → rest ≡ x ∷ left → is_escaped_in_value x ≡ true →
    written_value left ≡ run ++ written_value behind → mid ≡ before ++ reference_to x → after ≡ mid ++ run → after ++ written_value behind ≡ whole
value_goes_on whole before mid after rest left run behind x so_far split escaped reads put put_run =
    ap (λ l. l ++ written_value behind) (put_run ∙ ap (λ l. l ++ run) put)
    ∙ append_assoc (before ++ reference_to x) run (written_value behind)
    ∙ ap (λ l. (before ++ reference_to x) ++ l) (sym reads)
    ∙ append_assoc before (reference_to x) (written_value left)
    ∙ ap (λ l. before ++ l) (sym (written_value-escaped x left escaped) ∙ ap written_value (sym split))
    ∙ so_far

-- one more character and run of a text
pub text_goes_on : (whole before mid after rest left run behind : Text) (x : ℕ) → before ++ all_written (text_tokens rest) ≡ whole → rest ≡ x ∷ left → is_escaped x ≡ true →
    text_tokens left ≡ run_tokens run ++ text_tokens behind → mid ≡ before ++ reference_to x → after ≡ mid ++ all_written (run_tokens run) →
    after ++ all_written (text_tokens behind) ≡ whole
text_goes_on whole before mid after rest left run behind x so_far split escaped reads put put_run =
    ap (λ l. l ++ all_written (text_tokens behind)) (put_run ∙ ap (λ l. l ++ all_written (run_tokens run)) put)
    ∙ append_assoc (before ++ reference_to x) (all_written (run_tokens run)) (all_written (text_tokens behind))
    ∙ ap (λ l. (before ++ reference_to x) ++ l) (sym (all_written-append (run_tokens run) (text_tokens behind)) ∙ ap all_written (sym reads))
    ∙ append_assoc before (reference_to x) (all_written (text_tokens left))
    ∙ ap (λ l. before ++ l) (ap all_written (sym (text_tokens-escaped x left escaped)) ∙ ap (λ s. all_written (text_tokens s)) (sym split))
    ∙ so_far

pub text_counts_on : (whole before mid after : ℕ) (rest left run behind : Text) (x : ℕ) → before + length (text_tokens rest) ≡ whole → rest ≡ x ∷ left → is_escaped x ≡ true →
    text_tokens left ≡ run_tokens run ++ text_tokens behind → mid ≡ before + 1 → after ≡ mid + length (run_tokens run) → after + length (text_tokens behind) ≡ whole
text_counts_on whole before mid after rest left run behind x so_far split escaped reads put put_run =
    let one : length (text_tokens rest) ≡ suc (length (text_tokens left)) =
    ap (λ s. length (text_tokens s)) split ∙ ap (λ (ks : List Token). length ks) (text_tokens-escaped x left escaped) in
    let two : length (text_tokens left) ≡ length (run_tokens run) + length (text_tokens behind) =
    ap (λ (ks : List Token). length ks) reads ∙ length-append (run_tokens run) (text_tokens behind) in
    omega arith
