-- A written text reads as the text.
use Rattle.std.proofs.Common.{◌≡◌, ℕ, ◌+◌, Bool, true, false, List, [], ◌∷◌, ◌++◌, refl, sym, ◌∙◌, ap, subst, lit<, arith, append_assoc}
use Rattle.std.specs.Prelude.{◌==◌, ◌||◌, ◌&&◌, not, Option, Some, None, option_and_then, codes}
use Rattle.std.specs.List.{list_all}
use Rattle.std.specs.Char.{encode_utf8}
use Rattle.std.proofs.lemmas.Str.{encode_ascii}
use Rattle.xml_lexer.specs.Characters.{Text}
use Rattle.xml_lexer.specs.Token.{Token, reference, text}
use Rattle.xml_lexer.specs.Spelling.{is_text_byte, IsReference}
use Rattle.xml_lexer.specs.Cut.{Follow, MayStand}
use Rattle.voe_tree.specs.Build.{Nodes, none, node, characters, element, Levels, outermost, inside, put, put_text, levels_of, step, with_line_feeds}
use Rattle.voe_tree.specs.Names.{Bindings}
use Rattle.voe_tree.specs.Rules.{Open, refusal_from}
use Rattle.voe_tree.specs.Canonical.{all_written, is_escaped, put_byte, reference_to, text_tokens}
use Rattle.voe_tree.proofs.WrittenRuns.{text_tokens-escaped, text_tokens-plain}
use Rattle.voe_tree.proofs.WrittenValues.{text_cases}

-- ---- nodes

put_text-nil : (ns : Nodes) → put_text [] ns ≡ ns
put_text-nil ns = refl

put_text-one : (x : ℕ) (t : Text) (ns : Nodes) → put_text (x ∷ []) (put_text t ns) ≡ put_text (x ∷ t) ns
put_text-one x [] ns = refl
put_text-one x (b ∷ bs) none = refl
put_text-one x (b ∷ bs) (node (characters t) ns) = refl
put_text-one x (b ∷ bs) (node (element name given kids) ns) = refl

put-one : (x : ℕ) (t : Text) (levels : Levels) → put (put_text (x ∷ [])) (put (put_text t) levels) ≡ put (put_text (x ∷ t)) levels
put-one x t (outermost ns) = ap outermost (put_text-one x t ns)
put-one x t (inside name ns levels) = ap (λ n. inside name n levels) (put_text-one x t ns)

put-nil : (levels : Levels) → put (put_text []) levels ≡ levels
put-nil (outermost ns) = refl
put-nil (inside name ns levels) = refl

line_feeds-one : (x : ℕ) (s : Text) → (x == 13) ≡ false → with_line_feeds (x ∷ s) ≡ x ∷ with_line_feeds s
line_feeds-one x s e = rw e refl

-- a run that is one byte longer
step_longer : (x : ℕ) (run : Text) (o : Option Levels) (made : Levels) → (x == 13) ≡ false → option_and_then (step (text run)) o ≡ Some made →
    option_and_then (step (text (x ∷ run))) o ≡ Some (put (put_text (x ∷ [])) made)
step_longer x run None made e h = cc
step_longer x run (Some levels) made e h =
    ap (λ t. Some (put (put_text t) levels)) (line_feeds-one x run e) ∙ ap Some (sym (put-one x (with_line_feeds run) levels))
    ∙ ap (λ (o : Option Levels). option_and_then (λ l. Some (put (put_text (x ∷ [])) l)) o) h

step_byte : (x : ℕ) (o : Option Levels) (made : Levels) → (x == 13) ≡ false → o ≡ Some made →
    option_and_then (step (text (x ∷ []))) o ≡ Some (put (put_text (x ∷ [])) made)
step_byte x o made e h = ap (option_and_then (step (text (x ∷ [])))) h ∙ ap (λ t. Some (put (put_text t) made)) (line_feeds-one x [] e)

levels_of-put_byte : (x : ℕ) (ms ks : List Token) (made : Levels) → (x == 13) ≡ false → levels_of (ms ++ ks) ≡ Some made →
    levels_of (put_byte x ms ++ ks) ≡ Some (put (put_text (x ∷ [])) made)
levels_of-put_byte x [] ks made e h = step_byte x (levels_of ks) made e h
levels_of-put_byte x (text run ∷ ms) ks made e h = step_longer x run (levels_of (ms ++ ks)) made e h
levels_of-put_byte x (k ∷ ms) ks made e h = step_byte x (levels_of ((k ∷ ms) ++ ks)) made e h

escaped_small : (x : ℕ) → is_escaped x ≡ true → encode_utf8 x ≡ x ∷ []
escaped_small x e =
    text_cases (λ y. encode_utf8 y ≡ y ∷ []) (encode_ascii 38 (lit< tt)) (encode_ascii 60 (lit< tt)) (encode_ascii 62 (lit< tt)) (encode_ascii 13 (lit< tt)) x e

plain_is : (a b c d : Bool) → (a || b || c || d) ≡ false → (d ≡ false) × (not (b || a) ≡ true)
plain_is true b c d h = cc
plain_is false true c d h = cc
plain_is false false true d h = cc
plain_is false false false true h = cc
plain_is false false false false h = (refl, refl)

plain_return : (x : ℕ) → is_escaped x ≡ false → (x == 13) ≡ false
plain_return x e = (plain_is (x == 38) (x == 60) (x == 62) (x == 13) e).0

pub plain_text_byte : (x : ℕ) → is_escaped x ≡ false → is_text_byte x ≡ true
plain_text_byte x e = (plain_is (x == 38) (x == 60) (x == 62) (x == 13) e).1

pub levels_of-text : (t : Text) (ks : List Token) (made : Levels) → levels_of ks ≡ Some made →
    levels_of (text_tokens t ++ ks) ≡ Some (put (put_text t) made)
levels_of-text [] ks made h = h ∙ ap Some (sym (put-nil made))
levels_of-text (x ∷ t) ks made h =
    let more : levels_of (text_tokens t ++ ks) ≡ Some (put (put_text t) made) = levels_of-text t ks made h in
    let both : (u : Bool) → is_escaped x ≡ u → levels_of (text_tokens (x ∷ t) ++ ks) ≡ Some (put (put_text (x ∷ t)) made) =
    λ u. elim u as (λ v. is_escaped x ≡ v → levels_of (text_tokens (x ∷ t) ++ ks) ≡ Some (put (put_text (x ∷ t)) made)) [
      | true ↦ λ e. ap (λ ms. levels_of (ms ++ ks)) (text_tokens-escaped x t e)
          ∙ ap (option_and_then (step (reference x))) more
          ∙ ap (λ c. Some (put (put_text c) (put (put_text t) made))) (escaped_small x e)
          ∙ ap Some (put-one x t made)
      | false ↦ λ e. ap (λ ms. levels_of (ms ++ ks)) (text_tokens-plain x t e)
          ∙ levels_of-put_byte x (text_tokens t) ks (put (put_text t) made) (plain_return x e) more
          ∙ ap Some (put-one x t made)
    ] in
    both (is_escaped x) refl

-- ---- rules

-- the tokens break no rule inside an element
abbrev pub AreFine : Text × Bindings → Open → List Token → Type 0
AreFine e opened ks = (place : ℕ) → refusal_from (e ∷ opened) true place ks ≡ None

fine_put_byte : (x : ℕ) (e : Text × Bindings) (opened : Open) (ms ks : List Token) → AreFine e opened (ms ++ ks) → AreFine e opened (put_byte x ms ++ ks)
fine_put_byte x e opened [] ks h place = h (place + 1)
fine_put_byte x e opened (text run ∷ ms) ks h place = h place
fine_put_byte x e opened (k ∷ ms) ks h place = h (place + 1)

pub fine_text : (t : Text) (e : Text × Bindings) (opened : Open) (ks : List Token) → AreFine e opened ks → AreFine e opened (text_tokens t ++ ks)
fine_text [] e opened ks h = h
fine_text (x ∷ t) e opened ks h =
    let both : (u : Bool) → is_escaped x ≡ u → AreFine e opened (text_tokens (x ∷ t) ++ ks) =
    λ u. elim u as (λ v. is_escaped x ≡ v → AreFine e opened (text_tokens (x ∷ t) ++ ks)) [
      | true ↦ λ is. subst (λ ms. AreFine e opened (ms ++ ks)) (sym (text_tokens-escaped x t is)) (λ place. fine_text t e opened ks h (place + 1))
      | false ↦ λ is. subst (λ ms. AreFine e opened (ms ++ ks)) (sym (text_tokens-plain x t is)) (fine_put_byte x e opened (text_tokens t) ks (fine_text t e opened ks h))
    ] in
    both (is_escaped x) refl

-- ---- spelling

-- no run of text goes on here
abbrev pub Stops : Text → Type 0
Stops [] = Unit {0}
Stops (b ∷ s) = is_text_byte b ≡ false

-- no run of text goes on into these tokens, or they begin with one
abbrev IsReady : List Token → Text → Type 0
IsReady (text run ∷ ms) s = Unit {0}
IsReady ms s = Stops s

-- the tokens follow one another to the end
abbrev pub Reads : Text → List Token → Type 0
Reads s ks = Follow false s ks []

run_stands : (run s : Text) → Stops s → MayStand false (text run) s
run_stands run [] h = tt
run_stands run (b ∷ s) h = h

begins_run : (x : ℕ) (s : Text) (ks : List Token) → is_text_byte x ≡ true → Stops s → Reads s ks → Reads (x ∷ s) (text (x ∷ []) ∷ ks)
begins_run x s ks ok stops reads =
    (s, record { spelled = x ∷ []; is_spelled = (omega arith, ap (λ b. b && true) ok, refl); is_front = refl; may_stand = run_stands (x ∷ []) s stops }, reads)

run_longer : (x : ℕ) (run s : Text) → MayStand false (text run) s → MayStand false (text (x ∷ run)) s
run_longer x run [] h = tt
run_longer x run (b ∷ s) h = h

put_byte-reads : (x : ℕ) (s : Text) (ms ks : List Token) → is_text_byte x ≡ true → IsReady ms s → Reads s (ms ++ ks) → Reads (x ∷ s) (put_byte x ms ++ ks)
put_byte-reads x s [] ks ok ready reads = begins_run x s ks ok ready reads
put_byte-reads x s (text run ∷ ms) ks ok ready (next, begins, reads) = (
  next,
  record {
    spelled = x ∷ begins.spelled;
    is_spelled = (omega arith, ap (λ b. b && list_all is_text_byte run) ok ∙ begins.is_spelled.1, ap (λ l. x ∷ l) begins.is_spelled.2);
    is_front = ap (λ l. x ∷ l) begins.is_front;
    may_stand = run_longer x run next begins.may_stand;
  },
  reads,
)
put_byte-reads x s (k ∷ ms) ks ok ready reads = begins_run x s ((k ∷ ms) ++ ks) ok ready reads

pub put_byte-written : (x : ℕ) (ms : List Token) → all_written (put_byte x ms) ≡ x ∷ all_written ms
put_byte-written x [] = refl
put_byte-written x (text run ∷ ms) = refl
put_byte-written x (k ∷ ms) = refl

put_byte-ready : (x : ℕ) (ms : List Token) (s : Text) → IsReady (put_byte x ms) s
put_byte-ready x [] s = tt
put_byte-ready x (text run ∷ ms) s = tt
put_byte-ready x (k ∷ ms) s = tt

reference_stops : (x : ℕ) (s : Text) → is_escaped x ≡ true → Stops (reference_to x ++ s)
reference_stops x s e = text_cases (λ y. Stops (reference_to y ++ s)) refl refl refl refl x e

text_tokens-ready : (t rest : Text) → Stops rest → IsReady (text_tokens t) (all_written (text_tokens t) ++ rest)
text_tokens-ready [] rest h = h
text_tokens-ready (x ∷ t) rest h =
    let both : (u : Bool) → is_escaped x ≡ u → IsReady (text_tokens (x ∷ t)) (all_written (text_tokens (x ∷ t)) ++ rest) =
    λ u. elim u as (λ v. is_escaped x ≡ v → IsReady (text_tokens (x ∷ t)) (all_written (text_tokens (x ∷ t)) ++ rest)) [
      | true ↦ λ e. subst (λ ms. IsReady ms (all_written ms ++ rest)) (sym (text_tokens-escaped x t e))
          (subst Stops (sym (append_assoc (reference_to x) (all_written (text_tokens t)) rest)) (reference_stops x (all_written (text_tokens t) ++ rest) e))
      | false ↦ λ e. subst (λ ms. IsReady ms (all_written ms ++ rest)) (sym (text_tokens-plain x t e)) (put_byte-ready x (text_tokens t) (all_written (put_byte x (text_tokens t)) ++ rest))
    ] in
    both (is_escaped x) refl

reference_spelled : (x : ℕ) → is_escaped x ≡ true → IsReference x (reference_to x)
reference_spelled x e =
    text_cases (λ y. IsReference y (reference_to y)) (codes "amp", refl, refl) (codes "lt", refl, refl) (codes "gt", refl, refl) (codes "#13", refl, refl) x e

pub reads_text : (t rest : Text) (ks : List Token) → Stops rest → Reads rest ks → Reads (all_written (text_tokens t) ++ rest) (text_tokens t ++ ks)
reads_text [] rest ks stops reads = reads
reads_text (x ∷ t) rest ks stops reads =
    let more : Reads (all_written (text_tokens t) ++ rest) (text_tokens t ++ ks) = reads_text t rest ks stops reads in
    let both : (u : Bool) → is_escaped x ≡ u → Reads (all_written (text_tokens (x ∷ t)) ++ rest) (text_tokens (x ∷ t) ++ ks) =
    λ u. elim u as (λ v. is_escaped x ≡ v → Reads (all_written (text_tokens (x ∷ t)) ++ rest) (text_tokens (x ∷ t) ++ ks)) [
      | true ↦ λ e. subst (λ ms. Reads (all_written ms ++ rest) (ms ++ ks)) (sym (text_tokens-escaped x t e)) (
        all_written (text_tokens t) ++ rest,
        record { spelled = reference_to x; is_spelled = reference_spelled x e; is_front = append_assoc (reference_to x) (all_written (text_tokens t)) rest; may_stand = tt },
        more,
      )
      | false ↦ λ e. subst (λ ms. Reads (all_written ms ++ rest) (ms ++ ks)) (sym (text_tokens-plain x t e))
          (subst (λ s. Reads (s ++ rest) (put_byte x (text_tokens t) ++ ks)) (sym (put_byte-written x (text_tokens t)))
          (put_byte-reads x (all_written (text_tokens t) ++ rest) (text_tokens t) ks (plain_text_byte x e) (text_tokens-ready t rest stops) more))
    ] in
    both (is_escaped x) refl
