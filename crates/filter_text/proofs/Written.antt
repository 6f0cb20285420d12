-- The canonical text, step by step.
use Rattle.std.proofs.Common.{◌≡◌, ℕ, zero, suc, ◌+◌, ◌<◌, ◌≤◌, Bool, true, false, cond, List, [], ◌∷◌, ◌++◌, length, drop, map, refl, sym, ◌∙◌, ap, subst, append_assoc, append-nil, add-one, drop-cons, get_or, Result, Ok, Err, arith}
use Rattle.std.specs.Prelude.{codes, nat_eq, OnOk}
use Rattle.std.proofs.lemmas.Bool.Decides.{nat_tests}
use Rattle.filter_text.specs.Filter.{Text, Steps, arrived, step, Conditions, no_more}
use Rattle.filter_text.specs.View.{axis_of, part_of, test_of, conditions_of, condition_of, front_of, steps_of}
use Rattle.filter_text.specs.MachineView.{conditions_view}
use Rattle.filter_text.specs.Size.{size_of_steps, size_of_conditions, size_of_condition}
use Rattle.filter_text.specs.Writing.{separator, sign, test_text, steps_text, bracketed_text, condition_text, listed_text, others_text}
use Rattle.filter_text.specs.declared.filter.Condition.{Condition as CodeCondition}
use Rattle.filter_text.specs.declared.filter.Step.{Step as CodeStep}
use Rattle.filter_text.proofs.Views.{front-out}

-- ---- sizes

pub condition-size : (cs : List CodeCondition) (i : ℕ) (c : CodeCondition) → i < length cs → c ≡ get_or cs i c → size_of_condition (condition_of c) + 1 ≤ size_of_conditions (conditions_view cs)
condition-size [] i c lt e = absurd (let bad : ⊥ = omega arith in bad)
condition-size (x ∷ cs) zero c lt e = subst (λ (y : CodeCondition). size_of_condition (condition_of y) + 1 ≤ size_of_conditions (conditions_view (x ∷ cs))) (sym e) (omega arith)
condition-size (x ∷ cs) (suc i) c lt e = let r = condition-size cs i c (omega arith) e in omega arith

front-size : (s : CodeStep) (rest : Steps) → size_of_steps (front_of s rest) + 1 ≡ size_of_steps (front_of s arrived) + size_of_steps rest
front-size s rest = let e = ap (λ f. size_of_steps (f rest)) (front-out s) in let f = ap (λ g. size_of_steps (g arrived)) (front-out s) in omega arith

pub step-size : (ss : List CodeStep) (i : ℕ) (s : CodeStep) → i < length ss → s ≡ get_or ss i s → size_of_steps (front_of s arrived) ≤ size_of_steps (steps_of ss)
step-size [] i s lt e = absurd (let bad : ⊥ = omega arith in bad)
step-size (x ∷ ss) zero s lt e =
    subst (λ (y : CodeStep). size_of_steps (front_of y arrived) ≤ size_of_steps (steps_of (x ∷ ss))) (sym e) (let f = front-size x (steps_of ss) in let p = positive (steps_of ss) in omega arith)
  where
    positive : (rest : Steps) → 0 < size_of_steps rest
    positive arrived = omega arith
    positive (step axis part test cs rest) = omega arith
step-size (x ∷ ss) (suc i) s lt e = let r = step-size ss i s (omega arith) e in let f = front-size x (steps_of ss) in let p = sized x in omega arith
  where
    sized : (y : CodeStep) → 0 < size_of_steps (front_of y arrived)
    sized y = let g = ap (λ g. size_of_steps (g arrived)) (front-out y) in omega arith

-- ---- texts

next-item : {A : Type 0} (xs : List A) (i : ℕ) (x : A) → i < length xs → x ≡ get_or xs i x → drop i xs ≡ x ∷ drop (i + 1) xs
next-item xs i x lt e = drop-cons xs i x lt ∙ ap (λ y. y ∷ drop (suc i) xs) (sym e) ∙ ap (λ n. x ∷ drop n xs) (sym (add-one i))

-- one more condition in brackets
pub bracket-more : (cs : List CodeCondition) (i : ℕ) (c : CodeCondition) (a b d : Text) → i < length cs → c ≡ get_or cs i c → b ≡ ((a ++ codes "[") ++ condition_text false (condition_of c)) ++ codes "]" → a ++ bracketed_text (conditions_view (drop i cs)) ≡ d →
    b ++ bracketed_text (conditions_view (drop (i + 1) cs)) ≡ d
bracket-more cs i c a b d lt e is h =
    let split = next-item cs i c lt e in
    let rest = bracketed_text (conditions_view (drop (i + 1) cs)) in
    let regroup : (((a ++ codes "[") ++ condition_text false (condition_of c)) ++ codes "]") ++ rest ≡ a ++ (((codes "[" ++ condition_text false (condition_of c)) ++ codes "]") ++ rest) = simp append_assoc in
    ap (λ x. x ++ rest) is ∙ regroup ∙ ap (λ x. a ++ bracketed_text (conditions_view x)) (sym split) ∙ h

positive-test : (n : ℕ) → 0 < n → nat_eq n 0 ≡ false
positive-test n lt = grind (arith, nat_tests)

-- the rest of a list, from its front or behind some
abbrev pub listed_from : ℕ → Text → Bool → Conditions → Text
listed_from i word in_and cs = cond (nat_eq i 0) (listed_text word in_and cs) (others_text word in_and cs)

pub list-first : (cs : List CodeCondition) (word : Text) (in_and : Bool) (c : CodeCondition) (i : ℕ) (a b d : Text) → i < length cs → c ≡ get_or cs i c → i ≡ 0 → b ≡ a ++ condition_text in_and (condition_of c) →
    a ++ listed_from i word in_and (conditions_view (drop i cs)) ≡ d → b ++ listed_from (i + 1) word in_and (conditions_view (drop (i + 1) cs)) ≡ d
list-first cs word in_and c i a b d lt e zero_i is h =
    let split = next-item cs i c lt e in
    let rest = others_text word in_and (conditions_view (drop (i + 1) cs)) in
    let behind : listed_from (i + 1) word in_and (conditions_view (drop (i + 1) cs)) ≡ rest = (let n = positive-test (i + 1) (omega arith) in rw n refl) in
    let front : listed_from i word in_and (conditions_view (c ∷ drop (i + 1) cs)) ≡ condition_text in_and (condition_of c) ++ rest = (let n : nat_eq i 0 ≡ true = rw zero_i refl in rw n refl) in
    ap (λ x. b ++ x) behind ∙ ap (λ x. x ++ rest) is ∙ append_assoc a (condition_text in_and (condition_of c)) rest ∙ ap (λ x. a ++ x) (sym front) ∙ ap (λ x. a ++ listed_from i word in_and (conditions_view x)) (sym split) ∙ h

pub list-more : (cs : List CodeCondition) (word : Text) (in_and : Bool) (c : CodeCondition) (i : ℕ) (a b d : Text) → i < length cs → c ≡ get_or cs i c → 0 < i → b ≡ (a ++ word) ++ condition_text in_and (condition_of c) →
    a ++ listed_from i word in_and (conditions_view (drop i cs)) ≡ d → b ++ listed_from (i + 1) word in_and (conditions_view (drop (i + 1) cs)) ≡ d
list-more cs word in_and c zero a b d lt e some is h = absurd (let bad : ⊥ = omega arith in bad)
list-more cs word in_and c (suc i) a b d lt e some is h =
    let split = next-item cs (suc i) c lt e in
    let rest = others_text word in_and (conditions_view (drop (suc i + 1) cs)) in
    let behind : listed_from (suc i + 1) word in_and (conditions_view (drop (suc i + 1) cs)) ≡ rest = (let n = positive-test (suc i + 1) (omega arith) in rw n refl) in
    let regroup : ((a ++ word) ++ condition_text in_and (condition_of c)) ++ rest ≡ a ++ ((word ++ condition_text in_and (condition_of c)) ++ rest) = simp append_assoc in
    let there : listed_from (suc i) word in_and (conditions_view (drop (suc i) cs)) ≡ others_text word in_and (conditions_view (drop (suc i) cs)) = (let n = positive-test (suc i) (omega arith) in rw n refl) in
    ap (λ x. b ++ x) behind ∙ ap (λ x. x ++ rest) is ∙ regroup ∙ ap (λ x. a ++ others_text word in_and (conditions_view x)) (sym split) ∙ ap (λ x. a ++ x) (sym there) ∙ h

-- the end of a list
pub list-end : (cs : List CodeCondition) (word : Text) (in_and : Bool) (i : ℕ) → length cs ≤ i → listed_from i word in_and (conditions_view (drop i cs)) ≡ []
list-end [] word in_and zero le = refl
list-end [] word in_and (suc i) le = nothing (nat_eq (suc i) 0)
  where
    nothing : (b : Bool) → cond b (listed_text word in_and no_more) (others_text word in_and no_more) ≡ []
    nothing true = refl
    nothing false = refl
list-end (c ∷ cs) word in_and zero le = absurd (let bad : ⊥ = omega arith in bad)
list-end (c ∷ cs) word in_and (suc i) le = (let n = positive-test (suc i) (omega arith) in rw n (past cs i (omega arith)))
  where
    past : (xs : List CodeCondition) (n : ℕ) → length xs ≤ n → others_text word in_and (conditions_view (drop n xs)) ≡ []
    past [] zero l = refl
    past [] (suc n) l = refl
    past (x ∷ xs) zero l = absurd (let bad : ⊥ = omega arith in bad)
    past (x ∷ xs) (suc n) l = past xs n (omega arith)

-- a step behind its separator, and those behind it
step-text : (separated : Bool) (s : CodeStep) (rest : Steps) → steps_text separated (front_of s rest) ≡ (cond separated (separator (axis_of s.axis)) [] ++ steps_text false (front_of s arrived)) ++ steps_text true rest
step-text separated s rest =
    let e = ap (λ f. steps_text separated (f rest)) (front-out s) in
    let f = ap (λ f. steps_text false (f arrived)) (front-out s) in
    e ∙ regroup (cond separated (separator (axis_of s.axis)) []) (sign (part_of s.part)) (test_text (test_of s.test)) (bracketed_text (conditions_of (map condition_of s.conditions))) (steps_text true rest)
    ∙ ap (λ x. (cond separated (separator (axis_of s.axis)) [] ++ x) ++ steps_text true rest) (sym f)
  where
    regroup : (a b c d r : Text) → (((a ++ b) ++ c) ++ d) ++ r ≡ (a ++ (((([] ++ b) ++ c) ++ d) ++ [])) ++ r
    regroup a b c d r = simp (append_assoc, append-nil)

pub steps-more : (ss : List CodeStep) (i : ℕ) (s : CodeStep) (separated : Bool) (a b d : Text) → i < length ss → s ≡ get_or ss i s → b ≡ (a ++ cond separated (separator (axis_of s.axis)) []) ++ steps_text false (front_of s arrived) →
    a ++ steps_text separated (steps_of (drop i ss)) ≡ d → b ++ steps_text true (steps_of (drop (i + 1) ss)) ≡ d
steps-more ss i s separated a b d lt e is h =
    let split = next-item ss i s lt e in
    let rest = steps_of (drop (i + 1) ss) in
    let p = cond separated (separator (axis_of s.axis)) [] in
    let t = steps_text false (front_of s arrived) in
    ap (λ x. x ++ steps_text true rest) is ∙ (let r : ((a ++ p) ++ t) ++ steps_text true rest ≡ a ++ ((p ++ t) ++ steps_text true rest) = simp append_assoc in r)
    ∙ ap (λ x. a ++ x) (sym (step-text separated s rest)) ∙ ap (λ x. a ++ steps_text separated (steps_of x)) (sym split) ∙ h

-- ---- a call that writes the last part

pub ok-is : {E : Type 0} (r : Result (Unit {0}) E) (z d e : Text) → OnOk r (z ≡ d) → d ≡ e → OnOk r (z ≡ e)
ok-is (Ok u) z d e h f = h ∙ f
ok-is (Err x) z d e h f = tt

pub three-parts : {E : Type 0} (r : Result (Unit {0}) E) (o a b c x y z w : Text) → x ≡ o ++ a → y ≡ x ++ b → OnOk r (z ≡ y ++ c) → (a ++ b) ++ c ≡ w → OnOk r (z ≡ o ++ w)
three-parts r o a b c x y z w e f h g =
    ok-is r z (y ++ c) (o ++ w) h
    (ap (λ t. t ++ c) (f ∙ ap (λ t. t ++ b) e) ∙ (let regroup : ((o ++ a) ++ b) ++ c ≡ o ++ ((a ++ b) ++ c) = simp append_assoc in regroup) ∙ ap (λ t. o ++ t) g)

pub with-separator : (separated : Bool) (a s o : Text) → separated ≡ true → o ≡ a ++ s → o ≡ a ++ cond separated s []
with-separator separated a s o e h = rw e h

pub without-separator : (separated : Bool) (a s o : Text) → separated ≡ false → o ≡ a → o ≡ a ++ cond separated s []
without-separator separated a s o e h = rw e (h ∙ sym (append-nil a))
