-- Identifiers and their numbers.
use Rattle.std.proofs.Common.{◌≡◌, ◌∙◌, ap, sym, refl, subst, inl, inr, ◌⊎◌, ℕ, zero, suc, ◌+◌, ◌<◌, Bool, true, false, ◌||◌, cond, not, List, [], ◌∷◌, ◌++◌, length, map, get_or, take, Option, Some, None, Contains, arith}
use Rattle.std.specs.Prelude.{◌↔◌, IfOk, IsOk, OnOk, Result, Ok, Err}
use Rattle.std.specs.Global.{Vec}
use Rattle.std.specs.List.{slice_get, list_any, filter}
use Rattle.std.specs.Map.{lookup}
use Rattle.std.specs.Str.{bytes_eq}
use Rattle.std.proofs.lemmas.List.{append-nil, take_more}
use Rattle.std.proofs.lemmas.List.Elements.{filter-append}
use Rattle.std.proofs.lemmas.Option.{slice_get_within, slice_get-get_or, get_or_from_slice_get, same_Some}
use Rattle.std.proofs.lemmas.Slice.Eq.{bytes_eq-Decides}
use Rattle.cite_index.specs.Names.{AreDistinct, AreNumbers, is_in, number_in, plain, with_name}
use Rattle.cite_index.specs.Threads.{firsts}

pub same_bytes : (x y : List ℕ) → bytes_eq x y ≡ true → x ≡ y
same_bytes x y h = (bytes_eq-Decides x y).0 h

pub bytes_same : (x y : List ℕ) → x ≡ y → bytes_eq x y ≡ true
bytes_same x y h = (bytes_eq-Decides x y).1 h

pub bytes_self : (x : List ℕ) → bytes_eq x x ≡ true
bytes_self x = bytes_same x x refl

pub true_or_false : (b : Bool) → (b ≡ true) ⊎ (b ≡ false)
true_or_false true = inl refl
true_or_false false = inr refl

pub both_truths : (a b : Bool) → (a ≡ true → b ≡ true) → (b ≡ true → a ≡ true) → a ≡ b
both_truths true b to back = sym (to refl)
both_truths false true to back = back refl
both_truths false false to back = refl

pub or_right : (a b : Bool) → b ≡ true → (a || b) ≡ true
or_right true b h = refl
or_right false b h = h

pub none_is_some : {X : Type 0} (x : X) → None ≡ Some x → ⊥
none_is_some x e = cc

-- ---- places

pub at_front : {X : Type 0} (xs ys : List X) (k : ℕ) (x : X) → slice_get xs k ≡ Some x → slice_get (xs ++ ys) k ≡ Some x
at_front [] ys k x e = absurd (none_is_some x e)
at_front (y ∷ xs) ys zero x e = e
at_front (y ∷ xs) ys (suc k) x e = at_front xs ys k x e

pub at_last : {X : Type 0} (xs : List X) (x : X) → slice_get (xs ++ x ∷ []) (length xs) ≡ Some x
at_last [] x = refl
at_last (y ∷ xs) x = at_last xs x

pub at_push : {X : Type 0} (xs : List X) (y : X) (k : ℕ) (x : X) → slice_get (xs ++ y ∷ []) k ≡ Some x → (slice_get xs k ≡ Some x) ⊎ ((k ≡ length xs) × (y ≡ x))
at_push [] y zero x e = inr (refl, same_Some y x e)
at_push [] y (suc k) x e = absurd (none_is_some x e)
at_push (z ∷ xs) y zero x e = inl e
at_push (z ∷ xs) y (suc k) x e = elim (at_push xs y k x e) as (λ v. (slice_get xs k ≡ Some x) ⊎ ((suc k ≡ suc (length xs)) × (y ≡ x))) [ inl l ↦ inl l | inr r ↦ inr (ap suc r.0, r.1) ]

pub at_of_contains : {X : Type 0} (xs : List X) (x : X) → Contains xs x → (k : ℕ) × (slice_get xs k ≡ Some x)
at_of_contains xs x h = (h.0, slice_get-get_or xs h.0 x h.1 ∙ ap (λ y. Some y) h.2)

pub contains_of_at : {X : Type 0} (xs : List X) (k : ℕ) (x : X) → slice_get xs k ≡ Some x → Contains xs x
contains_of_at xs k x e = (k, slice_get_within xs k x e, get_or_from_slice_get xs k x x e)

-- ---- membership

in_step : (y : List ℕ) (ys : List (List ℕ)) (x : List ℕ) (b : Bool) → bytes_eq y x ≡ b → (b || is_in ys x) ≡ true → (is_in ys x ≡ true → (k : ℕ) × (slice_get ys k ≡ Some x)) → (k : ℕ) × (slice_get (y ∷ ys) k ≡ Some x)
in_step y ys x true e h rec = (0, ap (λ z. Some z) (same_bytes y x e))
in_step y ys x false e h rec = let r = rec h in (suc r.0, r.1)

pub at_of_in : (xs : List (List ℕ)) (x : List ℕ) → is_in xs x ≡ true → (k : ℕ) × (slice_get xs k ≡ Some x)
at_of_in [] x e = let n : false ≡ true = e in absurd (cc n)
at_of_in (y ∷ ys) x e = in_step y ys x (bytes_eq y x) refl e (at_of_in ys x)

pub in_of_at : (xs : List (List ℕ)) (k : ℕ) (x : List ℕ) → slice_get xs k ≡ Some x → is_in xs x ≡ true
in_of_at [] k x e = absurd (none_is_some x e)
in_of_at (y ∷ ys) zero x e = ap (λ b. b || is_in ys x) (bytes_same y x (same_Some y x e))
in_of_at (y ∷ ys) (suc k) x e = or_right (bytes_eq y x) (is_in ys x) (in_of_at ys k x e)

pub not_at : (xs : List (List ℕ)) (x : List ℕ) → ((k : ℕ) → slice_get xs k ≡ Some x → ⊥) → is_in xs x ≡ false
not_at xs x none = elim (true_or_false (is_in xs x)) as (λ v. is_in xs x ≡ false) [
  | inl h ↦ let r = at_of_in xs x h in absurd (none r.0 r.1)
  | inr h ↦ h
]

pub in_front : (xs ys : List (List ℕ)) (x : List ℕ) → is_in xs x ≡ true → is_in (xs ++ ys) x ≡ true
in_front xs ys x h = let r = at_of_in xs x h in in_of_at (xs ++ ys) r.0 x (at_front xs ys r.0 x r.1)

-- ---- a name more

name_old : (names : List (List ℕ)) (x : List ℕ) → is_in names x ≡ true → with_name names x ≡ names
name_old names x h = rw h refl

name_new : (names : List (List ℕ)) (x : List ℕ) → is_in names x ≡ false → with_name names x ≡ names ++ x ∷ []
name_new names x h = rw h refl

pub name_kept : (names : List (List ℕ)) (k : ℕ) (x : List ℕ) → slice_get names k ≡ Some x → names ≡ with_name names x
name_kept names k x e = sym (name_old names x (in_of_at names k x e))

pub name_pushed : (names : List (List ℕ)) (x : List ℕ) → ((k : ℕ) → slice_get names k ≡ Some x → ⊥) → names ++ x ∷ [] ≡ with_name names x
name_pushed names x none = sym (name_new names x (not_at names x none))

pub name_front : (names : List (List ℕ)) (x : List ℕ) → (more : List (List ℕ)) × (with_name names x ≡ names ++ more)
name_front names x = elim (true_or_false (is_in names x)) as (λ v. (more : List (List ℕ)) × (with_name names x ≡ names ++ more)) [
  | inl h ↦ ([], name_old names x h ∙ sym (append-nil names))
  | inr h ↦ (x ∷ [], name_new names x h)
]

-- ---- the map

pub lookup_plain : (x : List ℕ) (es : List (Vec ℕ × ℕ)) → lookup (λ (k : Vec ℕ). bytes_eq x k.items) es ≡ number_in (plain es) x
lookup_plain x [] = refl
lookup_plain x (e ∷ es) = ap (cond (bytes_eq x e.0.items) (Some e.1)) (lookup_plain x es)

cond_front : (b : Bool) (v n : ℕ) (r q : Option ℕ) → cond b (Some v) r ≡ Some n → (r ≡ Some n → q ≡ Some n) → cond b (Some v) q ≡ Some n
cond_front true v n r q h rec = h
cond_front false v n r q h rec = rec h

found_front : (x : List ℕ) (es more : List (List ℕ × ℕ)) (n : ℕ) → number_in es x ≡ Some n → number_in (es ++ more) x ≡ Some n
found_front x [] more n e = absurd (none_is_some n e)
found_front x (e ∷ es) more n h = cond_front (bytes_eq x e.0) e.1 n _ _ h (found_front x es more n)

cond_push : (P : Type 0) (b : Bool) (v n : ℕ) (r q : Option ℕ) → cond b (Some v) q ≡ Some n → (q ≡ Some n → (r ≡ Some n) ⊎ P) → (cond b (Some v) r ≡ Some n) ⊎ P
cond_push P true v n r q h rec = inl h
cond_push P false v n r q h rec = rec h

cond_one : (c b : Bool) (m n : ℕ) → c ≡ b → cond b (Some m) None ≡ Some n → (None ≡ Some n) ⊎ ((c ≡ true) × (m ≡ n))
cond_one c true m n e h = inr (e, same_Some m n h)
cond_one c false m n e h = inl h

found_push : (x y : List ℕ) (es : List (List ℕ × ℕ)) (m n : ℕ) → number_in (es ++ (y, m) ∷ []) x ≡ Some n → (number_in es x ≡ Some n) ⊎ ((bytes_eq x y ≡ true) × (m ≡ n))
found_push x y [] m n h = cond_one (bytes_eq x y) (bytes_eq x y) m n refl h
found_push x y (e ∷ es) m n h = cond_push ((bytes_eq x y ≡ true) × (m ≡ n)) (bytes_eq x e.0) e.1 n _ _ h (found_push x y es m n)

cond_last : (b : Bool) (v m : ℕ) (r q : Option ℕ) → ((n : ℕ) → cond b (Some v) r ≡ Some n → ⊥) → (((n : ℕ) → r ≡ Some n → ⊥) → q ≡ Some m) → cond b (Some v) q ≡ Some m
cond_last true v m r q none rec = absurd (none v refl)
cond_last false v m r q none rec = rec none

found_last : (x : List ℕ) (es : List (List ℕ × ℕ)) (m : ℕ) → ((n : ℕ) → number_in es x ≡ Some n → ⊥) → number_in (es ++ (x, m) ∷ []) x ≡ Some m
found_last x [] m none = ap (λ b. cond b (Some m) None) (bytes_self x)
found_last x (e ∷ es) m none = cond_last (bytes_eq x e.0) e.1 m _ _ none (found_last x es m)

numbers_to : (es : List (List ℕ × ℕ)) (names : List (List ℕ)) (x : List ℕ) → ((y : List ℕ) (n : ℕ) → (number_in es y ≡ Some n) ↔ (slice_get names n ≡ Some y)) → (y : List ℕ) (n : ℕ) → number_in (es ++ (x, length names) ∷ []) y ≡ Some n → slice_get (names ++ x ∷ []) n ≡ Some y
numbers_to es names x same y n h =
    elim (found_push y x es (length names) n h) as (λ v. slice_get (names ++ x ∷ []) n ≡ Some y) [
      | inl l ↦ at_front names (x ∷ []) n y ((same y n).0 l)
      | inr r ↦ subst (λ (k : ℕ). slice_get (names ++ x ∷ []) k ≡ Some y) r.1 (at_last names x ∙ ap (λ (z : List ℕ). Some z) (sym (same_bytes y x r.0)))
    ]

numbers_from : (es : List (List ℕ × ℕ)) (names : List (List ℕ)) (x : List ℕ) → ((y : List ℕ) (n : ℕ) → (number_in es y ≡ Some n) ↔ (slice_get names n ≡ Some y)) → ((n : ℕ) → slice_get names n ≡ Some x → ⊥) → (y : List ℕ) (n : ℕ) → slice_get (names ++ x ∷ []) n ≡ Some y → number_in (es ++ (x, length names) ∷ []) y ≡ Some n
numbers_from es names x same new y n h =
    elim (at_push names x n y h) as (λ v. number_in (es ++ (x, length names) ∷ []) y ≡ Some n) [
      | inl l ↦ found_front y es ((x, length names) ∷ []) n ((same y n).1 l)
      | inr r ↦
          let here : number_in (es ++ (x, length names) ∷ []) x ≡ Some (length names) = found_last x es (length names) (λ m e. new m ((same x m).0 e)) in
          subst (λ (z : List ℕ). number_in (es ++ (x, length names) ∷ []) z ≡ Some n) r.1 (here ∙ ap (λ (k : ℕ). Some k) (sym r.0))
    ]

pub numbers_more : (old new : List (Vec ℕ × ℕ)) (names : List (List ℕ)) (x : List ℕ) → AreNumbers old names → ((n : ℕ) → slice_get names n ≡ Some x → ⊥) → plain new ≡ plain old ++ (x, length names) ∷ [] → AreNumbers new (names ++ x ∷ [])
numbers_more old new names x same none e y n =
    let P : List (List ℕ × ℕ) → Type 0 = λ es. (number_in es y ≡ Some n) ↔ (slice_get (names ++ x ∷ []) n ≡ Some y) in
    subst P (sym e) (numbers_to (plain old) names x same y n, numbers_from (plain old) names x same none y n)

pub numbers_distinct : (es : List (Vec ℕ × ℕ)) (names : List (List ℕ)) → AreNumbers es names → AreDistinct names
numbers_distinct es names same n m x e f = same_Some n m (sym ((same x n).1 e) ∙ (same x m).1 f)

pub no_numbers : (x : List ℕ) (n : ℕ) → (number_in [] x ≡ Some n) ↔ (slice_get [] n ≡ Some x)
no_numbers x n = ((λ h. absurd (none_is_some n h)), (λ h. absurd (none_is_some x h)))

-- ---- each once, where it stands first

differ : (b : Bool) → b ≡ true → b ≡ false → ⊥
differ b h k = cc

filter_step : (p : List ℕ → Bool) (y : List ℕ) (ys rest : List (List ℕ)) (x : List ℕ) (b : Bool) → p x ≡ true → p y ≡ b → is_in rest x ≡ is_in ys x → is_in (cond b (y ∷ rest) rest) x ≡ (bytes_eq y x || is_in ys x)
filter_step p y ys rest x true h e rec = ap (λ b. bytes_eq y x || b) rec
filter_step p y ys rest x false h e rec =
    elim (true_or_false (bytes_eq y x)) as (λ v. is_in rest x ≡ (bytes_eq y x || is_in ys x)) [
      | inl s ↦ absurd (differ (p y) (ap p (same_bytes y x s) ∙ h) e)
      | inr s ↦ rec ∙ ap (λ b. b || is_in ys x) (sym s)
    ]

pub in_filter : (p : List ℕ → Bool) (xs : List (List ℕ)) (x : List ℕ) → p x ≡ true → is_in (filter p xs) x ≡ is_in xs x
in_filter p [] x h = refl
in_filter p (y ∷ ys) x h = filter_step p y ys (filter p ys) x (p y) h refl (in_filter p ys x h)

no_filter : (p : List ℕ → Bool) (x : List ℕ) (b : Bool) → p x ≡ b → filter p (x ∷ []) ≡ cond b (x ∷ []) []
no_filter p x b e = ap (λ v. cond v (x ∷ []) []) e

abbrev other : List ℕ → List ℕ → Bool
other y z = not (bytes_eq z y)

bytes_turned : (x y : List ℕ) → bytes_eq x y ≡ bytes_eq y x
bytes_turned x y = both_truths (bytes_eq x y) (bytes_eq y x) (λ h. bytes_same y x (sym (same_bytes x y h))) (λ h. bytes_same x y (sym (same_bytes y x h)))

in_firsts_step : (y : List ℕ) (ys rest : List (List ℕ)) (x : List ℕ) (b : Bool) → bytes_eq y x ≡ b → is_in rest x ≡ is_in ys x → (b || is_in (filter (other y) rest) x) ≡ (b || is_in ys x)
in_firsts_step y ys rest x true e rec = refl
in_firsts_step y ys rest x false e rec = in_filter (other y) rest x (ap not (bytes_turned x y ∙ e)) ∙ rec

pub in_firsts : (xs : List (List ℕ)) (x : List ℕ) → is_in (firsts xs) x ≡ is_in xs x
in_firsts [] x = refl
in_firsts (y ∷ ys) x = in_firsts_step y ys (firsts ys) x (bytes_eq y x) refl (in_firsts ys x)

-- the first mentions with an identifier more
push_seen : (y : List ℕ) (seen rest : List (List ℕ)) (x : List ℕ) (b c : Bool) → bytes_eq y x ≡ b → is_in rest x ≡ c → y ∷ filter (other y) (cond c rest (rest ++ x ∷ [])) ≡ cond (b || is_in (filter (other y) rest) x) (y ∷ filter (other y) rest) ((y ∷ filter (other y) rest) ++ x ∷ [])
push_seen y seen rest x true true e f = refl
push_seen y seen rest x true false e f =
    let gone : filter (other y) (x ∷ []) ≡ [] = no_filter (other y) x false (ap not (bytes_turned x y ∙ e)) in
    ap (λ (l : List (List ℕ)). y ∷ l) (filter-append (other y) rest (x ∷ []) ∙ (ap (λ (l : List (List ℕ)). filter (other y) rest ++ l) gone ∙ append-nil (filter (other y) rest)))
push_seen y seen rest x false true e f =
    let still : is_in (filter (other y) rest) x ≡ true = in_filter (other y) rest x (ap not (bytes_turned x y ∙ e)) ∙ f in
    ap (λ (v : Bool). cond v (y ∷ filter (other y) rest) ((y ∷ filter (other y) rest) ++ x ∷ [])) (sym still)
push_seen y seen rest x false false e f =
    let still : is_in (filter (other y) rest) x ≡ false = in_filter (other y) rest x (ap not (bytes_turned x y ∙ e)) ∙ f in
    let kept : filter (other y) (x ∷ []) ≡ x ∷ [] = no_filter (other y) x true (ap not (bytes_turned x y ∙ e)) in
    ap (λ (l : List (List ℕ)). y ∷ l) (filter-append (other y) rest (x ∷ []) ∙ ap (λ (l : List (List ℕ)). filter (other y) rest ++ l) kept) ∙ ap (λ (v : Bool). cond v (y ∷ filter (other y) rest) ((y ∷ filter (other y) rest) ++ x ∷ [])) (sym still)

pub firsts_push : (xs : List (List ℕ)) (x : List ℕ) → firsts (xs ++ x ∷ []) ≡ with_name (firsts xs) x
firsts_push [] x = refl
firsts_push (y ∷ ys) x = ap (λ (l : List (List ℕ)). y ∷ filter (other y) l) (firsts_push ys x) ∙ push_seen y ys (firsts ys) x (bytes_eq y x) (is_in (firsts ys) x) refl refl

pub finds : (es : List (Vec ℕ × ℕ)) (names shown : List (List ℕ)) (x : List ℕ) (found : Option ℕ) → names ≡ shown → AreNumbers es names → found ≡ number_in (plain es) x → (n : ℕ) → (found ≡ Some n) ↔ (slice_get shown n ≡ Some x)
finds es names shown x found same numbers is n =
    let there : found ≡ Some n → slice_get shown n ≡ Some x = λ e. subst (λ (l : List (List ℕ)). slice_get l n ≡ Some x) same ((numbers x n).0 (sym is ∙ e)) in
    let back : slice_get shown n ≡ Some x → found ≡ Some n = λ e. is ∙ (numbers x n).1 (subst (λ (l : List (List ℕ)). slice_get l n ≡ Some x) (sym same) e) in
    (there, back)

pub not_found : (names : List (List ℕ)) (x : List ℕ) (found : Option ℕ) → found ≡ None → ((n : ℕ) → (found ≡ Some n) ↔ (slice_get names n ≡ Some x)) → (n : ℕ) → slice_get names n ≡ Some x → ⊥
not_found names x found none same n e = none_is_some n (sym none ∙ (same n).1 e)

pub last_named : {E : Type 0} (r : Result ℕ E) (old new : List (List ℕ)) (x : List ℕ) → IfOk r (λ n. n ≡ length old) → OnOk r (new ≡ old ++ x ∷ []) → IfOk r (λ n. slice_get new n ≡ Some x)
last_named (Ok n) old new x at is = ap (slice_get new) at ∙ (ap (λ (l : List (List ℕ)). slice_get l (length old)) is ∙ at_last old x)
last_named (Err e) old new x at is = at

pub named_behind : {E : Type 0} (r : Result ℕ E) (old new : List (List ℕ)) (x : List ℕ) → ((k : ℕ) → slice_get old k ≡ Some x → ⊥) → OnOk r (new ≡ old ++ x ∷ []) → OnOk r (new ≡ with_name old x)
named_behind (Ok n) old new x none is = is ∙ name_pushed old x none
named_behind (Err e) old new x none is = is

pub on_ok : {T E : Type 0} (r : Result T E) (P : Type 0) → IsOk r → OnOk r P → P
on_ok (Ok x) P is holds = holds
on_ok (Err e) P is holds = absurd (cc is)

pub one_more : {X : Type 0} (xs : List X) (i : ℕ) (x : X) → i < length xs → x ≡ get_or xs i x → take (i + 1) xs ≡ take i xs ++ x ∷ []
one_more xs i x h e = take_more xs i x h ∙ ap (λ y. take i xs ++ y ∷ []) (sym e)

pub named_front : (old new : List (List ℕ)) (x : List ℕ) → new ≡ with_name old x → (more : List (List ℕ)) × (new ≡ old ++ more)
named_front old new x is = let f = name_front old x in (f.0, is ∙ f.1)

no_option : (o : Option ℕ) → ((n : ℕ) → o ≡ Some n → ⊥) → o ≡ None
no_option None h = refl
no_option (Some n) h = absurd (h n refl)

pub not_numbered : (es : List (Vec ℕ × ℕ)) (names : List (List ℕ)) (x : List ℕ) → AreNumbers es names → ((n : ℕ) → slice_get names n ≡ Some x → ⊥) → number_in (plain es) x ≡ None
not_numbered es names x same new = no_option (number_in (plain es) x) (λ n e. new n ((same x n).0 e))
