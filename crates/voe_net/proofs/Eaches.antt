-- Lists that are compared place by place.
use Rattle.std.proofs.Common.{◌≡◌, ℕ, zero, suc, ◌+◌, ◌<◌, List, [], ◌∷◌, ◌++◌, Some, ◌⊎◌, inl, inr, length, get_or, refl, sym, ◌∙◌, ap, arith, add-zero, length-append}
use Rattle.std.specs.Prelude.{map, slice_get, slice_set}
use Rattle.std.proofs.lemmas.Option.{slice_get_within}
use Rattle.net_model.proofs.Members.{get-set, length-slice_set}
use Rattle.voe_net.specs.Each.{Each}

pub some-same : {X : Type 0} (x y : X) → Some x ≡ Some y → x ≡ y
some-same x y h = cc

pub get-there : {X : Type 0} (xs : List X) (n : ℕ) → n < length xs → (x : X) × (slice_get xs n ≡ Some x)
get-there [] n h = absurd (omega arith)
get-there (x ∷ xs) zero h = (x, refl)
get-there (x ∷ xs) (suc n) h = get-there xs n (omega arith)

pub get-within : {X : Type 0} (xs : List X) (k : ℕ) (x d : X) → k < length xs → x ≡ get_or xs k d → slice_get xs k ≡ Some x
get-within [] k x d h is = absurd (omega arith)
get-within (y ∷ ys) zero x d h is = ap Some (sym is)
get-within (y ∷ ys) (suc k) x d h is = get-within ys k x d (omega arith) is

-- an item of two lists is one of the first, or one of the second
pub get-either : {X : Type 0} (xs ys : List X) (n : ℕ) (z : X) → slice_get (xs ++ ys) n ≡ Some z
    → (slice_get xs n ≡ Some z) ⊎ ((m : ℕ) × (n ≡ length xs + m) × (slice_get ys m ≡ Some z))
get-either [] ys n z h = inr (n, omega arith, h)
get-either (x ∷ xs) ys zero z h = inl h
get-either (x ∷ xs) ys (suc n) z h = elim (get-either xs ys n z h) [
  | inl first ↦ inl first
  | inr second ↦ let m = second.0 in let at : n ≡ length xs + m = second.1 in inr (m, omega arith, second.2)
]

-- two lists with the same items
pub lists-same : {X : Type 0} (xs ys : List X) → length xs ≡ length ys
    → ((n : ℕ) (x y : X) → slice_get xs n ≡ Some x → slice_get ys n ≡ Some y → x ≡ y) → xs ≡ ys
lists-same [] [] same each = refl
lists-same [] (y ∷ ys) same each = absurd (omega arith)
lists-same (x ∷ xs) [] same each = absurd (omega arith)
lists-same (x ∷ xs) (y ∷ ys) same each =
    let head : x ≡ y = each 0 x y refl refl in
    let tail : xs ≡ ys = lists-same xs ys (omega arith) (λ n a b. each (suc n) a b) in
    rw (head, tail) refl

pub map-found : {X Y : Type 0} (f : X → Y) (xs : List X) (n : ℕ) (y : Y) → slice_get (map f xs) n ≡ Some y → (x : X) × (slice_get xs n ≡ Some x) × (y ≡ f x)
map-found f [] n y h = cc
map-found f (x ∷ xs) zero y h = let same : f x ≡ y = cc in (x, refl, sym same)
map-found f (x ∷ xs) (suc n) y h = map-found f xs n y h

pub map-get : {X Y : Type 0} (f : X → Y) (xs : List X) (n : ℕ) (x : X) → slice_get xs n ≡ Some x → slice_get (map f xs) n ≡ Some (f x)
map-get f [] n x h = cc
map-get f (y ∷ ys) zero x h = let same : y ≡ x = cc in rw same refl
map-get f (y ∷ ys) (suc n) x h = map-get f ys n x h

pub map-length : {X Y : Type 0} (f : X → Y) (xs : List X) → length (map f xs) ≡ length xs
map-length f [] = refl
map-length f (x ∷ xs) = omega (arith, map-length f xs)

pub each-none : {A B : Type 0} (R : ℕ → A → B → Type 0) → Each R [] []
each-none R = record { same = refl; each = λ n a b at now. cc }

pub each-append : {A B : Type 0} (R : ℕ → A → B → Type 0) (xs zs : List A) (ys ws : List B) → Each R xs ys → Each (λ n a b. R (length xs + n) a b) zs ws
    → Each R (xs ++ zs) (ys ++ ws)
each-append R xs zs ys ws first second = record {
  same = omega (arith, length-append xs zs, length-append ys ws, first.same, second.same);
  each = λ n a b at now. elim (get-either xs zs n a at) [
    | inl left ↦ elim (get-either ys ws n b now) [
      | inl right ↦ first.each n a b left right
      | inr right ↦ absurd (omega (arith, slice_get_within xs n a left, right.1, first.same))
    ]
    | inr left ↦ elim (get-either ys ws n b now) [
      | inl right ↦ absurd (omega (arith, slice_get_within ys n b right, left.1, first.same))
      | inr right ↦
          let same : left.0 ≡ right.0 = omega (arith, left.1, right.1, first.same) in
          rw left.1 (second.each left.0 a b left.2 (rw same right.2))
    ]
  ];
}

pub each-one : {A B : Type 0} (R : ℕ → A → B → Type 0) (a : A) (b : B) → R 0 a b → Each R (a ∷ []) (b ∷ [])
each-one R a b h = record { same = refl; each = first }
  where
    first : (n : ℕ) (x : _) (y : _) → slice_get (a ∷ []) n ≡ Some x → slice_get (b ∷ []) n ≡ Some y → R n x y
    first zero x y at now = let left : a ≡ x = cc in let right : b ≡ y = cc in rw (← left, ← right) h
    first (suc n) x y at now = cc

-- one item more of each
pub each-snoc : {A B : Type 0} (R : ℕ → A → B → Type 0) (xs : List A) (ys : List B) (a : A) (b : B) → Each R xs ys → R (length xs) a b
    → Each R (xs ++ a ∷ []) (ys ++ b ∷ [])
each-snoc R xs ys a b first h = each-append R xs (a ∷ []) ys (b ∷ []) first (each-one (λ n x y. R (length xs + n) x y) a b (rw add-zero h))

pub each-follow : {A B C : Type 0} (R : ℕ → A → B → Type 0) (S : ℕ → B → C → Type 0) (T : ℕ → A → C → Type 0) (xs : List A) (ys : List B) (zs : List C)
    → Each R xs ys → Each S ys zs → ((n : ℕ) (a : A) (b : B) (c : C) → R n a b → S n b c → T n a c) → Each T xs zs
each-follow R S T xs ys zs first second both = record {
  same = second.same ∙ first.same;
  each = λ n a c at now.
      let between = get-there ys n (omega (arith, slice_get_within xs n a at, first.same)) in
      both n a between.0 c (first.each n a between.0 at between.1) (second.each n between.0 c between.1 now);
}

pub each-weaken : {A B : Type 0} (R S : ℕ → A → B → Type 0) (xs : List A) (ys : List B) → Each R xs ys
    → ((n : ℕ) (a : A) (b : B) → R n a b → S n a b) → Each S xs ys
each-weaken R S xs ys first more = record { same = first.same; each = λ n a b at now. more n a b (first.each n a b at now) }

pub each-self : {A : Type 0} (R : ℕ → A → A → Type 0) (xs : List A) → ((n : ℕ) (a : A) → slice_get xs n ≡ Some a → R n a a) → Each R xs xs
each-self R xs same = record { same = refl; each = λ n a b at now. let is : a ≡ b = some-same a b (sym at ∙ now) in rw (← is) (same n a at) }

-- a map of the one is a map of the other
pub each-maps : {A B C : Type 0} (f : A → C) (g : B → C) (xs : List A) (ys : List B) → Each (λ n a b. g b ≡ f a) xs ys → map g ys ≡ map f xs
each-maps f g xs ys first = lists-same (map g ys) (map f xs) (map-length g ys ∙ first.same ∙ sym (map-length f xs))
    (λ n x y at now.
    let b = map-found g ys n x at in
    let a = map-found f xs n y now in
    b.2 ∙ first.each n a.0 b.0 a.1 b.1 ∙ sym a.2)

-- another item of the second list, related as the one before it was
pub each-set : {A B : Type 0} (R : ℕ → A → B → Type 0) (xs : List A) (ys : List B) (n : ℕ) (was now : B) → Each R xs ys → slice_get ys n ≡ Some was
    → ((a : A) → slice_get xs n ≡ Some a → R n a was → R n a now) → Each R xs (slice_set ys n now)
each-set R xs ys n was now first there step = record {
  same = length-slice_set ys n now ∙ first.same;
  each = λ k a b at is. elim (get-set ys n k now) [
    | inl same ↦ first.each k a b at (sym same ∙ is)
    | inr both ↦
        let here : k ≡ n = both.0 in
        let is_now : now ≡ b = some-same now b (sym both.1 ∙ is) in
        let at_n = rw here at at in
        rw (here, ← is_now) (step a at_n (first.each n a was at_n there))
  ];
}

pub get-seam : {X : Type 0} (xs : List X) (y : X) (ys : List X) → slice_get (xs ++ y ∷ ys) (length xs) ≡ Some y
get-seam [] y ys = refl
get-seam (x ∷ xs) y ys = get-seam xs y ys

pub each-cons : {A B : Type 0} (R : A → B → Type 0) (a : A) (b : B) (xs : List A) (ys : List B) → R a b → Each (λ n x y. R x y) xs ys → Each (λ n x y. R x y) (a ∷ xs) (b ∷ ys)
each-cons R a b xs ys h rest = each-append (λ n x y. R x y) (a ∷ []) xs (b ∷ []) ys (each-one (λ n x y. R x y) a b h) rest
