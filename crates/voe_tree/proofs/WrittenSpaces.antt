-- The namespaces that take numbers.
use Rattle.std.proofs.Common.{◌≡◌, Bool, true, false, List, [], ◌∷◌, ◌++◌, refl, sym, ◌∙◌, ap}
use Rattle.std.specs.Prelude.{◌||◌, ◌&&◌, not, if◌then◌else◌}
use Rattle.std.specs.List.{list_any}
use Rattle.xml_lexer.specs.Characters.{Text}
use Rattle.xml_lexer.specs.Spelling.{same}
use Rattle.voe_tree.specs.declared.element.Attribute.{Attribute}
use Rattle.voe_tree.specs.Canonical.{add_space, add_spaces, is_numbered, numbered_spaces}
use Rattle.voe_tree.proofs.WrittenNames.{is-same}

or_true : (a b : Bool) → b ≡ true → (a || b) ≡ true
or_true true b h = refl
or_true false b h = h

any_front : (p : Text → Bool) (xs ys : List Text) → list_any p xs ≡ true → list_any p (xs ++ ys) ≡ true
any_front p [] ys h = cc
any_front p (x ∷ xs) ys h =
    let both : (t : Bool) → p x ≡ t → list_any p ((x ∷ xs) ++ ys) ≡ true =
    λ t. elim t as (λ u. p x ≡ u → list_any p ((x ∷ xs) ++ ys) ≡ true) [
      | true ↦ λ e. ap (λ b. b || list_any p (xs ++ ys)) e
      | false ↦ λ e. ap (λ b. b || list_any p (xs ++ ys)) e ∙ any_front p xs ys (ap (λ b. b || list_any p xs) (sym e) ∙ h)
    ] in
    both (p x) refl

any_back : (p : Text → Bool) (xs ys : List Text) → list_any p ys ≡ true → list_any p (xs ++ ys) ≡ true
any_back p [] ys h = h
any_back p (x ∷ xs) ys h = or_true (p x) (list_any p (xs ++ ys)) (any_back p xs ys h)

-- a namespace that has a number keeps it
has_still : (x space : Text) (spaces : List Text) → list_any (same x) spaces ≡ true → list_any (same x) (add_space spaces space) ≡ true
has_still x space spaces h =
    let both : (t : Bool) → list_any (same x) (if t then spaces ++ space ∷ [] else spaces) ≡ true =
    λ t. elim t as (λ u. list_any (same x) (if u then spaces ++ space ∷ [] else spaces) ≡ true) [ true ↦ any_front (same x) spaces (space ∷ []) h | false ↦ h ] in
    both (is_numbered space && not (list_any (same space) spaces))

has_still_all : (x : Text) (attributes : List Attribute) (spaces : List Text) → list_any (same x) spaces ≡ true → list_any (same x) (add_spaces spaces attributes) ≡ true
has_still_all x [] spaces h = h
has_still_all x (a ∷ more) spaces h = has_still_all x more (add_space spaces a.space) (has_still x a.space spaces h)

not_there : (a b : Bool) → a ≡ true → b ≡ false → (a && not b) ≡ true
not_there true b h k = ap not k
not_there false b h k = cc

-- a namespace that is added has a number
has_now : (space : Text) (spaces : List Text) → is_numbered space ≡ true → list_any (same space) (add_space spaces space) ≡ true
has_now space spaces h =
    let both : (t : Bool) → list_any (same space) spaces ≡ t → list_any (same space) (add_space spaces space) ≡ true =
    λ t. elim t as (λ u. list_any (same space) spaces ≡ u → list_any (same space) (add_space spaces space) ≡ true) [
      | true ↦ λ e. has_still space space spaces e
      | false ↦ λ e. ap (λ b. list_any (same space) (if b then spaces ++ space ∷ [] else spaces)) (not_there (is_numbered space) (list_any (same space) spaces) h e)
          ∙ any_back (same space) spaces (space ∷ []) (ap (λ b. b || false) (is-same space space refl))
    ] in
    both (list_any (same space) spaces) refl

-- each namespace of the attributes that takes a number has one
abbrev pub HasNumbers : List Text → List Attribute → Type 0
HasNumbers spaces [] = Unit {0}
HasNumbers spaces (a ∷ more) = (is_numbered a.space ≡ true → list_any (same a.space) spaces ≡ true) × HasNumbers spaces more

has_numbers : (attributes : List Attribute) (spaces : List Text) → HasNumbers (add_spaces spaces attributes) attributes
has_numbers [] spaces = tt
has_numbers (a ∷ more) spaces =
    (λ h. has_still_all a.space more (add_space spaces a.space) (has_now a.space spaces h), has_numbers more (add_space spaces a.space))

pub numbered_spaces-have : (attributes : List Attribute) → HasNumbers (numbered_spaces attributes) attributes
numbered_spaces-have attributes = has_numbers attributes []
