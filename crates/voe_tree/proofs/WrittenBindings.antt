-- What the declarations of a written tag bind.
use Rattle.std.proofs.Common.{◌≡◌, ℕ, ◌+◌, ◌<◌, ◌≤◌, ◌^◌, suc, Bool, true, false, List, [], ◌∷◌, ◌++◌, length, refl, sym, ◌∙◌, ap, subst, arith, one-add}
use Rattle.std.specs.Prelude.{◌||◌, if◌then◌else◌, Some, unwrap_or, decimal, codes}
use Rattle.std.specs.List.{list_any, position_or_len}
use Rattle.std.proofs.lemmas.Fmt.{decimal_injective}
use Rattle.xml_lexer.specs.Characters.{Text}
use Rattle.xml_lexer.specs.Token.{Spelled}
use Rattle.xml_lexer.specs.Spelling.{same}
use Rattle.voe_tree.specs.Names.{Bindings, declare, declared_prefix, is_declaration, local_of, lookup, read_value}
use Rattle.voe_tree.specs.Canonical.{default_declaration, numbered_declarations, written_value}
use Rattle.voe_tree.proofs.WrittenNames.{is-same, same-is, number_prefix, with-has, with-local, with-prefix}
use Rattle.voe_tree.proofs.WrittenValues.{read_value-written}

pub declare-append : (some more : List Spelled) (bindings : Bindings) → declare (some ++ more) bindings ≡ declare more (declare some bindings)
declare-append [] more bindings = refl
declare-append (a ∷ some) more bindings = declare-append some more (if is_declaration a then (declared_prefix a.name, read_value a.value) ∷ bindings else bindings)

-- ---- the prefixes with numbers

abbrev pub numbered_name : ℕ → Text
numbered_name n = codes "xmlns:a" ++ decimal n

pub numbered_name-declared : (n : ℕ) (value : Text) → is_declaration (record { name = numbered_name n; value = value }) ≡ true
numbered_name-declared n value =
    ap (λ p. same (numbered_name n) (codes "xmlns") || same p (codes "xmlns")) (with-prefix (codes "xmlns") (number_prefix n) refl)

numbered_name-prefix : (n : ℕ) → declared_prefix (numbered_name n) ≡ number_prefix n
numbered_name-prefix n =
    ap (λ b. if b then local_of (numbered_name n) else []) (with-has (codes "xmlns") (number_prefix n) refl)
    ∙ with-local (codes "xmlns") (number_prefix n) refl

declare-numbered : (n : ℕ) (space : Text) (more : List Text) (bindings : Bindings) →
    declare (numbered_declarations n (space ∷ more)) bindings ≡ declare (numbered_declarations (n + 1) more) ((number_prefix n, space) ∷ bindings)
declare-numbered n space more bindings =
    ap (λ b. declare (numbered_declarations (n + 1) more) (if b then (declared_prefix (numbered_name n), read_value (written_value space)) ∷ bindings else bindings))
    (numbered_name-declared n (written_value space))
    ∙ ap (λ p. declare (numbered_declarations (n + 1) more) ((p, read_value (written_value space)) ∷ bindings)) (numbered_name-prefix n)
    ∙ ap (λ v. declare (numbered_declarations (n + 1) more) ((number_prefix n, v) ∷ bindings)) (read_value-written space)

lookup-here : (prefix space : Text) (bindings : Bindings) → lookup prefix ((prefix, space) ∷ bindings) ≡ Some space
lookup-here prefix space bindings = ap (λ b. if b then Some space else lookup prefix bindings) (is-same prefix prefix refl)

lookup-behind : (other prefix space : Text) (bindings : Bindings) → same other prefix ≡ false → lookup prefix ((other, space) ∷ bindings) ≡ lookup prefix bindings
lookup-behind other prefix space bindings e = ap (λ b. if b then Some space else lookup prefix bindings) e

numbers_differ : (m n : ℕ) → m < n → n < 2 ^ 64 → same (number_prefix n) (number_prefix m) ≡ false
numbers_differ m n less small =
    let both : (t : Bool) → same (number_prefix n) (number_prefix m) ≡ t → same (number_prefix n) (number_prefix m) ≡ false =
    λ t. elim t as (λ u. same (number_prefix n) (number_prefix m) ≡ u → same (number_prefix n) (number_prefix m) ≡ false)
    [ true ↦ λ e. absurd (let same_number : n ≡ m = decimal_injective n m small (omega arith) (same-is (decimal n) (decimal m) e) in omega arith) | false ↦ λ e. e ] in
    both (same (number_prefix n) (number_prefix m)) refl

-- numbers from `n` on do not hide a binding that is none of theirs
pub lookup-unnumbered : (spaces : List Text) (n : ℕ) (prefix : Text) (bindings : Bindings) → ((m : ℕ) → n ≤ m → m < n + length spaces → same (number_prefix m) prefix ≡ false) →
    lookup prefix (declare (numbered_declarations n spaces) bindings) ≡ lookup prefix bindings
lookup-unnumbered [] n prefix bindings apart = refl
lookup-unnumbered (space ∷ more) n prefix bindings apart =
    ap (lookup prefix) (declare-numbered n space more bindings)
    ∙ lookup-unnumbered more (n + 1) prefix ((number_prefix n, space) ∷ bindings) (λ m low high. apart m (omega arith) (omega arith))
    ∙ lookup-behind (number_prefix n) prefix space bindings (apart n (omega arith) (omega arith))

position-yes : (x space : Text) (more : List Text) → same x space ≡ true → position_or_len (same x) (space ∷ more) ≡ 0
position-yes x space more e = rw e refl

position-no : (x space : Text) (more : List Text) → same x space ≡ false → position_or_len (same x) (space ∷ more) ≡ suc (position_or_len (same x) more)
position-no x space more e = rw e (one-add (position_or_len (same x) more))

-- the prefix with a namespace's number has that namespace
pub lookup-numbered : (x : Text) (spaces : List Text) (n : ℕ) (bindings : Bindings) → list_any (same x) spaces ≡ true → n + length spaces < 2 ^ 64 →
    lookup (number_prefix (n + position_or_len (same x) spaces)) (declare (numbered_declarations n spaces) bindings) ≡ Some x
lookup-numbered x [] n bindings has small = cc
lookup-numbered x (space ∷ more) n bindings has small =
    let both : (t : Bool) → same x space ≡ t →
    lookup (number_prefix (n + position_or_len (same x) (space ∷ more))) (declare (numbered_declarations n (space ∷ more)) bindings) ≡ Some x =
    λ t. elim t as (λ u. same x space ≡ u →
    lookup (number_prefix (n + position_or_len (same x) (space ∷ more))) (declare (numbered_declarations n (space ∷ more)) bindings) ≡ Some x) [
      | true ↦ λ e.
          let number : n + position_or_len (same x) (space ∷ more) ≡ n = omega (arith, position-yes x space more e) in
          ap (λ k. lookup (number_prefix k) (declare (numbered_declarations n (space ∷ more)) bindings)) number
          ∙ ap (lookup (number_prefix n)) (declare-numbered n space more bindings)
          ∙ lookup-unnumbered more (n + 1) (number_prefix n) ((number_prefix n, space) ∷ bindings) (λ m low high. numbers_differ n m (omega arith) (omega arith))
          ∙ lookup-here (number_prefix n) space bindings ∙ ap Some (sym (same-is x space e))
      | false ↦ λ e.
          let number : n + position_or_len (same x) (space ∷ more) ≡ (n + 1) + position_or_len (same x) more = omega (arith, position-no x space more e) in
          let has_more : list_any (same x) more ≡ true = ap (λ b. b || list_any (same x) more) (sym e) ∙ has in
          ap (λ k. lookup (number_prefix k) (declare (numbered_declarations n (space ∷ more)) bindings)) number
          ∙ ap (lookup (number_prefix ((n + 1) + position_or_len (same x) more))) (declare-numbered n space more bindings)
          ∙ lookup-numbered x more (n + 1) ((number_prefix n, space) ∷ bindings) has_more (omega arith)
    ] in
    both (same x space) refl

-- ---- the default namespace

-- the default namespace in force
abbrev pub HasDefault : Bindings → Text → Type 0
HasDefault bindings default = unwrap_or (lookup [] bindings) [] ≡ default

pub default-declared : (default space : Text) (bindings : Bindings) → HasDefault bindings default → HasDefault (declare (default_declaration default space) bindings) space
default-declared default space bindings has =
    let both : (t : Bool) → same space default ≡ t → HasDefault (declare (default_declaration default space) bindings) space =
    λ t. elim t as (λ u. same space default ≡ u → HasDefault (declare (default_declaration default space) bindings) space) [
      | true ↦ λ e. subst (λ b. HasDefault (declare (if b then [] else record { name = codes "xmlns"; value = written_value space } ∷ []) bindings) space) (sym e)
          (has ∙ sym (same-is space default e))
      | false ↦ λ e. subst (λ b. HasDefault (declare (if b then [] else record { name = codes "xmlns"; value = written_value space } ∷ []) bindings) space) (sym e)
          (read_value-written space)
    ] in
    both (same space default) refl
