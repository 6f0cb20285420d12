-- What the writer answers of a root.
use Rattle.std.proofs.Common.{◌≡◌, ℕ, ◌+◌, Bool, true, false, [], ◌++◌, length, refl, sym, ◌∙◌, ap, subst, inl, inr, arith, zero-add}
use Rattle.std.specs.Prelude.{◌||◌, ◌&&◌, nat_le, nat_lt, Result, Ok, Err, MatchResult}
use Rattle.std.specs.Result.{IsErrAnd}
use Rattle.std.specs.List.{list_all}
use Rattle.std.proofs.lemmas.Bool.{and_from, and_left, and_right, or_cases, ltb-true, ltb-false, le-leb, lt-leb}
use Rattle.xml_lexer.specs.Characters.{Text}
use Rattle.xml_lexer.specs.Phases.{max_tokens}
use Rattle.voe_tree.specs.Canonical.{canonical, canonical_tokens, is_narrow, is_writable, max_bytes}
use Rattle.voe_tree.specs.Writing.{Exceeds, RefusesWriting, fits}
use Rattle.voe_tree.specs.declared.element.Element.{Element}
use Rattle.voe_tree.specs.declared.write.WriteFault.{WriteFault}
use Rattle.voe_tree.specs.declared.write.WriteFault.TheVariants.{TooLarge, NoMemory}

fits_root : (root : Element) (bytes tokens : ℕ) → bytes ≡ 0 → tokens ≡ 0 → fits bytes tokens (canonical_tokens root) ≡ is_writable root
fits_root root bytes tokens none none_yet =
    ap (λ b. nat_le (b + length (canonical root)) max_bytes && nat_le (tokens + length (canonical_tokens root)) max_tokens && list_all is_narrow (canonical_tokens root)) none
    ∙ ap (λ t. nat_le (0 + length (canonical root)) max_bytes && nat_le (t + length (canonical_tokens root)) max_tokens && list_all is_narrow (canonical_tokens root)) none_yet
    ∙ ap (λ n. nat_le n max_bytes && nat_le (0 + length (canonical_tokens root)) max_tokens && list_all is_narrow (canonical_tokens root)) (zero-add (length (canonical root)))
    ∙ ap (λ n. nat_le (length (canonical root)) max_bytes && nat_le n max_tokens && list_all is_narrow (canonical_tokens root)) (zero-add (length (canonical_tokens root)))

root_refuses : (root : Element) (fault : WriteFault) (start : Text) (count : ℕ) → start ≡ [] → count ≡ 0 → Exceeds fault (length start) count (canonical_tokens root) → RefusesWriting root fault
root_refuses root TooLarge start count empty none large = sym (fits_root root (length start) count (ap (λ (s : Text). length s) empty) none) ∙ large
root_refuses root NoMemory start count empty none large = tt

pub root_fault : {T : Type 0} (P : T → Type 0) (r : Result T WriteFault) (fault : WriteFault) (root : Element) (start : Text) (count : ℕ) → start ≡ [] → count ≡ 0 →
    IsErrAnd r (λ f. f ≡ fault) → Exceeds fault (length start) count (canonical_tokens root) → MatchResult r P (λ f. RefusesWriting root f)
root_fault P (Ok x) fault root start count empty none passes large = absurd passes
root_fault P (Err f) fault root start count empty none passes large =
    root_refuses root f start count empty none (subst (λ g. Exceeds g (length start) count (canonical_tokens root)) (sym passes) large)

or_parts : (a b : Bool) → (a || b) ≡ false → (a ≡ false) × (b ≡ false)
or_parts true b h = cc
or_parts false b h = (refl, h)

module _ (root : Element) (start bytes : Text) (count tokens : ℕ) (empty : start ≡ []) (none : count ≡ 0) (put : bytes ≡ start ++ canonical root) (counted : tokens ≡ count + length (canonical_tokens root)) where
  bytes_are : bytes ≡ canonical root
  bytes_are = put ∙ ap (λ s. s ++ canonical root) empty

  tokens_are : tokens ≡ length (canonical_tokens root)
  tokens_are = omega arith

  pub full_refuses : (full : Bool) → full ≡ (nat_lt max_bytes (length bytes) || nat_lt max_tokens tokens) → full ≡ true → is_writable root ≡ false
  full_refuses full tells is =
      let same_bytes : length bytes ≡ length (canonical root) = ap (λ (s : Text). length s) bytes_are in
      let same_tokens = tokens_are in
      elim (or_cases (nat_lt max_bytes (length bytes)) (nat_lt max_tokens tokens) (sym tells ∙ is)) [
        | inl e ↦ and_left (nat_le (length (canonical root)) max_bytes && nat_le (length (canonical_tokens root)) max_tokens) (list_all is_narrow (canonical_tokens root))
            (and_left (nat_le (length (canonical root)) max_bytes) (nat_le (length (canonical_tokens root)) max_tokens)
            (lt-leb (length (canonical root)) max_bytes (let above = ltb-true max_bytes (length bytes) e in omega arith)))
        | inr e ↦ and_left (nat_le (length (canonical root)) max_bytes && nat_le (length (canonical_tokens root)) max_tokens) (list_all is_narrow (canonical_tokens root))
            (and_right (nat_le (length (canonical root)) max_bytes) (nat_le (length (canonical_tokens root)) max_tokens)
            (lt-leb (length (canonical_tokens root)) max_tokens (let above = ltb-true max_tokens tokens e in omega arith)))
      ]

  pub ok_writes : (made : Text) (full : Bool) → made ≡ bytes → list_all is_narrow (canonical_tokens root) ≡ true →
      full ≡ (nat_lt max_bytes (length bytes) || nat_lt max_tokens tokens) → full ≡ false → (made ≡ canonical root) × (is_writable root ≡ true)
  ok_writes made full is narrow tells room =
      let same_bytes : length bytes ≡ length (canonical root) = ap (λ (s : Text). length s) bytes_are in
      let same_tokens = tokens_are in
      let parts = or_parts (nat_lt max_bytes (length bytes)) (nat_lt max_tokens tokens) (sym tells ∙ room) in (
        is ∙ bytes_are,
        and_from (nat_le (length (canonical root)) max_bytes && nat_le (length (canonical_tokens root)) max_tokens) (list_all is_narrow (canonical_tokens root))
            (and_from (nat_le (length (canonical root)) max_bytes) (nat_le (length (canonical_tokens root)) max_tokens)
            (le-leb (length (canonical root)) max_bytes (let low = ltb-false max_bytes (length bytes) parts.0 in omega arith))
            (le-leb (length (canonical_tokens root)) max_tokens (let low = ltb-false max_tokens tokens parts.1 in omega arith))) narrow,
      )
