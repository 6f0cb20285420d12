-- Names, and what ends them.
use Rattle.std.proofs.Common.{◌≡◌, ◌<◌, ◌&&◌, ◌⊎◌, inl, inr, ℕ, true, false, cond, [], ◌∷◌, ◌++◌, length, take, drop, Some, refl, sym, ◌∙◌, ap, subst, arith, eqb-true, get_or}
use Rattle.std.specs.List.{list_all, prefix_len, position_or_len, before_first, after_first}
use Rattle.std.proofs.lemmas.Bool.Decides.{nat_tests}
use Rattle.std.proofs.lemmas.List.{take-append-drop}
use Rattle.std.proofs.lemmas.List.Sums.{split_at_first, passes_at_first}
use Rattle.std.proofs.lemmas.List.Folds.{list_all-append}
use Rattle.xml_lexer.specs.Characters.{Text, is_blank, is_name_byte, is_name, is_colon, has_prefix, is_spelled_name}
use Rattle.xml_lexer.specs.Spelling.{AreBlanks}
use Rattle.xml_lexer.specs.Scan.{in_name, name_at, skip_blanks}
use Rattle.xml_lexer.proofs.Runs.{both, guard-some, take-run, drop-run, list_all-run, prefix_len-behind}

pub blank_cases : (b : ℕ) → is_blank b ≡ true → ((b ≡ 32) ⊎ (b ≡ 9)) ⊎ ((b ≡ 10) ⊎ (b ≡ 13))
blank_cases b h = grind (arith, nat_tests)

pub in_name-blank : (b : ℕ) → is_blank b ≡ true → in_name b ≡ false
in_name-blank b h =
    elim (blank_cases b h) [
      | inl l ↦ elim l [ inl e ↦ rw e refl | inr e ↦ rw e refl ]
      | inr r ↦ elim r [ inl e ↦ rw e refl | inr e ↦ rw e refl ]
    ]

-- a name ends at blanks and a byte that no name has
pub name-stops : (gap : Text) (b : ℕ) (rest : Text) → AreBlanks gap → in_name b ≡ false → prefix_len in_name (gap ++ (b ∷ rest)) ≡ 0
name-stops [] b rest blanks h = rw h refl
name-stops (g ∷ gap) b rest blanks h = rw (in_name-blank g (both (is_blank g) _ blanks).0) refl

pub all_in_name : (s : Text) → list_all is_name_byte s ≡ true → list_all in_name s ≡ true
all_in_name [] h = refl
all_in_name (b ∷ s) h =
    let t = both (is_name_byte b) (list_all is_name_byte s) h in
    rw (t.0, all_in_name s t.1) refl

pub name-all_in_name : (s : Text) → is_name s ≡ true → list_all in_name s ≡ true
name-all_in_name s h = all_in_name s (both _ (list_all is_name_byte s) h).1

has_prefix-lt : (s : Text) → has_prefix s ≡ true → position_or_len is_colon s < length s
has_prefix-lt s h = grind (arith, nat_tests)

pub split_name : (s : Text) → has_prefix s ≡ true → s ≡ before_first is_colon s ++ (58 ∷ after_first is_colon s)
split_name s h =
    let lt = has_prefix-lt s h in
    let colon : get_or s (position_or_len is_colon s) 0 ≡ 58 = eqb-true _ 58 (passes_at_first is_colon s 0 lt) in
    split_at_first is_colon s 0 lt ∙ ap (λ b. before_first is_colon s ++ (b ∷ after_first is_colon s)) colon

pub spelled-all_in_name : (s : Text) → is_spelled_name s ≡ true → list_all in_name s ≡ true
spelled-all_in_name s h =
    elim (has_prefix s) as (λ b. has_prefix s ≡ b → cond b (is_name (before_first is_colon s) && is_name (after_first is_colon s)) (is_name s) ≡ true → list_all in_name s ≡ true) [
      | true ↦ λ e t. (
          let parts = both (is_name (before_first is_colon s)) (is_name (after_first is_colon s)) t in
          let P : Text → Type 0 = λ u. list_all in_name u ≡ true in
          subst P (sym (split_name s e))
          (let front = name-all_in_name (before_first is_colon s) parts.0 in
          let back = name-all_in_name (after_first is_colon s) parts.1 in
          rw (list_all-append, front, back) refl))
      | false ↦ λ e t. name-all_in_name s t
    ] refl h

pub name_at-complete : (name s : Text) → is_spelled_name name ≡ true → prefix_len in_name s ≡ 0 → name_at (name ++ s) ≡ Some (name, s)
unfolding name_at
name_at-complete name s h stops =
    let all = spelled-all_in_name name h in
    rw (take-run in_name name s all stops, drop-run in_name name s all stops, h) refl

pub name_at-sound : (s name rest : Text) → name_at s ≡ Some (name, rest) → (is_spelled_name name ≡ true) × (s ≡ name ++ rest) × (prefix_len in_name rest ≡ 0)
unfolding name_at
name_at-sound s name rest h =
    let t = guard-some (is_spelled_name (take (prefix_len in_name s) s)) _ _ h in
    let n : take (prefix_len in_name s) s ≡ name = ap (λ p. p.0) t.1 in
    let r : drop (prefix_len in_name s) s ≡ rest = ap (λ p. p.1) t.1 in
    (rw (← n) t.0, rw (← n, ← r) (sym (take-append-drop (prefix_len in_name s) s)), rw (← r) (prefix_len-behind in_name s))

-- blanks
pub skip_blanks-complete : (gap s : Text) → AreBlanks gap → prefix_len is_blank s ≡ 0 → skip_blanks (gap ++ s) ≡ s
skip_blanks-complete gap s h stops = drop-run is_blank gap s h stops

pub skip_blanks-sound : (s : Text) → (gap : Text) × AreBlanks gap × (s ≡ gap ++ skip_blanks s) × (prefix_len is_blank (skip_blanks s) ≡ 0)
skip_blanks-sound s =
    (take (prefix_len is_blank s) s, list_all-run is_blank s, sym (take-append-drop (prefix_len is_blank s) s), prefix_len-behind is_blank s)
