-- Lists of attributes are read exactly where they are spelled.
use Rattle.std.proofs.Common.{◌≡◌, ◌≤◌, ◌==◌, ℕ, zero, suc, Bool, true, false, List, [], ◌∷◌, ◌++◌, length, Some, None, refl, ◌∙◌, ap, arith, append_assoc}
use Rattle.std.specs.Prelude.{slice_index}
use Rattle.std.specs.List.{list_all, prefix_len}
use Rattle.std.proofs.lemmas.Bool.Decides.{nat_tests}
use Rattle.xml_lexer.specs.Characters.{Text, is_blank, is_spelled_name}
use Rattle.xml_lexer.specs.Token.{Spelled}
use Rattle.xml_lexer.specs.Spelling.{AreBlanks, AreAttributes, tag_end}
use Rattle.xml_lexer.specs.Scan.{◌>>=◌, in_name, skip_blanks, attribute_at, tag_end_at, attributes_at}
use Rattle.xml_lexer.proofs.Runs.{both}
use Rattle.xml_lexer.proofs.NameLaws.{skip_blanks-complete, spelled-all_in_name}
use Rattle.xml_lexer.proofs.AttributeLaws.{attribute_at-complete}
use Rattle.xml_lexer.proofs.AttributeSteps.{attributes_at-end}

pub tag_end_at-complete : (e : Bool) (rest : Text) → tag_end_at (tag_end e ++ rest) ≡ Some (e, rest)
tag_end_at-complete true rest = refl
tag_end_at-complete false rest = refl

end_stops : (e : Bool) (rest : Text) → prefix_len is_blank (tag_end e ++ rest) ≡ 0
end_stops true rest = refl
end_stops false rest = refl

-- a spelled name has a first byte, which begins no other part of a tag
pub record BeginsName (name : Text) : Type 0 where
  pub first : ℕ
  pub others : Text
  pub is : name ≡ first ∷ others
  pub fits : in_name first ≡ true

pub begins_name : (name : Text) → is_spelled_name name ≡ true → BeginsName name
begins_name [] h = absurd (let bad : ⊥ = cc in bad)
begins_name (b ∷ s) h = record { first = b; others = s; is = refl; fits = (both (in_name b) (list_all in_name s) (spelled-all_in_name (b ∷ s) h)).0 }

name_not_blank : (b : ℕ) → in_name b ≡ true → is_blank b ≡ false
name_not_blank b h = grind (arith, nat_tests)

name_not_end : (b : ℕ) (s : Text) → in_name b ≡ true → tag_end_at (b ∷ s) ≡ None
name_not_end b s h =
    let gt : (b == 62) ≡ false = not_gt b h in
    let slash : (b == 47) ≡ false = not_slash b h in
    rw (gt, slash) refl
  where
    not_gt : (b : ℕ) → in_name b ≡ true → (b == 62) ≡ false
    not_gt b h = grind (arith, nat_tests)

    not_slash : (b : ℕ) → in_name b ≡ true → (b == 47) ≡ false
    not_slash b h = grind (arith, nat_tests)

pub attributes_at-step : (n : ℕ) (s : Text) (a : Spelled) (rest : Text) → tag_end_at (skip_blanks s) ≡ None → is_blank (slice_index s 0) ≡ true → attribute_at (skip_blanks s) ≡ Some (a, rest) →
    attributes_at (suc n) s ≡ (attributes_at n rest >>= λ more. Some ((a ∷ more.0.0, more.0.1), more.1))
unfolding attributes_at
attributes_at-step n s a rest h b e = rw (h, b, e) refl

-- one attribute more, spelled behind `first` and `gap`
one_attribute : (n : ℕ) (first : ℕ) (gap : Text) (a : Spelled) (tail rest : Text) → is_blank first ≡ true → AreBlanks gap → is_spelled_name a.name ≡ true →
    (more : Text) → tail ≡ a.name ++ more → attribute_at tail ≡ Some (a, rest) →
    attributes_at (suc n) (first ∷ (gap ++ tail)) ≡ (attributes_at n rest >>= λ others. Some ((a ∷ others.0.0, others.0.1), others.1))
one_attribute n first gap a tail rest blank blanks spelled more split read =
    let name = begins_name a.name spelled in
    let start : tail ≡ name.first ∷ (name.others ++ more) = split ∙ ap (λ t. t ++ more) name.is in
    let stops : prefix_len is_blank tail ≡ 0 = (let no = name_not_blank name.first name.fits in rw start (rw no refl)) in
    let skips : skip_blanks (first ∷ (gap ++ tail)) ≡ tail = skip_blanks-complete (first ∷ gap) tail (rw blank blanks) stops in
    let no_end : tag_end_at tail ≡ None = rw start (name_not_end name.first (name.others ++ more) name.fits) in
    attributes_at-step n (first ∷ (gap ++ tail)) a rest (ap tag_end_at skips ∙ no_end) blank (ap attribute_at skips ∙ read)

pub attributes_at-complete : (given : List Spelled) (n : ℕ) (attributes gap : Text) (e : Bool) (rest : Text) → AreAttributes given attributes → AreBlanks gap → length given ≤ n →
    attributes_at n (attributes ++ (gap ++ (tag_end e ++ rest))) ≡ Some ((given, e), rest)
attributes_at-complete [] n attributes gap e rest none blanks fits =
    rw none (attributes_at-end n (gap ++ (tag_end e ++ rest)) (e, rest) (ap tag_end_at (skip_blanks-complete gap (tag_end e ++ rest) blanks (end_stops e rest)) ∙ tag_end_at-complete e rest))
attributes_at-complete (a ∷ given) zero attributes gap e rest all blanks fits = absurd (omega arith)
attributes_at-complete (a ∷ given) (suc n) attributes gap e rest (front, others, (first, inner, before, after, quote, is_first, b0, spelled, b1, b2, q, val, is_front), all, split) blanks fits =
    let behind = others ++ (gap ++ (tag_end e ++ rest)) in
    let more = before ++ (61 ∷ (after ++ (quote ∷ (a.value ++ (quote ∷ behind))))) in
    let whole : attributes ++ (gap ++ (tag_end e ++ rest)) ≡ first ∷ (inner ++ (a.name ++ more)) =
    (rw (split, is_front) (simp append_assoc)) in
    let read = attribute_at-complete a.name before after quote a.value behind spelled b1 b2 q val in
    let rest_read = attributes_at-complete given n others gap e rest all blanks (omega arith) in
    rw whole (one_attribute n first inner a (a.name ++ more) behind is_first b0 spelled more refl read ∙ rw rest_read refl)
