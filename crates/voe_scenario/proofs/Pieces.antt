-- Where a text is cut.
use Rattle.std.proofs.Common.{◌≡◌, ℕ, zero, suc, ◌+◌, ◌-◌, ◌<◌, ◌==◌, true, false, Bool, List, [], ◌∷◌, length, slice_index, take, drop, refl, arith, ap, ◌∙◌}
use Rattle.std.proofs.Common.{None}
use Rattle.std.specs.List.{slice_split, onto_first, count_by}
use Rattle.std.proofs.lemmas.List.{take_all, length-drop}
use Rattle.std.proofs.lemmas.List.Splits.{slice_split-cons_yes, slice_split-cons_no, length-slice_split}
use Rattle.voe_scenario.specs.ConfigGrammar.{config_words_said}
use Rattle.voe_scenario.specs.Grammar.{inner_said, plain_said}

-- an element that isn't true is false
is_false : (b : Bool) → ((b ≡ true) → ⊥) → b ≡ false
is_false true isnt = absurd (isnt refl)
is_false false isnt = refl

-- the first piece ends before the first such byte
pub split_at : (byte : ℕ) (bytes : List ℕ) (end : ℕ) → end < length bytes → (slice_index bytes end == byte) ≡ true
    → ((k : ℕ) → k < end → ((slice_index bytes k == byte) ≡ true) → ⊥)
    → slice_split (λ b. b == byte) bytes ≡ take end bytes ∷ slice_split (λ b. b == byte) (drop (suc end) bytes)
split_at byte [] end within is before = absurd (omega arith)
split_at byte (b ∷ bytes) zero within is before = slice_split-cons_yes (λ b. b == byte) b bytes is
split_at byte (b ∷ bytes) (suc end) within is before =
    slice_split-cons_no (λ b. b == byte) b bytes (is_false (b == byte) (before 0 (omega arith)))
    ∙ ap (onto_first b) (split_at byte bytes end (omega arith) is (λ k h. before (suc k) (omega arith)))

-- without such a byte there is one piece
pub split_none : (byte : ℕ) (bytes : List ℕ) → ((k : ℕ) → k < length bytes → ((slice_index bytes k == byte) ≡ true) → ⊥)
    → slice_split (λ b. b == byte) bytes ≡ bytes ∷ []
split_none byte [] before = refl
split_none byte (b ∷ bytes) before =
    slice_split-cons_no (λ b. b == byte) b bytes (is_false (b == byte) (before 0 (omega arith)))
    ∙ ap (onto_first b) (split_none byte bytes (λ k h. before (suc k) (omega arith)))

-- the rest of a list is as long as it is
pub take_rest : (k : ℕ) (bytes : List ℕ) → take (length bytes - k) (drop k bytes) ≡ drop k bytes
take_rest k bytes = take_all (length bytes - k) (drop k bytes) (omega (arith, length-drop k bytes))

-- more than two words behind the first are no line
too_many : (word first second : List ℕ) (others : List (List ℕ)) (n : ℕ) → length others ≡ n + 1 → plain_said word (first ∷ second ∷ others) ≡ None
too_many word first second [] n is = absurd (omega arith)
too_many word first second (third ∷ others) n is = refl

pub too_many_words : (p : ℕ → Bool) (word first second rest : List ℕ) → plain_said word (first ∷ second ∷ slice_split p rest) ≡ None
too_many_words p word first second rest = too_many word first second (slice_split p rest) (count_by p rest) (length-slice_split p rest)

-- nor are they anything that a stop cuts short
too_many_inner : (word first second : List ℕ) (others : List (List ℕ)) (n : ℕ) → length others ≡ n + 1 → inner_said (word ∷ first ∷ second ∷ others) ≡ None
too_many_inner word first second [] n is = absurd (omega arith)
too_many_inner word first second (third ∷ others) n is = refl

pub too_many_inner_words : (p : ℕ → Bool) (word first second rest : List ℕ) → inner_said (word ∷ first ∷ second ∷ slice_split p rest) ≡ None
too_many_inner_words p word first second rest = too_many_inner word first second (slice_split p rest) (count_by p rest) (length-slice_split p rest)

-- more than one word behind the first are no line of a configuration
too_many_of_config : (word first : List ℕ) (others : List (List ℕ)) (n : ℕ) → length others ≡ n + 1 → config_words_said (word ∷ first ∷ others) ≡ None
too_many_of_config word first [] n is = absurd (omega arith)
too_many_of_config word first (second ∷ others) n is = refl

pub too_many_config_words : (p : ℕ → Bool) (word first rest : List ℕ) → config_words_said (word ∷ first ∷ slice_split p rest) ≡ None
too_many_config_words p word first rest = too_many_of_config word first (slice_split p rest) (count_by p rest) (length-slice_split p rest)
