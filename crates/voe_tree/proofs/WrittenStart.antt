-- The text and the length of a written start tag, by its parts.
use Rattle.std.proofs.Common.{◌≡◌, ℕ, ◌+◌, suc, Bool, List, [], ◌∷◌, ◌++◌, length, map, refl, sym, ◌∙◌, ap, arith, append_assoc, length-append}
use Rattle.std.specs.Prelude.{◌<◌, ◌≤◌, codes, nat_le, true, false}
use Rattle.std.specs.Borrow.{Bor}
use Rattle.std.proofs.lemmas.Bool.{lt-leb, le-leb}
use Rattle.std.proofs.lemmas.List.{length-map}
use Rattle.xml_lexer.specs.Characters.{Text}
use Rattle.xml_lexer.specs.Token.{Spelled, start}
use Rattle.xml_lexer.specs.Spelling.{tag_end}
use Rattle.voe_tree.specs.declared.element.Attribute.{Attribute}
use Rattle.voe_tree.specs.Canonical.{default_declaration, numbered_declarations, numbered_spaces, written, written_attribute, written_attributes, written_spelled}
use Rattle.voe_tree.specs.Writing.{all_spelled, texts}

pub all_spelled-append : (some more : List Spelled) → all_spelled (some ++ more) ≡ all_spelled some ++ all_spelled more
all_spelled-append [] more = refl
all_spelled-append (a ∷ some) more =
    ap (λ s. written_spelled a ++ s) (all_spelled-append some more) ∙ sym (append_assoc (written_spelled a) (all_spelled some) (all_spelled more))

regroup : (a b c d e f g : Text) → a ++ (b ++ c ++ (d ++ e ++ f) ++ g) ≡ (((((a ++ b) ++ c) ++ d) ++ e) ++ f) ++ g
regroup a b c d e f g = simp append_assoc

pub written_start : (old name : Text) (d n a : List Spelled) (is_empty : Bool) →
    (((((old ++ codes "<") ++ name) ++ all_spelled d) ++ all_spelled n) ++ all_spelled a) ++ tag_end is_empty ≡ old ++ written (start name (d ++ n ++ a) is_empty)
written_start old name d n a is_empty =
    sym (ap (λ s. old ++ (codes "<" ++ name ++ s ++ tag_end is_empty)) (all_spelled-append (d ++ n) a ∙ ap (λ s. s ++ all_spelled a) (all_spelled-append d n))
    ∙ regroup old (codes "<") name (all_spelled d) (all_spelled n) (all_spelled a) (tag_end is_empty))

pub numbered_length : (number : ℕ) (spaces : List Text) → length (numbered_declarations number spaces) ≡ length spaces
numbered_length number [] = refl
numbered_length number (space ∷ more) = ap (λ n. suc n) (numbered_length (number + 1) more)

pub attributes_length : (default space : Text) (attributes : List Attribute) →
    length (written_attributes default space attributes) ≡ length (default_declaration default space) + length (numbered_spaces attributes) + length attributes
attributes_length default space attributes =
    let one = length-append (default_declaration default space ++ numbered_declarations 0 (numbered_spaces attributes)) (map (written_attribute (numbered_spaces attributes)) attributes) in
    let two = length-append (default_declaration default space) (numbered_declarations 0 (numbered_spaces attributes)) in
    let three = numbered_length 0 (numbered_spaces attributes) in
    let four = length-map attributes (written_attribute (numbered_spaces attributes)) in
    omega arith

module _ (default space own : Text) (attributes items : List Attribute) (spaces : List (Bor Text)) (d n m : ℕ) (declared : d ≡ length (default_declaration default own)) (is : own ≡ space)
    (counted : n ≡ length spaces) (numbered : texts spaces ≡ numbered_spaces items) (same : items ≡ attributes) (all : m ≡ length items) where
  given_length : length (written_attributes default space attributes) ≡ d + n + m
  given_length =
      let one = attributes_length default space attributes in
      let two : d ≡ length (default_declaration default space) = declared ∙ ap (λ s. length (default_declaration default s)) is in
      let three : length (texts spaces) ≡ length (numbered_spaces attributes) = ap (λ (l : List Text). length l) (numbered ∙ ap numbered_spaces same) in
      let four = length-map spaces (λ (s : Bor Text). s.now) in
      let five : m ≡ length attributes = all ∙ ap (λ (l : List Attribute). length l) same in
      omega arith

  pub too_many : 64 < d + n + m → nat_le (length (written_attributes default space attributes)) 64 ≡ false
  too_many h = lt-leb (length (written_attributes default space attributes)) 64 (let long = given_length in omega arith)

  pub few_enough : d + n + m ≤ 64 → nat_le (length (written_attributes default space attributes)) 64 ≡ true
  few_enough h = le-leb (length (written_attributes default space attributes)) 64 (let long = given_length in omega arith)

-- the pieces that the writer puts
pub tag_put : (default space local : Text) (attributes : List Attribute) (spaces : List (Bor Text)) (is_empty : Bool) → texts spaces ≡ numbered_spaces attributes →
    (old one two three four five six name own ending : Text) (items : List Attribute) →
    one ≡ old ++ codes "<" → two ≡ one ++ name → name ≡ local →
    three ≡ two ++ all_spelled (default_declaration default own) → own ≡ space →
    four ≡ three ++ all_spelled (numbered_declarations 0 (texts spaces)) →
    five ≡ four ++ all_spelled (map (written_attribute (texts spaces)) items) → items ≡ attributes →
    six ≡ five ++ ending → ending ≡ tag_end is_empty →
    six ≡ old ++ written (start local (written_attributes default space attributes) is_empty)
tag_put default space local attributes spaces is_empty numbered old one two three four five six name own ending items put_one put_two named put_three owned put_four put_five same put_six ended =
    let two_is : two ≡ (old ++ codes "<") ++ local = put_two ∙ ap (λ s. s ++ name) put_one ∙ ap (λ s. (old ++ codes "<") ++ s) named in
    let three_is : three ≡ ((old ++ codes "<") ++ local) ++ all_spelled (default_declaration default space) =
    put_three ∙ ap (λ s. two ++ all_spelled (default_declaration default s)) owned ∙ ap (λ s. s ++ all_spelled (default_declaration default space)) two_is in
    let four_is : four ≡ (((old ++ codes "<") ++ local) ++ all_spelled (default_declaration default space)) ++ all_spelled (numbered_declarations 0 (numbered_spaces attributes)) =
    put_four ∙ ap (λ l. three ++ all_spelled (numbered_declarations 0 l)) numbered ∙ ap (λ s. s ++ all_spelled (numbered_declarations 0 (numbered_spaces attributes))) three_is in
    let five_is : five ≡ ((((old ++ codes "<") ++ local) ++ all_spelled (default_declaration default space)) ++ all_spelled (numbered_declarations 0 (numbered_spaces attributes)))
    ++ all_spelled (map (written_attribute (numbered_spaces attributes)) attributes) =
    put_five ∙ ap (λ l. four ++ all_spelled (map (written_attribute l) items)) numbered ∙ ap (λ l. four ++ all_spelled (map (written_attribute (numbered_spaces attributes)) l)) same
    ∙ ap (λ s. s ++ all_spelled (map (written_attribute (numbered_spaces attributes)) attributes)) four_is in
    put_six ∙ ap (λ s. five ++ s) ended ∙ ap (λ s. s ++ tag_end is_empty) five_is
    ∙ written_start old local (default_declaration default space) (numbered_declarations 0 (numbered_spaces attributes)) (map (written_attribute (numbered_spaces attributes)) attributes) is_empty
