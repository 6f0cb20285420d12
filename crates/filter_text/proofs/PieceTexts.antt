-- The pieces of a filter are its canonical text.
use Rattle.std.proofs.Common.{◌≡◌, Bool, true, false, cond, List, [], ◌∷◌, ◌++◌, refl, sym, ◌∙◌, ap, append_assoc}
use Rattle.std.specs.Prelude.{codes}
use Rattle.filter_tokens.specs.Token.{closing_bracket, closing_parenthesis}
use Rattle.filter_text.specs.Filter.{Text, Axis, child, descendant, Part, element, attribute, Test, any, name, Comparison, equal, differs, Path, path, Steps, arrived, step, Condition, any_of, all_of, not_so, alone, compare, Conditions, no_more, more, Operand, found, literal, local_name}
use Rattle.filter_text.specs.Grammar.{Symbol, plain, and_word, or_word}
use Rattle.filter_text.specs.Writing.{separator, sign, test_text, comparison_text, path_text, steps_text, bracketed_text, condition_text, listed_text, others_text, operand_text}
use Rattle.filter_text.proofs.Pieces.{Piece, tight, text_of, spelled_of, token_of, test_symbol, comparison_symbol, separated, signed, path_pieces, steps_pieces, bracketed_pieces, condition_pieces, listed_pieces, others_pieces, operand_pieces}

separated-text : (sep : Bool) (axis : Axis) (rest : List Piece) → text_of (separated sep axis rest) ≡ cond sep (separator axis) [] ++ text_of rest
separated-text true child rest = refl
separated-text true descendant rest = refl
separated-text false axis rest = refl

signed-text : (part : Part) (rest : List Piece) → text_of (signed part rest) ≡ sign part ++ text_of rest
signed-text element rest = refl
signed-text attribute rest = refl

test-text : (test : Test) → spelled_of (token_of (test_symbol test)) ≡ test_text test
test-text any = refl
test-text (name n) = refl

comparison-spelled : (how : Comparison) → spelled_of (token_of (comparison_symbol how)) ≡ comparison_text how
comparison-spelled equal = refl
comparison-spelled differs = refl

-- the word of a list
abbrev spaced : Symbol → Text
spaced w = 32 ∷ (spelled_of (token_of w) ++ 32 ∷ [])

regroup : (a b c d e r : Text) → a ++ (b ++ (c ++ (d ++ (e ++ r)))) ≡ ((((a ++ b) ++ c) ++ d) ++ e) ++ r
regroup a b c d e r = simp append_assoc

group : (a b c d r : Text) → a ++ (b ++ (c ++ (d ++ r))) ≡ (((a ++ b) ++ c) ++ d) ++ r
group a b c d r = simp append_assoc

trio : (a b c r : Text) → a ++ (b ++ (c ++ r)) ≡ ((a ++ b) ++ c) ++ r
trio a b c r = simp append_assoc

mutual
  pub path-written : (p : Path) (rest : List Piece) → text_of (path_pieces p rest) ≡ path_text p ++ text_of rest
  path-written (path absolute ss) rest = steps-written absolute ss rest

  steps-written : (sep : Bool) (ss : Steps) (rest : List Piece) → text_of (steps_pieces sep ss rest) ≡ steps_text sep ss ++ text_of rest
  steps-written sep arrived rest = refl
  steps-written sep (step axis part test cs ss) rest =
      let behind = steps-written true ss rest in
      let inner = bracketed-written cs (steps_pieces true ss rest) in
      separated-text sep axis (signed part (tight (test_symbol test) ∷ bracketed_pieces cs (steps_pieces true ss rest)))
      ∙ ap (λ x. cond sep (separator axis) [] ++ x) (signed-text part (tight (test_symbol test) ∷ bracketed_pieces cs (steps_pieces true ss rest))
      ∙ ap (λ x. sign part ++ x) (ap (λ x. x ++ text_of (bracketed_pieces cs (steps_pieces true ss rest))) (test-text test) ∙ ap (λ x. test_text test ++ x) (inner ∙ ap (λ x. bracketed_text cs ++ x) behind)))
      ∙ regroup (cond sep (separator axis) []) (sign part) (test_text test) (bracketed_text cs) (steps_text true ss) (text_of rest)

  bracketed-written : (cs : Conditions) (rest : List Piece) → text_of (bracketed_pieces cs rest) ≡ bracketed_text cs ++ text_of rest
  bracketed-written no_more rest = refl
  bracketed-written (more c cs) rest =
      let inner = condition-written false c (tight (plain closing_bracket) ∷ bracketed_pieces cs rest) in
      let behind = bracketed-written cs rest in
      ap (λ x. codes "[" ++ x) (inner ∙ ap (λ x. condition_text false c ++ (codes "]" ++ x)) behind) ∙ group (codes "[") (condition_text false c) (codes "]") (bracketed_text cs) (text_of rest)

  condition-written : (in_and : Bool) (c : Condition) (rest : List Piece) → text_of (condition_pieces in_and c rest) ≡ condition_text in_and c ++ text_of rest
  condition-written true (any_of cs) rest =
      ap (λ x. codes "(" ++ x) (listed-written or_word (codes " or ") false cs (tight (plain closing_parenthesis) ∷ rest) refl) ∙ trio (codes "(") (listed_text (codes " or ") false cs) (codes ")") (text_of rest)
  condition-written false (any_of cs) rest = listed-written or_word (codes " or ") false cs rest refl
  condition-written true (all_of cs) rest = listed-written and_word (codes " and ") true cs rest refl
  condition-written false (all_of cs) rest = listed-written and_word (codes " and ") true cs rest refl
  condition-written true (not_so c) rest = ap (λ x. codes "not(" ++ x) (condition-written false c (tight (plain closing_parenthesis) ∷ rest)) ∙ trio (codes "not(") (condition_text false c) (codes ")") (text_of rest)
  condition-written false (not_so c) rest = ap (λ x. codes "not(" ++ x) (condition-written false c (tight (plain closing_parenthesis) ∷ rest)) ∙ trio (codes "not(") (condition_text false c) (codes ")") (text_of rest)
  condition-written true (alone o) rest = operand-written o rest
  condition-written false (alone o) rest = operand-written o rest
  condition-written true (compare a how b) rest =
      operand-written a (tight (comparison_symbol how) ∷ operand_pieces b rest) ∙ ap (λ x. operand_text a ++ (x ++ text_of (operand_pieces b rest))) (comparison-spelled how)
      ∙ ap (λ x. operand_text a ++ (comparison_text how ++ x)) (operand-written b rest) ∙ trio (operand_text a) (comparison_text how) (operand_text b) (text_of rest)
  condition-written false (compare a how b) rest =
      operand-written a (tight (comparison_symbol how) ∷ operand_pieces b rest) ∙ ap (λ x. operand_text a ++ (x ++ text_of (operand_pieces b rest))) (comparison-spelled how)
      ∙ ap (λ x. operand_text a ++ (comparison_text how ++ x)) (operand-written b rest) ∙ trio (operand_text a) (comparison_text how) (operand_text b) (text_of rest)

  listed-written : (w : Symbol) (between : Text) (in_and : Bool) (cs : Conditions) (rest : List Piece) → spaced w ≡ between → text_of (listed_pieces w in_and cs rest) ≡ listed_text between in_and cs ++ text_of rest
  listed-written w between in_and no_more rest e = refl
  listed-written w between in_and (more c cs) rest e =
      condition-written in_and c (others_pieces w in_and cs rest) ∙ ap (λ x. condition_text in_and c ++ x) (others-written w between in_and cs rest e)
      ∙ sym (append_assoc (condition_text in_and c) (others_text between in_and cs) (text_of rest))

  others-written : (w : Symbol) (between : Text) (in_and : Bool) (cs : Conditions) (rest : List Piece) → spaced w ≡ between → text_of (others_pieces w in_and cs rest) ≡ others_text between in_and cs ++ text_of rest
  others-written w between in_and no_more rest e = refl
  others-written w between in_and (more c cs) rest e =
      ap (λ x. x ++ text_of (condition_pieces in_and c (others_pieces w in_and cs rest))) e
      ∙ ap (λ x. between ++ x) (condition-written in_and c (others_pieces w in_and cs rest) ∙ ap (λ x. condition_text in_and c ++ x) (others-written w between in_and cs rest e))
      ∙ trio between (condition_text in_and c) (others_text between in_and cs) (text_of rest)

  operand-written : (o : Operand) (rest : List Piece) → text_of (operand_pieces o rest) ≡ operand_text o ++ text_of rest
  operand-written (found p) rest = path-written p rest
  operand-written (literal v) rest = refl
  operand-written local_name rest = refl
