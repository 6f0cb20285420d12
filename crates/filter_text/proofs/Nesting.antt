-- The canonical text nests no deeper than any text of the filter.
use Rattle.std.proofs.Common.{◌≡◌, ℕ, ◌+◌, ◌-◌, ◌≤◌, max, Bool, true, false, cond, List, [], ◌∷◌, ◌++◌, Option, Some, None, refl, sym, ◌∙◌, ap, append_assoc, arith}
use Rattle.std.specs.Prelude.{codes, nat_lt}
use Rattle.std.specs.Str.{bytes_eq}
use Rattle.std.proofs.lemmas.Bool.Decides.{nat_tests}
use Rattle.filter_tokens.specs.Token.{Token, slash, double_slash, opening_bracket, closing_bracket, opening_parenthesis, closing_parenthesis, at_sign, name, literal, Placed}
use Rattle.filter_text.specs.Filter.{Text, Axis, child, descendant, Part, element, attribute, Test, any, Comparison, equal, Path, path, Steps, arrived, step, Condition, any_of, all_of, not_so, alone, compare, Conditions, no_more, more, Operand, found, local_name}
use Rattle.filter_text.specs.Filter as filter
use Rattle.filter_text.specs.Grammar.{Symbol, plain, not_function, local_name_function, and_word, or_word, joined, either_list, both_list, IsSeparator, to_children, to_descendants, IsTest, of_name, of_any, IsComparison, is_equal, is_different, IsPath, from_document, from_element, IsStep, of_attribute, last, goes_on, AreBracketed, no_bracket, bracket, IsCondition, conjunct, or, IsConjunct, simple, and, IsSimple, negated, grouped, operand, compared, IsOperand, of_path, of_literal, of_function}
use Rattle.filter_text.specs.Reading.{next_token, is_opening, named_function, symbol_of, symbols_of, open_behind, first_too_deep}
use Rattle.filter_text.proofs.Pieces.{Piece, tight, symbols, token_of, test_symbol, comparison_symbol, separated, signed, path_pieces, steps_pieces, bracketed_pieces, condition_pieces, listed_pieces, others_pieces, operand_pieces}
use Rattle.filter_text.proofs.PieceCuts.{deeper}

-- ---- how deep brackets nest in the canonical text

-- an `or` within an `and` stands in parentheses
abbrev pub grouped_in : Bool → Condition → ℕ
grouped_in true (any_of cs) = 1
grouped_in in_and c = 0

abbrev mutual
  pub nest_path : Path → ℕ
  nest_path (path absolute ss) = nest_steps ss

  pub nest_steps : Steps → ℕ
  nest_steps arrived = 0
  nest_steps (step axis part test cs ss) = max (nest_brackets cs) (nest_steps ss)

  pub nest_brackets : Conditions → ℕ
  nest_brackets no_more = 0
  nest_brackets (more c cs) = max (nest c + 1) (nest_brackets cs)

  pub nest : Condition → ℕ
  nest (any_of cs) = nest_list false cs
  nest (all_of cs) = nest_list true cs
  nest (not_so c) = nest c + 1
  nest (alone o) = nest_operand o
  nest (compare a how b) = max (nest_operand a) (nest_operand b)

  pub nest_list : Bool → Conditions → ℕ
  nest_list in_and no_more = 0
  nest_list in_and (more c cs) = max (nest c + grouped_in in_and c) (nest_list in_and cs)

  pub nest_operand : Operand → ℕ
  nest_operand (found p) = nest_path p
  nest_operand (filter.literal v) = 0
  nest_operand local_name = 1

-- ---- one symbol

within-16 : (m : ℕ) → nat_lt 16 m ≡ false → m ≤ 16
within-16 m h = grind (arith, nat_tests)

beyond-16 : (m : ℕ) → m ≤ 16 → nat_lt 16 m ≡ false
beyond-16 m h = grind (arith, nat_tests)

cond-false : (b c : Bool) → cond b true c ≡ false → (b ≡ false) × (c ≡ false)
cond-false true c h = absurd (let bad : ⊥ = cc in bad)
cond-false false c h = (refl, h)

taken : (n m : ℕ) (s : Symbol) (ss : List Symbol) → open_behind (token_of s) n ≡ m → deeper n (s ∷ ss) ≡ false → (m ≤ 16) × (deeper m ss ≡ false)
taken n m s ss e h =
    let t = cond-false (nat_lt 16 (open_behind (token_of s) n)) (deeper (open_behind (token_of s) n) ss) h in
    (within-16 m (ap (nat_lt 16) (sym e) ∙ t.0), ap (λ x. deeper x ss) (sym e) ∙ t.1)

put : (n m : ℕ) (s : Symbol) (ss : List Symbol) → open_behind (token_of s) n ≡ m → m ≤ 16 → deeper m ss ≡ false → deeper n (s ∷ ss) ≡ false
put n m s ss e le h =
    let test = beyond-16 m le in
    ap (λ x. cond (nat_lt 16 x) true (deeper x ss)) e ∙ ap (λ b. cond b true (deeper m ss)) test ∙ h

closed : (n : ℕ) → n + 1 - 1 ≡ n
closed n = omega arith

-- ---- what a text of the filter nests

regrouped : (n : ℕ) (ts us rest : List Symbol) → deeper n ((ts ++ us) ++ rest) ≡ false → deeper n (ts ++ (us ++ rest)) ≡ false
regrouped n ts us rest h = ap (deeper n) (sym (append_assoc ts us rest)) ∙ h

test-level : (t : Symbol) (test : Test) (n : ℕ) → IsTest t test → open_behind (token_of t) n ≡ n
test-level t test n (of_name x) = refl
test-level t test n of_any = refl

separator-level : (s : Symbol) (axis : Axis) (n : ℕ) → IsSeparator s axis → open_behind (token_of s) n ≡ n
separator-level s axis n to_children = refl
separator-level s axis n to_descendants = refl

comparison-level : (s : Symbol) (how : Comparison) (n : ℕ) → IsComparison s how → open_behind (token_of s) n ≡ n
comparison-level s how n is_equal = refl
comparison-level s how n is_different = refl

joined-nest : (in_and : Bool) (xs ys : Conditions) → nest_list in_and (joined xs ys) ≤ max (nest_list in_and xs) (nest_list in_and ys)
joined-nest in_and no_more ys = omega arith
joined-nest in_and (more x xs) ys = let r = joined-nest in_and xs ys in omega arith

nest-either : (c : Condition) → nest c ≤ nest_list false (either_list c)
nest-either (any_of cs) = omega arith
nest-either (all_of cs) = omega arith
nest-either (not_so c) = omega arith
nest-either (alone o) = omega arith
nest-either (compare a how b) = omega arith

either-nest : (c : Condition) → nest_list false (either_list c) ≤ nest c
either-nest (any_of cs) = omega arith
either-nest (all_of cs) = omega arith
either-nest (not_so c) = omega arith
either-nest (alone o) = omega arith
either-nest (compare a how b) = omega arith

nest-both : (c : Condition) → nest c ≤ nest_list true (both_list c)
nest-both (any_of cs) = omega arith
nest-both (all_of cs) = omega arith
nest-both (not_so c) = omega arith
nest-both (alone o) = omega arith
nest-both (compare a how b) = omega arith

both-nest : (c : Condition) → nest_list true (both_list c) ≤ nest c + grouped_in true c
both-nest (any_of cs) = omega arith
both-nest (all_of cs) = omega arith
both-nest (not_so c) = omega arith
both-nest (alone o) = omega arith
both-nest (compare a how b) = omega arith

one-group : (c : Condition) → grouped_in true c ≤ 1
one-group (any_of cs) = omega arith
one-group (all_of cs) = omega arith
one-group (not_so c) = omega arith
one-group (alone o) = omega arith
one-group (compare a how b) = omega arith

abbrev Nests : ℕ → ℕ → List Symbol → Type 0
Nests n m rest = (n + m ≤ 16) × (deeper n rest ≡ false)

mutual
  pub path-nests : (ts : List Symbol) (p : Path) (n : ℕ) (rest : List Symbol) → IsPath ts p → deeper n (ts ++ rest) ≡ false → Nests n (nest_path p) rest
  path-nests ts p n rest (from_document s axis us ss sep st) h = step-nests axis us ss n rest st (taken n n s (us ++ rest) (separator-level s axis n sep) h).1
  path-nests ts p n rest (from_element us ss st) h = step-nests child us ss n rest st h

  step-nests : (axis : Axis) (ts : List Symbol) (ss : Steps) (n : ℕ) (rest : List Symbol) → IsStep axis ts ss → deeper n (ts ++ rest) ≡ false → Nests n (nest_steps ss) rest
  step-nests axis ts ss n rest (of_attribute a t test is) h =
      let x = taken n n (plain at_sign) (t ∷ rest) refl h in
      let y = taken n n t rest (test-level t test n is) x.1 in
      (let le = y.0 in omega arith, y.1)
  step-nests axis ts ss n rest (last a t test us cs is b) h =
      let x = taken n n t (us ++ rest) (test-level t test n is) h in
      let r = brackets-nest us cs n rest x.0 b x.1 in
      (let le = r.0 in omega arith, r.1)
  step-nests axis ts ss n rest (goes_on a next t s test us others cs ends is b sep st) h =
      let x = taken n n t ((us ++ s ∷ others) ++ rest) (test-level t test n is) h in
      let r = brackets-nest us cs n (s ∷ others ++ rest) x.0 b (regrouped n us (s ∷ others) rest x.1) in
      let q = step-nests next others ends n rest st (taken n n s (others ++ rest) (separator-level s next n sep) r.1).1 in
      (let le = r.0 in let more_le = q.0 in omega arith, q.1)

  brackets-nest : (ts : List Symbol) (cs : Conditions) (n : ℕ) (rest : List Symbol) → n ≤ 16 → AreBracketed ts cs → deeper n (ts ++ rest) ≡ false → Nests n (nest_brackets cs) rest
  brackets-nest ts cs n rest le no_bracket h = (omega arith, h)
  brackets-nest ts cs n rest le (bracket us vs c ds is others) h =
      let x = taken n (n + 1) (plain opening_bracket) ((us ++ plain closing_bracket ∷ vs) ++ rest) refl h in
      let r = condition-nests us c (n + 1) (plain closing_bracket ∷ vs ++ rest) is (regrouped (n + 1) us (plain closing_bracket ∷ vs) rest x.1) in
      let y = taken (n + 1) n (plain closing_bracket) (vs ++ rest) (closed n) r.1 in
      let q = brackets-nest vs ds n rest le others y.1 in
      let bound = nest-either c in
      (let inner = r.0 in let outer = q.0 in omega arith, q.1)

  condition-nests : (ts : List Symbol) (c : Condition) (n : ℕ) (rest : List Symbol) → IsCondition ts c → deeper n (ts ++ rest) ≡ false → Nests n (nest_list false (either_list c)) rest
  condition-nests ts c n rest (conjunct us d is) h =
      let r = conjunct-nests us d n rest is h in
      let a = nest-both d in let b = either-nest d in
      (let le = r.0 in omega arith, r.1)
  condition-nests ts c n rest (or us vs d e is others) h =
      let r = conjunct-nests us d n (or_word ∷ vs ++ rest) is (regrouped n us (or_word ∷ vs) rest h) in
      let q = condition-nests vs e n rest others (taken n n or_word (vs ++ rest) refl r.1).1 in
      let a = nest-both d in let b = either-nest d in let j = joined-nest false (either_list d) (either_list e) in
      (let le = r.0 in let more_le = q.0 in omega arith, q.1)

  conjunct-nests : (ts : List Symbol) (c : Condition) (n : ℕ) (rest : List Symbol) → IsConjunct ts c → deeper n (ts ++ rest) ≡ false → Nests n (nest_list true (both_list c)) rest
  conjunct-nests ts c n rest (simple us d is) h =
      let r = simple-nests us d n rest is h in
      let a = both-nest d in
      (let le = r.0 in omega arith, r.1)
  conjunct-nests ts c n rest (and us vs d e is others) h =
      let r = simple-nests us d n (and_word ∷ vs ++ rest) is (regrouped n us (and_word ∷ vs) rest h) in
      let q = conjunct-nests vs e n rest others (taken n n and_word (vs ++ rest) refl r.1).1 in
      let a = both-nest d in let j = joined-nest true (both_list d) (both_list e) in
      (let le = r.0 in let more_le = q.0 in omega arith, q.1)

  simple-nests : (ts : List Symbol) (c : Condition) (n : ℕ) (rest : List Symbol) → IsSimple ts c → deeper n (ts ++ rest) ≡ false → Nests n (nest c + grouped_in true c) rest
  simple-nests ts c n rest (negated us d is) h =
      let x = taken n n not_function (plain opening_parenthesis ∷ (us ++ plain closing_parenthesis ∷ []) ++ rest) refl h in
      let y = taken n (n + 1) (plain opening_parenthesis) ((us ++ plain closing_parenthesis ∷ []) ++ rest) refl x.1 in
      let r = condition-nests us d (n + 1) (plain closing_parenthesis ∷ rest) is (regrouped (n + 1) us (plain closing_parenthesis ∷ []) rest y.1) in
      let z = taken (n + 1) n (plain closing_parenthesis) rest (closed n) r.1 in
      let bound = nest-either d in
      (let le = r.0 in omega arith, z.1)
  simple-nests ts c n rest (grouped us d is) h =
      let y = taken n (n + 1) (plain opening_parenthesis) ((us ++ plain closing_parenthesis ∷ []) ++ rest) refl h in
      let r = condition-nests us d (n + 1) (plain closing_parenthesis ∷ rest) is (regrouped (n + 1) us (plain closing_parenthesis ∷ []) rest y.1) in
      let z = taken (n + 1) n (plain closing_parenthesis) rest (closed n) r.1 in
      let bound = nest-either d in let one = one-group d in
      (let le = r.0 in omega arith, z.1)
  simple-nests ts c n rest (operand us o is) h = let r = operand-nests us o n rest is h in (let le = r.0 in omega arith, r.1)
  simple-nests ts c n rest (compared us vs s how a b is comparison others) h =
      let r = operand-nests us a n (s ∷ vs ++ rest) is (regrouped n us (s ∷ vs) rest h) in
      let q = operand-nests vs b n rest others (taken n n s (vs ++ rest) (comparison-level s how n comparison) r.1).1 in
      (let le = r.0 in let more_le = q.0 in omega arith, q.1)

  operand-nests : (ts : List Symbol) (o : Operand) (n : ℕ) (rest : List Symbol) → IsOperand ts o → deeper n (ts ++ rest) ≡ false → Nests n (nest_operand o) rest
  operand-nests ts o n rest (of_path us p is) h = path-nests us p n rest is h
  operand-nests ts o n rest (of_literal v) h = let x = taken n n (plain (literal v)) rest refl h in (let le = x.0 in omega arith, x.1)
  operand-nests ts o n rest of_function h =
      let x = taken n n local_name_function (plain opening_parenthesis ∷ plain closing_parenthesis ∷ rest) refl h in
      let y = taken n (n + 1) (plain opening_parenthesis) (plain closing_parenthesis ∷ rest) refl x.1 in
      let z = taken (n + 1) n (plain closing_parenthesis) rest (closed n) y.1 in
      (y.0, z.1)

-- ---- what the canonical text nests

test-put : (test : Test) (n : ℕ) → open_behind (token_of (test_symbol test)) n ≡ n
test-put any n = refl
test-put (filter.name x) n = refl

comparison-put : (how : Comparison) (n : ℕ) → open_behind (token_of (comparison_symbol how)) n ≡ n
comparison-put equal n = refl
comparison-put filter.differs n = refl

separated-put : (sep : Bool) (axis : Axis) (n : ℕ) (rest : List Piece) → n ≤ 16 → deeper n (symbols rest) ≡ false → deeper n (symbols (separated sep axis rest)) ≡ false
separated-put true child n rest le h = put n n (plain slash) (symbols rest) refl le h
separated-put true descendant n rest le h = put n n (plain double_slash) (symbols rest) refl le h
separated-put false axis n rest le h = h

signed-put : (part : Part) (n : ℕ) (rest : List Piece) → n ≤ 16 → deeper n (symbols rest) ≡ false → deeper n (symbols (signed part rest)) ≡ false
signed-put element n rest le h = h
signed-put attribute n rest le h = put n n (plain at_sign) (symbols rest) refl le h

word-put : (w : Symbol) (n : ℕ) (ss : List Symbol) → ((m : ℕ) → open_behind (token_of w) m ≡ m) → n ≤ 16 → deeper n ss ≡ false → deeper n (w ∷ ss) ≡ false
word-put w n ss level le h = put n n w ss (level n) le h

mutual
  pub path-put : (p : Path) (n : ℕ) (rest : List Piece) → n + nest_path p ≤ 16 → deeper n (symbols rest) ≡ false → deeper n (symbols (path_pieces p rest)) ≡ false
  path-put (path absolute ss) n rest le h = steps-put absolute ss n rest le h

  steps-put : (sep : Bool) (ss : Steps) (n : ℕ) (rest : List Piece) → n + nest_steps ss ≤ 16 → deeper n (symbols rest) ≡ false → deeper n (symbols (steps_pieces sep ss rest)) ≡ false
  steps-put sep arrived n rest le h = h
  steps-put sep (step axis part test cs ss) n rest le h =
      let inner = bracketed_pieces cs (steps_pieces true ss rest) in
      separated-put sep axis n (signed part (tight (test_symbol test) ∷ inner)) (omega arith) (signed-put part n (tight (test_symbol test) ∷ inner) (omega arith)
      (put n n (test_symbol test) (symbols inner) (test-put test n) (omega arith) (brackets-put cs n (steps_pieces true ss rest) (omega arith) (steps-put true ss n rest (omega arith) h))))

  brackets-put : (cs : Conditions) (n : ℕ) (rest : List Piece) → n + nest_brackets cs ≤ 16 → deeper n (symbols rest) ≡ false → deeper n (symbols (bracketed_pieces cs rest)) ≡ false
  brackets-put no_more n rest le h = h
  brackets-put (more c cs) n rest le h =
      let behind = tight (plain closing_bracket) ∷ bracketed_pieces cs rest in
      put n (n + 1) (plain opening_bracket) (symbols (condition_pieces false c behind)) refl (omega arith) (condition-put false c (n + 1) behind (omega arith)
      (put (n + 1) n (plain closing_bracket) (symbols (bracketed_pieces cs rest)) (closed n) (omega arith) (brackets-put cs n rest (omega arith) h)))

  condition-put : (in_and : Bool) (c : Condition) (n : ℕ) (rest : List Piece) → n + (nest c + grouped_in in_and c) ≤ 16 → deeper n (symbols rest) ≡ false → deeper n (symbols (condition_pieces in_and c rest)) ≡ false
  condition-put true (any_of cs) n rest le h =
      put n (n + 1) (plain opening_parenthesis) (symbols (listed_pieces or_word false cs (tight (plain closing_parenthesis) ∷ rest))) refl (omega arith) (listed-put or_word false cs (n + 1) (tight (plain closing_parenthesis) ∷ rest) (λ m. refl) (omega arith)
      (put (n + 1) n (plain closing_parenthesis) (symbols rest) (closed n) (omega arith) h))
  condition-put false (any_of cs) n rest le h = listed-put or_word false cs n rest (λ m. refl) (omega arith) h
  condition-put true (all_of cs) n rest le h = listed-put and_word true cs n rest (λ m. refl) (omega arith) h
  condition-put false (all_of cs) n rest le h = listed-put and_word true cs n rest (λ m. refl) (omega arith) h
  condition-put true (not_so c) n rest le h =
      let inner = symbols (condition_pieces false c (tight (plain closing_parenthesis) ∷ rest)) in
      put n n not_function (plain opening_parenthesis ∷ inner) refl (omega arith) (put n (n + 1) (plain opening_parenthesis) inner refl (omega arith) (condition-put false c (n + 1) (tight (plain closing_parenthesis) ∷ rest) (omega arith)
      (put (n + 1) n (plain closing_parenthesis) (symbols rest) (closed n) (omega arith) h)))
  condition-put false (not_so c) n rest le h =
      let inner = symbols (condition_pieces false c (tight (plain closing_parenthesis) ∷ rest)) in
      put n n not_function (plain opening_parenthesis ∷ inner) refl (omega arith) (put n (n + 1) (plain opening_parenthesis) inner refl (omega arith) (condition-put false c (n + 1) (tight (plain closing_parenthesis) ∷ rest) (omega arith)
      (put (n + 1) n (plain closing_parenthesis) (symbols rest) (closed n) (omega arith) h)))
  condition-put true (alone o) n rest le h = operand-put o n rest (omega arith) h
  condition-put false (alone o) n rest le h = operand-put o n rest (omega arith) h
  condition-put true (compare a how b) n rest le h =
      operand-put a n (tight (comparison_symbol how) ∷ operand_pieces b rest) (omega arith) (put n n (comparison_symbol how) (symbols (operand_pieces b rest)) (comparison-put how n) (omega arith) (operand-put b n rest (omega arith) h))
  condition-put false (compare a how b) n rest le h =
      operand-put a n (tight (comparison_symbol how) ∷ operand_pieces b rest) (omega arith) (put n n (comparison_symbol how) (symbols (operand_pieces b rest)) (comparison-put how n) (omega arith) (operand-put b n rest (omega arith) h))

  listed-put : (w : Symbol) (in_and : Bool) (cs : Conditions) (n : ℕ) (rest : List Piece) → ((m : ℕ) → open_behind (token_of w) m ≡ m) → n + nest_list in_and cs ≤ 16 → deeper n (symbols rest) ≡ false →
      deeper n (symbols (listed_pieces w in_and cs rest)) ≡ false
  listed-put w in_and no_more n rest level le h = h
  listed-put w in_and (more c cs) n rest level le h = condition-put in_and c n (others_pieces w in_and cs rest) (omega arith) (others-put w in_and cs n rest level (omega arith) h)

  others-put : (w : Symbol) (in_and : Bool) (cs : Conditions) (n : ℕ) (rest : List Piece) → ((m : ℕ) → open_behind (token_of w) m ≡ m) → n + nest_list in_and cs ≤ 16 → deeper n (symbols rest) ≡ false →
      deeper n (symbols (others_pieces w in_and cs rest)) ≡ false
  others-put w in_and no_more n rest level le h = h
  others-put w in_and (more c cs) n rest level le h =
      word-put w n (symbols (condition_pieces in_and c (others_pieces w in_and cs rest))) level (omega arith)
      (condition-put in_and c n (others_pieces w in_and cs rest) (omega arith) (others-put w in_and cs n rest level (omega arith) h))

  operand-put : (o : Operand) (n : ℕ) (rest : List Piece) → n + nest_operand o ≤ 16 → deeper n (symbols rest) ≡ false → deeper n (symbols (operand_pieces o rest)) ≡ false
  operand-put (found p) n rest le h = path-put p n rest le h
  operand-put (filter.literal v) n rest le h = put n n (plain (literal v)) (symbols rest) refl (omega arith) h
  operand-put local_name n rest le h =
      put n n local_name_function (plain opening_parenthesis ∷ plain closing_parenthesis ∷ symbols rest) refl (omega arith) (put n (n + 1) (plain opening_parenthesis) (plain closing_parenthesis ∷ symbols rest) refl (omega arith) (put (n + 1) n (plain closing_parenthesis) (symbols rest) (closed n) (omega arith) h))

-- ---- from places to symbols

symbol-level : (t : Token) (next : Option Token) (n : ℕ) → open_behind (token_of (symbol_of t next)) n ≡ open_behind t n
symbol-level (name x) next n = by_opening (is_opening next)
  where
    by_names : (a b : Bool) → open_behind (token_of (cond a not_function (cond b local_name_function (plain (name x))))) n ≡ n
    by_names true b = refl
    by_names false true = refl
    by_names false false = refl

    by_opening : (o : Bool) → open_behind (token_of (cond o (named_function x) (plain (name x)))) n ≡ n
    by_opening true = by_names (bytes_eq x (codes "not")) (bytes_eq x (codes "local-name"))
    by_opening false = refl
symbol-level t next n = refl

no-place : (b : Bool) (place : ℕ) (o : Option ℕ) → cond b (Some place) o ≡ None → (b ≡ false) × (o ≡ None)
no-place true place o h = absurd (let bad : ⊥ = cc in bad)
no-place false place o h = (refl, h)

pub fits-symbols : (ks : List Placed) (n : ℕ) → first_too_deep n ks ≡ None → deeper n (symbols_of ks) ≡ false
fits-symbols [] n h = refl
fits-symbols (k ∷ ks) n h =
    let t = no-place (nat_lt 16 (open_behind k.token n)) k.place (first_too_deep (open_behind k.token n) ks) h in
    put n (open_behind k.token n) (symbol_of k.token (next_token ks)) (symbols_of ks) (symbol-level k.token (next_token ks) n) (within-16 (open_behind k.token n) t.0) (fits-symbols ks (open_behind k.token n) t.1)
