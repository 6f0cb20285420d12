-- What each filter that a text spells keeps to, so that its canonical text can be read.
use Rattle.std.proofs.Common.{◌≡◌, inl, inr, ℕ, Bool, true, false, cond, not, ◌==◌, ◌&&◌, ◌||◌, List, [], ◌∷◌, ◌++◌, Option, refl, subst}
use Rattle.std.specs.List.{list_all, list_any}
use Rattle.std.specs.Prelude.{codes}
use Rattle.std.specs.Str.{bytes_eq}
use Rattle.xml_lexer.specs.Characters.{is_name}
use Rattle.filter_tokens.specs.Token.{Token, closing_bracket, closing_parenthesis, name, literal, Placed, IsQuote, is_other_than, IsSpelled, IsCut}
use Rattle.filter_text.specs.Filter.{Text, Axis, child, descendant, Part, element, attribute, Test, any, Comparison, Path, path, Steps, arrived, step, Condition, any_of, all_of, not_so, alone, compare, Conditions, no_more, more, Operand, found, local_name}
use Rattle.filter_text.specs.Filter as filter
use Rattle.filter_text.specs.Grammar.{Symbol, plain, not_function, local_name_function, and_word, or_word, joined, either_list, both_list, IsTest, of_name, of_any, IsPath, from_document, from_element, IsStep, of_attribute, last, goes_on, AreBracketed, no_bracket, bracket, IsCondition, conjunct, or, IsConjunct, simple, and, IsSimple, negated, grouped, operand, compared, IsOperand, of_path, of_literal, of_function}
use Rattle.filter_text.specs.Reading.{next_token, is_opening, named_function, symbol_of, symbols_of}
use Rattle.filter_text.specs.Writing.{quoted}

-- a literal that can be written
abbrev pub GoodLiteral : Text → Type 0
GoodLiteral v = IsSpelled (literal v) (quoted v)

abbrev pub GoodTest : Test → Type 0
GoodTest any = Unit {0}
GoodTest (filter.name n) = is_name n ≡ true

abbrev pub NoAlternative : Condition → Type 0
NoAlternative (any_of cs) = ⊥
NoAlternative c = Unit {0}

abbrev pub NoConjunction : Condition → Type 0
NoConjunction (all_of cs) = ⊥
NoConjunction c = Unit {0}

abbrev pub AreSome : Conditions → Type 0
AreSome no_more = ⊥
AreSome (more c cs) = Unit {0}

abbrev pub AreSeveral : Conditions → Type 0
AreSeveral (more c (more d cs)) = Unit {0}
AreSeveral cs = ⊥

-- A relative path starts with a child or an attribute.
abbrev pub StartsWell : Bool → Steps → Type 0
StartsWell absolute arrived = ⊥
StartsWell true (step axis part test cs ss) = Unit {0}
StartsWell false (step axis part test cs ss) = axis ≡ child

abbrev mutual
  pub GoodPath : Path → Type 0
  GoodPath (path absolute ss) = StartsWell absolute ss × GoodSteps ss

  pub GoodSteps : Steps → Type 0
  GoodSteps arrived = Unit {0}
  GoodSteps (step axis element test cs ss) = GoodTest test × EachGood cs × GoodSteps ss
  GoodSteps (step axis attribute test no_more arrived) = GoodTest test
  GoodSteps (step axis attribute test cs ss) = ⊥

  pub EachGood : Conditions → Type 0
  EachGood no_more = Unit {0}
  EachGood (more c cs) = Good c × EachGood cs

  pub Good : Condition → Type 0
  Good (any_of cs) = AreSeveral cs × Alternatives cs
  Good (all_of cs) = AreSeveral cs × Conjunctions cs
  Good (not_so c) = Good c
  Good (alone o) = GoodOperand o
  Good (compare a how b) = GoodOperand a × GoodOperand b

  pub Alternatives : Conditions → Type 0
  Alternatives no_more = Unit {0}
  Alternatives (more c cs) = NoAlternative c × Good c × Alternatives cs

  pub Conjunctions : Conditions → Type 0
  Conjunctions no_more = Unit {0}
  Conjunctions (more c cs) = NoConjunction c × Good c × Conjunctions cs

  pub GoodOperand : Operand → Type 0
  GoodOperand (found p) = GoodPath p
  GoodOperand (filter.literal v) = GoodLiteral v
  GoodOperand local_name = Unit {0}

-- ---- the symbols of a text

abbrev pub GoodSymbol : Symbol → Type 0
GoodSymbol (plain (name n)) = is_name n ≡ true
GoodSymbol (plain (literal v)) = GoodLiteral v
GoodSymbol s = Unit {0}

abbrev pub AllGood : List Symbol → Type 0
AllGood [] = Unit {0}
AllGood (s ∷ ss) = GoodSymbol s × AllGood ss

good-front : (xs ys : List Symbol) → AllGood (xs ++ ys) → AllGood xs × AllGood ys
good-front [] ys h = (tt, h)
good-front (x ∷ xs) ys (g, h) = let r = good-front xs ys h in ((g, r.0), r.1)

neither : (a b : Bool) → (a || b) ≡ false → (a ≡ false) × (b ≡ false)
neither true b e = absurd (let bad : ⊥ = cc in bad)
neither false b e = (refl, e)

no-quote : (v : Text) → list_any (λ b. b == 34) v ≡ false → list_all (is_other_than 34) v ≡ true
no-quote [] e = refl
no-quote (b ∷ v) e =
    let t = neither (b == 34) (list_any (λ x. x == 34) v) e in
    let rest = no-quote v t.1 in
    rw (t.0, rest) refl

clash : (v : Text) → list_any (λ b. b == 34) v ≡ true → list_all (is_other_than 34) v ≡ true → ⊥
clash [] e f = cc
clash (b ∷ v) e f = by_byte (b == 34) (list_any (λ x. x == 34) v) (list_all (is_other_than 34) v) (clash v) e f
  where
    by_byte : (o p q : Bool) → (p ≡ true → q ≡ true → ⊥) → (o || p) ≡ true → (not o && q) ≡ true → ⊥
    by_byte true p q rest g h = cc
    by_byte false p q rest g h = rest g h

literal-good : (v spelled : Text) → IsSpelled (literal v) spelled → GoodLiteral v
literal-good v spelled (quote, q, is, all, xml) = by_any (list_any (λ b. b == 34) v) refl q all
  where
    by_any : (o : Bool) → list_any (λ b. b == 34) v ≡ o → IsQuote quote → list_all (is_other_than quote) v ≡ true → GoodLiteral v
    by_any true e (inl f) h = absurd (clash v e (subst (λ (x : ℕ). list_all (is_other_than x) v ≡ true) f h))
    by_any true e (inr f) h = (39, inr refl, rw e refl, subst (λ (x : ℕ). list_all (is_other_than x) v ≡ true) f h, xml)
    by_any false e k h = (34, inl refl, rw e refl, no-quote v e, xml)

named-good : (n : Text) → is_name n ≡ true → GoodSymbol (named_function n)
named-good n h = by_names (bytes_eq n (codes "not")) (bytes_eq n (codes "local-name"))
  where
    by_names : (a b : Bool) → GoodSymbol (cond a not_function (cond b local_name_function (plain (name n))))
    by_names true b = tt
    by_names false true = tt
    by_names false false = h

symbol-good : (t : Token) (next : Option Token) (spelled : Text) → IsSpelled t spelled → GoodSymbol (symbol_of t next)
symbol-good (name n) next spelled (is, h) = by_opening (is_opening next)
  where
    by_opening : (o : Bool) → GoodSymbol (cond o (named_function n) (plain (name n)))
    by_opening true = named-good n h
    by_opening false = h
symbol-good (literal v) next spelled is = literal-good v spelled is
symbol-good t next spelled is = tt

pub cut-good : (ks : List Placed) (from : ℕ) (s : Text) (end : ℕ) (rest : Text) → IsCut from s ks end rest → AllGood (symbols_of ks)
cut-good [] from s end rest cut = tt
cut-good (k ∷ ks) from s end rest (gap, spelled, behind, blanks, e, at, is, longest, others) =
    (symbol-good k.token (next_token ks) spelled is, cut-good ks _ behind end rest others)

-- ---- what the grammar makes of them

joined-alternatives : (xs ys : Conditions) → Alternatives xs → Alternatives ys → Alternatives (joined xs ys)
joined-alternatives no_more ys a b = b
joined-alternatives (more x xs) ys (n, g, a) b = (n, g, joined-alternatives xs ys a b)

joined-conjunctions : (xs ys : Conditions) → Conjunctions xs → Conjunctions ys → Conjunctions (joined xs ys)
joined-conjunctions no_more ys a b = b
joined-conjunctions (more x xs) ys (n, g, a) b = (n, g, joined-conjunctions xs ys a b)

joined-several : (xs ys : Conditions) → AreSome xs → AreSome ys → AreSeveral (joined xs ys)
joined-several no_more ys a b = absurd a
joined-several (more x xs) no_more a b = absurd b
joined-several (more x no_more) (more y ys) a b = tt
joined-several (more x (more z xs)) (more y ys) a b = tt

some-of : (cs : Conditions) → AreSeveral cs → AreSome cs
some-of no_more s = absurd s
some-of (more c cs) s = tt

either-good : (c : Condition) → Good c → AreSome (either_list c) × Alternatives (either_list c)
either-good (any_of cs) g = (some-of cs g.0, g.1)
either-good (all_of cs) g = (tt, (tt, g, tt))
either-good (not_so c) g = (tt, (tt, g, tt))
either-good (alone o) g = (tt, (tt, g, tt))
either-good (compare a how b) g = (tt, (tt, g, tt))

both-good : (c : Condition) → Good c → AreSome (both_list c) × Conjunctions (both_list c)
both-good (any_of cs) g = (tt, (tt, g, tt))
both-good (all_of cs) g = (some-of cs g.0, g.1)
both-good (not_so c) g = (tt, (tt, g, tt))
both-good (alone o) g = (tt, (tt, g, tt))
both-good (compare a how b) g = (tt, (tt, g, tt))

test-good : (t : Symbol) (test : Test) → IsTest t test → GoodSymbol t → GoodTest test
test-good t test (of_name n) g = g
test-good t test of_any g = tt

abbrev Starts : Axis → Steps → Type 0
Starts axis arrived = ⊥
Starts axis (step a part test cs ss) = a ≡ axis

starts-document : (axis : Axis) (ss : Steps) → Starts axis ss → StartsWell true ss
starts-document axis arrived s = absurd s
starts-document axis (step a part test cs ss) s = tt

starts-element : (ss : Steps) → Starts child ss → StartsWell false ss
starts-element arrived s = absurd s
starts-element (step a part test cs ss) s = s

mutual
  pub path-good : (ts : List Symbol) (p : Path) → IsPath ts p → AllGood ts → GoodPath p
  path-good ts p (from_document s axis us ss sep st) g = let r = step-good axis us ss st g.1 in (starts-document axis ss r.0, r.1)
  path-good ts p (from_element us ss st) g = let r = step-good child us ss st g in (starts-element ss r.0, r.1)

  step-good : (axis : Axis) (ts : List Symbol) (ss : Steps) → IsStep axis ts ss → AllGood ts → Starts axis ss × GoodSteps ss
  step-good axis ts ss (of_attribute a t test is) g = (refl, test-good t test is g.1.0)
  step-good axis ts ss (last a t test us cs is b) g = (refl, (test-good t test is g.0, brackets-good us cs b g.1, tt))
  step-good axis ts ss (goes_on a next t s test us others cs ends is b sep st) g =
      let r = good-front us (s ∷ others) g.1 in
      let q = step-good next others ends st r.1.1 in
      (refl, (test-good t test is g.0, brackets-good us cs b r.0, q.1))

  brackets-good : (ts : List Symbol) (cs : Conditions) → AreBracketed ts cs → AllGood ts → EachGood cs
  brackets-good ts cs no_bracket g = tt
  brackets-good ts cs (bracket us vs c ds is others) g =
      let r = good-front us (plain closing_bracket ∷ vs) g.1 in
      (condition-good us c is r.0, brackets-good vs ds others r.1.1)

  condition-good : (ts : List Symbol) (c : Condition) → IsCondition ts c → AllGood ts → Good c
  condition-good ts c (conjunct us d is) g = conjunct-good us d is g
  condition-good ts c (or us vs d e is others) g =
      let r = good-front us (or_word ∷ vs) g in
      let x = either-good d (conjunct-good us d is r.0) in
      let y = either-good e (condition-good vs e others r.1.1) in
      (joined-several (either_list d) (either_list e) x.0 y.0, joined-alternatives (either_list d) (either_list e) x.1 y.1)

  conjunct-good : (ts : List Symbol) (c : Condition) → IsConjunct ts c → AllGood ts → Good c
  conjunct-good ts c (simple us d is) g = simple-good us d is g
  conjunct-good ts c (and us vs d e is others) g =
      let r = good-front us (and_word ∷ vs) g in
      let x = both-good d (simple-good us d is r.0) in
      let y = both-good e (conjunct-good vs e others r.1.1) in
      (joined-several (both_list d) (both_list e) x.0 y.0, joined-conjunctions (both_list d) (both_list e) x.1 y.1)

  simple-good : (ts : List Symbol) (c : Condition) → IsSimple ts c → AllGood ts → Good c
  simple-good ts c (negated us d is) g = condition-good us d is (good-front us (plain closing_parenthesis ∷ []) g.1.1).0
  simple-good ts c (grouped us d is) g = condition-good us d is (good-front us (plain closing_parenthesis ∷ []) g.1).0
  simple-good ts c (operand us o is) g = operand-good us o is g
  simple-good ts c (compared us vs s how a b is comparison others) g =
      let r = good-front us (s ∷ vs) g in
      (operand-good us a is r.0, operand-good vs b others r.1.1)

  operand-good : (ts : List Symbol) (o : Operand) → IsOperand ts o → AllGood ts → GoodOperand o
  operand-good ts o (of_path us p is) g = path-good us p is g
  operand-good ts o (of_literal v) g = g.0
  operand-good ts o of_function g = tt
