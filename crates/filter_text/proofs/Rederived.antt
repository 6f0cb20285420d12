-- The canonical text of a good filter is derived by the grammar, as that filter.
use Rattle.std.proofs.Common.{◌≡◌, true, false, List, [], ◌∷◌, ◌++◌, refl, sym, ◌∙◌, ap, subst, append_assoc}
use Rattle.filter_tokens.specs.Token.{opening_bracket, closing_bracket, opening_parenthesis, closing_parenthesis, at_sign, literal}
use Rattle.filter_text.specs.Filter.{Text, Axis, child, descendant, Part, element, attribute, Test, any, Comparison, equal, Path, path, Steps, arrived, step, Condition, any_of, all_of, not_so, alone, compare, Conditions, no_more, more, Operand, found, local_name}
use Rattle.filter_text.specs.Filter as filter
use Rattle.filter_text.specs.Grammar.{Symbol, plain, not_function, local_name_function, and_word, or_word, joined, either, both, either_list, both_list, IsSeparator, to_children, to_descendants, IsTest, of_name, of_any, IsComparison, is_equal, is_different, IsPath, from_document, from_element, IsStep, of_attribute, last, goes_on, AreBracketed, no_bracket, bracket, IsCondition, conjunct, or, IsConjunct, simple, and, IsSimple, negated, grouped, operand, compared, IsOperand, of_path, of_literal, of_function}
use Rattle.filter_text.proofs.Pieces.{Piece, tight, word, symbols, test_symbol, separator_symbol, comparison_symbol, path_pieces, steps_pieces, bracketed_pieces, condition_pieces, listed_pieces, operand_pieces}
use Rattle.filter_text.proofs.Normal.{NoAlternative, NoConjunction, AreSeveral, GoodPath, GoodSteps, EachGood, Good, Alternatives, Conjunctions, GoodOperand}

-- these pieces are symbols with the property, and those of the rest
pub record Spells (P : List Symbol → Type 0) (ps rest : List Piece) : Type 0 where
  pub ts : List Symbol
  pub is : symbols ps ≡ ts ++ symbols rest
  pub holds : P ts

test-is : (test : Test) → IsTest (test_symbol test) test
test-is any = of_any
test-is (filter.name n) = of_name n

separator-is : (axis : Axis) → IsSeparator (separator_symbol axis) axis
separator-is child = to_children
separator-is descendant = to_descendants

comparison-is : (how : Comparison) → IsComparison (comparison_symbol how) how
comparison-is equal = is_equal
comparison-is filter.differs = is_different

alone-list : (c : Condition) → NoAlternative c → either_list c ≡ more c no_more
alone-list (any_of cs) n = absurd n
alone-list (all_of cs) n = refl
alone-list (not_so c) n = refl
alone-list (alone o) n = refl
alone-list (compare a how b) n = refl

alone-part : (c : Condition) → NoConjunction c → both_list c ≡ more c no_more
alone-part (any_of cs) n = refl
alone-part (all_of cs) n = absurd n
alone-part (not_so c) n = refl
alone-part (alone o) n = refl
alone-part (compare a how b) n = refl

abbrev StepsSpell : Steps → List Piece → Type 0
StepsSpell arrived rest = Unit {0}
StepsSpell (step axis part test cs ss) rest = Spells (λ ts. IsStep axis ts (step axis part test cs ss)) (steps_pieces false (step axis part test cs ss) rest) rest

-- What a condition is as a whole, as a conjunct, and as a part of a conjunct.
record ConditionSpells (c : Condition) : Type 0 where
  as_whole : (rest : List Piece) → Spells (λ ts. IsCondition ts c) (condition_pieces false c rest) rest
  as_conjunct : NoAlternative c → (rest : List Piece) → Spells (λ ts. IsConjunct ts c) (condition_pieces false c rest) rest
  as_part : NoConjunction c → (rest : List Piece) → Spells (λ ts. IsSimple ts c) (condition_pieces true c rest) rest

-- a condition that is no list
of-simple : (c : Condition) → ((rest : List Piece) → Spells (λ ts. IsSimple ts c) (condition_pieces false c rest) rest) → ((rest : List Piece) → condition_pieces true c rest ≡ condition_pieces false c rest) → ConditionSpells c
of-simple c f same = record {
  as_whole = λ rest. (let r = f rest in record { ts = r.ts; is = r.is; holds = conjunct r.ts c (simple r.ts c r.holds) });
  as_conjunct = λ n rest. (let r = f rest in record { ts = r.ts; is = r.is; holds = simple r.ts c r.holds });
  as_part = λ n rest. (let r = f rest in record { ts = r.ts; is = ap symbols (same rest) ∙ r.is; holds = r.holds });
}

-- a list of conjuncts is a condition, and one of parts a conjunct
record Listed (P : List Symbol → Condition → Type 0) (list_of : Condition → Conditions) (whole : Conditions → Condition) (cs : Conditions) (ps rest : List Piece) : Type 0 where
  ts : List Symbol
  is : symbols ps ≡ ts ++ symbols rest
  condition : Condition
  holds : P ts condition
  listed : list_of condition ≡ cs
  several : AreSeveral cs → condition ≡ whole cs

mutual
  pub path-spells : (p : Path) (rest : List Piece) → GoodPath p → Spells (λ ts. IsPath ts p) (path_pieces p rest) rest
  path-spells (path true arrived) rest g = absurd g.0
  path-spells (path false arrived) rest g = absurd g.0
  path-spells (path true (step axis part test cs ss)) rest g =
      let r = steps-spell (step axis part test cs ss) rest g.1 in
      record { ts = separator_symbol axis ∷ r.ts; is = ap (λ x. separator_symbol axis ∷ x) r.is; holds = from_document (separator_symbol axis) axis r.ts (step axis part test cs ss) (separator-is axis) r.holds }
  path-spells (path false (step axis part test cs ss)) rest g =
      let r = steps-spell (step axis part test cs ss) rest g.1 in
      record { ts = r.ts; is = r.is; holds = from_element r.ts (step axis part test cs ss) (subst (λ (a : Axis). IsStep a r.ts (step axis part test cs ss)) g.0 r.holds) }

  steps-spell : (ss : Steps) (rest : List Piece) → GoodSteps ss → StepsSpell ss rest
  steps-spell arrived rest g = tt
  steps-spell (step axis attribute test no_more arrived) rest g =
      record { ts = plain at_sign ∷ test_symbol test ∷ []; is = refl; holds = of_attribute axis (test_symbol test) test (test-is test) }
  steps-spell (step axis element test cs arrived) rest g =
      let r = brackets-spell cs rest g.1 in
      record { ts = test_symbol test ∷ r.ts; is = ap (λ x. test_symbol test ∷ x) r.is; holds = last axis (test_symbol test) test r.ts cs (test-is test) r.holds }
  steps-spell (step axis element test cs (step next part name_test ds ss)) rest g =
      let q = steps-spell (step next part name_test ds ss) rest g.2 in
      let r = brackets-spell cs (steps_pieces true (step next part name_test ds ss) rest) g.1 in
      record {
        ts = test_symbol test ∷ r.ts ++ separator_symbol next ∷ q.ts;
        is = ap (λ x. test_symbol test ∷ x) (r.is ∙ ap (λ x. r.ts ++ (separator_symbol next ∷ x)) q.is ∙ sym (append_assoc r.ts (separator_symbol next ∷ q.ts) (symbols rest)));
        holds = goes_on axis next (test_symbol test) (separator_symbol next) test r.ts q.ts cs (step next part name_test ds ss) (test-is test) r.holds (separator-is next) q.holds;
      }
  steps-spell (step axis attribute test no_more (step next part name_test ds ss)) rest g = absurd g
  steps-spell (step axis attribute test (more c cs) ss) rest g = absurd (no-condition c cs ss g)
    where
      no-condition : (d : Condition) (ds : Conditions) (qs : Steps) → GoodSteps (step axis attribute test (more d ds) qs) → ⊥
      no-condition d ds arrived h = h
      no-condition d ds (step x y z w qs) h = h

  brackets-spell : (cs : Conditions) (rest : List Piece) → EachGood cs → Spells (λ ts. AreBracketed ts cs) (bracketed_pieces cs rest) rest
  brackets-spell no_more rest g = record { ts = []; is = refl; holds = no_bracket }
  brackets-spell (more c cs) rest g =
      let r = (condition-spells c g.0).as_whole (tight (plain closing_bracket) ∷ bracketed_pieces cs rest) in
      let q = brackets-spell cs rest g.1 in
      record {
        ts = plain opening_bracket ∷ r.ts ++ plain closing_bracket ∷ q.ts;
        is = ap (λ x. plain opening_bracket ∷ x) (r.is ∙ ap (λ x. r.ts ++ (plain closing_bracket ∷ x)) q.is ∙ sym (append_assoc r.ts (plain closing_bracket ∷ q.ts) (symbols rest)));
        holds = bracket r.ts q.ts c cs r.holds q.holds;
      }

  condition-spells : (c : Condition) → Good c → ConditionSpells c
  condition-spells (any_of cs) g = record {
    as_whole = λ rest. (let r = ors-spell cs g.0 g.1 rest in record { ts = r.ts; is = r.is; holds = subst (λ (d : Condition). IsCondition r.ts d) (r.several g.0) r.holds });
    as_conjunct = λ n. absurd n;
    as_part = λ n rest. (let r = ors-spell cs g.0 g.1 (tight (plain closing_parenthesis) ∷ rest) in
        record {
          ts = plain opening_parenthesis ∷ r.ts ++ plain closing_parenthesis ∷ [];
          is = ap (λ x. plain opening_parenthesis ∷ x) (r.is ∙ sym (append_assoc r.ts (plain closing_parenthesis ∷ []) (symbols rest)));
          holds = grouped r.ts (any_of cs) (subst (λ (d : Condition). IsCondition r.ts d) (r.several g.0) r.holds);
        });
  }
  condition-spells (all_of cs) g = record {
    as_whole = λ rest. (let r = ands-spell cs g.0 g.1 rest in record { ts = r.ts; is = r.is; holds = conjunct r.ts (all_of cs) (subst (λ (d : Condition). IsConjunct r.ts d) (r.several g.0) r.holds) });
    as_conjunct = λ n rest. (let r = ands-spell cs g.0 g.1 rest in record { ts = r.ts; is = r.is; holds = subst (λ (d : Condition). IsConjunct r.ts d) (r.several g.0) r.holds });
    as_part = λ n. absurd n;
  }
  condition-spells (not_so c) g =
      of-simple (not_so c) (λ rest. (let r = (condition-spells c g).as_whole (tight (plain closing_parenthesis) ∷ rest) in
      record {
        ts = not_function ∷ plain opening_parenthesis ∷ r.ts ++ plain closing_parenthesis ∷ [];
        is = ap (λ x. not_function ∷ plain opening_parenthesis ∷ x) (r.is ∙ sym (append_assoc r.ts (plain closing_parenthesis ∷ []) (symbols rest)));
        holds = negated r.ts c r.holds;
      })) (λ rest. refl)
  condition-spells (alone o) g =
      of-simple (alone o) (λ rest. (let r = operand-spells o rest g in record { ts = r.ts; is = r.is; holds = operand r.ts o r.holds })) (λ rest. refl)
  condition-spells (compare a how b) g =
      of-simple (compare a how b) (λ rest. (let q = operand-spells b rest g.1 in
      let r = operand-spells a (tight (comparison_symbol how) ∷ operand_pieces b rest) g.0 in
      record {
        ts = r.ts ++ comparison_symbol how ∷ q.ts;
        is = r.is ∙ ap (λ x. r.ts ++ (comparison_symbol how ∷ x)) q.is ∙ sym (append_assoc r.ts (comparison_symbol how ∷ q.ts) (symbols rest));
        holds = compared r.ts q.ts (comparison_symbol how) how a b r.holds (comparison-is how) q.holds;
      })) (λ rest. refl)

  ors-spell : (cs : Conditions) → AreSeveral cs → Alternatives cs → (rest : List Piece) → Listed IsCondition either_list any_of cs (listed_pieces or_word false cs rest) rest
  ors-spell no_more s g rest = absurd s
  ors-spell (more c no_more) s g rest = absurd s
  ors-spell (more c (more d no_more)) s g rest =
      let q = (condition-spells d g.2.1).as_conjunct g.2.0 rest in
      let r = (condition-spells c g.1).as_conjunct g.0 (word or_word ∷ condition_pieces false d rest) in
      let same : joined (either_list c) (either_list d) ≡ more c (more d no_more) = ap (λ x. joined x (either_list d)) (alone-list c g.0) ∙ ap (λ x. more c x) (alone-list d g.2.0) in
      record {
        ts = r.ts ++ or_word ∷ q.ts;
        is = r.is ∙ ap (λ x. r.ts ++ (or_word ∷ x)) q.is ∙ sym (append_assoc r.ts (or_word ∷ q.ts) (symbols rest));
        condition = either c d;
        holds = or r.ts q.ts c d r.holds (conjunct q.ts d q.holds);
        listed = same;
        several = λ t. ap any_of same;
      }
  ors-spell (more c (more d (more e cs))) s g rest =
      let q = ors-spell (more d (more e cs)) tt g.2 rest in
      let r = (condition-spells c g.1).as_conjunct g.0 (word or_word ∷ listed_pieces or_word false (more d (more e cs)) rest) in
      let same : joined (either_list c) (either_list q.condition) ≡ more c (more d (more e cs)) = ap (λ x. joined x (either_list q.condition)) (alone-list c g.0) ∙ ap (λ x. more c x) q.listed in
      record {
        ts = r.ts ++ or_word ∷ q.ts;
        is = r.is ∙ ap (λ x. r.ts ++ (or_word ∷ x)) q.is ∙ sym (append_assoc r.ts (or_word ∷ q.ts) (symbols rest));
        condition = either c q.condition;
        holds = or r.ts q.ts c q.condition r.holds q.holds;
        listed = same;
        several = λ t. ap any_of same;
      }

  ands-spell : (cs : Conditions) → AreSeveral cs → Conjunctions cs → (rest : List Piece) → Listed IsConjunct both_list all_of cs (listed_pieces and_word true cs rest) rest
  ands-spell no_more s g rest = absurd s
  ands-spell (more c no_more) s g rest = absurd s
  ands-spell (more c (more d no_more)) s g rest =
      let q = (condition-spells d g.2.1).as_part g.2.0 rest in
      let r = (condition-spells c g.1).as_part g.0 (word and_word ∷ condition_pieces true d rest) in
      let same : joined (both_list c) (both_list d) ≡ more c (more d no_more) = ap (λ x. joined x (both_list d)) (alone-part c g.0) ∙ ap (λ x. more c x) (alone-part d g.2.0) in
      record {
        ts = r.ts ++ and_word ∷ q.ts;
        is = r.is ∙ ap (λ x. r.ts ++ (and_word ∷ x)) q.is ∙ sym (append_assoc r.ts (and_word ∷ q.ts) (symbols rest));
        condition = both c d;
        holds = and r.ts q.ts c d r.holds (simple q.ts d q.holds);
        listed = same;
        several = λ t. ap all_of same;
      }
  ands-spell (more c (more d (more e cs))) s g rest =
      let q = ands-spell (more d (more e cs)) tt g.2 rest in
      let r = (condition-spells c g.1).as_part g.0 (word and_word ∷ listed_pieces and_word true (more d (more e cs)) rest) in
      let same : joined (both_list c) (both_list q.condition) ≡ more c (more d (more e cs)) = ap (λ x. joined x (both_list q.condition)) (alone-part c g.0) ∙ ap (λ x. more c x) q.listed in
      record {
        ts = r.ts ++ and_word ∷ q.ts;
        is = r.is ∙ ap (λ x. r.ts ++ (and_word ∷ x)) q.is ∙ sym (append_assoc r.ts (and_word ∷ q.ts) (symbols rest));
        condition = both c q.condition;
        holds = and r.ts q.ts c q.condition r.holds q.holds;
        listed = same;
        several = λ t. ap all_of same;
      }

  operand-spells : (o : Operand) (rest : List Piece) → GoodOperand o → Spells (λ ts. IsOperand ts o) (operand_pieces o rest) rest
  operand-spells (found p) rest g = let r = path-spells p rest g in record { ts = r.ts; is = r.is; holds = of_path r.ts p r.holds }
  operand-spells (filter.literal v) rest g = record { ts = plain (literal v) ∷ []; is = refl; holds = of_literal v }
  operand-spells local_name rest g = record { ts = local_name_function ∷ plain opening_parenthesis ∷ plain closing_parenthesis ∷ []; is = refl; holds = of_function }
