-- A filter of few tokens is small.
use Rattle.std.proofs.Common.{◌≡◌, ℕ, ◌+◌, ◌*◌, ◌≤◌, List, [], ◌∷◌, ◌++◌, length, refl, length-append, arith}
use Rattle.filter_text.specs.Filter.{Axis, Path, Steps, Condition, any_of, all_of, not_so, alone, compare, Conditions, no_more, more, Operand}
use Rattle.filter_tokens.specs.Token.{closing_bracket, closing_parenthesis}
use Rattle.filter_text.specs.Grammar.{Symbol, plain, and_word, or_word, joined, either_list, both_list, IsPath, from_document, from_element, IsStep, of_attribute, last, goes_on, AreBracketed, no_bracket, bracket, IsCondition, conjunct, or, IsConjunct, simple, and, IsSimple, negated, grouped, operand, compared, IsOperand, of_path, of_literal, of_function}
use Rattle.filter_text.specs.Size.{size_of_path, size_of_steps, size_of_conditions, size_of_condition, size_of_operand, steps_in_path, steps_in_steps, steps_in_conditions, steps_in_condition, steps_in_operand}

record Fits (size steps n : ℕ) : Type 0 where
  size_fits : size ≤ 6 * n
  steps_fit : 2 * steps ≤ n + 1

joined-size : (xs ys : Conditions) → size_of_conditions (joined xs ys) + 1 ≡ size_of_conditions xs + size_of_conditions ys
joined-size no_more ys = omega arith
joined-size (more c cs) ys = let e = joined-size cs ys in omega arith

joined-steps : (xs ys : Conditions) → steps_in_conditions (joined xs ys) ≡ steps_in_conditions xs + steps_in_conditions ys
joined-steps no_more ys = omega arith
joined-steps (more c cs) ys = let e = joined-steps cs ys in omega arith

record ListFits (c : Condition) (cs : Conditions) : Type 0 where
  size_fits : size_of_conditions cs ≤ size_of_condition c + 2
  steps_fit : steps_in_conditions cs ≡ steps_in_condition c

either-list : (c : Condition) → ListFits c (either_list c)
either-list (any_of cs) = record { size_fits = omega arith; steps_fit = refl }
either-list (all_of cs) = record { size_fits = omega arith; steps_fit = omega arith }
either-list (not_so c) = record { size_fits = omega arith; steps_fit = omega arith }
either-list (alone o) = record { size_fits = omega arith; steps_fit = omega arith }
either-list (compare a how b) = record { size_fits = omega arith; steps_fit = omega arith }

both-list : (c : Condition) → ListFits c (both_list c)
both-list (any_of cs) = record { size_fits = omega arith; steps_fit = omega arith }
both-list (all_of cs) = record { size_fits = omega arith; steps_fit = refl }
both-list (not_so c) = record { size_fits = omega arith; steps_fit = omega arith }
both-list (alone o) = record { size_fits = omega arith; steps_fit = omega arith }
both-list (compare a how b) = record { size_fits = omega arith; steps_fit = omega arith }

-- two lists with a word between
listed-fits : (c d : Condition) (cs ds : Conditions) (ts us : List Symbol) (w : Symbol) → ListFits c cs → ListFits d ds → Fits (size_of_condition c) (steps_in_condition c) (length ts) → Fits (size_of_condition d) (steps_in_condition d) (length us) →
    Fits (size_of_conditions (joined cs ds) + 1) (steps_in_conditions (joined cs ds)) (length (ts ++ w ∷ us))
listed-fits c d cs ds ts us w lc ld fc fd =
    let n = length-append ts (w ∷ us) in let e = joined-size cs ds in let f = joined-steps cs ds in
    let a = lc.size_fits in let b = ld.size_fits in let x = fc.size_fits in let y = fd.size_fits in
    let p = lc.steps_fit in let q = ld.steps_fit in let u = fc.steps_fit in let v = fd.steps_fit in
    record { size_fits = omega arith; steps_fit = omega arith }

record StepsFit (ss : Steps) (n : ℕ) : Type 0 where
  size_fits : size_of_steps ss + 3 ≤ 6 * n
  steps_fit : 2 * steps_in_steps ss ≤ n + 1

record BracketsFit (cs : Conditions) (n : ℕ) : Type 0 where
  size_fits : size_of_conditions cs ≤ 6 * n + 1
  steps_fit : 2 * steps_in_conditions cs ≤ n

record OperandFits (o : Operand) (n : ℕ) : Type 0 where
  size_fits : size_of_operand o + 1 ≤ 6 * n
  steps_fit : 2 * steps_in_operand o ≤ n + 1

pub record PathFits (p : Path) (n : ℕ) : Type 0 where
  pub size_fits : size_of_path p + 2 ≤ 6 * n
  pub steps_fit : 2 * steps_in_path p ≤ n + 1

mutual
  pub path-fits : (ts : List Symbol) (p : Path) → IsPath ts p → PathFits p (length ts)
  path-fits ts p (from_document s axis us ss sep st) = let r = step-fits axis us ss st in let a = r.size_fits in let b = r.steps_fit in record { size_fits = omega arith; steps_fit = omega arith }
  path-fits ts p (from_element us ss st) = let r = step-fits _ us ss st in let a = r.size_fits in let b = r.steps_fit in record { size_fits = omega arith; steps_fit = omega arith }

  step-fits : (axis : Axis) (ts : List Symbol) (ss : Steps) → IsStep axis ts ss → StepsFit ss (length ts)
  step-fits axis ts ss (of_attribute a t test is) = record { size_fits = omega arith; steps_fit = omega arith }
  step-fits axis ts ss (last a t test us cs is b) = let r = brackets-fit us cs b in let x = r.size_fits in let y = r.steps_fit in record { size_fits = omega arith; steps_fit = omega arith }
  step-fits axis ts ss (goes_on a next t s test us others cs ends is b sep st) =
      let r = brackets-fit us cs b in let x = r.size_fits in let y = r.steps_fit in
      let q = step-fits next others ends st in let z = q.size_fits in let w = q.steps_fit in
      let n = length-append us (s ∷ others) in record { size_fits = omega arith; steps_fit = omega arith }

  brackets-fit : (ts : List Symbol) (cs : Conditions) → AreBracketed ts cs → BracketsFit cs (length ts)
  brackets-fit ts cs no_bracket = record { size_fits = omega arith; steps_fit = omega arith }
  brackets-fit ts cs (bracket us vs c ds is others) =
      let r = condition-fits us c is in let x = r.size_fits in let y = r.steps_fit in
      let q = brackets-fit vs ds others in let z = q.size_fits in let w = q.steps_fit in
      let n = length-append us (plain closing_bracket ∷ vs) in record { size_fits = omega arith; steps_fit = omega arith }

  condition-fits : (ts : List Symbol) (c : Condition) → IsCondition ts c → Fits (size_of_condition c) (steps_in_condition c) (length ts)
  condition-fits ts c (conjunct us d is) = conjunct-fits us d is
  condition-fits ts c (or us vs d e is others) =
      let r = listed-fits d e (either_list d) (either_list e) us vs or_word (either-list d) (either-list e) (conjunct-fits us d is) (condition-fits vs e others) in
      let x = r.size_fits in let y = r.steps_fit in record { size_fits = omega arith; steps_fit = omega arith }

  conjunct-fits : (ts : List Symbol) (c : Condition) → IsConjunct ts c → Fits (size_of_condition c) (steps_in_condition c) (length ts)
  conjunct-fits ts c (simple us d is) = simple-fits us d is
  conjunct-fits ts c (and us vs d e is others) =
      let r = listed-fits d e (both_list d) (both_list e) us vs and_word (both-list d) (both-list e) (simple-fits us d is) (conjunct-fits vs e others) in
      let x = r.size_fits in let y = r.steps_fit in record { size_fits = omega arith; steps_fit = omega arith }

  simple-fits : (ts : List Symbol) (c : Condition) → IsSimple ts c → Fits (size_of_condition c) (steps_in_condition c) (length ts)
  simple-fits ts c (negated us d is) =
      let r = condition-fits us d is in let x = r.size_fits in let y = r.steps_fit in
      let n = length-append us (plain closing_parenthesis ∷ []) in record { size_fits = omega arith; steps_fit = omega arith }
  simple-fits ts c (grouped us d is) =
      let r = condition-fits us d is in let x = r.size_fits in let y = r.steps_fit in
      let n = length-append us (plain closing_parenthesis ∷ []) in record { size_fits = omega arith; steps_fit = omega arith }
  simple-fits ts c (operand us o is) = let r = operand-fits us o is in let x = r.size_fits in let y = r.steps_fit in record { size_fits = omega arith; steps_fit = omega arith }
  simple-fits ts c (compared us vs s how a b is comparison others) =
      let r = operand-fits us a is in let x = r.size_fits in let y = r.steps_fit in
      let q = operand-fits vs b others in let z = q.size_fits in let w = q.steps_fit in
      let n = length-append us (s ∷ vs) in record { size_fits = omega arith; steps_fit = omega arith }

  operand-fits : (ts : List Symbol) (o : Operand) → IsOperand ts o → OperandFits o (length ts)
  operand-fits ts o (of_path us p is) = let r = path-fits us p is in let x = r.size_fits in let y = r.steps_fit in record { size_fits = omega arith; steps_fit = omega arith }
  operand-fits ts o (of_literal v) = record { size_fits = omega arith; steps_fit = omega arith }
  operand-fits ts o of_function = record { size_fits = omega arith; steps_fit = omega arith }
