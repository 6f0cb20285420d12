-- The machine takes each sentence, and keeps what it says.
use Rattle.std.proofs.Common.{◌≡◌, ◌⊎◌, inl, inr, Bool, true, false, List, [], ◌∷◌, ◌++◌, Option, Some, None, refl, sym, ◌∙◌, ap, subst, append_assoc}
use Rattle.filter_text.specs.Filter.{Text, Axis, child, descendant, Path, path, Steps, arrived, Condition, not_so, alone, Conditions, no_more, more, Operand, found, local_name, Test, Comparison}
use Rattle.filter_text.specs.Filter as filter
use Rattle.filter_tokens.specs.Token.{closing_bracket, closing_parenthesis, equals, differs}
use Rattle.filter_text.specs.Grammar.{Symbol, plain, not_function, local_name_function, and_word, or_word, joined, either, both, either_list, both_list, IsSeparator, to_children, to_descendants, IsTest, of_name, of_any, IsComparison, is_equal, is_different, IsPath, from_document, from_element, IsStep, of_attribute, last, goes_on, AreBracketed, no_bracket, bracket, IsCondition, conjunct, or, IsConjunct, simple, and, IsSimple, negated, grouped, operand, IsOperand, of_path, of_literal, of_function}
use Rattle.filter_text.specs.Grammar as grammar
use Rattle.filter_text.specs.Machine.{Left, Level, Way, State, start, not_opening, function_opening, function_closing, step, attribute_test, behind_step, behind_operand, behind_condition, Opening, parenthesis, Machine, into, nothing_read, before, or_none, either_all, both_all, whole, compared, path_to, path_to_attribute, relative, absolute, next_step, close, advance, and_then, run, part_read}
use Rattle.filter_text.specs.Machine as machine
use Rattle.filter_text.proofs.Lists.{joined-nil, joined-assoc, before-assoc, either_all-more, both_all-more}

abbrev pub from : State → List Opening → Machine
from state stack = record { state = state; stack = stack }

abbrev pub level_of : Option Conditions → Option Conditions → Option Left → Level
level_of ors ands left = record { ors = ors; ands = ands; left = left }

abbrev pub way_of : Bool → Steps → Axis → Way
way_of is_absolute steps axis = record { absolute = is_absolute; steps = steps; axis = axis }

-- behind this operand
abbrev pub Behind : Level → Operand → State → Type 0
Behind level o st =
    ((way : Way) × (test : Test) × (cs : Conditions) × (st ≡ behind_step level way test cs) × (found (path_to way test cs) ≡ o)) ⊎ (st ≡ behind_operand level o)

-- what closes a condition, or goes on behind a part of it
pub data IsCloser : Symbol → Type 0 where
  by_and : IsCloser and_word
  by_or : IsCloser or_word
  by_bracket : IsCloser (plain closing_bracket)
  by_parenthesis : IsCloser (plain closing_parenthesis)

-- behind this part of a condition
pub record Done (level : Level) (c : Condition) (st : State) : Type 0 where
  pub closes : (s : Symbol) (stack : List Opening) → IsCloser s → advance st s stack ≡ close level c s stack
  pub reads : part_read st ≡ Some (whole level c)

-- behind the last part of a conjunct
pub record Ends (ors ands : Option Conditions) (c : Condition) (st : State) : Type 0 where
  pub level : Level
  pub part : Condition
  pub same_ors : level.ors ≡ ors
  pub same_part : both_all level.ands part ≡ both_all ands c
  pub done : Done level part st

-- behind the last part of a condition
pub record EndsWhole (ors : Option Conditions) (c : Condition) (st : State) : Type 0 where
  pub level : Level
  pub part : Condition
  pub same : whole level part ≡ either_all ors c
  pub done : Done level part st

abbrev pub Takes : State → List Symbol → State → List Opening → Type 0
Takes st ts next stack = (rest : List Symbol) → run (ts ++ rest) (from st stack) ≡ run rest (from next stack)

goes : (st : State) (s : Symbol) (stack : List Opening) (m : Machine) (rest : List Symbol) → advance st s stack ≡ Some m → run (s ∷ rest) (from st stack) ≡ run rest m
goes st s stack m rest e = ap (λ x. and_then x (run rest)) e

separator-runs : (s : Symbol) (axis : Axis) (level : Level) (way : Way) (test : Test) (cs : Conditions) (stack : List Opening) → IsSeparator s axis → advance (behind_step level way test cs) s stack ≡ into (step level (next_step way test cs axis)) stack
separator-runs s axis level way test cs stack to_children = refl
separator-runs s axis level way test cs stack to_descendants = refl

test-runs : (t : Symbol) (test : Test) (level : Level) (way : Way) (stack : List Opening) → IsTest t test → advance (step level way) t stack ≡ into (behind_step level way test no_more) stack
test-runs t test level way stack (of_name n) = refl
test-runs t test level way stack of_any = refl

attribute-runs : (t : Symbol) (test : Test) (level : Level) (way : Way) (stack : List Opening) → IsTest t test → advance (attribute_test level way) t stack ≡ into (behind_operand level (found (path_to_attribute way test))) stack
attribute-runs t test level way stack (of_name n) = refl
attribute-runs t test level way stack of_any = refl

-- behind an operand the part ends with it
operand-done : (level : Level) (o : Operand) (st : State) → Behind level o st → Done level (compared level.left o) st
operand-done level o st (inl (way, test, cs, e, is)) =
    record { closes = λ s stack closer. ap (λ x. advance x s stack) e ∙ closes s stack closer ∙ ap (λ x. close level (compared level.left x) s stack) is; reads = ap part_read e ∙ ap (λ x. Some (whole level (compared level.left x))) is }
  where
    closes : (s : Symbol) (stack : List Opening) → IsCloser s → advance (behind_step level way test cs) s stack ≡ close level (compared level.left (found (path_to way test cs))) s stack
    closes s stack by_and = refl
    closes s stack by_or = refl
    closes s stack by_bracket = refl
    closes s stack by_parenthesis = refl
operand-done level o st (inr e) =
    record { closes = λ s stack closer. ap (λ x. advance x s stack) e ∙ closes s stack closer; reads = ap part_read e }
  where
    closes : (s : Symbol) (stack : List Opening) → IsCloser s → advance (behind_operand level o) s stack ≡ close level (compared level.left o) s stack
    closes s stack by_and = refl
    closes s stack by_or = refl
    closes s stack by_bracket = refl
    closes s stack by_parenthesis = refl

condition-done : (level : Level) (c : Condition) → Done level c (behind_condition level c)
condition-done level c = record { closes = λ s stack closer. refl; reads = refl }

compares : (s : Symbol) (how : Comparison) (ors ands : Option Conditions) (o : Operand) (st : State) (stack : List Opening) → IsComparison s how → Behind (level_of ors ands None) o st →
    advance st s stack ≡ into (start (level_of ors ands (Some (record { operand = o; comparison = how })))) stack
compares s how ors ands o st stack is_equal (inl (way, test, cs, e, is)) = ap (λ x. advance x (plain equals) stack) e ∙ ap (λ x. into (start (level_of ors ands (Some (record { operand = x; comparison = filter.equal })))) stack) is
compares s how ors ands o st stack is_different (inl (way, test, cs, e, is)) = ap (λ x. advance x (plain differs) stack) e ∙ ap (λ x. into (start (level_of ors ands (Some (record { operand = x; comparison = filter.differs })))) stack) is
compares s how ors ands o st stack is_equal (inr e) = ap (λ x. advance x (plain equals) stack) e
compares s how ors ands o st stack is_different (inr e) = ap (λ x. advance x (plain differs) stack) e

-- a path without a beginning starts as a step does
starts : (axis : Axis) (ts : List Symbol) (ss : Steps) (level : Level) (stack : List Opening) (rest : List Symbol) → IsStep axis ts ss → run (ts ++ rest) (from (start level) stack) ≡ run (ts ++ rest) (from (step level relative) stack)
starts axis ts ss level stack rest (of_attribute a t test is) = refl
starts axis ts ss level stack rest (last a t test us cs (of_name n) b) = refl
starts axis ts ss level stack rest (last a t test us cs of_any b) = refl
starts axis ts ss level stack rest (goes_on a next t s test us vs cs ends (of_name n) b sep st) = refl
starts axis ts ss level stack rest (goes_on a next t s test us vs cs ends of_any b sep st) = refl

starts-document : (s : Symbol) (axis : Axis) (level : Level) (stack : List Opening) → IsSeparator s axis → advance (start level) s stack ≡ into (step level (absolute axis)) stack
starts-document s axis level stack to_children = refl
starts-document s axis level stack to_descendants = refl

regroup : (st : State) (stack : List Opening) (ts us rest : List Symbol) → run ((ts ++ us) ++ rest) (from st stack) ≡ run (ts ++ (us ++ rest)) (from st stack)
regroup st stack ts us rest = ap (λ x. run x (from st stack)) (append_assoc ts us rest)

same_operand : (level : Level) (o p : Operand) (st : State) → o ≡ p → Behind level o st → Behind level p st
same_operand level o p st e b = let P : Operand → Type 0 = λ x. Behind level x st in subst P e b

mutual
  pub path-runs : (ts : List Symbol) (p : Path) (level : Level) (stack : List Opening) → IsPath ts p → (st : State) × Behind level (found p) st × Takes (start level) ts st stack
  path-runs ts p level stack (from_document s axis us ss sep st) =
      let r = step-runs axis us ss level true arrived stack st in
      (r.0, r.1, λ rest. goes (start level) s stack _ (us ++ rest) (starts-document s axis level stack sep) ∙ r.2 rest)
  path-runs ts p level stack (from_element us ss st) =
      let r = step-runs child us ss level false arrived stack st in
      (r.0, r.1, λ rest. starts child us ss level stack rest st ∙ r.2 rest)

  step-runs : (axis : Axis) (ts : List Symbol) (ss : Steps) (level : Level) (is_absolute : Bool) (front : Steps) (stack : List Opening) → IsStep axis ts ss →
      (st : State) × Behind level (found (path is_absolute (before front ss))) st × Takes (step level (way_of is_absolute front axis)) ts st stack
  step-runs axis ts ss level is_absolute front stack (of_attribute a t test is) = (
    behind_operand level (found (path_to_attribute (way_of is_absolute front axis) test)),
    inr refl,
    λ rest. goes (attribute_test level (way_of is_absolute front axis)) t stack _ rest (attribute-runs t test level (way_of is_absolute front axis) stack is),
  )
  step-runs axis ts ss level is_absolute front stack (last a t test us cs is b) = (
    behind_step level (way_of is_absolute front axis) test cs,
    inl (way_of is_absolute front axis, test, cs, refl, refl),
    λ rest. goes (step level (way_of is_absolute front axis)) t stack _ (us ++ rest) (test-runs t test level (way_of is_absolute front axis) stack is)
        ∙ bracketed-runs us cs level (way_of is_absolute front axis) test no_more stack b rest,
  )
  step-runs axis ts ss level is_absolute front stack (goes_on a next t s test us others cs ends is b sep st) =
      let way = way_of is_absolute front axis in
      let r = step-runs next others ends level is_absolute (before front (filter.step axis filter.element test cs arrived)) stack st in (
        r.0,
        same_operand level _ _ r.0 (ap (λ x. found (path is_absolute x)) (before-assoc front (filter.step axis filter.element test cs arrived) ends)) r.1,
        λ rest. goes (step level way) t stack _ ((us ++ s ∷ others) ++ rest) (test-runs t test level way stack is) ∙ regroup (behind_step level way test no_more) stack us (s ∷ others) rest
            ∙ bracketed-runs us cs level way test no_more stack b (s ∷ others ++ rest) ∙ goes (behind_step level way test cs) s stack _ (others ++ rest) (separator-runs s next level way test cs stack sep) ∙ r.2 rest,
      )

  bracketed-runs : (ts : List Symbol) (cs : Conditions) (level : Level) (way : Way) (test : Test) (front : Conditions) (stack : List Opening) → AreBracketed ts cs →
      Takes (behind_step level way test front) ts (behind_step level way test (joined front cs)) stack
  bracketed-runs ts cs level way test front stack no_bracket rest = ap (λ x. run rest (from (behind_step level way test x) stack)) (sym (joined-nil front))
  bracketed-runs ts cs level way test front stack (bracket us vs c ds is others) rest =
      let inner = machine.bracket level way test front ∷ stack in
      let r = condition-runs us c None inner is in
      let shut : advance r.0 (plain closing_bracket) inner ≡ into (behind_step level way test (joined front (more c no_more))) stack =
      r.1.done.closes (plain closing_bracket) inner by_bracket ∙ ap (λ x. into (behind_step level way test (joined front (more x no_more))) stack) r.1.same in
      regroup (start nothing_read) inner us (plain closing_bracket ∷ vs) rest ∙ r.2 (plain closing_bracket ∷ vs ++ rest)
      ∙ goes r.0 (plain closing_bracket) inner _ (vs ++ rest) shut ∙ bracketed-runs vs ds level way test (joined front (more c no_more)) stack others rest
      ∙ ap (λ x. run rest (from (behind_step level way test x) stack)) (joined-assoc front (more c no_more) ds)

  pub condition-runs : (ts : List Symbol) (c : Condition) (ors : Option Conditions) (stack : List Opening) → IsCondition ts c → (st : State) × EndsWhole ors c st × Takes (start (level_of ors None None)) ts st stack
  condition-runs ts c ors stack (conjunct us d is) =
      let r = conjunct-runs us d ors None stack is in
      (r.0, record { level = r.1.level; part = r.1.part; same = ap (λ x. either_all x (both_all r.1.level.ands r.1.part)) r.1.same_ors ∙ ap (either_all ors) r.1.same_part; done = r.1.done }, r.2)
  condition-runs ts c ors stack (or us vs d e is others) =
      let r = conjunct-runs us d ors None stack is in
      let next : Option Conditions = Some (joined (or_none ors) (either_list d)) in
      let q = condition-runs vs e next stack others in
      let shut : advance r.0 or_word stack ≡ into (start (level_of next None None)) stack =
      r.1.done.closes or_word stack by_or ∙ ap (λ x. into (start (level_of (Some (joined (or_none x) (either_list (both_all r.1.level.ands r.1.part)))) None None)) stack) r.1.same_ors
      ∙ ap (λ x. into (start (level_of (Some (joined (or_none ors) (either_list x))) None None)) stack) r.1.same_part in (
        q.0,
        record { level = q.1.level; part = q.1.part; same = q.1.same ∙ either_all-more ors d e; done = q.1.done },
        λ rest. regroup (start (level_of ors None None)) stack us (or_word ∷ vs) rest ∙ r.2 (or_word ∷ vs ++ rest) ∙ goes r.0 or_word stack _ (vs ++ rest) shut ∙ q.2 rest,
      )

  conjunct-runs : (ts : List Symbol) (c : Condition) (ors ands : Option Conditions) (stack : List Opening) → IsConjunct ts c → (st : State) × Ends ors ands c st × Takes (start (level_of ors ands None)) ts st stack
  conjunct-runs ts c ors ands stack (simple us d is) =
      let r = simple-runs us d ors ands stack is in
      (r.0, record { level = level_of ors ands r.1.0; part = d; same_ors = refl; same_part = refl; done = r.1.1 }, r.2)
  conjunct-runs ts c ors ands stack (and us vs d e is others) =
      let r = simple-runs us d ors ands stack is in
      let next : Option Conditions = Some (joined (or_none ands) (both_list d)) in
      let q = conjunct-runs vs e ors next stack others in (
        q.0,
        record { level = q.1.level; part = q.1.part; same_ors = q.1.same_ors; same_part = q.1.same_part ∙ both_all-more ands d e; done = q.1.done },
        λ rest. regroup (start (level_of ors ands None)) stack us (and_word ∷ vs) rest ∙ r.2 (and_word ∷ vs ++ rest) ∙ goes r.0 and_word stack _ (vs ++ rest) (r.1.1.closes and_word stack by_and) ∙ q.2 rest,
      )

  simple-runs : (ts : List Symbol) (c : Condition) (ors ands : Option Conditions) (stack : List Opening) → IsSimple ts c →
      (st : State) × ((left : Option Left) × Done (level_of ors ands left) c st) × Takes (start (level_of ors ands None)) ts st stack
  simple-runs ts c ors ands stack (negated us d is) =
      let level = level_of ors ands None in
      let inner = parenthesis level true ∷ stack in
      let r = condition-runs us d None inner is in
      let shut : advance r.0 (plain closing_parenthesis) inner ≡ into (behind_condition level (not_so d)) stack =
      r.1.done.closes (plain closing_parenthesis) inner by_parenthesis ∙ ap (λ x. into (behind_condition level (not_so x)) stack) r.1.same in (
        behind_condition level (not_so d),
        (None, condition-done level (not_so d)),
        λ rest. regroup (start nothing_read) inner us (plain closing_parenthesis ∷ []) rest ∙ r.2 (plain closing_parenthesis ∷ rest) ∙ goes r.0 (plain closing_parenthesis) inner _ rest shut,
      )
  simple-runs ts c ors ands stack (grouped us d is) =
      let level = level_of ors ands None in
      let inner = parenthesis level false ∷ stack in
      let r = condition-runs us d None inner is in
      let shut : advance r.0 (plain closing_parenthesis) inner ≡ into (behind_condition level d) stack =
      r.1.done.closes (plain closing_parenthesis) inner by_parenthesis ∙ ap (λ x. into (behind_condition level x) stack) r.1.same in (
        behind_condition level d,
        (None, condition-done level d),
        λ rest. regroup (start nothing_read) inner us (plain closing_parenthesis ∷ []) rest ∙ r.2 (plain closing_parenthesis ∷ rest) ∙ goes r.0 (plain closing_parenthesis) inner _ rest shut,
      )
  simple-runs ts c ors ands stack (operand us o is) =
      let r = operand-runs us o (level_of ors ands None) stack is in
      (r.0, (None, operand-done (level_of ors ands None) o r.0 r.1), r.2)
  simple-runs ts c ors ands stack (grammar.compared us vs s how a b is comparison others) =
      let r = operand-runs us a (level_of ors ands None) stack is in
      let left : Option Left = Some (record { operand = a; comparison = how }) in
      let q = operand-runs vs b (level_of ors ands left) stack others in (
        q.0,
        (left, operand-done (level_of ors ands left) b q.0 q.1),
        λ rest. regroup (start (level_of ors ands None)) stack us (s ∷ vs) rest ∙ r.2 (s ∷ vs ++ rest) ∙ goes r.0 s stack _ (vs ++ rest) (compares s how ors ands a r.0 stack comparison r.1) ∙ q.2 rest,
      )

  operand-runs : (ts : List Symbol) (o : Operand) (level : Level) (stack : List Opening) → IsOperand ts o → (st : State) × Behind level o st × Takes (start level) ts st stack
  operand-runs ts o level stack (of_path us p is) = path-runs us p level stack is
  operand-runs ts o level stack (of_literal v) = (behind_operand level (filter.literal v), inr refl, λ rest. refl)
  operand-runs ts o level stack of_function = (behind_operand level local_name, inr refl, λ rest. refl)
