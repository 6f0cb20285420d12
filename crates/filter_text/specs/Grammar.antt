-- Which tokens are a filter.
use Rattle.std.specs.Prelude.{true, false, List, [], ◌∷◌, ◌++◌, codes}
use Rattle.filter_text.specs.Filter.{Text, Axis, child, descendant, Part, Test, any, Comparison, equal, Path, path, Steps, arrived, step, Condition, any_of, all_of, not_so, alone, compare, Conditions, no_more, more, Operand, found, local_name}
use Rattle.filter_text.specs.Filter as filter
use Rattle.filter_tokens.specs.Token.{Token, slash, double_slash, opening_bracket, closing_bracket, opening_parenthesis, closing_parenthesis, at_sign, star, equals, literal}
use Rattle.filter_tokens.specs.Token as token

-- A token, or the name of a function: `not` or `local-name` before a parenthesis.
pub data Symbol : Type 0 where
  plain : Token → Symbol
  not_function : Symbol
  local_name_function : Symbol

abbrev pub and_word : Symbol
and_word = plain (token.name (codes "and"))

abbrev pub or_word : Symbol
or_word = plain (token.name (codes "or"))

-- Runs of one operator are one list.
abbrev pub joined : Conditions → Conditions → Conditions
joined no_more ds = ds
joined (more c cs) ds = more c (joined cs ds)

abbrev pub either_list : Condition → Conditions
either_list (any_of cs) = cs
either_list c = more c no_more

abbrev pub both_list : Condition → Conditions
both_list (all_of cs) = cs
both_list c = more c no_more

abbrev pub either : Condition → Condition → Condition
either c d = any_of (joined (either_list c) (either_list d))

abbrev pub both : Condition → Condition → Condition
both c d = all_of (joined (both_list c) (both_list d))

pub data IsSeparator : Symbol → Axis → Type 0 where
  to_children : IsSeparator (plain slash) child
  to_descendants : IsSeparator (plain double_slash) descendant

pub data IsTest : Symbol → Test → Type 0 where
  of_name : (n : Text) → IsTest (plain (token.name n)) (filter.name n)
  of_any : IsTest (plain star) any

pub data IsComparison : Symbol → Comparison → Type 0 where
  is_equal : IsComparison (plain equals) equal
  is_different : IsComparison (plain token.differs) filter.differs

mutual
  pub data IsPath : List Symbol → Path → Type 0 where
    from_document : (s : Symbol) (axis : Axis) (ts : List Symbol) (ss : Steps) → IsSeparator s axis → IsStep axis ts ss → IsPath (s ∷ ts) (path true ss)
    from_element : (ts : List Symbol) (ss : Steps) → IsStep child ts ss → IsPath ts (path false ss)

  -- the steps from one that has this axis on
  pub data IsStep : Axis → List Symbol → Steps → Type 0 where
    of_attribute : (axis : Axis) (t : Symbol) (test : Test) → IsTest t test → IsStep axis (plain at_sign ∷ t ∷ []) (step axis filter.attribute test no_more arrived)
    last : (axis : Axis) (t : Symbol) (test : Test) (ts : List Symbol) (cs : Conditions) → IsTest t test → AreBracketed ts cs → IsStep axis (t ∷ ts) (step axis filter.element test cs arrived)
    goes_on : (axis next : Axis) (t s : Symbol) (test : Test) (ts more : List Symbol) (cs : Conditions) (ss : Steps) → IsTest t test → AreBracketed ts cs → IsSeparator s next → IsStep next more ss
        → IsStep axis (t ∷ ts ++ s ∷ more) (step axis filter.element test cs ss)

  pub data AreBracketed : List Symbol → Conditions → Type 0 where
    no_bracket : AreBracketed [] no_more
    bracket : (ts us : List Symbol) (c : Condition) (cs : Conditions) → IsCondition ts c → AreBracketed us cs → AreBracketed (plain opening_bracket ∷ ts ++ plain closing_bracket ∷ us) (more c cs)

  pub data IsCondition : List Symbol → Condition → Type 0 where
    conjunct : (ts : List Symbol) (c : Condition) → IsConjunct ts c → IsCondition ts c
    or : (ts us : List Symbol) (c d : Condition) → IsConjunct ts c → IsCondition us d → IsCondition (ts ++ or_word ∷ us) (either c d)

  pub data IsConjunct : List Symbol → Condition → Type 0 where
    simple : (ts : List Symbol) (c : Condition) → IsSimple ts c → IsConjunct ts c
    and : (ts us : List Symbol) (c d : Condition) → IsSimple ts c → IsConjunct us d → IsConjunct (ts ++ and_word ∷ us) (both c d)

  pub data IsSimple : List Symbol → Condition → Type 0 where
    negated : (ts : List Symbol) (c : Condition) → IsCondition ts c → IsSimple (not_function ∷ plain opening_parenthesis ∷ ts ++ plain closing_parenthesis ∷ []) (not_so c)
    grouped : (ts : List Symbol) (c : Condition) → IsCondition ts c → IsSimple (plain opening_parenthesis ∷ ts ++ plain closing_parenthesis ∷ []) c
    operand : (ts : List Symbol) (o : Operand) → IsOperand ts o → IsSimple ts (alone o)
    compared : (ts us : List Symbol) (s : Symbol) (how : Comparison) (a b : Operand) → IsOperand ts a → IsComparison s how → IsOperand us b → IsSimple (ts ++ s ∷ us) (compare a how b)

  pub data IsOperand : List Symbol → Operand → Type 0 where
    of_path : (ts : List Symbol) (p : Path) → IsPath ts p → IsOperand ts (found p)
    of_literal : (value : Text) → IsOperand (plain (literal value) ∷ []) (filter.literal value)
    of_function : IsOperand (local_name_function ∷ plain opening_parenthesis ∷ plain closing_parenthesis ∷ []) local_name
