-- A machine that reads symbols from the front, as long as some sentence goes on with them, and keeps what it has read.
use Rattle.std.specs.Prelude.{ℕ, ◌&&◌, is_none, is_some, if◌then◌else◌, Bool, true, false, List, [], ◌∷◌, Option, Some, None, codes}
use Rattle.std.specs.Str.{bytes_eq}
use Rattle.filter_text.specs.Filter.{Text, Axis, child, descendant, Test, Comparison, Path, path, Steps, arrived, Condition, any_of, all_of, not_so, alone, Conditions, no_more, more, Operand, found, local_name}
use Rattle.filter_text.specs.Filter as filter
use Rattle.filter_tokens.specs.Token.{slash, double_slash, opening_bracket, closing_bracket, opening_parenthesis, closing_parenthesis, at_sign, star, equals, differs, name, literal, Placed}
use Rattle.filter_text.specs.Grammar.{Symbol, plain, not_function, local_name_function, joined, either_list, both_list}
use Rattle.filter_text.specs.Reading.{symbol_of, next_token}

-- a left operand with its comparison
pub record Left : Type 0 where
  pub operand : Operand
  pub comparison : Comparison

-- What was read of a condition: conjuncts up to an `or`, parts of a conjunct up to an `and`, and a left operand.
pub record Level : Type 0 where
  pub ors : Option Conditions
  pub ands : Option Conditions
  pub left : Option Left

-- What was read of a path: its whole steps, and how the next one goes on.
pub record Way : Type 0 where
  pub absolute : Bool
  pub steps : Steps
  pub axis : Axis

-- What may come next.
pub data State : Type 0 where
  -- a part of a condition, or a right operand
  start : Level → State
  not_opening : Level → State
  function_opening : Level → State
  function_closing : Level → State
  step : Level → Way → State
  attribute_test : Level → Way → State
  -- what may stand behind a step with these conditions
  behind_step : Level → Way → Test → Conditions → State
  behind_operand : Level → Operand → State
  behind_condition : Level → Condition → State

-- An open bracket behind a step, or an open parenthesis, negated or not.
pub data Opening : Type 0 where
  bracket : Level → Way → Test → Conditions → Opening
  parenthesis : Level → Bool → Opening

pub record Machine : Type 0 where
  pub state : State
  pub stack : List Opening

abbrev pub into : State → List Opening → Option Machine
into state stack = Some (record { state = state; stack = stack })

abbrev pub nothing_read : Level
nothing_read = record { ors = None; ands = None; left = None }

abbrev pub before : Steps → Steps → Steps
before arrived others = others
before (filter.step axis part test cs ss) others = filter.step axis part test cs (before ss others)

abbrev pub or_none : Option Conditions → Conditions
or_none None = no_more
or_none (Some cs) = cs

-- the conjuncts, with a last one
abbrev pub either_all : Option Conditions → Condition → Condition
either_all None c = c
either_all (Some cs) c = any_of (joined cs (either_list c))

abbrev pub both_all : Option Conditions → Condition → Condition
both_all None c = c
both_all (Some cs) c = all_of (joined cs (both_list c))

abbrev pub whole : Level → Condition → Condition
whole level c = either_all level.ors (both_all level.ands c)

abbrev pub compared : Option Left → Operand → Condition
compared None o = alone o
compared (Some left) o = filter.compare left.operand left.comparison o

abbrev pub path_to : Way → Test → Conditions → Path
path_to way test cs = path way.absolute (before way.steps (filter.step way.axis filter.element test cs arrived))

abbrev pub path_to_attribute : Way → Test → Path
path_to_attribute way test = path way.absolute (before way.steps (filter.step way.axis filter.attribute test no_more arrived))

abbrev pub relative : Way
relative = record { absolute = false; steps = arrived; axis = child }

abbrev pub absolute : Axis → Way
absolute axis = record { absolute = true; steps = arrived; axis = axis }

abbrev pub next_step : Way → Test → Conditions → Axis → Way
next_step way test cs axis = record { absolute = way.absolute; steps = before way.steps (filter.step way.axis filter.element test cs arrived); axis = axis }

-- behind `or`, and behind `and`
abbrev pub or_level : Level → Condition → Level
or_level level c = record { ors = Some (joined (or_none level.ors) (either_list (both_all level.ands c))); ands = None; left = None }

abbrev pub and_level : Level → Condition → Level
and_level level c = record { ors = level.ors; ands = Some (joined (or_none level.ands) (both_list c)); left = None }

abbrev pub negated_or_not : Bool → Condition → Condition
negated_or_not true c = not_so c
negated_or_not false c = c

-- the start of an operand
abbrev pub begin : Level → Symbol → Option State
begin level (plain slash) = Some (step level (absolute child))
begin level (plain double_slash) = Some (step level (absolute descendant))
begin level (plain at_sign) = Some (attribute_test level relative)
begin level (plain star) = Some (behind_step level relative filter.any no_more)
begin level (plain (name n)) = Some (behind_step level relative (filter.name n) no_more)
begin level (plain (literal v)) = Some (behind_operand level (filter.literal v))
begin level local_name_function = Some (function_opening level)
begin level _ = None

abbrev pub on_stack : List Opening → Option State → Option Machine
on_stack stack None = None
on_stack stack (Some state) = into state stack

-- a parenthesis where no left operand stands
abbrev pub open_group : Level → Bool → Option Left → List Opening → Option Machine
open_group level negated None stack = into (start nothing_read) (parenthesis level negated ∷ stack)
open_group level negated (Some left) stack = None

abbrev pub open_not : Level → Option Left → List Opening → Option Machine
open_not level None stack = into (not_opening level) stack
open_not level (Some left) stack = None

abbrev pub word : Level → Condition → Text → List Opening → Option Machine
word level c n stack = if bytes_eq n (codes "and") then into (start (and_level level c)) stack else (if bytes_eq n (codes "or") then into (start (or_level level c)) stack else None)

abbrev pub close_bracket : Condition → List Opening → Option Machine
close_bracket c (bracket level way test cs ∷ stack) = into (behind_step level way test (joined cs (more c no_more))) stack
close_bracket c _ = None

abbrev pub close_parenthesis : Condition → List Opening → Option Machine
close_parenthesis c (parenthesis level negated ∷ stack) = into (behind_condition level (negated_or_not negated c)) stack
close_parenthesis c _ = None

-- behind a part of a condition: another one, or what closes the whole
abbrev pub close : Level → Condition → Symbol → List Opening → Option Machine
close level c (plain (name n)) stack = word level c n stack
close level c (plain closing_bracket) stack = close_bracket (whole level c) stack
close level c (plain closing_parenthesis) stack = close_parenthesis (whole level c) stack
close level c _ stack = None

abbrev pub comparison_in : Symbol → Option Comparison
comparison_in (plain equals) = Some filter.equal
comparison_in (plain differs) = Some filter.differs
comparison_in _ = None

-- behind an operand: a comparison where no left operand stands
abbrev pub compare : Level → Operand → Option Comparison → Option Left → Symbol → List Opening → Option Machine
compare level o (Some how) None s stack = into (start (record { ors = level.ors; ands = level.ands; left = Some (record { operand = o; comparison = how }) })) stack
compare level o _ left s stack = close level (compared left o) s stack

abbrev pub behind : Level → Operand → Symbol → List Opening → Option Machine
behind level o s stack = compare level o (comparison_in s) level.left s stack

-- what a step goes to
abbrev pub test_in : Symbol → Option Test
test_in (plain star) = Some filter.any
test_in (plain (name n)) = Some (filter.name n)
test_in _ = None

abbrev pub advance : State → Symbol → List Opening → Option Machine
advance (start level) (plain opening_parenthesis) stack = open_group level false level.left stack
advance (start level) not_function stack = open_not level level.left stack
advance (start level) s stack = on_stack stack (begin level s)
advance (not_opening level) (plain opening_parenthesis) stack = open_group level true None stack
advance (not_opening level) s stack = None
advance (function_opening level) (plain opening_parenthesis) stack = into (function_closing level) stack
advance (function_opening level) s stack = None
advance (function_closing level) (plain closing_parenthesis) stack = into (behind_operand level local_name) stack
advance (function_closing level) s stack = None
advance (step level way) (plain at_sign) stack = into (attribute_test level way) stack
advance (step level way) (plain star) stack = into (behind_step level way filter.any no_more) stack
advance (step level way) (plain (name n)) stack = into (behind_step level way (filter.name n) no_more) stack
advance (step level way) s stack = None
advance (attribute_test level way) (plain star) stack = into (behind_operand level (found (path_to_attribute way filter.any))) stack
advance (attribute_test level way) (plain (name n)) stack = into (behind_operand level (found (path_to_attribute way (filter.name n)))) stack
advance (attribute_test level way) s stack = None
advance (behind_step level way test cs) (plain opening_bracket) stack = into (start nothing_read) (bracket level way test cs ∷ stack)
advance (behind_step level way test cs) (plain slash) stack = into (step level (next_step way test cs child)) stack
advance (behind_step level way test cs) (plain double_slash) stack = into (step level (next_step way test cs descendant)) stack
advance (behind_step level way test cs) s stack = behind level (found (path_to way test cs)) s stack
advance (behind_operand level o) s stack = behind level o s stack
advance (behind_condition level c) s stack = close level c s stack

abbrev pub beginning : Machine
beginning = record { state = start nothing_read; stack = [] }

abbrev pub and_then : Option Machine → (Machine → Option Machine) → Option Machine
and_then None f = None
and_then (Some m) f = f m

abbrev pub run : List Symbol → Machine → Option Machine
run [] m = Some m
run (s ∷ ss) m = and_then (advance m.state s m.stack) (run ss)

-- the part of a condition that is whole here
abbrev pub part_read : State → Option Condition
part_read (behind_step level way test cs) = Some (whole level (compared level.left (found (path_to way test cs))))
part_read (behind_operand level o) = Some (whole level (compared level.left o))
part_read (behind_condition level c) = Some (whole level c)
part_read _ = None

-- what was read, where it is a sentence
abbrev pub sentence_of : Machine → Option Condition
sentence_of m = elim m.stack [ [] ↦ part_read m.state | o ∷ os ↦ None ]

abbrev pub is_empty : Level → Bool
is_empty level = is_none level.ors && is_none level.ands && is_none level.left

abbrev pub path_in : Operand → Option Path
path_in (found p) = Some p
path_in o = None

-- the path that was read, where that is all
abbrev pub path_read : State → Option Path
path_read (behind_step level way test cs) = if is_empty level then Some (path_to way test cs) else None
path_read (behind_operand level o) = if is_empty level then path_in o else None
path_read _ = None

abbrev pub path_of_machine : Machine → Option Path
path_of_machine m = elim m.stack [ [] ↦ path_read m.state | o ∷ os ↦ None ]

-- what all tokens are: the front of a sentence, a condition, or a path
pub data Read : Type 0 where
  unfinished : Read
  condition : Read
  a_path : Path → Read

abbrev pub path_or_condition : Option Path → Read
path_or_condition None = condition
path_or_condition (Some p) = a_path p

abbrev pub read_of : Machine → Read
read_of m = if is_some (sentence_of m) then path_or_condition (path_of_machine m) else unfinished

-- what the machine ends with, or the place of the token that it refuses
pub data Walked : Type 0 where
  refused : ℕ → Walked
  ended : Machine → Walked

abbrev pub walk_on : ℕ → Option Machine → (Machine → Walked) → Walked
walk_on place None f = refused place
walk_on place (Some m) f = f m

abbrev pub walk : List Placed → Machine → Walked
walk [] m = ended m
walk (k ∷ ks) m = walk_on k.place (advance m.state (symbol_of k.token (next_token ks)) m.stack) (walk ks)
