-- The states of the code as those of the machine.
use Rattle.std.specs.Prelude.{List, map, reverse, Option, option_map}
use Rattle.filter_text.specs.Filter.{Conditions}
use Rattle.filter_text.specs.Grammar.{Symbol, plain, not_function, local_name_function}
use Rattle.filter_text.specs.Machine.{Left, Level, Way, State, start, not_opening, function_opening, function_closing, step, attribute_test, behind_step, behind_operand, behind_condition, Opening, bracket, parenthesis, Machine, on_stack}
use Rattle.filter_text.specs.View.{axis_of, test_of, comparison_of, conditions_of, condition_of, operand_of, steps_of}
use Rattle.filter_tokens.specs.TokenView.{token_view}
use Rattle.filter_text.specs.declared.filter.Condition.{Condition as CodeCondition}
use Rattle.filter_text.specs.declared.symbol.Symbol.{Symbol as CodeSymbol}
use Rattle.filter_text.specs.declared.symbol.Symbol.TheVariants as symbols
use Rattle.filter_text.specs.declared.state.Left.{Left as CodeLeft}
use Rattle.filter_text.specs.declared.state.Level.{Level as CodeLevel}
use Rattle.filter_text.specs.declared.state.Way.{Way as CodeWay}
use Rattle.filter_text.specs.declared.state.State.{State as CodeState}
use Rattle.filter_text.specs.declared.state.State.TheVariants as states
use Rattle.filter_text.specs.declared.state.Opening.{Opening as CodeOpening}
use Rattle.filter_text.specs.declared.state.Opening.TheVariants as openings
use Rattle.filter_text.specs.declared.state.Machine.{Machine as CodeMachine}

abbrev pub symbol_view : CodeSymbol → Symbol
symbol_view (symbols.Plain t) = plain (token_view t)
symbol_view symbols.Not = not_function
symbol_view symbols.LocalName = local_name_function

abbrev pub conditions_view : List CodeCondition → Conditions
conditions_view cs = conditions_of (map condition_of cs)

abbrev pub left_view : CodeLeft → Left
left_view l = record { operand = operand_of l.operand; comparison = comparison_of l.comparison }

abbrev pub level_view : CodeLevel → Level
level_view l = record { ors = option_map conditions_view l.ors; ands = option_map conditions_view l.ands; left = option_map left_view l.left }

abbrev pub way_view : CodeWay → Way
way_view w = record { absolute = w.is_absolute; steps = steps_of w.steps; axis = axis_of w.axis }

abbrev pub state_view : CodeState → State
state_view (states.Start level) = start (level_view level)
state_view (states.NotOpening level) = not_opening (level_view level)
state_view (states.FunctionOpening level) = function_opening (level_view level)
state_view (states.FunctionClosing level) = function_closing (level_view level)
state_view (states.Step level way) = step (level_view level) (way_view way)
state_view (states.AttributeTest level way) = attribute_test (level_view level) (way_view way)
state_view (states.BehindStep level way test conditions) = behind_step (level_view level) (way_view way) (test_of test) (conditions_view conditions)
state_view (states.BehindOperand level operand) = behind_operand (level_view level) (operand_of operand)
state_view (states.BehindCondition level part) = behind_condition (level_view level) (condition_of part)

abbrev pub opening_view : CodeOpening → Opening
opening_view (openings.Bracket level way test conditions) = bracket (level_view level) (way_view way) (test_of test) (conditions_view conditions)
opening_view (openings.Parenthesis level is_negated) = parenthesis (level_view level) is_negated

-- the innermost first
abbrev pub stack_view : List CodeOpening → List Opening
stack_view stack = reverse (map opening_view stack)

-- where a state comes next
abbrev pub next_view : Option CodeState → List CodeOpening → Option Machine
next_view state stack = on_stack (stack_view stack) (option_map state_view state)

abbrev pub machine_view : CodeMachine → Machine
machine_view m = record { state = state_view m.state; stack = stack_view m.stack }
