-- How large a filter is.
use Rattle.std.specs.Prelude.{ℕ, ◌+◌, ◌≤◌}
use Rattle.filter_text.specs.Filter.{Path, path, Steps, arrived, step, Condition, any_of, all_of, not_so, alone, compare, Conditions, no_more, more, Operand, found, literal, local_name}

-- Sizes of the parts of a filter: each part is smaller than the whole.
abbrev mutual
  pub size_of_path : Path → ℕ
  size_of_path (path absolute ss) = size_of_steps ss + 1

  pub size_of_steps : Steps → ℕ
  size_of_steps arrived = 1
  size_of_steps (step axis part test cs ss) = size_of_conditions cs + size_of_steps ss + 1

  pub size_of_conditions : Conditions → ℕ
  size_of_conditions no_more = 1
  size_of_conditions (more c cs) = size_of_condition c + size_of_conditions cs + 1

  pub size_of_condition : Condition → ℕ
  size_of_condition (any_of cs) = size_of_conditions cs + 1
  size_of_condition (all_of cs) = size_of_conditions cs + 1
  size_of_condition (not_so c) = size_of_condition c + 1
  size_of_condition (alone o) = size_of_operand o + 1
  size_of_condition (compare a how b) = size_of_operand a + size_of_operand b + 2

  pub size_of_operand : Operand → ℕ
  size_of_operand (found way) = size_of_path way + 1
  size_of_operand (literal text) = 1
  size_of_operand local_name = 1

-- How many steps stand in a filter, those within conditions counted.
abbrev mutual
  pub steps_in_path : Path → ℕ
  steps_in_path (path absolute ss) = steps_in_steps ss

  pub steps_in_steps : Steps → ℕ
  steps_in_steps arrived = 0
  steps_in_steps (step axis part test cs ss) = steps_in_conditions cs + steps_in_steps ss + 1

  pub steps_in_conditions : Conditions → ℕ
  steps_in_conditions no_more = 0
  steps_in_conditions (more c cs) = steps_in_condition c + steps_in_conditions cs

  pub steps_in_condition : Condition → ℕ
  steps_in_condition (any_of cs) = steps_in_conditions cs
  steps_in_condition (all_of cs) = steps_in_conditions cs
  steps_in_condition (not_so c) = steps_in_condition c
  steps_in_condition (alone o) = steps_in_operand o
  steps_in_condition (compare a how b) = steps_in_operand a + steps_in_operand b

  pub steps_in_operand : Operand → ℕ
  steps_in_operand (found way) = steps_in_path way
  steps_in_operand (literal text) = 0
  steps_in_operand local_name = 0

-- what a text of at most 1,024 bytes can hold
abbrev pub IsSmall : Path → Type 0
IsSmall p = (size_of_path p ≤ 6144) × (steps_in_path p ≤ 512)
