-- How the code's parts answer on a line of a configuration.
use Rattle.std.specs.Prelude.{◌≡◌, ℕ, true, false, List, Option, Some, None}
use Rattle.node_notes.specs.declared.config.Config.{Config}
use Rattle.voe_scenario.specs.ConfigGrammar.{ConfigSaid, says_end, says_edge, says_filter, config_line_said}
use Rattle.voe_scenario.specs.ConfigRefusals.{config_rules, is_at_its_place, is_too_much, names_no_end}
use Rattle.voe_scenario.specs.Filters.{IsFilter}
use Rattle.voe_scenario.specs.Rules.{least_that_holds}

-- a line that says this breaks none of the rules but that on its filter
pub record MayFollow (before : Option Config) (line : List ℕ) (said : ConfigSaid) : Type 0 where
  pub unbroken : least_that_holds (config_rules before line (Some said)) ≡ None
  pub placed : is_at_its_place before said ≡ true
  pub within : is_too_much before said ≡ false
  pub named : names_no_end said ≡ false

-- the filter that a line brings reads
abbrev pub BringsFilter : ConfigSaid → Type 0
BringsFilter (says_end kind name) = Unit {0}
BringsFilter (says_edge of name) = Unit {0}
BringsFilter (says_filter text) = IsFilter text

-- a line that says this breaks no rule
pub record IsConfigFitting (before : Option Config) (line : List ℕ) (said : ConfigSaid) : Type 0 where
  pub says : config_line_said line ≡ Some said
  pub follows : MayFollow before line said
  pub reads : BringsFilter said
