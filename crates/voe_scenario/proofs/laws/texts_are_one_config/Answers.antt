-- The lines of a text give one outcome.
use Rattle.std.proofs.Common.{◌≡◌, ℕ, List, Option, None, ap, sym, ◌∙◌}
use Rattle.node_notes.specs.declared.config.Config.{Config}
use Rattle.voe_scenario.specs.ConfigGrammar.{config_line_said}
use Rattle.voe_scenario.specs.ConfigRefusals.{RefusesConfigLine, config_filter, config_rules}
use Rattle.voe_scenario.specs.Configs.{configured, with_config_line}
use Rattle.voe_scenario.proofs.Once.{least_once, text_once}
use Rattle.voe_scenario.proofs.laws.texts_are_one_config.Goals as goal

line_once : (before : Option Config) (line : List ℕ) (p q : Option ℕ) → RefusesConfigLine before line p → RefusesConfigLine before line q → p ≡ q
line_once before line p q = least_once (config_rules before line (config_line_said line)) (config_filter (config_line_said line)) p q

pub returns : goal.returns
returns c = λ text a b first second.
    let same = text_once RefusesConfigLine with_config_line line_once None text first.0 second.0 first.1 second.1 in
    first.2 ∙ ap configured same ∙ sym second.2
