-- What a statement of the code means.
use Rattle.std.specs.Prelude.{◌≡◌, Option, Some, None}
use Rattle.voe_scenario.specs.declared.config_line.ConfigStatement.{ConfigStatement}
use Rattle.voe_scenario.specs.declared.config_line.ConfigStatement.TheVariants.{End, Edge, Filter}
use Rattle.voe_scenario.specs.ConfigGrammar.{ConfigSaid, says_end, says_edge, says_filter}

abbrev pub config_meaning : ConfigStatement → ConfigSaid
config_meaning (End kind name) = says_end kind name.now
config_meaning (Edge of name) = says_edge of name.now
config_meaning (Filter text) = says_filter text.now

-- the statement means what is said, and there is none exactly where nothing is
abbrev pub ConfigMeans : Option ConfigStatement → Option ConfigSaid → Type 0
ConfigMeans None said = said ≡ None
ConfigMeans (Some statement) said = said ≡ Some (config_meaning statement)
