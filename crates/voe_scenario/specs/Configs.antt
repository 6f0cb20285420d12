-- The configuration that a text is, or the first line that is refused.
use Rattle.std.specs.Prelude.{◌≡◌, ℕ, ◌-◌, ◌≤◌, true, List, [], ◌∷◌, ◌++◌, Option, Some, None, Result, Ok, Err, length, slice_get, slice_set}
use Rattle.std.specs.List.{All}
use Rattle.voe_values.specs.declared.kind.NodeKind.{NodeKind}
use Rattle.voe_values.specs.declared.kind.NodeKind.TheVariants.{Author, Broker, Subscriber}
use Rattle.node_notes.specs.declared.config.Config.{Config}
use Rattle.node_notes.specs.declared.config.LinkConfig.{LinkConfig}
use Rattle.node_notes.specs.Forms.{is_name}
use Rattle.voe_scenario.specs.ConfigGrammar.{ConfigSaid, says_end, says_edge, says_filter, config_line_said}
use Rattle.voe_scenario.specs.ConfigRefusals.{RefusesConfigLine}
use Rattle.voe_scenario.specs.Lines.{Refusal, TextRead}
use Rattle.voe_scenario.specs.Filters.{AreFilters}

-- one more filter of the last link
abbrev pub with_filter : List LinkConfig → List ℕ → Option LinkConfig → List LinkConfig
with_filter links text None = links
with_filter links text (Some link) = slice_set links (length links - 1) (record link { filters = link.filters ++ text ∷ [] })

abbrev pub with_config_said : Option Config → Option ConfigSaid → Option Config
with_config_said before None = before
with_config_said None (Some (says_end kind name)) = Some (record { kind = kind; name = name; links = [] })
with_config_said None (Some (says_edge of name)) = None
with_config_said None (Some (says_filter text)) = None
with_config_said (Some config) (Some (says_end kind name)) = Some config
with_config_said (Some config) (Some (says_edge of name)) =
    Some (record config { links = config.links ++ record { name = name; filters = [] } ∷ [] })
with_config_said (Some config) (Some (says_filter text)) =
    Some (record config { links = with_filter config.links text (slice_get config.links (length config.links - 1)) })

-- the configuration behind a line that isn't refused
abbrev pub with_config_line : Option Config → List ℕ → Option Config
with_config_line before line = with_config_said before (config_line_said line)

-- a text without a line is refused as if its first one were none
abbrev pub configured : Result (Option Config) Refusal → Result Config Refusal
configured (Ok None) = Err (record { number = 1; line = 1 })
configured (Ok (Some config)) = Ok config
configured (Err refusal) = Err refusal

-- the configuration that a text is, or its first refused line
abbrev pub IsConfigOf : List ℕ → Result Config Refusal → Type 0
IsConfigOf text outcome =
    (read : Result (Option Config) Refusal) × TextRead RefusesConfigLine with_config_line None text read × (outcome ≡ configured read)

-- a line of an author has no filters, and a subscriber has no links
abbrev pub AreLinksOf : NodeKind → List LinkConfig → Type 0
AreLinksOf Author links = All (λ link. link.filters ≡ []) links
AreLinksOf Broker links = Unit {0}
AreLinksOf Subscriber links = links ≡ []

-- what holds of each configuration that a text is
pub record IsSoundConfig (config : Config) : Type 0 where
  pub name : is_name config.name ≡ true
  pub names : All (λ link. is_name link.name ≡ true) config.links
  pub few : length config.links ≤ 64
  pub filters : All (λ link. AreFilters link.filters) config.links
  pub kind : AreLinksOf config.kind config.links

-- the same of what lines so far make
abbrev pub IsSoundSoFar : Option Config → Type 0
IsSoundSoFar None = Unit {0}
IsSoundSoFar (Some config) = IsSoundConfig config
