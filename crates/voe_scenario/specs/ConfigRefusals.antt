-- Why a line of a configuration is refused, by number.
use Rattle.std.specs.Prelude.{ℕ, ◌-◌, Bool, true, false, not, List, [], ◌∷◌, Option, Some, None, length, nat_lt, slice_get, ◌&&◌, ◌||◌}
use Rattle.std.specs.List.{list_any}
use Rattle.std.specs.Str.{bytes_eq}
use Rattle.voe_values.specs.EndName.{is_end_name}
use Rattle.voe_values.specs.declared.kind.NodeKind.TheVariants.{Broker}
use Rattle.node_notes.specs.declared.config.Config.{Config}
use Rattle.node_notes.specs.declared.config.LinkConfig.{LinkConfig}
use Rattle.voe_scenario.specs.ConfigGrammar.{ConfigSaid, says_end, says_edge, says_filter, config_line_said}
use Rattle.voe_scenario.specs.Graphs.{same_kind}
use Rattle.voe_scenario.specs.Rules.{IsLeastBroken}

-- the first line names the end; an author has lines and a broker links, and filters follow a link
abbrev pub is_at_its_place : Option Config → ConfigSaid → Bool
is_at_its_place None (says_end kind name) = true
is_at_its_place None (says_edge of name) = false
is_at_its_place None (says_filter text) = false
is_at_its_place (Some config) (says_end kind name) = false
is_at_its_place (Some config) (says_edge of name) = same_kind config.kind of
is_at_its_place (Some config) (says_filter text) = same_kind config.kind Broker && nat_lt 0 (length config.links)

-- the lines or links so far
abbrev pub links_so_far : Option Config → List LinkConfig
links_so_far None = []
links_so_far (Some config) = config.links

abbrev pub filters_of : Option LinkConfig → List (List ℕ)
filters_of None = []
filters_of (Some link) = link.filters

-- the filters so far of the last link
abbrev pub last_filters : List LinkConfig → List (List ℕ)
last_filters links = filters_of (slice_get links (length links - 1))

-- S02: an earlier line or link has the name
abbrev pub repeats_name : Option Config → ConfigSaid → Bool
repeats_name before (says_end kind name) = false
repeats_name before (says_edge of name) = list_any (λ link. bytes_eq link.name name) (links_so_far before)
repeats_name before (says_filter text) = false

-- S03, beside the length of the line: names of 512 bytes, 64 lines or links, 16 filters of a link, of 1,024 bytes
abbrev pub is_too_much : Option Config → ConfigSaid → Bool
is_too_much before (says_end kind name) = nat_lt 512 (length name)
is_too_much before (says_edge of name) = nat_lt 512 (length name) || nat_lt 63 (length (links_so_far before))
is_too_much before (says_filter text) = nat_lt 1024 (length text) || nat_lt 15 (length (last_filters (links_so_far before)))

-- S04: a name that is no end name
abbrev pub names_no_end : ConfigSaid → Bool
names_no_end (says_end kind name) = not (is_end_name name)
names_no_end (says_edge of name) = not (is_end_name name)
names_no_end (says_filter text) = false

-- the rules up to the fourth, with the line's limit of 2,048 bytes
abbrev pub config_rules : Option Config → List ℕ → Option ConfigSaid → List (ℕ × Bool)
config_rules before line None = (1, true) ∷ []
config_rules before line (Some said) =
    (1, not (is_at_its_place before said))
    ∷ (2, repeats_name before said)
    ∷ (3, nat_lt 2048 (length line) || is_too_much before said)
    ∷ (4, names_no_end said)
    ∷ []

-- S06: the filter that a line brings
abbrev pub config_filter : Option ConfigSaid → Option (List ℕ)
config_filter None = None
config_filter (Some (says_end kind name)) = None
config_filter (Some (says_edge of name)) = None
config_filter (Some (says_filter text)) = Some text

-- by which number a line is refused behind those that made this configuration, if it is
abbrev pub RefusesConfigLine : Option Config → List ℕ → Option ℕ → Type 0
RefusesConfigLine before line refusal =
    IsLeastBroken (config_rules before line (config_line_said line)) (config_filter (config_line_said line)) refusal
