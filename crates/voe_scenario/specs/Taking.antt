-- How the code's parts answer on a line of a scenario.
use Rattle.std.specs.Prelude.{◌≡◌, ℕ, ◌≤◌, IsTrue, true, false, List, Some, None, length}
use Rattle.voe_values.specs.Identifier.{IsIdentifier}
use Rattle.voe_packet.specs.Drafts.{has_xml_texts}
use Rattle.voe_packet.specs.declared.draft.Draft.{Draft}
use Rattle.voe_scenario.specs.declared.scenario.Scenario.{Scenario}
use Rattle.voe_scenario.specs.Filters.{IsFilter}
use Rattle.voe_scenario.specs.Grammar.{Said, says_node, says_line, says_link, says_filter, says_packet, says_event, said_of}
use Rattle.voe_scenario.specs.Refusals.{is_misplaced, is_named, is_within, scenario_rules}
use Rattle.voe_scenario.specs.Rules.{least_that_holds}

-- the packet's identifier is one
abbrev pub NamesPacket : Said → Type 0
NamesPacket (says_node kind) = Unit {0}
NamesPacket (says_line upper lower) = Unit {0}
NamesPacket (says_link upper lower) = Unit {0}
NamesPacket (says_filter edge text) = Unit {0}
NamesPacket (says_packet draft) = IsIdentifier draft.identifier
NamesPacket (says_event event) = Unit {0}

-- a line that says this breaks none of the rules but that on its filter
pub record MayStand (before : Scenario) (line : List ℕ) (said : Said) : Type 0 where
  pub unbroken : least_that_holds (scenario_rules before line (Some said)) ≡ None
  pub placed : is_misplaced before said ≡ false
  pub named : is_named before said ≡ true
  pub within : is_within before said ≡ true
  pub short : length line ≤ 2048
  pub identified : NamesPacket said

-- the draft may be written
pub record MayBeWritten (draft : Draft) : Type 0 where
  pub identifier : IsIdentifier draft.identifier
  pub texts : IsTrue (has_xml_texts draft)

-- the packet that a line brings may be written
abbrev pub BringsPacket : Said → Type 0
BringsPacket (says_node kind) = Unit {0}
BringsPacket (says_line upper lower) = Unit {0}
BringsPacket (says_link upper lower) = Unit {0}
BringsPacket (says_filter edge text) = Unit {0}
BringsPacket (says_packet draft) = MayBeWritten draft
BringsPacket (says_event event) = Unit {0}

-- the filter that a line brings reads
abbrev pub BringsRead : Said → Type 0
BringsRead (says_node kind) = Unit {0}
BringsRead (says_line upper lower) = Unit {0}
BringsRead (says_link upper lower) = Unit {0}
BringsRead (says_filter edge text) = IsFilter text
BringsRead (says_packet draft) = Unit {0}
BringsRead (says_event event) = Unit {0}

-- a line that says this breaks no rule
pub record IsFitting (before : Scenario) (line : List ℕ) (said : Said) : Type 0 where
  pub says : said_of line ≡ Some said
  pub stands : MayStand before line said
  pub reads : BringsRead said
