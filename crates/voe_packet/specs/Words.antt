-- Words for what a packet is for, and for how it cites another: VOEvent 2.0, sections 3.1 and 3.7.
use Rattle.std.specs.Prelude.{Option, Some, None, if◌then◌else◌, codes}
use Rattle.xml_lexer.specs.Characters.{Text}
use Rattle.xml_lexer.specs.Spelling.{same}
use Rattle.voe_values.specs.declared.citation.Cite.{Cite}
use Rattle.voe_values.specs.declared.citation.Cite.TheVariants.{Followup, Supersedes, Retraction}
use Rattle.voe_values.specs.declared.citation.Role.{Role}
use Rattle.voe_values.specs.declared.citation.Role.TheVariants.{Observation, Prediction, Utility, Test}

abbrev pub role_word : Role → Text
role_word Observation = codes "observation"
role_word Prediction = codes "prediction"
role_word Utility = codes "utility"
role_word Test = codes "test"

-- A missing role reads as `observation`. No valid packet has another word.
abbrev pub role_named : Option Text → Role
role_named None = Observation
role_named (Some word) =
    if same word (codes "prediction") then Prediction else (if same word (codes "utility") then Utility else (if same word (codes "test") then Test else Observation))

abbrev pub cite_word : Cite → Text
cite_word Followup = codes "followup"
cite_word Supersedes = codes "supersedes"
cite_word Retraction = codes "retraction"

-- No valid packet has none of these words.
abbrev pub cite_named : Option Text → Cite
cite_named None = Followup
cite_named (Some word) = if same word (codes "supersedes") then Supersedes else (if same word (codes "retraction") then Retraction else Followup)
