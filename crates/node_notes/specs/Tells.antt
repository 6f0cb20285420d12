-- What a list of payloads tells of a node.
use Rattle.std.specs.Prelude.{◌≡◌, true, List, [], ◌∷◌, ◌++◌, ℕ, map}
use Rattle.net_model.specs.declared.note.Note.{Note}
use Rattle.node_notes.specs.declared.config.Config.{Config}
use Rattle.node_notes.specs.Spelling.{note_payload, config_payload}
use Rattle.node_notes.specs.Forms.{is_config, is_next}

-- each note may stand behind those before it
abbrev pub AreInOrder : Config → List Note → List Note → Type 0
AreInOrder config before [] = Unit {0}
AreInOrder config before (note ∷ notes) = (is_next config before note ≡ true) × AreInOrder config (before ++ note ∷ []) notes

-- the payload of a configuration, and those of notes
abbrev pub payloads_of : Config → List Note → List (List ℕ)
payloads_of config notes = config_payload config ∷ map note_payload notes

-- the payloads are those of this configuration and these notes, by their forms and their order
pub record Tells (payloads : List (List ℕ)) (config : Config) (notes : List Note) : Type 0 where
  pub config_fits : is_config config ≡ true
  pub in_order : AreInOrder config [] notes
  pub payloads_are : payloads ≡ payloads_of config notes
