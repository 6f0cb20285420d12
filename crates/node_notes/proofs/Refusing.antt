-- A payload that is refused is none that keeps to its form.
use Rattle.std.proofs.Common.{◌≡◌, ℕ, true, false, List, Some, Result, Err, sym, ap, ◌∙◌}
use Rattle.node_notes.specs.declared.config.Config.{Config}
use Rattle.net_model.specs.declared.note.Note.{Note}
use Rattle.node_notes.specs.declared.fault.ReadFault.{ReadFault}
use Rattle.node_notes.specs.declared.fault.ReadFault.TheVariants.{Malformed, NoMemory}
use Rattle.node_notes.specs.Spelling.{note_payload, config_payload}
use Rattle.node_notes.specs.Reading.{Fails, note_of, config_of}
use Rattle.node_notes.specs.Forms.{is_config, keeps_form}
use Rattle.node_notes.proofs.Payloads.{note_again, config_again}
use Rattle.node_notes.proofs.Shapes.{note_spells, config_fits}

pub no_note : (config : Config) (bytes : List ℕ) (fault : ReadFault) → is_config config ≡ true → fault ≡ Malformed → Fails fault (note_of bytes)
    → (note : Note) → keeps_form config note ≡ true → bytes ≡ note_payload note → ⊥
no_note config bytes NoMemory fits is fails note keeps spelled = absurd (cc is)
no_note config bytes Malformed fits is fails note keeps spelled =
    let read = ap note_of spelled ∙ note_again note (note_spells config note fits keeps) in
    let both = sym fails ∙ read in
    cc

pub other_note : (config : Config) (bytes : List ℕ) (found : Note) → is_config config ≡ true → note_of bytes ≡ Some found → keeps_form config found ≡ false
    → (note : Note) → keeps_form config note ≡ true → bytes ≡ note_payload note → ⊥
other_note config bytes found fits was breaks note keeps spelled =
    let read = ap note_of spelled ∙ note_again note (note_spells config note fits keeps) in
    let same : found ≡ note = cc in
    let both = sym breaks ∙ ap (keeps_form config) same ∙ keeps in
    cc

pub no_config : (bytes : List ℕ) (fault : ReadFault) → fault ≡ Malformed → Fails fault (config_of bytes) → (config : Config) → is_config config ≡ true → bytes ≡ config_payload config → ⊥
no_config bytes NoMemory is fails config keeps spelled = absurd (cc is)
no_config bytes Malformed is fails config keeps spelled =
    let read = ap config_of spelled ∙ config_again config (config_fits config keeps) in
    let both = sym fails ∙ read in
    cc

pub other_config : (bytes : List ℕ) (found : Config) → config_of bytes ≡ Some found → is_config found ≡ false → (config : Config) → is_config config ≡ true → bytes ≡ config_payload config → ⊥
other_config bytes found was breaks config keeps spelled =
    let read = ap config_of spelled ∙ config_again config (config_fits config keeps) in
    let same : found ≡ config = cc in
    let both = sym breaks ∙ ap is_config same ∙ keeps in
    cc

pub fault_is : {T : Type 0} (r : Result T ReadFault) (a b : ReadFault) → r ≡ Err a → r ≡ Err b → a ≡ b
fault_is r a b one two = cc
