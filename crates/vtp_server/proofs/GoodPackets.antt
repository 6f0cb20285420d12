-- Notes that keep to their forms have packets that can be sent.
use Rattle.std.proofs.Common.{◌≡◌, ℕ, zero, suc, true, List, [], ◌∷◌, ◌++◌, Some, subst}
use Rattle.std.specs.Prelude.{◌&&◌}
use Rattle.std.proofs.lemmas.Bool.{and_parts}
use Rattle.net_model.specs.Notes.{Offer, offer}
use Rattle.net_model.specs.declared.note.Note.{Note}
use Rattle.net_model.specs.declared.note.Note.TheVariants.{Wrote, Acked, Refused, Accept, Done, Enter}
use Rattle.node_notes.specs.Forms.{is_identifier, is_packet, keeps_form}
use Rattle.node_notes.specs.Tells.{AreInOrder}
use Rattle.node_notes.specs.declared.config.Config.{Config}
use Rattle.node_book.specs.EndSteps.{offered_at, offered_by}

-- an identifier and a packet that keep to their forms
pub record IsGood (o : Offer) : Type 0 where
  pub identifier : is_identifier o.identifier ≡ true
  pub packet : is_packet o.packet ≡ true

some_offer : {a c : Offer} → Some a ≡ Some c → a ≡ c
some_offer e = cc

good_form : (config : Config) (note : Note) (o : Offer) → keeps_form config note ≡ true → offered_by note ≡ Some o → IsGood o
unfolding keeps_form
good_form config (Wrote identifier packet) o is e =
    let parts = and_parts _ _ is in
    subst IsGood (some_offer e) (record { identifier = (and_parts _ _ parts.0).1; packet = parts.1 })
good_form config (Accept identifier links packet) o is e =
    let parts = and_parts _ _ (and_parts _ _ is).0 in
    subst IsGood (some_offer e) (record { identifier = (and_parts _ _ parts.0).1; packet = parts.1 })
good_form config (Enter identifier packet) o is e = absurd (cc)
good_form config (Acked line identifier) o is e = absurd (cc)
good_form config (Refused line identifier) o is e = absurd (cc)
good_form config (Done link identifier) o is e = absurd (cc)

pub good_at : (config : Config) (before notes : List Note) (at : ℕ) (o : Offer) → AreInOrder config before notes → offered_at notes at ≡ Some o → IsGood o
good_at config before [] at o order e = absurd (cc)
good_at config before (first ∷ notes) zero o order e = good_form config first o (and_parts (keeps_form config first) _ order.0).0 e
good_at config before (first ∷ notes) (suc at) o order e = good_at config (before ++ first ∷ []) notes at o order.1 e
