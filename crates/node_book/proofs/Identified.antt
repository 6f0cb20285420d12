-- The identifier of each note that stands in order is one.
use Rattle.std.proofs.Common.{◌≡◌, Bor, ℕ, zero, suc, ◌<◌, ◌≤◌, Bool, true, ◌&&◌, List, [], ◌∷◌, ◌++◌, length, get_or, Some, None, refl, subst}
use Rattle.std.specs.Prelude.{IfSome, Option, slice_get, nat_lt}
use Rattle.std.specs.Option.{MatchOption}
use Rattle.std.specs.List.{HoldsAt}
use Rattle.std.proofs.lemmas.Option.{slice_get_read}
use Rattle.std.proofs.lemmas.Bool.{and_parts}
use Rattle.net_model.specs.declared.note.Note.{Note}
use Rattle.net_model.specs.declared.note.Note.TheVariants.{Wrote, Acked, Refused, Accept, Done, Enter}
use Rattle.node_notes.specs.declared.config.Config.{Config}
use Rattle.node_notes.specs.Forms.{are_rising, is_author, is_broker, is_identifier, is_packet, is_subscriber, keeps_form, may_follow}
use Rattle.node_notes.specs.Held.{identifier_in}
use Rattle.node_notes.specs.Tells.{AreInOrder}

form_at : (config : Config) (before notes : List Note) (at : ℕ) (note : Note) → AreInOrder config before notes → slice_get notes at ≡ Some note → keeps_form config note ≡ true
form_at config before [] at note order there = absurd (cc there)
form_at config before (n ∷ notes) zero note order there =
    let same : n ≡ note = cc in
    subst (λ (x : Note). keeps_form config x ≡ true) same (and_parts (keeps_form config n) (may_follow before n) order.0).0
form_at config before (n ∷ notes) (suc at) note order there = form_at config (before ++ n ∷ []) notes at note order.1 there

of_three : (a b c : Bool) → (a && b && c) ≡ true → b ≡ true
of_three a b c all = (and_parts a b (and_parts (a && b) c all).0).1

form_identifies : (config : Config) (note : Note) → keeps_form config note ≡ true → is_identifier (identifier_in note) ≡ true
unfolding keeps_form
form_identifies config (Wrote own packet) keeps = of_three (is_author config.kind) (is_identifier own) (is_packet packet) keeps
form_identifies config (Acked line own) keeps = of_three (is_author config.kind) (is_identifier own) (nat_lt line (length config.links)) keeps
form_identifies config (Refused line own) keeps = of_three (is_author config.kind) (is_identifier own) (nat_lt line (length config.links)) keeps
form_identifies config (Accept own links packet) keeps =
    of_three (is_broker config.kind) (is_identifier own) (is_packet packet)
    (and_parts (is_broker config.kind && is_identifier own && is_packet packet) (are_rising 0 (length config.links) links) keeps).0
form_identifies config (Done link own) keeps = of_three (is_broker config.kind) (is_identifier own) (nat_lt link (length config.links)) keeps
form_identifies config (Enter own packet) keeps = of_three (is_subscriber config.kind) (is_identifier own) (is_packet packet) keeps

-- what was looked for among the notes is one of them
pub identified : (config : Config) (notes : List Note) (at : ℕ) (shown : Option (Bor Note)) → AreInOrder config [] notes → IfSome shown (λ note. note.now ≡ get_or notes at note.now)
    → MatchOption shown (length notes ≤ at) (λ note. (at < length notes) × HoldsAt (λ other. note.now ≡ other) notes at) → IfSome shown (λ note. is_identifier (identifier_in note.now) ≡ true)
identified config notes at None order is within = tt
identified config notes at (Some note) order is within =
    form_identifies config note.now (form_at config [] notes at note.now order (slice_get_read notes (length notes) at note.now refl within.0 is))
