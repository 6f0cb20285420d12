-- What is found first, and what is held.
use Rattle.std.proofs.Common.{◌≡◌, ℕ, suc, ◌+◌, ◌<◌, ◌≤◌, Bool, true, false, ◌&&◌, ◌||◌, not, cond, List, [], ◌∷◌, ◌++◌, length, Option, Some, None, refl, sym, ap, ◌∙◌, arith}
use Rattle.std.specs.Prelude.{slice_get, nat_lt}
use Rattle.std.specs.List.{list_any}
use Rattle.std.specs.Str.{bytes_eq}
use Rattle.std.proofs.lemmas.Bool.{and_parts, ltb-false}
use Rattle.voe_values.specs.declared.kind.NodeKind.{NodeKind}
use Rattle.voe_values.specs.declared.kind.NodeKind.TheVariants.{Author, Broker, Subscriber}
use Rattle.net_model.specs.Notes.{Offer, Placed, brings, knows, lists, offers, is_open, or_later, first_from, differs}
use Rattle.net_model.specs.Rules.{NodeRules}
use Rattle.net_model.specs.declared.note.Note.{Note}
use Rattle.net_model.specs.declared.note.Note.TheVariants.{Wrote, Acked, Refused, Accept, Done, Enter}
use Rattle.node_notes.specs.declared.config.Config.{Config}
use Rattle.node_notes.specs.Forms.{is_author, is_broker, is_subscriber, is_identifier, is_packet, keeps_form, may_follow}
use Rattle.node_notes.specs.Held.{packet_held, has_other_digest}
use Rattle.node_notes.specs.Tells.{AreInOrder}

-- ---- what is found first

pub record IsFoundAt (gives : Note → Option Offer) (after place : ℕ) (notes : List Note) (found : Placed) : Type 0 where
  pub behind : ℕ
  pub note : Note
  pub place_is : found.0 ≡ place + behind
  pub stands : slice_get notes behind ≡ Some note
  pub given : gives note ≡ Some found.1
  pub within : behind < length notes
  pub high : after ≤ found.0

later_found : (gives : Note → Option Offer) (after place : ℕ) (n : Note) (notes : List Note) (found : Placed) → IsFoundAt gives after (place + 1) notes found → IsFoundAt gives after place (n ∷ notes) found
later_found gives after place n notes found there = record {
  behind = suc there.behind;
  note = there.note;
  place_is = (let is = there.place_is in omega (arith, is));
  stands = there.stands;
  given = there.given;
  within = (let lt = there.within in omega (arith, lt));
  high = there.high;
}

here_or_later : (gives : Note → Option Offer) (after place : ℕ) (n : Note) (notes : List Note) (found : Placed) (low : Bool) (given : Option Offer) → nat_lt place after ≡ low → gives n ≡ given
    → (first_from gives after (place + 1) notes ≡ Some found → IsFoundAt gives after (place + 1) notes found)
    → or_later place (cond low None given) (first_from gives after (place + 1) notes) ≡ Some found → IsFoundAt gives after place (n ∷ notes) found
here_or_later gives after place n notes found true given low_is given_is later is = later_found gives after place n notes found (later is)
here_or_later gives after place n notes found false None low_is given_is later is = later_found gives after place n notes found (later is)
here_or_later gives after place n notes found false (Some x) low_is given_is later is =
    let same : (place, x) ≡ found = placed_is (place, x) found is in
    let at : found.0 ≡ place = ap (λ (p : Placed). p.0) (sym same) in
    let high = ltb-false place after low_is in
    record {
      behind = 0;
      note = n;
      place_is = omega (arith, at);
      stands = refl;
      given = given_is ∙ ap (λ (p : Placed). Some p.1) same;
      within = omega arith;
      high = omega (arith, at, high);
    }
  where
    placed_is : (a b : Placed) → Some a ≡ Some b → a ≡ b
    placed_is a b e = cc

found_from : (gives : Note → Option Offer) (after place : ℕ) (notes : List Note) (found : Placed) → first_from gives after place notes ≡ Some found → IsFoundAt gives after place notes found
found_from gives after place [] found is = absurd (cc is)
found_from gives after place (n ∷ notes) found is = here_or_later gives after place n notes found (nat_lt place after) (gives n) refl refl (found_from gives after (place + 1) notes found) is

pub found_note : (gives : Note → Option Offer) (after : ℕ) (notes : List Note) (found : Placed) → first_from gives after 0 notes ≡ Some found → (note : Note) × (slice_get notes found.0 ≡ Some note) × (gives note ≡ Some found.1)
found_note gives after notes found is =
    let there = found_from gives after 0 notes found is in
    let at : found.0 ≡ there.behind = (let e = there.place_is in omega (arith, e)) in
    (there.note, ap (slice_get notes) at ∙ there.stands, there.given)

pub found_within : (gives : Note → Option Offer) (after : ℕ) (notes : List Note) (found : Placed) → first_from gives after 0 notes ≡ Some found → (after ≤ found.0) × (found.0 < length notes)
found_within gives after notes found is =
    let there = found_from gives after 0 notes found is in
    (there.high, (let e = there.place_is in let lt = there.within in omega (arith, e, lt)))

-- ---- what a broker holds

other_kind : (kind : NodeKind) → is_broker kind ≡ true → (is_author kind ≡ false) × (is_subscriber kind ≡ false)
other_kind Author broker = absurd cc
other_kind Broker broker = (refl, refl)
other_kind Subscriber broker = absurd cc

no_kind : (a b c : Bool) → a ≡ false → (a && b && c) ≡ true → ⊥
no_kind true b c off is = cc
no_kind false b c off is = cc

by_digest : (b : Bool) (digest_of : List ℕ → List ℕ) (held packet : List ℕ) (d : Bool) (rest : Option (List ℕ)) → d ≡ has_other_digest digest_of rest packet
    → cond b (not (bytes_eq (digest_of held) (digest_of packet))) d ≡ has_other_digest digest_of (cond b (Some held) rest) packet
by_digest true digest_of held packet d rest same = refl
by_digest false digest_of held packet d rest same = same

differs_from : (config : Config) (rules : NodeRules) (before notes : List Note) (i packet : List ℕ) → is_broker config.kind ≡ true → AreInOrder config before notes → differs rules notes i packet ≡ has_other_digest rules.digest_of (packet_held notes i) packet
unfolding packet_held keeps_form
differs_from config rules before [] i packet broker order = refl
differs_from config rules before (Wrote own held ∷ notes) i packet broker order =
    let keeps = (and_parts (keeps_form config (Wrote own held)) (may_follow before (Wrote own held)) order.0).0 in
    absurd (no_kind (is_author config.kind) (is_identifier own) (is_packet held) (other_kind config.kind broker).0 keeps)
differs_from config rules before (Enter own held ∷ notes) i packet broker order =
    let keeps = (and_parts (keeps_form config (Enter own held)) (may_follow before (Enter own held)) order.0).0 in
    absurd (no_kind (is_subscriber config.kind) (is_identifier own) (is_packet held) (other_kind config.kind broker).1 keeps)
differs_from config rules before (Acked line own ∷ notes) i packet broker order = differs_from config rules (before ++ Acked line own ∷ []) notes i packet broker order.1
differs_from config rules before (Refused line own ∷ notes) i packet broker order = differs_from config rules (before ++ Refused line own ∷ []) notes i packet broker order.1
differs_from config rules before (Done link own ∷ notes) i packet broker order = differs_from config rules (before ++ Done link own ∷ []) notes i packet broker order.1
differs_from config rules before (Accept own links held ∷ notes) i packet broker order =
    by_digest (bytes_eq i own) rules.digest_of held packet (differs rules notes i packet) (packet_held notes i) (differs_from config rules (before ++ Accept own links held ∷ []) notes i packet broker order.1)

pub differs_is : (config : Config) (rules : NodeRules) (notes : List Note) (i packet : List ℕ) → is_broker config.kind ≡ true → AreInOrder config [] notes → differs rules notes i packet ≡ has_other_digest rules.digest_of (packet_held notes i) packet
differs_is config rules notes i packet broker order = differs_from config rules [] notes i packet broker order

-- ---- what is open is held

offered_brings : (number : ℕ) (i : List ℕ) (m : Note) → offers number i m ≡ true → brings i m ≡ true
offered_brings number i (Wrote own packet) one = one
offered_brings number i (Accept own links packet) one = (and_parts (bytes_eq i own) (lists links number) one).0
offered_brings number i (Enter own packet) one = absurd (cc one)
offered_brings number i (Acked line own) one = absurd (cc one)
offered_brings number i (Refused line own) one = absurd (cc one)
offered_brings number i (Done link own) one = absurd (cc one)

or_true : (b : Bool) → (b || true) ≡ true
or_true true = refl
or_true false = refl

offered_known : (notes : List Note) (number : ℕ) (i : List ℕ) → list_any (offers number i) notes ≡ true → knows notes i ≡ true
offered_known [] number i is = absurd (cc is)
offered_known (m ∷ notes) number i is = by (offers number i m) refl (λ rest. offered_known notes number i rest)
  where
    by : (b : Bool) → offers number i m ≡ b → (list_any (offers number i) notes ≡ true → knows notes i ≡ true) → (brings i m || knows notes i) ≡ true
    by true e others = ap (λ (x : Bool). x || knows notes i) (offered_brings number i m e)
    by false e others =
        let rest : list_any (offers number i) notes ≡ true = sym (ap (λ (x : Bool). x || list_any (offers number i) notes) e) ∙ is in
        ap (λ (x : Bool). brings i m || x) (others rest) ∙ or_true (brings i m)

pub open_is_held : (notes : List Note) (number : ℕ) (i : List ℕ) → is_open notes number i ≡ true → knows notes i ≡ true
unfolding is_open
open_is_held notes number i is = offered_known notes number i (and_parts (list_any (offers number i) notes) _ is).0
