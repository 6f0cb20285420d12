-- What is found among notes is given by one of them.
use Rattle.std.proofs.Common.{◌≡◌, ℕ, ◌+◌, zero, suc, Bool, true, false, List, [], ◌∷◌, Some, None, refl, ap, arith}
use Rattle.std.specs.Prelude.{Option, cond, slice_get, nat_lt, ◌&&◌}
use Rattle.net_model.specs.Notes.{Offer, Placed, first_from, is_open, lists, offer, or_later, to_send}
use Rattle.net_model.specs.declared.note.Note.{Note}
use Rattle.net_model.specs.declared.note.Note.TheVariants.{Wrote, Acked, Refused, Accept, Done, Enter}
use Rattle.node_book.specs.EndSteps.{offered_by, offered_at}

cond_gives : (b : Bool) (x : Option Offer) (o : Offer) → cond b None x ≡ Some o → x ≡ Some o
cond_gives true x o e = absurd (cc)
cond_gives false x o e = e

cond_some : (b : Bool) (x o : Offer) → cond b (Some x) None ≡ Some o → Some x ≡ Some o
cond_some true x o e = e
cond_some false x o e = absurd (cc)

some_placed : (place : ℕ) (found : Offer) (p : Placed) → Some (place, found) ≡ Some p → (place ≡ p.0) × (Some found ≡ Some p.1)
some_placed place found p e = (ap place_in e, ap offer_in e)
  where
    place_in : Option Placed → ℕ
    place_in None = 0
    place_in (Some q) = q.0

    offer_in : Option Placed → Option Offer
    offer_in None = None
    offer_in (Some q) = Some q.1

-- the note at a place behind this one
pub record FoundIn (gives : Note → Option Offer) (place : ℕ) (notes : List Note) (p : Placed) : Type 0 where
  pub note : Note
  pub steps : ℕ
  pub place_is : p.0 ≡ place + steps
  pub note_is : slice_get notes steps ≡ Some note
  pub given : gives note ≡ Some p.1

later : (gives : Note → Option Offer) (place : ℕ) (note : Note) (notes : List Note) (p : Placed) → FoundIn gives (place + 1) notes p → FoundIn gives place (note ∷ notes) p
later gives place note notes p f = record { note = f.note; steps = suc f.steps; place_is = omega (arith, f.place_is); note_is = f.note_is; given = f.given }

either_found : (gives : Note → Option Offer) (place : ℕ) (note : Note) (notes : List Note) (p : Placed) (this : Option Offer) (rest : Option Placed)
    → ((o : Offer) → this ≡ Some o → gives note ≡ Some o) → (rest ≡ Some p → FoundIn gives (place + 1) notes p)
    → or_later place this rest ≡ Some p → FoundIn gives place (note ∷ notes) p
either_found gives place note notes p None rest here there e = later gives place note notes p (there e)
either_found gives place note notes p (Some o) rest here there e =
    let parts = some_placed place o p e in
    record { note = note; steps = zero; place_is = omega (arith, parts.0); note_is = refl; given = here p.1 parts.1 }

pub first_found : (gives : Note → Option Offer) (after place : ℕ) (notes : List Note) (p : Placed) → first_from gives after place notes ≡ Some p → FoundIn gives place notes p
first_found gives after place [] p e = absurd (cc)
first_found gives after place (note ∷ notes) p e =
    either_found gives place note notes p _ _ (λ o h. cond_gives (nat_lt place after) (gives note) o h) (first_found gives after (place + 1) notes p) e

sends_offered : (all : List Note) (number : ℕ) (note : Note) (o : Offer) → to_send all number note ≡ Some o → offered_by note ≡ Some o
sends_offered all number (Wrote i p) o e = cond_some (is_open all number i) (offer i p) o e
sends_offered all number (Accept i links p) o e = cond_some (lists links number && is_open all number i) (offer i p) o e
sends_offered all number (Enter i p) o e = absurd (cc)
sends_offered all number (Acked l i) o e = absurd (cc)
sends_offered all number (Refused l i) o e = absurd (cc)
sends_offered all number (Done l i) o e = absurd (cc)

-- the note at the place of the first packet that is to be sent has this packet
pub sent_from : (number after : ℕ) (notes : List Note) (p : Placed) → first_from (to_send notes number) after 0 notes ≡ Some p → offered_at notes p.0 ≡ Some p.1
sent_from number after notes p e =
    let found = first_found (to_send notes number) after 0 notes p e in
    let place : p.0 ≡ found.steps = omega (arith, found.place_is) in
    rw (place, found.note_is) (sends_offered notes number found.note p.1 found.given)
