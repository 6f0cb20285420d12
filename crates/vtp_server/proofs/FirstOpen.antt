-- The packet that a line sends first is unanswered.
use Rattle.std.proofs.Common.{◌≡◌, ◌⊎◌, ℕ, Bool, true, false, cond, List, [], ◌∷◌, Some, None, refl, ap, sym, ◌∙◌, subst, inl, inr, ⊎_elim}
use Rattle.std.specs.Prelude.{Option, ◌+◌, ◌&&◌, nat_lt}
use Rattle.net_model.specs.Notes.{Offer, Placed, first_from, is_open, lists, offer, or_later, to_send}
use Rattle.net_model.specs.declared.note.Note.{Note}
use Rattle.net_model.specs.declared.note.Note.TheVariants.{Wrote, Acked, Refused, Accept, Done, Enter}

-- a choice that gives something gave the first one, by its test
some_of : {A : Type 0} (test : Bool) (x y : A) → cond test (Some x) None ≡ Some y → (test ≡ true) × (x ≡ y)
some_of true x y e = (refl, cc)
some_of false x y e = absurd (cc)

none_or : {A : Type 0} (test : Bool) (o : Option A) (y : A) → cond test None o ≡ Some y → o ≡ Some y
none_or true o y e = absurd (cc)
none_or false o y e = e

second_of : (a b : Bool) → (a && b) ≡ true → b ≡ true
second_of true b e = e
second_of false b e = absurd (cc)

or_case : (place : ℕ) (o : Option Offer) (rest : Option Placed) (found : Placed) → or_later place o rest ≡ Some found → (o ≡ Some found.1) ⊎ (rest ≡ Some found)
or_case place (Some x) rest found e = let same : (place, x) ≡ found = cc in inl (ap (λ (p : Placed). Some p.1) same)
or_case place None rest found e = inr e

-- what a note has to send is unanswered
open_note : (all : List Note) (line : ℕ) (note : Note) (o : Offer) → to_send all line note ≡ Some o → is_open all line o.identifier ≡ true
open_note all line (Wrote identifier packet) o e =
    let is = some_of (is_open all line identifier) (offer identifier packet) o e in
    ap (λ (x : Offer). is_open all line x.identifier) (sym is.1) ∙ is.0
open_note all line (Accept identifier links packet) o e =
    let is = some_of (lists links line && is_open all line identifier) (offer identifier packet) o e in
    ap (λ (x : Offer). is_open all line x.identifier) (sym is.1) ∙ second_of (lists links line) (is_open all line identifier) is.0
open_note all line (Enter identifier packet) o e = absurd (cc)
open_note all line (Acked own identifier) o e = absurd (cc)
open_note all line (Refused own identifier) o e = absurd (cc)
open_note all line (Done own identifier) o e = absurd (cc)

pub first_open : (all : List Note) (line after place : ℕ) (notes : List Note) (found : Placed) → first_from (to_send all line) after place notes ≡ Some found → is_open all line found.1.identifier ≡ true
first_open all line after place [] found e = absurd (cc)
first_open all line after place (note ∷ notes) found e =
    ⊎_elim
    (λ (h : cond (nat_lt place after) None (to_send all line note) ≡ Some found.1). open_note all line note found.1 (none_or (nat_lt place after) (to_send all line note) found.1 h))
    (λ (h : first_from (to_send all line) after (place + 1) notes ≡ Some found). first_open all line after (place + 1) notes found h)
    (or_case place (cond (nat_lt place after) None (to_send all line note)) (first_from (to_send all line) after (place + 1) notes) found e)
