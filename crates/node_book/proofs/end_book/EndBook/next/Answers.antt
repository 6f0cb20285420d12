use Rattle.std.proofs.Common.{◌≡◌, ℕ, List, rules, Some, None, refl, sym, ◌∙◌, ap, subst}
use Rattle.std.specs.Prelude.{Option, IsSome}
use Rattle.net_model.specs.Notes.{Offer, Placed, first_from, offer, to_send}
use Rattle.net_model.specs.declared.note.Note.{Note}
use Rattle.node_notes.specs.Open.{place_of}
use Rattle.node_book.specs.EndSteps.{offered_at, placed}
use Rattle.node_book.specs.declared.given.Given.{Given}
use Rattle.node_book.proofs.EndFound.{sent_from}
use Rattle.node_book.proofs.end_book.EndBook.next.Goals as goal

none_found : (found : Option Placed) → None ≡ place_of found → None ≡ found
none_found None e = refl
none_found (Some p) e = absurd (cc)

some_found : (notes : List Note) (number after at : ℕ) (found : Option Placed) → first_from (to_send notes number) after 0 notes ≡ found → Some at ≡ place_of found
    → (p : Placed) × (found ≡ Some p) × (p.0 ≡ at) × (offered_at notes at ≡ Some p.1)
some_found notes number after at None is e = absurd (cc)
some_found notes number after at (Some p) is e =
    let same : p.0 ≡ at = cc in
    (p, refl, same, subst (λ (k : ℕ). offered_at notes k ≡ Some p.1) same (sent_from number after notes p is))

one_offer : {x : Option Offer} {a b : Offer} → x ≡ Some a → x ≡ Some b → a ≡ b
one_offer e f = cc

has_offer : (x : Option Offer) (a : Offer) → x ≡ Some a → IsSome x
has_offer None a e = absurd (cc)
has_offer (Some o) a e = search rules

given_is : (notes : List Note) (number after at : ℕ) (given : Given) → Some at ≡ place_of (first_from (to_send notes number) after 0 notes) → given.at ≡ at
    → offered_at notes at ≡ Some (offer given.identifier given.packet) → Some (placed given) ≡ first_from (to_send notes number) after 0 notes
given_is notes number after at given e place_is offered =
    let f = some_found notes number after at (first_from (to_send notes number) after 0 notes) refl e in
    let same : offer given.identifier given.packet ≡ f.0.1 = one_offer offered f.3 in
    let places : given.at ≡ f.0.0 = place_is ∙ sym f.2 in
    let both : Some (given.at, offer given.identifier given.packet) ≡ Some (f.0.0, f.0.1) =
    ap (λ (k : ℕ). Some (k, offer given.identifier given.packet)) places ∙ ap (λ (o : Offer). Some (f.0.0, o)) same in
    both ∙ sym f.1

pub give-requires : goal.give-requires
give-requires g c =
    has_offer _ _ ((some_found c.args.self.now.notes c.args.number c.args.after c.in-Some.at _ refl c.in-Some.ensures).3)

pub returns-in-None : goal.returns-in-None
returns-in-None g c = none_found _ c.in-None.ensures

pub returns-in_ok-given-in-Some : goal.returns-in_ok-given-in-Some
returns-in_ok-given-in-Some g c =
    given_is c.args.self.now.notes c.args.number c.args.after c.in-Some.at c.in_ok-given-in-Some.given c.in-Some.ensures c.in_ok-given-in-Some.ensures.0 c.in_ok-given-in-Some.ensures.1
