use Rattle.std.proofs.Common.{◌≡◌, ℕ, ◌+◌, ◌≤◌, Bool, List, length, Some, refl, sym, ap, subst, ◌∙◌, arith}
use Rattle.std.specs.Prelude.{Option, MatchOption, slice_get}
use Rattle.net_model.specs.Notes.{Offer, Placed, first_from, offer, to_show}
use Rattle.net_model.specs.Steps.{broker_gives, says}
use Rattle.net_model.specs.declared.note.Note.{Note}
use Rattle.net_model.specs.declared.note.Note.TheVariants.{Accept}
use Rattle.net_model.specs.declared.step.BrokerStep.{BrokerStep}
use Rattle.net_model.specs.declared.step.BrokerStep.TheVariants as b
use Rattle.path_filter.specs.Sets.{BytesPass, Filters}
use Rattle.node_book.specs.EndSteps.{HasAnswered, Happens, offered_at, offered_in}
use Rattle.node_book.specs.declared.given.Given.{Given}
use Rattle.node_book.proofs.EndReady.{says_so}
use Rattle.broker_end.specs.Broker.{IsLiveAnswer, IsShown, IsShownBy, NoneIsShown, fate_of}
use Rattle.broker_end.proofs.Shown.{Accepted, accepted_at, cond_true, found_none, found_some, none_given}
use Rattle.broker_end.proofs.live.live.Goals as goal

one_offer : {x : Option Offer} {a c : Offer} → x ≡ Some a → x ≡ Some c → a ≡ c
one_offer e f = cc

-- the packet that is given is the one that was found
given_is : (filters : Filters) (notes : List Note) (at : ℕ) (given : Given) → Accepted filters notes at → offered_at notes at ≡ Some (offer given.identifier given.packet)
    → (links : List ℕ) × (slice_get notes at ≡ Some (Accept given.identifier links given.packet)) × BytesPass filters given.packet
given_is filters notes at given found offered =
    let same : offer found.identifier found.packet ≡ offer given.identifier given.packet = one_offer (ap offered_in found.at_is) offered in
    let names : found.identifier ≡ given.identifier = ap (λ (o : Offer). o.identifier) same in
    let packets : found.packet ≡ given.packet = ap (λ (o : Offer). o.packet) same in (
      found.links,
      found.at_is ∙ ap (λ (i : List ℕ). Some (Accept i found.links found.packet)) names ∙ ap (λ (p : List ℕ). Some (Accept given.identifier found.links p)) packets,
      subst (λ (p : List ℕ). BytesPass filters p) packets found.passes,
    )

first_is : (shows : List ℕ → Bool) (filters : Filters) (notes : List Note) (after at : ℕ) (identifier links packet : List ℕ) → IsShownBy notes filters shows
    → slice_get notes at ≡ Some (Accept identifier links packet) → BytesPass filters packet → after ≤ at → NoneIsShown notes filters after at
    → first_from (to_show shows) after 0 notes ≡ Some (at, offer identifier packet)
first_is shows filters notes after at identifier links packet by is passes past none =
    let zero_more : 0 + at ≡ at = omega arith in
    found_some (to_show shows) after 0 notes at (Accept identifier links packet) (offer identifier packet) is
    (cond_true (shows packet) (offer identifier packet) ((by at identifier packet links is).1 passes)) (omega (arith, past))
    (none_given shows filters notes after at by none) ∙ ap (λ (p : ℕ). Some (p, offer identifier packet)) zero_more

pub returns-in-None-clause-happens : goal.returns-in-None-clause-happens
returns-in-None-clause-happens g c = λ shows by.
    let end = c.args.end.now in
    let none = subst (λ (f : Option ℕ). MatchOption f (NoneIsShown end.notes c.args.filters.now c.args.after (length end.notes)) (λ at. (c.args.after ≤ at) × IsShown c.args.filters.now (slice_get end.notes at) × NoneIsShown end.notes c.args.filters.now c.args.after at)) c.in-None.is c.in-Ok.ensures in
    let found = found_none (to_show shows) c.args.after 0 end.notes (none_given shows c.args.filters.now end.notes c.args.after (length end.notes) by none) in
    let P : Option Placed → Type 0 = λ f. HasAnswered g.D.Disk end end (broker_gives f) b.Nothing in
    subst P (sym found) (says_so g.D.Disk end (says b.Nothing) b.Nothing c.requires.ready refl refl)

pub returns-in-Ok-give-clause-happens : goal.returns-in-Ok-give-clause-happens
returns-in-Ok-give-clause-happens g c = λ shows by.
    let d = g.D.Disk in
    let end = c.args.end.now in
    let filters = c.args.filters.now in
    let after = c.args.after in
    let at = c.in-Some.at in
    let given = c.in-Ok-give.given in
    let told = subst (λ (f : Option ℕ). MatchOption f (NoneIsShown end.notes filters after (length end.notes)) (λ k. (after ≤ k) × IsShown filters (slice_get end.notes k) × NoneIsShown end.notes filters after k)) c.in-Some.is c.in-Ok.ensures in
    let own = given_is filters end.notes at given (accepted_at filters end.notes at told.1) c.in-Ok-give.ensures.1 in
    let found = first_is shows filters end.notes after at given.identifier own.0 given.packet by own.1 own.2 told.0 told.2 in
    let step = b.Packet at given.identifier given.packet in
    let P : Option Placed → Type 0 = λ f. HasAnswered d end end (broker_gives f) step in
    let here = subst P (sym found) (says_so d end (says step) step c.requires.ready refl refl) in
    let places : b.Packet at given.identifier given.packet ≡ c.packet_step.result = ap (λ (k : ℕ). b.Packet k given.identifier given.packet) (sym c.in-Ok-give.ensures.0) ∙ sym c.packet_step.ensures in
    let R : BrokerStep → Type 0 = λ r. Happens d end end (broker_gives (first_from (to_show shows) after 0 end.notes)) r (fate_of r) in
    subst R places here

pub returns-in-Ok-give-clause-plain : goal.returns-in-Ok-give-clause-plain
returns-in-Ok-give-clause-plain g c =
    let end = c.args.end.now in
    let filters = c.args.filters.now in
    let after = c.args.after in
    let at = c.in-Some.at in
    let given = c.in-Ok-give.given in
    let told = subst (λ (f : Option ℕ). MatchOption f (NoneIsShown end.notes filters after (length end.notes)) (λ k. (after ≤ k) × IsShown filters (slice_get end.notes k) × NoneIsShown end.notes filters after k)) c.in-Some.is c.in-Ok.ensures in
    let own = given_is filters end.notes at given (accepted_at filters end.notes at told.1) c.in-Ok-give.ensures.1 in
    let places : b.Packet at given.identifier given.packet ≡ c.packet_step.result = ap (λ (k : ℕ). b.Packet k given.identifier given.packet) (sym c.in-Ok-give.ensures.0) ∙ sym c.packet_step.ensures in
    let R : BrokerStep → Type 0 = λ r. IsLiveAnswer end.notes after filters r in
    subst R places (told.0, own.0, own.1, own.2, told.2)
