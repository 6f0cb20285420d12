-- The turns of a talk over a hub.
use Rattle.std.proofs.Common.{◌≡◌, ℕ, ◌+◌, ◌-◌, ◌^◌, ◌≤◌, min, List, [], ◌∷◌, ◌++◌, length, take, drop, refl, ap, sym, ◌∙◌, subst, arith, append_assoc, length-append}
use mathlib.Core.List.{IsPrefix}
use Rattle.std.proofs.lemmas.List.{length-map}
use Rattle.hub_lock.specs.declared.view.Entry.{Entry}
use Rattle.hub_lock.specs.Seats.{SeatState, IsSameSeat}
use Rattle.hub_lock.specs.Journal.{count_of, entry_of, entries_of, payloads}
use Rattle.hub_lock.proofs.Journals.{payloads-append, length-payloads, prefix_self}
use Rattle.hub_lock.proofs.Legal.{legal-prefix, legal-found, legal-length, legal-count, legal-payloads}
use Rattle.net_model.specs.declared.step.BrokerStep.{BrokerStep}
use Rattle.broker_end.specs.declared.event.BrokerEvent.{BrokerEvent}
use Rattle.vtp_server.specs.Moves.{Move, Read, Turn, Write, Tell}
use Rattle.vtp_server.specs.Talk.{Leads}
use Rattle.vtp_server.specs.HubTurns.{AllFit, AreTurnsOf, FitsAt, InOrder, IsHubTurn, Moves, added_in, last_sign, turns_in}
use Rattle.vtp_server.specs.declared.ask.BrokerAsk.{BrokerAsk}

prefix_trans : {A : Type 0} (xs ys zs : List A) → IsPrefix xs ys → IsPrefix ys zs → IsPrefix xs zs
prefix_trans xs ys zs p q = (p.0 ++ q.0, sym (append_assoc xs p.0 q.0) ∙ (ap (λ w. w ++ q.0) p.1 ∙ q.1))

take-prefix : {A : Type 0} (xs ys : List A) → take (length xs) (xs ++ ys) ≡ xs
take-prefix [] ys = refl
take-prefix (x ∷ xs) ys = ap (λ l. x ∷ l) (take-prefix xs ys)

drop-prefix : {A : Type 0} (xs ys : List A) → drop (length xs) (xs ++ ys) ≡ ys
drop-prefix [] ys = refl
drop-prefix (x ∷ xs) ys = drop-prefix xs ys

-- the front of a list of payloads, where the list goes on
front_of : (whole found rest : List Entry) → whole ≡ found ++ rest → take (length found) (payloads whole) ≡ payloads found
front_of whole found rest e =
    ap (λ (w : List Entry). take (length found) (payloads w)) e ∙ ap (take (length found)) (payloads-append found rest)
    ∙ ap (λ (n : ℕ). take n (payloads found ++ payloads rest)) (sym (length-payloads found))
    ∙ take-prefix (payloads found) (payloads rest)

module _ {S : Type 0} (fixed_of : S → List ℕ) (records_of : S → List (List ℕ)) (sound_of : S → Type 0) (means : S → BrokerEvent → BrokerStep → S → Type 0) (sign_of : BrokerStep → ℕ) where
  abbrev Acts : SeatState → BrokerAsk → BrokerStep → ℕ → ℕ → SeatState → Type 0
  Acts before asked reply place front after = IsHubTurn fixed_of records_of sound_of means sign_of before asked reply place front after

  -- a front never shrinks
  pub leads-prefix : (b a : SeatState) (ms : Moves) → Leads Acts b ms a → IsPrefix b.front a.front
  leads-prefix b a [] led = subst (λ (s : SeatState). IsPrefix b.front s.front) (sym led) (prefix_self b.front)
  leads-prefix b a (Read found t ∷ ms) led = leads-prefix b a ms led
  leads-prefix b a (Write payload ∷ ms) led = leads-prefix b a ms led
  leads-prefix b a (Tell line ∷ ms) led = leads-prefix b a ms led
  leads-prefix b a (Turn asked reply place front ∷ ms) led =
      prefix_trans b.front led.0.front a.front (legal-prefix fixed_of records_of sound_of means b.number b.fixed b.front led.1.happened reply led.0.front led.1.legal) (leads-prefix led.0 a ms led.2)

  turn-fits : (b m : SeatState) (whole : List Entry) (asked : BrokerAsk) (reply : BrokerStep) (place front : ℕ) → Acts b asked reply place front m → IsPrefix m.front whole → FitsAt fixed_of records_of means b.number b.fixed whole asked reply place front
  turn-fits b m whole asked reply place front act p =
      let l = act.legal in
      let own : List Entry = entries_of b.number l.added in
      let all : whole ≡ l.found ++ (own ++ p.0) = sym p.1 ∙ ap (λ (f : List Entry). f ++ p.0) l.journal ∙ append_assoc l.found own p.0 in
      let place_is : length l.found ≡ place = act.place_is in
      let front_is : front ≡ length m.front = act.front_is in
      let sum = legal-length fixed_of records_of sound_of means b.number b.fixed b.front act.happened reply m.front l in
      let count : length own ≡ length l.added = length-map l.added (entry_of b.number) in
      let many : front - place ≡ length own = omega (arith, front_is, place_is, sum, count) in
      record {
        happened = act.happened;
        event = act.event;
        before = l.before;
        after = l.after;
        added = l.added;
        fixed_is = l.fixed_before;
        first = l.records_before ∙ sym (front_of whole l.found (own ++ p.0) all) ∙ ap (λ (n : ℕ). take n (payloads whole)) place_is;
        last = legal-payloads fixed_of records_of sound_of means b.number b.fixed b.front act.happened reply m.front l
            ∙ sym (front_of whole m.front p.0 (sym p.1)) ∙ ap (λ (n : ℕ). take n (payloads whole)) (sym front_is);
        own = ap (λ (n : ℕ). take n (drop place whole)) many ∙ ap (λ (n : ℕ). take (length own) (drop n whole)) (sym place_is)
            ∙ ap (λ (w : List Entry). take (length own) (drop (length l.found) w)) all
            ∙ ap (take (length own)) (drop-prefix l.found (own ++ p.0))
            ∙ take-prefix own p.0;
        within = let long = ap length (sym p.1) ∙ length-append m.front p.0 in omega (arith, front_is, long);
        meaning = l.meaning;
      }

  -- each turn fits the front at the end
  leads-fit : (b a : SeatState) (number : ℕ) (fixed : List ℕ) (whole : List Entry) (ms : Moves) → b.number ≡ number → b.fixed ≡ fixed → IsPrefix a.front whole → Leads Acts b ms a → AllFit fixed_of records_of means number fixed whole ms
  leads-fit b a number fixed whole [] n f p led = tt
  leads-fit b a number fixed whole (Read found t ∷ ms) n f p led = leads-fit b a number fixed whole ms n f p led
  leads-fit b a number fixed whole (Write payload ∷ ms) n f p led = leads-fit b a number fixed whole ms n f p led
  leads-fit b a number fixed whole (Tell line ∷ ms) n f p led = leads-fit b a number fixed whole ms n f p led
  leads-fit b a number fixed whole (Turn asked reply place front ∷ ms) n f p led = (
    subst (λ (x : ℕ × List ℕ). FitsAt fixed_of records_of means x.0 x.1 whole asked reply place front) (λ i. (n i, f i)) (turn-fits b led.0 whole asked reply place front led.1 (prefix_trans led.0.front a.front whole (leads-prefix led.0 a ms led.2) p)),
    leads-fit led.0 a number fixed whole ms (led.1.same.number ∙ n) (led.1.same.fixed ∙ f) p led.2,
  )

  in-order : (b a : SeatState) (from : ℕ) (ms : Moves) → from ≡ length b.front → Leads Acts b ms a → InOrder from ms (length a.front)
  in-order b a from [] e led = ap (λ s. length s.front) led ∙ sym e
  in-order b a from (Read found t ∷ ms) e led = in-order b a from ms e led
  in-order b a from (Write payload ∷ ms) e led = in-order b a from ms e led
  in-order b a from (Tell line ∷ ms) e led = in-order b a from ms e led
  in-order b a from (Turn asked reply place front ∷ ms) e led =
      let l = led.1.legal in
      let found = legal-found fixed_of records_of sound_of means b.number b.fixed b.front led.1.happened reply led.0.front l in
      let sum = legal-length fixed_of records_of sound_of means b.number b.fixed b.front led.1.happened reply led.0.front l in
      (omega (arith, e, found, led.1.place_is), omega (arith, sum, led.1.place_is, led.1.front_is), in-order led.0 a front ms led.1.front_is led.2)

  same-seat : (b a : SeatState) (ms : Moves) → Leads Acts b ms a → IsSameSeat b a
  same-seat b a [] led = record { hub = ap (λ s. s.hub) led; number = ap (λ s. s.number) led; fixed = ap (λ s. s.fixed) led }
  same-seat b a (Read found t ∷ ms) led = same-seat b a ms led
  same-seat b a (Write payload ∷ ms) led = same-seat b a ms led
  same-seat b a (Tell line ∷ ms) led = same-seat b a ms led
  same-seat b a (Turn asked reply place front ∷ ms) led =
      let later = same-seat led.0 a ms led.2 in
      record { hub = later.hub ∙ led.1.same.hub; number = later.number ∙ led.1.same.number; fixed = later.fixed ∙ led.1.same.fixed }

  count-turns : (b a : SeatState) (ms : Moves) → b.turns ≤ 2 ^ 64 - 1 → Leads Acts b ms a → a.turns ≡ min (b.turns + turns_in ms) (2 ^ 64 - 1)
  count-turns b a [] few led = let same : a.turns ≡ b.turns = ap (λ s. s.turns) led in omega (arith, same, few)
  count-turns b a (Read found t ∷ ms) few led = count-turns b a ms few led
  count-turns b a (Write payload ∷ ms) few led = count-turns b a ms few led
  count-turns b a (Tell line ∷ ms) few led = count-turns b a ms few led
  count-turns b a (Turn asked reply place front ∷ ms) few led =
      let one = led.1.turns in
      let rest = count-turns led.0 a ms (omega (arith, one)) led.2 in
      omega (arith, one, rest, few)

  sign-at : (b a : SeatState) (sign : ℕ) (ms : Moves) → b.sign ≡ sign → Leads Acts b ms a → a.sign ≡ last_sign sign_of sign ms
  sign-at b a sign [] e led = ap (λ s. s.sign) led ∙ e
  sign-at b a sign (Read found t ∷ ms) e led = sign-at b a sign ms e led
  sign-at b a sign (Write payload ∷ ms) e led = sign-at b a sign ms e led
  sign-at b a sign (Tell line ∷ ms) e led = sign-at b a sign ms e led
  sign-at b a sign (Turn asked reply place front ∷ ms) e led = sign-at led.0 a (sign_of reply) ms led.1.sign led.2

  own-count : (b a : SeatState) (number : ℕ) (ms : Moves) → b.number ≡ number → Leads Acts b ms a → count_of number a.front ≡ count_of number b.front + added_in ms
  own-count b a number [] n led = let same = ap (λ s. count_of number s.front) led in omega (arith, same)
  own-count b a number (Read found t ∷ ms) n led = own-count b a number ms n led
  own-count b a number (Write payload ∷ ms) n led = own-count b a number ms n led
  own-count b a number (Tell line ∷ ms) n led = own-count b a number ms n led
  own-count b a number (Turn asked reply place front ∷ ms) n led =
      let l = led.1.legal in
      let one : count_of number led.0.front ≡ count_of number b.front + length l.added = subst (λ (k : ℕ). count_of k led.0.front ≡ count_of k b.front + length l.added) n (legal-count fixed_of records_of sound_of means b.number b.fixed b.front led.1.happened reply led.0.front l) in
      let sum = legal-length fixed_of records_of sound_of means b.number b.fixed b.front led.1.happened reply led.0.front l in
      let rest = own-count led.0 a number ms (led.1.same.number ∙ n) led.2 in
      omega (arith, one, sum, rest, led.1.place_is, led.1.front_is)

  -- the turns that lead from a seat to what it is afterwards
  pub turns_of : (b a : SeatState) (ms : Moves) → b.turns ≤ 2 ^ 64 - 1 → Leads Acts b ms a → AreTurnsOf fixed_of records_of means sign_of b a ms
  turns_of b a ms few led = record {
    same = same-seat b a ms led;
    turns = count-turns b a ms few led;
    sign = sign-at b a b.sign ms refl led;
    order = in-order b a (length b.front) ms refl led;
    fit = leads-fit b a b.number b.fixed a.front ms refl refl (prefix_self a.front) led;
    own = own-count b a b.number ms refl led;
  }
