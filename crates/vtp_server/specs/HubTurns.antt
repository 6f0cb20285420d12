-- A turn at a hub, as a connection sees it, and what the turns of a whole talk are.
use Rattle.std.specs.Prelude.{◌≡◌, ℕ, ◌+◌, ◌-◌, ◌^◌, ◌≤◌, min, List, [], ◌∷◌, length, take, drop}
use Rattle.hub_lock.specs.Journal.{count_of, entries_of, payloads}
use Rattle.hub_lock.specs.Seats.{SeatState, IsSameSeat, IsLegal}
use Rattle.hub_lock.specs.declared.view.Entry.{Entry}
use Rattle.net_model.specs.declared.step.BrokerStep.{BrokerStep}
use Rattle.broker_end.specs.declared.event.BrokerEvent.{BrokerEvent}
use Rattle.vtp_server.specs.Moves.{Move, Read, Turn, Write, Tell}
use Rattle.vtp_server.specs.Asks.{IsEventOf}
use Rattle.vtp_server.specs.declared.ask.BrokerAsk.{BrokerAsk}

-- the state may answer so
pub record CanGive {S : Type 0} (means : S → BrokerEvent → BrokerStep → S → Type 0) (reply : BrokerStep) : Type 0 where
  pub before : S
  pub happened : BrokerEvent
  pub after : S
  pub meaning : means before happened reply after

-- a legal turn of this seat, on a journal of this length, with so many records afterwards
pub record IsHubTurn {S : Type 0} (fixed_of : S → List ℕ) (records_of : S → List (List ℕ)) (sound_of : S → Type 0) (means : S → BrokerEvent → BrokerStep → S → Type 0) (sign_of : BrokerStep → ℕ) (before : SeatState) (asked : BrokerAsk) (reply : BrokerStep) (place front : ℕ) (after : SeatState) : Type 0 where
  pub happened : BrokerEvent
  pub event : IsEventOf asked happened
  pub same : IsSameSeat before after
  pub legal : IsLegal fixed_of records_of sound_of means before.number before.fixed before.front happened reply after.front
  pub place_is : length legal.found ≡ place
  pub front_is : front ≡ length after.front
  pub turns : after.turns ≡ min (before.turns + 1) (2 ^ 64 - 1)
  pub sign : after.sign ≡ sign_of reply

-- ---- the turns of a talk

abbrev pub Moves : Type 0
Moves = List (Move BrokerAsk BrokerStep)

-- how many turns there are
abbrev pub turns_in : Moves → ℕ
turns_in [] = 0
turns_in (Turn asked reply place front ∷ ms) = 1 + turns_in ms
turns_in (Read found t ∷ ms) = turns_in ms
turns_in (Write payload ∷ ms) = turns_in ms
turns_in (Tell line ∷ ms) = turns_in ms

-- how many records they added
abbrev pub added_in : Moves → ℕ
added_in [] = 0
added_in (Turn asked reply place front ∷ ms) = (front - place) + added_in ms
added_in (Read found t ∷ ms) = added_in ms
added_in (Write payload ∷ ms) = added_in ms
added_in (Tell line ∷ ms) = added_in ms

-- the sign of the last reply, or this one where there is none
abbrev pub last_sign : (BrokerStep → ℕ) → ℕ → Moves → ℕ
last_sign sign_of sign [] = sign
last_sign sign_of sign (Turn asked reply place front ∷ ms) = last_sign sign_of (sign_of reply) ms
last_sign sign_of sign (Read found t ∷ ms) = last_sign sign_of sign ms
last_sign sign_of sign (Write payload ∷ ms) = last_sign sign_of sign ms
last_sign sign_of sign (Tell line ∷ ms) = last_sign sign_of sign ms

-- Each turn acts on no fewer records than there were behind the turn before it; the first on no fewer than this, and behind the
-- last there are so many.
abbrev pub InOrder : ℕ → Moves → ℕ → Type 0
InOrder from [] to = to ≡ from
InOrder from (Turn asked reply place front ∷ ms) to = (from ≤ place) × (place ≤ front) × InOrder front ms to
InOrder from (Read found t ∷ ms) to = InOrder from ms to
InOrder from (Write payload ∷ ms) to = InOrder from ms to
InOrder from (Tell line ∷ ms) to = InOrder from ms to

module _ {S : Type 0} (fixed_of : S → List ℕ) (records_of : S → List (List ℕ)) (means : S → BrokerEvent → BrokerStep → S → Type 0) (number : ℕ) (fixed : List ℕ) (journal : List Entry) where
  -- Over the first of the journal's records the state may give this reply to the ask, and then it has these and the turn's, which
  -- stand there under the seat's number.
  pub record FitsAt (asked : BrokerAsk) (reply : BrokerStep) (place front : ℕ) : Type 0 where
    pub happened : BrokerEvent
    pub event : IsEventOf asked happened
    pub before : S
    pub after : S
    pub added : List (List ℕ)
    pub fixed_is : fixed_of before ≡ fixed
    pub first : records_of before ≡ take place (payloads journal)
    pub last : records_of after ≡ take front (payloads journal)
    pub own : take (front - place) (drop place journal) ≡ entries_of number added
    pub within : front ≤ length journal
    pub meaning : means before happened reply after

  -- each turn fits the journal
  abbrev pub AllFit : Moves → Type 0
  AllFit [] = Unit {0}
  AllFit (Turn asked reply place front ∷ ms) = FitsAt asked reply place front × AllFit ms
  AllFit (Read found t ∷ ms) = AllFit ms
  AllFit (Write payload ∷ ms) = AllFit ms
  AllFit (Tell line ∷ ms) = AllFit ms

-- The turns of a talk over a hub, of a seat that was so before and is so afterwards.
pub record AreTurnsOf {S : Type 0} (fixed_of : S → List ℕ) (records_of : S → List (List ℕ)) (means : S → BrokerEvent → BrokerStep → S → Type 0) (sign_of : BrokerStep → ℕ) (before after : SeatState) (ms : Moves) : Type 0 where
  pub same : IsSameSeat before after
  -- as many as the seat has made
  pub turns : after.turns ≡ min (before.turns + turns_in ms) (2 ^ 64 - 1)
  pub sign : after.sign ≡ last_sign sign_of before.sign ms
  pub order : InOrder (length before.front) ms (length after.front)
  -- each fits the front at the end, with its record under the seat's number
  pub fit : AllFit fixed_of records_of means before.number before.fixed after.front ms
  -- and the front gained no other record under that number
  pub own : count_of before.number after.front ≡ count_of before.number before.front + added_in ms
