-- What is taken off a wire.
use Rattle.std.specs.Prelude.{◌≡◌, ℕ, Bool, cond, ◌==◌, ◌||◌, List, [], ◌∷◌, Option, Some, None, slice_get, slice_set}
use Rattle.net_model.specs.declared.scenario.Edge.{Edge}
use Rattle.net_model.specs.declared.state.Verdict.{Verdict}
use Rattle.net_model.specs.declared.state.Wire.{Wire}
use Rattle.net_model.specs.Flights.{without_answer}

abbrev pub HasNoPacket : Option Wire → Type 0
HasNoPacket None = Unit {0}
HasNoPacket (Some wire) = wire.down ≡ []

abbrev pub HasNoAnswer : Option Wire → Type 0
HasNoAnswer None = Unit {0}
HasNoAnswer (Some wire) = wire.up ≡ []

-- the first packet on a wire was taken
pub record IsTakenOff (wires : List Wire) (at : ℕ) (packet : List ℕ) (now : List Wire) : Type 0 where
  pub wire : Wire
  pub rest : List (List ℕ)
  pub found : slice_get wires at ≡ Some wire
  pub first : wire.down ≡ packet ∷ rest
  pub after : now ≡ slice_set wires at (record wire { down = rest })

-- the first answer on a wire in this session was taken
pub record IsAnswerOff (wires : List Wire) (at session : ℕ) (answer : Verdict) (now : List Wire) : Type 0 where
  pub wire : Wire
  pub rest : List Verdict
  pub found : slice_get wires at ≡ Some wire
  pub first : wire.up ≡ answer ∷ rest
  pub in_session : session ≡ wire.session
  pub after : now ≡ slice_set wires at (without_answer wire rest)

-- the edge leads from this node or to it
abbrev pub touches : ℕ → Edge → Bool
touches n edge = (edge.upper == n) || (edge.lower == n)

-- each that stands for an edge of this node is another
abbrev pub reset_round : {X : Type 0} → X → ℕ → List Edge → List X → List X
reset_round off n edges [] = []
reset_round off n [] (x ∷ xs) = x ∷ xs
reset_round off n (edge ∷ edges) (x ∷ xs) = cond (touches n edge) off x ∷ reset_round off n edges xs
