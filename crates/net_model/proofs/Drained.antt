-- A drain ends within its bound, and where every step had room nothing is left to be delivered.
use Rattle.std.proofs.Common.{◌≡◌, ℕ, zero, suc, ◌+◌, ◌*◌, ◌≤◌, ◌<◌, List, [], ◌∷◌, length, inl, inr, refl, sym, ap, ◌∙◌, arith, zero-add}
use Rattle.std.specs.Prelude.{slice_get}
use Rattle.net_model.specs.declared.scenario.Graph.{Graph}
use Rattle.net_model.specs.declared.note.Note.{Note}
use Rattle.net_model.specs.declared.note.Note.TheVariants.{Wrote, Acked, Refused, Accept, Done, Enter}
use Rattle.net_model.specs.declared.state.Node.{Node}
use Rattle.net_model.specs.declared.state.Wire.{Wire}
use Rattle.net_model.specs.declared.state.State.{State}
use Rattle.net_model.specs.Draining.{Drains, IsAllUp, IsAtRest, IsProper, NamesWritten, sendings}
use Rattle.net_model.specs.Laws.{IsCurrent, IsIn}
use Rattle.net_model.specs.Nodes.{notes_of}
use Rattle.net_model.specs.Rounds.{all_written, drained, restarted, round, rounds, written_in}
use Rattle.net_model.specs.Rules.{Rules}
use Rattle.net_model.proofs.Sound.{IsSound}
use Rattle.net_model.proofs.Members.{get-other, IsIn-append_left, IsIn-append_right}
use Rattle.net_model.proofs.Kept.{IsSound-restarted}
use Rattle.net_model.proofs.Sessions.{Current-restarted}
use Rattle.net_model.proofs.Restart.{IsRestarted-restarted, restarted-notes, sendings-none}
use Rattle.net_model.proofs.Calm.{HasMoved, IsCalm, IsStill, few_sendings, turns-calm}

-- every edge has nothing left to send
abbrev pub AllStill : Graph → State → Type 0
AllStill graph state = (e : ℕ) → e < length graph.edges → IsStill graph state e

pub rounds-same : (rules : Rules) (graph : Graph) (count : ℕ) (state : State) → round rules graph state ≡ state → rounds rules graph count state ≡ state
rounds-same rules graph zero state same = refl
rounds-same rules graph (suc count) state same = ap (rounds rules graph count) same ∙ rounds-same rules graph count state same

changing_later : (rules : Rules) (graph : Graph) (state : State) (count : ℕ) → sendings state.wires + 1 ≤ sendings (round rules graph state).wires
    → ((k : ℕ) → k < count → round rules graph (rounds rules graph k (round rules graph state)) ≡ rounds rules graph k (round rules graph state) → ⊥)
    → (k : ℕ) → k < suc count → round rules graph (rounds rules graph k state) ≡ rounds rules graph k state → ⊥
changing_later rules graph state count grown rest zero few same =
    let wires = ap (λ (s : State). sendings s.wires) same in omega (arith, grown, wires)
changing_later rules graph state count grown rest (suc k) few same = rest k (omega arith) same

module _ (rules : Rules) (graph : Graph) (proper : IsProper graph) (names : List (List ℕ)) where
  round-calm : (state : State) → IsCalm rules graph names state → HasMoved rules graph proper names 0 (length graph.edges) state (round rules graph state)
  round-calm state calm = turns-calm rules graph proper names 0 (length graph.edges) state calm

  pub rounds-calm : (count : ℕ) (state : State) → IsCalm rules graph names state → IsCalm rules graph names (rounds rules graph count state)
  rounds-calm zero state calm = calm
  rounds-calm (suc count) state calm = rounds-calm count (round rules graph state) (round-calm state calm).calm

  -- where rounds end: at the first that changes nothing, and there every edge is still
  pub record Ends (most : ℕ) (state : State) : Type 0 where
    pub count : ℕ
    pub few : count ≤ most
    pub calm : IsCalm rules graph names (rounds rules graph count state)
    pub still : AllStill graph (rounds rules graph count state)
    pub last : round rules graph (rounds rules graph count state) ≡ rounds rules graph count state
    pub same : rounds rules graph most state ≡ rounds rules graph count state
    pub changing : (k : ℕ) → k < count → round rules graph (rounds rules graph k state) ≡ rounds rules graph k state → ⊥

  ends_here : (most : ℕ) (state : State) → IsCalm rules graph names state
      → ((k e : ℕ) → e ≡ 0 + k → k < length graph.edges → IsStill graph state e) → round rules graph state ≡ state → Ends most state
  ends_here most state calm still same = record {
    count = zero;
    few = omega arith;
    calm = calm;
    still = λ e within. still e e (sym (zero-add e)) within;
    last = same;
    same = rounds-same rules graph most state same;
    changing = λ k few h. absurd (omega arith);
  }

  ends_later : (most : ℕ) (state : State) → sendings state.wires + 1 ≤ sendings (round rules graph state).wires → Ends most (round rules graph state) → Ends (suc most) state
  ends_later most state grown rest = record {
    count = suc rest.count;
    few = (let f = rest.few in omega arith);
    calm = rest.calm;
    still = rest.still;
    last = rest.last;
    same = rest.same;
    changing = changing_later rules graph state rest.count grown rest.changing;
  }

  -- each round that changes something sends a packet, so rounds end within the bound
  pub ends : (most : ℕ) (state : State) → IsCalm rules graph names state → length graph.edges * length names ≤ sendings state.wires + most → Ends most state
  ends zero state calm bound =
      let moved = round-calm state calm in
      elim moved.change [
        | inl both ↦ ends_here zero state calm both.0 both.1
        | inr grown ↦ let few = few_sendings rules graph proper names (round rules graph state) moved.calm in absurd (omega (arith, grown, few, bound))
      ]
  ends (suc most) state calm bound =
      let moved = round-calm state calm in
      elim moved.change [
        | inl both ↦ ends_here (suc most) state calm both.0 both.1
        | inr grown ↦ ends_later most state grown (ends most (round rules graph state) moved.calm (omega (arith, grown, bound)))
      ]

-- at the start of a drain every edge is at rest and nothing was sent
pub IsCalm-restarted : (rules : Rules) (graph : Graph) (proper : IsProper graph) (names : List (List ℕ)) (state : State) → IsSound rules graph state
    → IsCurrent graph state → NamesWritten state names → IsCalm rules graph names (restarted graph state)
IsCalm-restarted rules graph proper names state sound current named =
    let begun = IsRestarted-restarted graph rules proper state sound in
    let kept = IsSound-restarted rules graph state sound in
    record {
      sound = kept;
      named = λ n identifier packet h. named n identifier packet (rw (restarted-notes graph state n) at h);
      size = kept.wires;
      current = Current-restarted graph rules state current;
      all_up = begun.all_up;
      edges = λ e edge wire is at.
          let fresh = begun.fresh e edge wire is at in
          rw fresh.1 (record {
            connected = refl;
            down = refl;
            up = refl;
            unanswered = refl;
            distinct = tt;
            spent = λ place h. absurd h;
          });
    }

unsent : (rules : Rules) (graph : Graph) → IsProper graph → (state : State) → IsSound rules graph state → sendings (restarted graph state).wires ≡ 0
unsent rules graph proper state sound =
    let begun = IsRestarted-restarted graph rules proper state sound in
    let kept = IsSound-restarted rules graph state sound in
    sendings-none (restarted graph state).wires (λ e wire at.
    let edge = get-other (restarted graph state).wires graph.edges e wire kept.wires at in
    ap (λ (w : Wire). w.sent) (begun.fresh e edge.0 wire edge.1 at).1)

-- each written identifier is among those that the drain counts
written_in-has : (notes : List Note) (identifier packet : List ℕ) → IsIn (Wrote identifier packet) notes → IsIn identifier (written_in notes)
written_in-has [] identifier packet h = h
written_in-has (Wrote own held ∷ notes) identifier packet h =
    elim h [ inl same ↦ inl cc | inr later ↦ inr (written_in-has notes identifier packet later) ]
written_in-has (Acked line own ∷ notes) identifier packet h = elim h [ inl same ↦ cc | inr later ↦ written_in-has notes identifier packet later ]
written_in-has (Refused line own ∷ notes) identifier packet h = elim h [ inl same ↦ cc | inr later ↦ written_in-has notes identifier packet later ]
written_in-has (Accept own links held ∷ notes) identifier packet h = elim h [ inl same ↦ cc | inr later ↦ written_in-has notes identifier packet later ]
written_in-has (Done link own ∷ notes) identifier packet h = elim h [ inl same ↦ cc | inr later ↦ written_in-has notes identifier packet later ]
written_in-has (Enter own held ∷ notes) identifier packet h = elim h [ inl same ↦ cc | inr later ↦ written_in-has notes identifier packet later ]

all_written-has : (nodes : List Node) (n : ℕ) (identifier packet : List ℕ) → IsIn (Wrote identifier packet) (notes_of (slice_get nodes n)) → IsIn identifier (all_written nodes)
all_written-has [] n identifier packet h = absurd h
all_written-has (node ∷ nodes) zero identifier packet h =
    IsIn-append_left identifier (written_in node.notes) (all_written nodes) (written_in-has node.notes identifier packet h)
all_written-has (node ∷ nodes) (suc n) identifier packet h =
    IsIn-append_right identifier (written_in node.notes) (all_written nodes) (all_written-has nodes n identifier packet h)

module _ (rules : Rules) (graph : Graph) (proper : IsProper graph) (state : State) (sound : IsSound rules graph state) (current : IsCurrent graph state) where
  pub drain_ends : Ends rules graph proper (all_written state.nodes) (length graph.edges * length (all_written state.nodes)) (restarted graph state)
  drain_ends =
      let none = unsent rules graph proper state sound in
      ends rules graph proper (all_written state.nodes) (length graph.edges * length (all_written state.nodes)) (restarted graph state)
      (IsCalm-restarted rules graph proper (all_written state.nodes) state sound current (all_written-has state.nodes)) (omega (arith, none))

  -- a drain is the rounds up to the first that changes nothing
  pub Drains-drained : Drains rules graph (restarted graph state) (drained rules graph state)
  Drains-drained =
      let end = drain_ends in
      rw end.same (record { count = end.count; leads = refl; last = end.last; changing = end.changing })

  -- it sends no more than each written identifier over each edge
  pub few-drained : (names : List (List ℕ)) → NamesWritten state names → sendings (drained rules graph state).wires ≤ length graph.edges * length names
  few-drained names named =
      few_sendings rules graph proper names (drained rules graph state)
      (rounds-calm rules graph proper names (length graph.edges * length (all_written state.nodes)) (restarted graph state) (IsCalm-restarted rules graph proper names state sound current named))

  drained_calm : IsCalm rules graph (all_written state.nodes) (drained rules graph state)
  drained_calm =
      rounds-calm rules graph proper (all_written state.nodes) (length graph.edges * length (all_written state.nodes)) (restarted graph state)
      (IsCalm-restarted rules graph proper (all_written state.nodes) state sound current (all_written-has state.nodes))

  pub IsAtRest-drained : IsAtRest graph (drained rules graph state)
  IsAtRest-drained e edge wire is at =
      let rest = drained_calm.edges e edge wire is at in
      (rest.connected, rest.down, rest.up, rest.unanswered)

  pub IsAllUp-drained : IsAllUp (drained rules graph state)
  IsAllUp-drained = drained_calm.all_up

  -- a further round changes nothing
  pub drained-still : round rules graph (drained rules graph state) ≡ drained rules graph state
  drained-still = let end = drain_ends in rw end.same end.last
