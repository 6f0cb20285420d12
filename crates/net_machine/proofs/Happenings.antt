-- What happened, for each event.
use Rattle.std.proofs.Common.{◌≡◌, ℕ, Bool, true, false, List, [], ◌∷◌, ◌++◌, refl, sym, ◌∙◌, ap, subst}
use Rattle.net_model.specs.declared.scenario.Event.{Event}
use Rattle.net_model.specs.declared.scenario.Event.TheVariants.{Write, Send, Down, Up, Cut, Connect, Crash, Reopen, Stop, Drain}
use Rattle.net_model.specs.declared.scenario.Graph.{Graph}
use Rattle.net_model.specs.declared.scenario.Inner.{Inner}
use Rattle.net_model.specs.declared.state.State.{State}
use Rattle.net_model.specs.Rules.{Rules}
use Rattle.net_model.specs.Rounds.{drained}
use Rattle.net_model.specs.Runs.{actor_of, after, beginning, happens, run, stopped}
use Rattle.net_machine.proofs.Runs.{reached-on, run-append}
use Rattle.net_machine.specs.Events.{AllDone, Done, HappensEither, OnTheWay, needs}
use Rattle.net_machine.specs.Parts.{AreRight, Happened, IsSound, Leads, Moment, Rightness, configs_of, nothing, state_of}
use Rattle.net_machine.specs.Stops.{IsCutShort}

-- neither a stop nor a drain
abbrev pub IsPlain : Event → Type 0
IsPlain (Stop calls fill inner) = ⊥
IsPlain _ = Unit {0}

either-plain : (event : Event) → IsPlain event → (rules : Rules) (graph : Graph) (packets : List (List ℕ)) (old new : State)
    → new ≡ happens rules graph packets old event → HappensEither rules graph packets old event new
either-plain (Write author packet) plain rules graph packets old new h = h
either-plain (Send edge) plain rules graph packets old new h = h
either-plain (Down edge) plain rules graph packets old new h = h
either-plain (Up edge) plain rules graph packets old new h = h
either-plain (Cut edge) plain rules graph packets old new h = h
either-plain (Connect edge) plain rules graph packets old new h = h
either-plain (Crash node) plain rules graph packets old new h = h
either-plain (Reopen node) plain rules graph packets old new h = h
either-plain (Stop calls fill inner) plain rules graph packets old new h = absurd plain
either-plain Drain plain rules graph packets old new h = h

pub done-happened : (is_right : Rightness) (graph : Graph) (packets : List (List ℕ)) (event : Event) (Tell : Type 0) (old new : Moment) → IsPlain event
    → IsSound is_right graph packets old → Happened is_right graph packets event old new → Done is_right graph packets event Tell old new
done-happened is_right graph packets event Tell old new plain sound done = record {
  configs = done.configs;
  sound = record { whole = done.whole; reached = reached-on is_right graph packets event old new sound.reached done };
  exact = λ needed rules right. done.value rules right;
  either = λ rules right. either-plain event plain rules graph packets (state_of old) (state_of new) (done.value rules right);
}

pub done-drain : (is_right : Rightness) (graph : Graph) (packets : List (List ℕ)) (Tell : Type 0) (old new : Moment)
    → Leads is_right graph packets nothing (λ rules state. drained rules graph state) old new → Done is_right graph packets Drain Tell old new
done-drain is_right graph packets Tell old new done = record {
  configs = done.configs;
  sound = done.sound;
  exact = λ needed rules right. done.value rules right;
  either = λ rules right. done.value rules right;
}

-- a stop is such an event that surely kept the record, or surely didn't
pub done-stop : (is_right : Rightness) (graph : Graph) (packets : List (List ℕ)) (calls fill : ℕ) (inner : Inner) (Tell : Type 0) (old new : Moment)
    → IsSound is_right graph packets old → IsCutShort is_right graph packets calls fill inner Tell old new → Done is_right graph packets (Stop calls fill inner) Tell old new
done-stop is_right graph packets calls fill inner Tell old new sound done = record {
  configs = done.configs;
  sound = record { whole = done.whole; reached = λ rules right. reached rules right };
  exact = done.exact;
  either = done.either;
}
  where
    as-event : (rules : Rules) (kept : Bool) → (event : Event) × (happens rules graph packets (state_of old) event ≡ stopped rules graph packets (state_of old) kept inner (actor_of rules graph packets (state_of old) inner))
    as-event rules true = (Stop 4 0 inner, refl)
    as-event rules false = (Stop 0 0 inner, refl)

    reached : (rules : Rules) → AreRight is_right (configs_of new.slots) packets rules → (events : List Event) × (state_of new ≡ after rules graph packets events)
    reached rules right =
        let right_before : AreRight is_right (configs_of old.slots) packets rules = subst (λ cs. AreRight is_right cs packets rules) done.configs right in
        let before = sound.reached rules right_before in
        let kept = done.either rules right_before in
        let event = as-event rules kept.0 in (
          before.0 ++ event.0 ∷ [],
          kept.1 ∙ sym event.1 ∙ ap (λ (state : State). happens rules graph packets state event.0) before.1 ∙ sym (run-append rules graph packets before.0 (event.0 ∷ []) (beginning graph)),
        )

-- events one after another

pub way-start : (is_right : Rightness) (graph : Graph) (packets : List (List ℕ)) (events : List Event) (Tell : Type 0) (m : Moment) → IsSound is_right graph packets m
    → OnTheWay is_right graph packets events events Tell m m
way-start is_right graph packets events Tell m sound = record { configs = refl; sound = sound; exact = λ tells rules right. refl }

pub way-end : (is_right : Rightness) (graph : Graph) (packets : List (List ℕ)) (rest events : List Event) (Tell : Type 0) (old new : Moment) → rest ≡ []
    → OnTheWay is_right graph packets rest events Tell old new → AllDone is_right graph packets events Tell old new
way-end is_right graph packets rest events Tell old new none way = record {
  configs = way.configs;
  sound = way.sound;
  exact = λ tells rules right.
      ap (λ (left : List Event). run rules graph packets left (state_of new)) (sym none) ∙ way.exact tells rules right;
}

told-needs : (event : Event) (Tell : Type 0) → Tell → needs event Tell
told-needs (Write author packet) Tell tells = tt
told-needs (Send edge) Tell tells = tt
told-needs (Down edge) Tell tells = tt
told-needs (Up edge) Tell tells = tt
told-needs (Cut edge) Tell tells = tt
told-needs (Connect edge) Tell tells = tt
told-needs (Crash node) Tell tells = tt
told-needs (Reopen node) Tell tells = tt
told-needs (Stop calls fill inner) Tell tells = tells
told-needs Drain Tell tells = tt

-- one event more
pub way-more : (is_right : Rightness) (graph : Graph) (packets : List (List ℕ)) (rest left events : List Event) (event : Event) (First Tell : Type 0)
    (first old new : Moment) → rest ≡ event ∷ left → (First → Tell) → OnTheWay is_right graph packets rest events First first old
    → Done is_right graph packets event Tell old new → OnTheWay is_right graph packets left events First first new
way-more is_right graph packets rest left events event First Tell first old new is tells way done = record {
  configs = done.configs ∙ way.configs;
  sound = done.sound;
  exact = λ told rules right.
      let right_here : AreRight is_right (configs_of old.slots) packets rules = subst (λ cs. AreRight is_right cs packets rules) (sym way.configs) right in
      ap (λ (state : State). run rules graph packets left state) (done.exact (told-needs event Tell (tells told)) rules right_here)
      ∙ ap (λ (them : List Event). run rules graph packets them (state_of old)) (sym is)
      ∙ way.exact told rules right;
}
