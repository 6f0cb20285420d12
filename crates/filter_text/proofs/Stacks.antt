-- The stack of the code, the innermost opening last.
use Rattle.std.proofs.Common.{◌≡◌, None, refl, ◌∙◌, ap, List, [], ◌∷◌, ◌++◌, length, map, arith}
use Rattle.std.proofs.lemmas.List.{map-append, reverse-append, length-reverse, length-map}
use Rattle.filter_text.specs.Machine.{Opening, State, sentence_of, path_of_machine}
use Rattle.filter_text.specs.MachineView.{opening_view, stack_view}
use Rattle.filter_text.specs.declared.state.Opening.{Opening as CodeOpening}

pub pushed : (stack : List CodeOpening) (o : CodeOpening) → stack_view (stack ++ o ∷ []) ≡ opening_view o ∷ stack_view stack
pushed stack o = rw (map-append, reverse-append) refl

-- a stack that holds something is seen so
filled : (stack : List CodeOpening) → (stack ≡ [] → ⊥) → (os : List Opening) → stack_view stack ≡ os → os ≡ [] → ⊥
filled [] some os e f = some refl
filled (x ∷ stack) some os e f =
    let sizes : length (stack_view (x ∷ stack)) ≡ length (map opening_view (x ∷ stack)) = length-reverse (map opening_view (x ∷ stack)) in
    let none : length (stack_view (x ∷ stack)) ≡ 0 = ap length (e ∙ f) in
    let more : length (map opening_view (x ∷ stack)) ≡ length (x ∷ stack) = length-map (x ∷ stack) opening_view in
    omega arith

pub sentence-filled : (state : State) (stack : List CodeOpening) → (stack ≡ [] → ⊥) → sentence_of (record { state = state; stack = stack_view stack }) ≡ None
sentence-filled state stack some = by_view (stack_view stack) refl
  where
    by_view : (os : List Opening) → stack_view stack ≡ os → sentence_of (record { state = state; stack = os }) ≡ None
    by_view [] e = absurd (filled stack some [] e refl)
    by_view (o ∷ os) e = refl

pub path-filled : (state : State) (stack : List CodeOpening) → (stack ≡ [] → ⊥) → path_of_machine (record { state = state; stack = stack_view stack }) ≡ None
path-filled state stack some = by_view (stack_view stack) refl
  where
    by_view : (os : List Opening) → stack_view stack ≡ os → path_of_machine (record { state = state; stack = os }) ≡ None
    by_view [] e = absurd (filled stack some [] e refl)
    by_view (o ∷ os) e = refl

pub ruleset ends = (sentence-filled, path-filled)
