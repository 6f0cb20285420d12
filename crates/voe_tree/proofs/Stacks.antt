-- What a step on the levels is to the stack.
use Rattle.std.proofs.Common.{◌≡◌, suc, ◌==◌, List, [], ◌∷◌, ◌++◌, length, reverse, arith, refl, sym, ◌∙◌, ap, append-nil}
use Rattle.std.proofs.lemmas.Bool.Decides.{nat_tests}
use Rattle.std.proofs.lemmas.List.{reverse-append, length-reverse}
use Rattle.voe_tree.specs.Reader.{above, bindings_at, opened_in, is_bottom, push, with_children}
use Rattle.voe_tree.specs.declared.element.Node.{Node}
use Rattle.voe_tree.specs.declared.level.Level.{Level}
use Rattle.voe_tree.specs.View.{stack_from, own_bindings, bindings_around}

pub stack_from-place : (level : Level) (parents : List Level) (n : Node) →
    stack_from (record level { element = with_children level.element (n ∷ []) }) parents ≡ push n (stack_from level parents)
stack_from-place level [] n = refl
stack_from-place level (parent ∷ parents) n = refl

pub stack_from-above : (level parent : Level) (popped : List Level) →
    stack_from level (reverse (popped ++ parent ∷ []))
    ≡ above level.name.now level.element (own_bindings level ++ bindings_at (stack_from parent (reverse popped))) (stack_from parent (reverse popped))
stack_from-above level parent popped = rw reverse-append refl

pub length-opened_in : (level : Level) (parents : List Level) → length (opened_in (stack_from level parents)) ≡ length parents
length-opened_in level [] = refl
length-opened_in level (parent ∷ parents) = ap suc (length-opened_in parent parents)

pub opened-of_parents : (level : Level) (parents : List Level) → length parents ≡ length (opened_in (stack_from level (reverse parents)))
opened-of_parents level parents = sym (length-opened_in level (reverse parents) ∙ length-reverse parents)

pub bindings_at-stack : (level : Level) (parents : List Level) → bindings_at (stack_from level parents) ≡ own_bindings level ++ bindings_around parents
bindings_at-stack level [] = sym (append-nil (own_bindings level))
bindings_at-stack level (parent ∷ parents) = ap (λ b. own_bindings level ++ b) (bindings_at-stack parent parents)

bottom-stack : (level : Level) (parents : List Level) → (length parents == 0) ≡ is_bottom (stack_from level parents)
bottom-stack level [] = refl
bottom-stack level (parent ∷ parents) = grind (arith, nat_tests)

pub bottom-of_parents : (level : Level) (parents : List Level) → (length parents == 0) ≡ is_bottom (stack_from level (reverse parents))
bottom-of_parents level parents = ap (λ n. n == 0) (sym (length-reverse parents)) ∙ bottom-stack level (reverse parents)
