-- The state that a reader's levels are.
use Rattle.std.specs.Prelude.{List, [], ◌∷◌, ◌++◌, map, reverse}
use Rattle.voe_tree.specs.Names.{Bindings}
use Rattle.voe_tree.specs.Reader.{Stack, State, bottom, above, bindings_at}
use Rattle.voe_tree.specs.declared.level.Binding.{Binding}
use Rattle.voe_tree.specs.declared.level.Level.{Level}
use Rattle.voe_tree.specs.declared.nesting.Nesting.{Nesting}

-- the newest first
abbrev pub bindings_of : List Binding → Bindings
bindings_of bindings = map (λ b. (b.prefix.now, b.namespace)) (reverse bindings)

-- what a tag declares
abbrev pub own_bindings : Level → Bindings
own_bindings level = bindings_of level.declared.items

-- the level, and those around it from the innermost
abbrev pub stack_from : Level → List Level → Stack
stack_from level [] = bottom (own_bindings level) level.element.children
stack_from level (parent ∷ parents) =
    above level.name.now level.element (own_bindings level ++ bindings_at (stack_from parent parents)) (stack_from parent parents)

abbrev pub stack_of : Nesting → Stack
stack_of n = stack_from n.current (reverse n.parents.items)

abbrev pub state_of : Nesting → State
state_of n = record { pending = n.pending; stack = stack_of n }

-- what levels declare, the innermost first
abbrev pub bindings_around : List Level → Bindings
bindings_around [] = []
bindings_around (level ∷ levels) = own_bindings level ++ bindings_around levels
