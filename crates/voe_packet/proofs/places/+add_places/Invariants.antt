use Rattle.std.proofs.Common.{◌≡◌, ◌++◌, drop}
use Rattle.std.specs.Prelude.{filter}
use Rattle.std.specs.List.{flat_map}
use Rattle.voe_tree.specs.Contents.{elements_in, is_called}
use Rattle.voe_tree.specs.Places.{places}
use Rattle.voe_tree.specs.Writing.{texts}
use Rattle.voe_packet.specs.Parts.{elements}
use Rattle.voe_packet.proofs.places.+add_places.Given as goal

abbrev pub invariant-loop-node : goal.invariant-loop-node
invariant-loop-node l =
    elements l.found.items ++ flat_map (places (texts l.rest)) (filter (is_called l.first.now) (elements_in (drop l.node-index l.node-items)))
    ≡ elements l.initial.found.items ++ places (texts l.path) l.element
