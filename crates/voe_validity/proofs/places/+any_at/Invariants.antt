use Rattle.std.proofs.Common.{◌≡◌, drop}
use Rattle.std.specs.Prelude.{filter, map}
use Rattle.std.specs.List.{flat_map, list_any}
use Rattle.voe_tree.specs.Contents.{is_called, elements_in}
use Rattle.voe_validity.specs.Oddities.{is_odd}
use Rattle.voe_tree.specs.Places.{places}
use Rattle.voe_validity.proofs.places.+any_at.Given as goal

abbrev pub invariant-loop-node : goal.invariant-loop-node
invariant-loop-node l =
    list_any (is_odd l.oddity) (flat_map (places (map (λ name. name.now) l.rest)) (filter (is_called l.first.now) (elements_in (drop l.node-index l.node-items))))
    ≡ list_any (is_odd l.oddity) (places (map (λ name. name.now) l.path) l.element)
