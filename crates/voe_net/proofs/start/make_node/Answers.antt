-- What the node's configuration must be.
use Rattle.std.proofs.Common.{sym, subst}
use Rattle.path_filter.specs.Links.{AreReadable}
use Rattle.node_notes.specs.declared.config.Config.{Config}
use Rattle.voe_net.specs.Nodes.{AreDistinct, names_of}
use Rattle.voe_net.proofs.LinkNames.{config-distinct}
use Rattle.voe_net.proofs.start.make_node.Goals as goal

pub make-requires-clause-filters : goal.make-requires-clause-filters
make-requires-clause-filters g c = subst (λ (config : Config). AreReadable config.links) (sym c.in-Ok.ensures) (c.requires.graph.filters c.args.node)

pub make-requires-clause-names : goal.make-requires-clause-names
make-requires-clause-names g c =
    subst (λ (config : Config). AreDistinct (names_of config.links)) (sym c.in-Ok.ensures) (config-distinct c.args.graph.now c.args.node c.requires.proper c.requires.few c.requires.edges)
