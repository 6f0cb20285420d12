use Rattle.std.proofs.Common.{◌≡◌, true, sym, subst}
use Rattle.voe_tree.specs.Validity.{meets_V03, meets_V12}
use Rattle.voe_packet.proofs.ValidParts.{valid_parts}
use Rattle.voe_packet.proofs.packet.Packet.of.Goals as goal

pub identifier-requires : goal.identifier-requires
identifier-requires c = subst (λ e. meets_V03 e ≡ true) (sym c.root-root.ensures.root) (valid_parts c.args.tree.now.root c.requires).0

pub citations_of-requires : goal.citations_of-requires
citations_of-requires c = subst (λ e. meets_V12 e ≡ true) (sym c.root-root.ensures.root) (valid_parts c.args.tree.now.root c.requires).1
