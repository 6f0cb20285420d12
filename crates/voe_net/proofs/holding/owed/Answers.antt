use Rattle.voe_net.proofs.Up.{few_links}
use Rattle.voe_net.proofs.holding.owed.Goals as goal

pub owed_in-requires : goal.owed_in-requires
owed_in-requires g c = few_links g.D.Disk c.args.kept.now c.in-Some.book.now c.requires c.in-Some.ensures
