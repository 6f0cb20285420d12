use Rattle.std.proofs.Common.{sym, subst}
use Rattle.net_machine.specs.declared.work.Work.{Work}
use Rattle.voe_net.specs.Worked.{HasWorked}
use Rattle.voe_net.proofs.subscriber_work.subscriber_works.Goals as goal

pub returns : goal.returns
returns g c =
    let P : Work → Type 0 = λ w. HasWorked g.D.Disk w c.args.end.now c.take.new.end c.take.result in
    subst P (sym c.in-Take.is) (c.take.ensures c.in-Take.from_line)
