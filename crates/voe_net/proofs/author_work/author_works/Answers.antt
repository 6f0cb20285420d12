use Rattle.std.proofs.Common.{sym, subst}
use Rattle.net_machine.specs.declared.work.Work.{Work}
use Rattle.voe_net.specs.Worked.{HasWorked}
use Rattle.voe_net.proofs.author_work.author_works.Goals as goal

pub returns-in-Hear : goal.returns-in-Hear
returns-in-Hear g c =
    let P : Work → Type 0 = λ w. HasWorked g.D.Disk w c.args.end.now c.hear.new.end c.hear.result in
    subst P (sym c.in-Hear.is) (c.hear.ensures c.in-Hear.session)
