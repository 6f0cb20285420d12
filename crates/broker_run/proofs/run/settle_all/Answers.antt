use Rattle.std.proofs.Common.{◌∙◌}
use Rattle.broker_run.proofs.Courses.{dialer_then}
use Rattle.broker_run.proofs.run.settle_all.Goals as goal

pub loop-preserved : goal.loop-preserved
loop-preserved g c =
    let i = c.loop.invariant in
    record {
      kept = c.settle.ensures.kept;
      rest = dialer_then (g.W.World.parts c.args.world.now) (g.W.World.parts c.loop.world) (g.W.World.parts c.settle.new.world) i.rest c.settle.ensures.rest;
      first = c.settle.ensures.first ∙ i.first;
      dialed = c.settle.ensures.dialed ∙ i.dialed;
      guests = c.settle.ensures.guests ∙ i.guests;
    }
