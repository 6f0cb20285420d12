use Rattle.std.proofs.Common.{◌∙◌, refl, subst}
use Rattle.voevent_online.specs.Serving.{AnswersRun}
use Rattle.voevent_online.proofs.Brokers.{cause_seen, disk_same, moment_same, sink_same, source_same, tells_same}
use Rattle.voevent_online.proofs.serving.run_and_answer.Goals as goal

pub returns : goal.returns
returns g c = λ own keeps.
    let old = g.W.World.parts c.args.world.now in
    let mid = g.W.World.parts c.run-run.new.world in
    let new = g.W.World.parts c.answer_run.new.world in
    let rest = c.run-run.ensures.rest in
    let behind = c.answer_run.ensures.parts in
    record {
      keeps = keeps;
      ended = c.run-run.result;
      cause = cause_seen g.W.Di.Dialer.fault_count g.W-Sp-Spawner.fault_count g.W-Sp-Spawner.begin_count g.W.Di.Dialer.returns g.W.Di.L.Link g.W.Li.Listener.returns g.W.Li.Listener.accept_count g.W.Li.L.Link c.args.sessions _ c.args.dialing old.disk old old mid new refl behind c.run-run.result c.run-run.ensures.cause;
      told = subst (λ (k : g.row.W-Si.Denot). AnswersRun g.W.Si.Sink c.run-run.result c.answer_run.result k new.sink) (sink_same rest) c.answer_run.ensures.told;
      disk_is = disk_same behind ∙ (disk_same rest ∙ c.requires.taken);
      source_is = source_same behind ∙ source_same rest;
      moment_is = moment_same behind ∙ moment_same rest;
      tells_is = tells_same behind ∙ tells_same rest;
    }
