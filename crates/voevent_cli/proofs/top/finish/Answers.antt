-- What was prepared is written, with its status.
use Rattle.voevent_cli.proofs.SafeRuns.{safe_run}
use Rattle.voevent_cli.proofs.Wants.{answer_code, wants_answers, written}
use Rattle.voevent_cli.specs.Wanted.{command_of}
use Rattle.voevent_cli.proofs.top.finish.Goals as goal
use Rattle.std.proofs.Common.{refl, ap, ◌∙◌}
use Rattle.std.specs.Io.KnownBytes.{append_known}

pub returns-in-Ok-write_all-clause-ends : goal.returns-in-Ok-write_all-clause-ends
returns-in-Ok-write_all-clause-ends g c =
    let prepared = c.in-Ok.ensures.prepares in
    let command = command_of c.args.words.now in
    record {
      taken = prepared.0;
      gave = prepared.1.0;
      few = prepared.1.1;
      says = written g.R.Trial.Disk g.R.Real.Disk c.args.words.now prepared.0 _ _ c.in-Ok.outcome.status
          (wants_answers g.R.Trial.Disk g.R.Real.Disk c.args.words.now prepared.0 _ _ c.in-Ok.outcome prepared.3)
          (record {
            read = prepared.2;
            outcome = c.in-Ok.outcome;
            wanted = prepared.3;
            wanted_status = refl;
            output = c.in-Ok-write_all.ensures.bytes ∙ ap (append_known (g.K.Sink.held c.args.sink.now)) c.as_slice.ensures;
          })
          (safe_run command prepared.0 (record {
            single = c.every_moment.ensures.single;
            written = c.every_moment.ensures.written;
            sourced = c.every_moment.ensures.sourced;
            covered = c.every_moment.ensures.covered;
            fulfilled = c.every_moment.ensures.fulfilled;
            few = λ rules graph packets before names. c.every_drain.ensures.bounded rules graph packets before names;
            rest = c.every_drain.ensures.rested;
            up = c.every_drain.ensures.all_up;
            settled = c.drained_state.ensures.settled;
            answered = c.drained_state.ensures.answered;
            delivered = c.drained_state.ensures.delivered;
            sound = c.scenarios_are_sound.ensures;
            room = c.scenarios_have_room.ensures;
          }));
    }

pub returns-in-Ok-write_all-clause-source_faults : goal.returns-in-Ok-write_all-clause-source_faults
returns-in-Ok-write_all-clause-source_faults g c =
    let prepared = c.in-Ok.ensures.prepares in
    rw ((answer_code c.in-Ok.outcome.status (wants_answers g.R.Trial.Disk g.R.Real.Disk c.args.words.now prepared.0 _ _ c.in-Ok.outcome prepared.3)).0) c.in-Ok.ensures.faults

pub returns-in-Ok-write_all-clause-sink_faults : goal.returns-in-Ok-write_all-clause-sink_faults
returns-in-Ok-write_all-clause-sink_faults g c =
    let prepared = c.in-Ok.ensures.prepares in
    rw ((answer_code c.in-Ok.outcome.status (wants_answers g.R.Trial.Disk g.R.Real.Disk c.args.words.now prepared.0 _ _ c.in-Ok.outcome prepared.3)).1) c.in-Ok-write_all.ensures.faults
