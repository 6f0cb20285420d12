-- There are right rules, since each packet is the text of a draft; a refused line calls no disk.
use Rattle.std.proofs.Common.{inl, refl}
use Rattle.voevent_cli.proofs.Judged.{all_judged}
use Rattle.voevent_cli.proofs.Rightness.{right_rules}
use Rattle.voevent_cli.proofs.net.answer_of_net.Goals as goal

pub run_in-requires-clause-right : goal.run_in-requires-clause-right
run_in-requires-clause-right g c =
    right_rules c.in-Ok.scenario
    (all_judged (record { spells = c.drafts_read_back.ensures.spells; valid = c.drafts_read_back.ensures.valid }) c.in-Ok.scenario.packets c.in-Ok.ensures.sound.so_far.drafted)

pub returns-in_ok-outcome-in-Err-Refused-clause-acted : goal.returns-in_ok-outcome-in-Err-Refused-clause-acted
returns-in_ok-outcome-in-Err-Refused-clause-acted g c words =
    inl (
      record { number = c.in-Err-Refused.number; line = c.in-Err-Refused.line },
      rw c.in-Err-Refused.field-0-is at c.in-Err-Refused.ensures.refused,
      c.in_ok-outcome-in-Err-Refused.ensures,
      record { trials = λ k. refl; real = refl },
    )
