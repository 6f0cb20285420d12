-- A refused line calls no disk.
use Rattle.std.proofs.Common.{inl, refl}
use Rattle.voevent_cli.proofs.init.answer_of_init.Goals as goal

pub returns-in_ok-outcome-in-Err-Refused-clause-acted : goal.returns-in_ok-outcome-in-Err-Refused-clause-acted
returns-in_ok-outcome-in-Err-Refused-clause-acted g c words =
    inl (
      record { number = c.in-Err-Refused.number; line = c.in-Err-Refused.line },
      rw c.in-Err-Refused.field-0-is at c.in-Err-Refused.ensures.refused,
      c.in_ok-outcome-in-Err-Refused.ensures,
      record { trials = λ k. refl; real = refl },
    )
