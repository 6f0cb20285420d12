-- How the program ends where a command was done or refused.
use Rattle.std.specs.Prelude.{List, ℕ}
use Rattle.voevent_cli.specs.Lines.{refusal_line, status_of_refusal}
use Rattle.voevent_cli.specs.declared.outcome.Outcome.{Outcome}
use Rattle.voevent_cli.specs.declared.outcome.Status.TheVariants.{Done}
use Rattle.voevent_cli.specs.declared.refusal.Refusal.{Refusal}

abbrev pub done : List ℕ → Outcome
done output = record { status = Done; output = output }

abbrev pub refused : Refusal → Outcome
refused refusal = record { status = status_of_refusal refusal; output = refusal_line refusal }
