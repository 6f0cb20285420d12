use Rattle.voevent_online.proofs.Brokers.{outcome_by}
use Rattle.voevent_online.proofs.serving.run.Goals as goal

pub returns-clause-cause : goal.returns-clause-cause
returns-clause-cause g c =
    outcome_by c.run_broker.result
    (λ n e. let k = c.run_broker.ensures.served n e in record { lines = k.0.0; once = k.0.2; run = k.0.1; accepted = k.1; guests = k.2 })
    (λ e. c.run_broker.ensures.listened e)
    (λ e. c.run_broker.ensures.dialed e)
    (λ e. c.run_broker.ensures.spawned e)
