use Rattle.broker_run.proofs.run.serve_once.Goals as goal

pub returns-in-Some-clause-served : goal.returns-in-Some-clause-served
returns-in-Some-clause-served g c = λ n e. absurd (rw e at c.in-Some.ensures.cause)

pub returns-in-Some-clause-listened : goal.returns-in-Some-clause-listened
returns-in-Some-clause-listened g c = λ e. absurd (rw e at c.in-Some.ensures.cause)

pub returns-in-Some-clause-dialed : goal.returns-in-Some-clause-dialed
returns-in-Some-clause-dialed g c = λ e. rw e at c.in-Some.ensures.cause

pub returns-in-Some-clause-spawned : goal.returns-in-Some-clause-spawned
returns-in-Some-clause-spawned g c = λ e. rw e at c.in-Some.ensures.cause
