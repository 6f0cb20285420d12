use Rattle.node_notes.specs.Spelling.{note_payload}
use Rattle.broker_end.specs.Turning.{IsBrokerStep}
use Rattle.broker_end.proofs.Turnings.{payloads_on, step_on, stepped}
use Rattle.broker_end.proofs.turned.BrokerEndTurned.turn.Goals as goal

pub returns-in-Ok-clause-records : goal.returns-in-Ok-clause-records
returns-in-Ok-clause-records g c =
    let e = c.step.ensures in
    let step : IsBrokerStep g.D.Disk c.args.self.now c.in-Ok.event c.step.result c.step.new.self = record { config = e.config; sessions = e.sessions; steps = e.steps; same_disk = e.same_disk; sound = e.sound; was_down = e.was_down; happens = e.happens; asks = e.asks; plain = e.plain; rules = e.rules; no_memory = e.no_memory } in
    payloads_on note_payload c.args.self.now.notes c.step.new.self.notes (step_on g.D.Disk c.args.self.now c.step.new.self c.step.result c.in-Ok.event step).on

pub returns-in-Ok-clause-meaning : goal.returns-in-Ok-clause-meaning
returns-in-Ok-clause-meaning g c =
    let e = c.step.ensures in
    let step : IsBrokerStep g.D.Disk c.args.self.now c.in-Ok.event c.step.result c.step.new.self = record { config = e.config; sessions = e.sessions; steps = e.steps; same_disk = e.same_disk; sound = e.sound; was_down = e.was_down; happens = e.happens; asks = e.asks; plain = e.plain; rules = e.rules; no_memory = e.no_memory } in
    stepped g.D.Disk c.args.self.now c.step.new.self c.args.ask c.step.result c.in-Ok.event c.in-Ok.ensures.0 c.requires step
