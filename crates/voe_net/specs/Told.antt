-- What the answers of the three ends say of their work, and how the network is told.
use Rattle.std.specs.Prelude.{Option, Some, None, Result, Ok, Err}
use Rattle.net_model.specs.declared.state.Verdict.{Verdict}
use Rattle.net_machine.specs.declared.fault.EndFault.{EndFault}
use Rattle.net_machine.specs.declared.fault.EndFault.TheVariants as fault
use Rattle.net_model.specs.declared.step.AuthorStep.{AuthorStep}
use Rattle.net_model.specs.declared.step.AuthorStep.TheVariants as a
use Rattle.net_model.specs.declared.step.BrokerStep.{BrokerStep}
use Rattle.net_model.specs.declared.step.BrokerStep.TheVariants as b
use Rattle.net_model.specs.declared.step.SubscriberStep.{SubscriberStep}
use Rattle.net_model.specs.declared.step.SubscriberStep.TheVariants as s
use Rattle.voe_net.specs.declared.working.Worked.{Worked}
use Rattle.voe_net.specs.declared.working.Worked.TheVariants.{Answered, Fallen, NoMemory}

abbrev pub author_told : AuthorStep → Worked
author_told (a.Down faults stopped) = Fallen stopped
author_told a.NoMemory = NoMemory
author_told _ = Answered None

abbrev pub broker_told : BrokerStep → Worked
broker_told (b.Answer verdict) = Answered (Some verdict)
broker_told (b.Down faults stopped) = Fallen stopped
broker_told b.NoMemory = NoMemory
broker_told _ = Answered None

abbrev pub subscriber_told : SubscriberStep → Worked
subscriber_told (s.Answer verdict) = Answered (Some verdict)
subscriber_told (s.Down faults stopped) = Fallen stopped
subscriber_told s.NoMemory = NoMemory

-- how the network is told of the work
abbrev pub told_as : Worked → Result (Option Verdict) EndFault
told_as (Answered answer) = Ok answer
told_as (Fallen stopped) = Err fault.Disk
told_as NoMemory = Err fault.NoMemory
