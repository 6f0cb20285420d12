-- What a broker does on an author's line: each packet has its turn, and its verdict is written. At a beat it shows that it is
-- there, behind the verdict.
use Rattle.std.specs.Prelude.{◌≡◌, ℕ, Bool, true, false, if◌then◌else◌}
use Rattle.net_model.specs.declared.step.BrokerStep.{BrokerStep}
use Rattle.net_model.specs.declared.step.BrokerStep.TheVariants as reply
use Rattle.broker_end.specs.declared.event.Way.TheVariants as way
use Rattle.vtp_session.specs.declared.act.Act.{Act}
use Rattle.vtp_session.specs.declared.act.Act.TheVariants as act
use Rattle.vtp_server.specs.Talk.{Rules}
use Rattle.vtp_server.specs.declared.side.Next.{Next}
use Rattle.vtp_server.specs.declared.side.Next.TheVariants as next
use Rattle.vtp_server.specs.declared.speech.Speech.TheVariants as speech
use Rattle.vtp_server.specs.declared.ask.BrokerAsk.{BrokerAsk}
use Rattle.vtp_server.specs.declared.ask.BrokerAsk.TheVariants as ask
use Rattle.vtp_server.specs.declared.ended.Stop.{Stop}
use Rattle.vtp_server.specs.declared.ended.Stop.TheVariants as stop
use Rattle.vtp_server.specs.declared.line.Line.{Line}

-- a beat that is owed is written, and then the next message is read
abbrev pub line_goes_on : Line → Line × Next BrokerAsk Stop
line_goes_on m = if m.owes_beat then (record { owes_beat = false }, next.Say speech.Alive) else (m, next.Read)

abbrev pub line_after_read : Line → Act → Line × Next BrokerAsk Stop
line_after_read m (act.Packet packet) = (m, next.Ask (ask.Packet way.Line packet))
line_after_read m _ = line_goes_on m

abbrev pub line_after_turn : Line → BrokerStep → Line × Next BrokerAsk Stop
line_after_turn m (reply.Answer verdict) = (m, next.Say (speech.Answer verdict))
line_after_turn m (reply.Replaced newer) = (m, next.Over (stop.Replaced newer))
line_after_turn m (reply.Down faults stopped) = (m, next.Over (stop.Down faults))
line_after_turn m reply.NoMemory = (m, next.Over stop.NoMemory)
line_after_turn m _ = line_goes_on m

abbrev pub line_rules : Rules Line BrokerAsk BrokerStep Stop
line_rules = record {
  after_read = λ m a beat waiting. line_after_read (record { owes_beat = beat }) a;
  after_turn = λ m r front waiting. line_after_turn m r;
  after_write = λ m waiting. line_goes_on m;
  after_line = λ m waiting. line_goes_on m;
}
