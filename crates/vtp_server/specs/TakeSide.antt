-- What a broker does towards one that it follows: each packet has its turn, and its verdict is written; who it is, and that it
-- is there, is answered.
use Rattle.std.specs.Prelude.{ℕ, Bool}
use Rattle.net_model.specs.declared.step.BrokerStep.{BrokerStep}
use Rattle.net_model.specs.declared.step.BrokerStep.TheVariants as reply
use Rattle.broker_end.specs.declared.event.Way.TheVariants as way
use Rattle.vtp_session.specs.declared.act.Act.{Act}
use Rattle.vtp_session.specs.declared.act.Act.TheVariants as act
use Rattle.vtp_server.specs.Talk.{Rules}
use Rattle.vtp_server.specs.declared.side.Next.{Next}
use Rattle.vtp_server.specs.declared.side.Next.TheVariants as next
use Rattle.vtp_server.specs.declared.speech.Speech.TheVariants as speech
use Rattle.vtp_server.specs.declared.ask.BrokerAsk.{BrokerAsk}
use Rattle.vtp_server.specs.declared.ask.BrokerAsk.TheVariants as ask
use Rattle.vtp_server.specs.declared.ended.Stop.{Stop}
use Rattle.vtp_server.specs.declared.ended.Stop.TheVariants as stop
use Rattle.vtp_server.specs.declared.take.Follower.{Follower}

abbrev pub take_after_read : Act → Next BrokerAsk Stop
take_after_read (act.Packet packet) = next.Ask (ask.Packet way.Link packet)
take_after_read (act.Beat asker) = next.Say (speech.AliveTo asker)
take_after_read (act.Challenge asker) = next.Say (speech.IAm asker)
take_after_read _ = next.Read

abbrev pub take_after_turn : BrokerStep → Next BrokerAsk Stop
take_after_turn (reply.Answer verdict) = next.Say (speech.Answer verdict)
take_after_turn (reply.Replaced newer) = next.Over (stop.Replaced newer)
take_after_turn (reply.Down faults stopped) = next.Over (stop.Down faults)
take_after_turn reply.NoMemory = next.Over stop.NoMemory
take_after_turn _ = next.Read

abbrev pub take_rules : Rules Follower BrokerAsk BrokerStep Stop
take_rules = record {
  after_read = λ m a beat waiting. (m, take_after_read a);
  after_turn = λ m r front waiting. (m, take_after_turn r);
  after_write = λ m waiting. (m, next.Read);
  after_line = λ m waiting. (m, next.Read);
}
