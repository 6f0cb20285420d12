-- What an author does that submits a packet: it asks for the first unanswered one of the line, sends it, reads up to the first
-- answer, and hands it in.
use Rattle.std.specs.Prelude.{ℕ, Bool, true, false, List, Option, Some, None}
use Rattle.xml_lexer.specs.Characters.{Text}
use Rattle.net_model.specs.declared.step.AuthorStep.{AuthorStep}
use Rattle.net_model.specs.declared.step.AuthorStep.TheVariants as reply
use Rattle.vtp_session.specs.declared.act.Act.{Act}
use Rattle.vtp_session.specs.declared.act.Act.TheVariants as act
use Rattle.vtp_server.specs.Talk.{Rules}
use Rattle.vtp_server.specs.declared.side.Next.{Next}
use Rattle.vtp_server.specs.declared.side.Next.TheVariants as next
use Rattle.vtp_server.specs.declared.author.AuthorAsk.{AuthorAsk}
use Rattle.vtp_server.specs.declared.author.AuthorAsk.TheVariants as ask
use Rattle.vtp_server.specs.declared.author.Heard.{Heard}
use Rattle.vtp_server.specs.declared.ended.SubmitStop.{SubmitStop}
use Rattle.vtp_server.specs.declared.ended.SubmitStop.TheVariants as stop

-- the answer that was read
abbrev pub AuthorMemory : Type 0
AuthorMemory = Option Heard

-- the first move
abbrev pub submits : Next AuthorAsk SubmitStop
submits = next.Ask (ask.Next 0)

abbrev pub taken_up : List ℕ → Bool → Option Text → AuthorMemory × Next AuthorAsk SubmitStop
taken_up identifier ack why = (Some (record { identifier = identifier; ack = ack; why = why }), next.Ask (ask.Answer identifier ack))

abbrev pub author_after_read : AuthorMemory → Act → AuthorMemory × Next AuthorAsk SubmitStop
author_after_read m (act.Answer at identifier ack why) = taken_up identifier ack why
author_after_read m _ = (m, next.Read)

abbrev pub stop_of : Bool → List ℕ → Option Text → SubmitStop
stop_of true identifier why = stop.Ack identifier
stop_of false identifier why = stop.Nak why

-- the answer is recorded
abbrev pub recorded : AuthorMemory → AuthorMemory × Next AuthorAsk SubmitStop
recorded None = (None, next.Over stop.NoMemory)
recorded (Some heard) = (None, next.Over (stop_of heard.ack heard.identifier heard.why))

abbrev pub author_after_turn : AuthorMemory → AuthorStep → AuthorMemory × Next AuthorAsk SubmitStop
author_after_turn m (reply.Packet at identifier packet) = (m, next.Send identifier packet)
author_after_turn m reply.Nothing = (m, next.Over stop.Nothing)
author_after_turn m reply.Noted = recorded m
author_after_turn m reply.Full = (m, next.Over stop.Full)
author_after_turn m (reply.Down faults stopped) = (m, next.Over (stop.Down faults))
author_after_turn m reply.NoMemory = (m, next.Over stop.NoMemory)
author_after_turn m reply.Wrote = (m, next.Over stop.NoMemory)
author_after_turn m reply.Known = (m, next.Over stop.NoMemory)
author_after_turn m (reply.Refused code) = (m, next.Over stop.NoMemory)
author_after_turn m reply.Passed = (m, next.Over stop.NoMemory)

abbrev pub author_rules : Rules AuthorMemory AuthorAsk AuthorStep SubmitStop
author_rules = record {
  after_read = λ m a beat waiting. author_after_read m a;
  after_turn = λ m r front waiting. author_after_turn m r;
  after_write = λ m waiting. (m, next.Read);
  after_line = λ m waiting. (m, next.Read);
}
