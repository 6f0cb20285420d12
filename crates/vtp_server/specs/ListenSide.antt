-- What a subscriber does towards a broker: each packet has its turn, its verdict is written, and where it was entered its line
-- is told; who it is, and that it is there, is answered. It ends once so many packets were entered as were wanted.
use Rattle.std.specs.Prelude.{ℕ, ◌-◌, ◌++◌, ◌==◌, nat_lt, Bool, List, Option, Some, None, codes, if◌then◌else◌}
use Rattle.net_model.specs.declared.state.Verdict.{Verdict}
use Rattle.net_model.specs.declared.state.Verdict.TheVariants as verdict
use Rattle.net_model.specs.declared.step.SubscriberStep.{SubscriberStep}
use Rattle.net_model.specs.declared.step.SubscriberStep.TheVariants as reply
use Rattle.vtp_session.specs.declared.act.Act.{Act}
use Rattle.vtp_session.specs.declared.act.Act.TheVariants as act
use Rattle.vtp_server.specs.Talk.{Rules}
use Rattle.vtp_server.specs.declared.side.Next.{Next}
use Rattle.vtp_server.specs.declared.side.Next.TheVariants as next
use Rattle.vtp_server.specs.declared.speech.Speech.TheVariants as speech
use Rattle.vtp_server.specs.ListenMemory.{ListenMemory}
use Rattle.vtp_server.specs.declared.ended.ListenStop.{ListenStop}
use Rattle.vtp_server.specs.declared.ended.ListenStop.TheVariants as stop

-- the line of a packet that was entered
abbrev pub line_of : List ℕ → List ℕ
line_of identifier = (codes "entered " ++ identifier) ++ codes "\n"

-- a packet was entered where it is acknowledged and there is a record more than before
abbrev pub with_line : ℕ → Verdict → ℕ → Option (List ℕ)
with_line before (verdict.Ack identifier) front = if nat_lt before front then Some (line_of identifier) else None
with_line before (verdict.Nak identifier code) front = None

abbrev pub after_verdict : ListenMemory → Verdict → ℕ → ListenMemory × Next (List ℕ) ListenStop
after_verdict m given front = (record { wanted = m.wanted; front = front; line = with_line m.front given front }, next.Say (speech.Answer given))

abbrev pub line_or_read : Option (List ℕ) → Next (List ℕ) ListenStop
line_or_read (Some line) = next.Tell line
line_or_read None = next.Read

-- behind the verdict the line is told, if there is one
abbrev pub next_line : ListenMemory → ListenMemory × Next (List ℕ) ListenStop
next_line m = (record m { line = None }, line_or_read m.line)

abbrev pub after_told : ListenMemory → ListenMemory × Next (List ℕ) ListenStop
after_told m = (record m { wanted = m.wanted - 1 }, if m.wanted - 1 == 0 then next.Over stop.Counted else next.Read)

-- the first move
abbrev pub listens : ℕ → Next (List ℕ) ListenStop
listens wanted = if wanted == 0 then next.Over stop.Counted else next.Read

abbrev pub listen_after_read : Act → Next (List ℕ) ListenStop
listen_after_read (act.Packet packet) = next.Ask packet
listen_after_read (act.Beat asker) = next.Say (speech.AliveTo asker)
listen_after_read (act.Challenge asker) = next.Say (speech.IAm asker)
listen_after_read _ = next.Read

abbrev pub listen_after_turn : ListenMemory → SubscriberStep → ℕ → ListenMemory × Next (List ℕ) ListenStop
listen_after_turn m (reply.Answer given) front = after_verdict m given front
listen_after_turn m (reply.Down faults stopped) front = (m, next.Over (stop.Down faults))
listen_after_turn m reply.NoMemory front = (m, next.Over stop.NoMemory)

abbrev pub listen_rules : Rules ListenMemory (List ℕ) SubscriberStep ListenStop
listen_rules = record {
  after_read = λ m a beat waiting. (m, listen_after_read a);
  after_turn = λ m r front waiting. listen_after_turn m r front;
  after_write = λ m waiting. next_line m;
  after_line = λ m waiting. after_told m;
}
