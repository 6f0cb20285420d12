-- Which sides stop only after a turn, and which tell no lines.
use Rattle.std.proofs.Common.{◌≡◌, ℕ, Bool, true, false, cond, List, Some, None, refl}
use Rattle.std.specs.Prelude.{Option, ◌||◌, nat_le}
use Rattle.xml_lexer.specs.Characters.{Text}
use Rattle.net_model.specs.declared.step.AuthorStep.{AuthorStep}
use Rattle.net_model.specs.declared.step.AuthorStep.TheVariants as author
use Rattle.net_model.specs.declared.step.BrokerStep.{BrokerStep}
use Rattle.net_model.specs.declared.step.BrokerStep.TheVariants as reply
use Rattle.vtp_session.specs.declared.act.Act.{Act}
use Rattle.vtp_session.specs.declared.act.Act.TheVariants as act
use Rattle.vtp_server.specs.Ends.{StopsByTurns, TellsNothing, is_over, is_tell}
use Rattle.vtp_server.specs.declared.side.Next.{Next}
use Rattle.vtp_server.specs.declared.side.Next.TheVariants as next
use Rattle.vtp_server.specs.declared.speech.Speech.TheVariants as speech
use Rattle.vtp_server.specs.AuthorSide.{AuthorMemory, author_after_read, author_after_turn, author_rules, recorded, stop_of}
use Rattle.vtp_server.specs.FeedMemory.{FeedMemory, placed}
use Rattle.vtp_server.specs.FeedSide.{asks_by, asks_or_reads, becomes_guest, feed_after_answer, feed_after_read, feed_after_turn, feed_goes_on, feed_rules}
use Rattle.vtp_server.specs.LineSide.{line_after_read, line_after_turn, line_goes_on, line_rules}
use Rattle.vtp_server.specs.TakeSide.{take_after_read, take_after_turn, take_rules}
use Rattle.vtp_server.specs.declared.ask.BrokerAsk.{BrokerAsk}
use Rattle.vtp_server.specs.declared.ended.Stop.{Stop}
use Rattle.vtp_server.specs.declared.feed.Peer.{Peer}
use Rattle.vtp_server.specs.declared.feed.Peer.TheVariants.{Stranger, Guest, Linked}
use Rattle.vtp_server.specs.declared.line.Line.{Line}

-- a test that holds of both of two moves
either : {M A E : Type 0} (test : Next A E → Bool) (b : Bool) (x y : M × Next A E) → test x.1 ≡ false → test y.1 ≡ false → test (cond b x y).1 ≡ false
either test true x y h k = h
either test false x y h k = k

either_move : {A E : Type 0} (test : Next A E → Bool) (b : Bool) (x y : Next A E) → test x ≡ false → test y ≡ false → test (cond b x y) ≡ false
either_move test true x y h k = h
either_move test false x y h k = k

-- ---- an author's line

line_on : (test : Next BrokerAsk Stop → Bool) (m : Line) → test (next.Say speech.Alive) ≡ false → test next.Read ≡ false → test (line_goes_on m).1 ≡ false
line_on test m h k = either test m.owes_beat (record { owes_beat = false }, next.Say speech.Alive) (m, next.Read) h k

line_reads_on : (m : Line) (a : Act) → is_over (line_after_read m a).1 ≡ false
line_reads_on m (act.Packet packet) = refl
line_reads_on m act.Nothing = line_on is_over m refl refl
line_reads_on m (act.Answer at identifier ack why) = line_on is_over m refl refl
line_reads_on m (act.Auth name filters) = line_on is_over m refl refl
line_reads_on m (act.Challenge asker) = line_on is_over m refl refl
line_reads_on m (act.Beat asker) = line_on is_over m refl refl
line_reads_on m act.Pass = line_on is_over m refl refl
line_reads_on m (act.Garbage place why) = line_on is_over m refl refl

line_reads_quietly : (m : Line) (a : Act) → is_tell (line_after_read m a).1 ≡ false
line_reads_quietly m (act.Packet packet) = refl
line_reads_quietly m act.Nothing = line_on is_tell m refl refl
line_reads_quietly m (act.Answer at identifier ack why) = line_on is_tell m refl refl
line_reads_quietly m (act.Auth name filters) = line_on is_tell m refl refl
line_reads_quietly m (act.Challenge asker) = line_on is_tell m refl refl
line_reads_quietly m (act.Beat asker) = line_on is_tell m refl refl
line_reads_quietly m act.Pass = line_on is_tell m refl refl
line_reads_quietly m (act.Garbage place why) = line_on is_tell m refl refl

line_turns_quietly : (m : Line) (r : BrokerStep) → is_tell (line_after_turn m r).1 ≡ false
line_turns_quietly m (reply.Answer verdict) = refl
line_turns_quietly m (reply.Replaced newer) = refl
line_turns_quietly m (reply.Down faults stopped) = refl
line_turns_quietly m reply.NoMemory = refl
line_turns_quietly m (reply.Joined link session) = line_on is_tell m refl refl
line_turns_quietly m (reply.Guest after) = line_on is_tell m refl refl
line_turns_quietly m (reply.Packet at identifier packet) = line_on is_tell m refl refl
line_turns_quietly m reply.Nothing = line_on is_tell m refl refl
line_turns_quietly m reply.Noted = line_on is_tell m refl refl
line_turns_quietly m reply.Passed = line_on is_tell m refl refl
line_turns_quietly m reply.Full = line_on is_tell m refl refl

pub line_stops : StopsByTurns line_rules
line_stops = record {
  read = λ m a beat waits. line_reads_on (record { owes_beat = beat }) a;
  write = λ m waits. line_on is_over m refl refl;
  line = λ m waits. line_on is_over m refl refl;
}

pub line_tells : TellsNothing line_rules
line_tells = record {
  read = λ m a beat waits. line_reads_quietly (record { owes_beat = beat }) a;
  turn = λ m r front waits. line_turns_quietly m r;
  write = λ m waits. line_on is_tell m refl refl;
  line = λ m waits. line_on is_tell m refl refl;
}

-- ---- a broker that is followed

take_reads_on : (a : Act) → is_over (take_after_read a) ≡ false
take_reads_on (act.Packet packet) = refl
take_reads_on (act.Beat asker) = refl
take_reads_on (act.Challenge asker) = refl
take_reads_on act.Nothing = refl
take_reads_on (act.Answer at identifier ack why) = refl
take_reads_on (act.Auth name filters) = refl
take_reads_on act.Pass = refl
take_reads_on (act.Garbage place why) = refl

take_reads_quietly : (a : Act) → is_tell (take_after_read a) ≡ false
take_reads_quietly (act.Packet packet) = refl
take_reads_quietly (act.Beat asker) = refl
take_reads_quietly (act.Challenge asker) = refl
take_reads_quietly act.Nothing = refl
take_reads_quietly (act.Answer at identifier ack why) = refl
take_reads_quietly (act.Auth name filters) = refl
take_reads_quietly act.Pass = refl
take_reads_quietly (act.Garbage place why) = refl

take_turns_quietly : (r : BrokerStep) → is_tell (take_after_turn r) ≡ false
take_turns_quietly (reply.Answer verdict) = refl
take_turns_quietly (reply.Replaced newer) = refl
take_turns_quietly (reply.Down faults stopped) = refl
take_turns_quietly reply.NoMemory = refl
take_turns_quietly (reply.Joined link session) = refl
take_turns_quietly (reply.Guest after) = refl
take_turns_quietly (reply.Packet at identifier packet) = refl
take_turns_quietly reply.Nothing = refl
take_turns_quietly reply.Noted = refl
take_turns_quietly reply.Passed = refl
take_turns_quietly reply.Full = refl

pub take_stops : StopsByTurns take_rules
take_stops = record {
  read = λ m a beat waits. take_reads_on a;
  write = λ m waits. refl;
  line = λ m waits. refl;
}

pub take_tells : TellsNothing take_rules
take_tells = record {
  read = λ m a beat waits. take_reads_quietly a;
  turn = λ m r front waits. take_turns_quietly r;
  write = λ m waits. refl;
  line = λ m waits. refl;
}

-- ---- a subscriber that is fed

feed_asks : (test : Next BrokerAsk Stop → Bool) (m : FeedMemory) (waits : ℕ) → test next.Read ≡ false → test (next.Ask (asks_by m.peer m.from)) ≡ false → test (asks_or_reads m waits) ≡ false
feed_asks test m waits h k = either_move test (m.found_nothing || nat_le m.limit waits) next.Read (next.Ask (asks_by m.peer m.from)) h k

feed_on : (test : Next BrokerAsk Stop → Bool) (m : FeedMemory) (waits : ℕ) → test (next.Say speech.Alive) ≡ false → test next.Read ≡ false → test (next.Ask (asks_by m.peer m.from)) ≡ false → test (feed_goes_on m waits).1 ≡ false
feed_on test m waits h k l = either test m.owes_beat (record m { owes_beat = false }, next.Say speech.Alive) (m, asks_or_reads m waits) h (feed_asks test m waits k l)

feed_answers_on : (m : FeedMemory) (peer : Peer) (identifier : List ℕ) (ack : Bool) (waits : ℕ) → is_over (feed_after_answer m peer identifier ack waits).1 ≡ false
feed_answers_on m (Linked link session) identifier true waits = refl
feed_answers_on m (Linked link session) identifier false waits = feed_on is_over m waits refl refl refl
feed_answers_on m Stranger identifier ack waits = feed_on is_over m waits refl refl refl
feed_answers_on m (Guest filters) identifier ack waits = feed_on is_over m waits refl refl refl

feed_answers_quietly : (m : FeedMemory) (peer : Peer) (identifier : List ℕ) (ack : Bool) (waits : ℕ) → is_tell (feed_after_answer m peer identifier ack waits).1 ≡ false
feed_answers_quietly m (Linked link session) identifier true waits = refl
feed_answers_quietly m (Linked link session) identifier false waits = feed_on is_tell m waits refl refl refl
feed_answers_quietly m Stranger identifier ack waits = feed_on is_tell m waits refl refl refl
feed_answers_quietly m (Guest filters) identifier ack waits = feed_on is_tell m waits refl refl refl

feed_reads_on : (m : FeedMemory) (a : Act) (waits : ℕ) → is_over (feed_after_read m a waits).1 ≡ false
feed_reads_on m (act.Auth name filters) waits = refl
feed_reads_on m (act.Answer at identifier ack why) waits = feed_answers_on m m.peer identifier ack waits
feed_reads_on m (act.Packet packet) waits = feed_on is_over m waits refl refl refl
feed_reads_on m act.Nothing waits = feed_on is_over m waits refl refl refl
feed_reads_on m (act.Challenge asker) waits = feed_on is_over m waits refl refl refl
feed_reads_on m (act.Beat asker) waits = feed_on is_over m waits refl refl refl
feed_reads_on m act.Pass waits = feed_on is_over m waits refl refl refl
feed_reads_on m (act.Garbage place why) waits = feed_on is_over m waits refl refl refl

feed_reads_quietly : (m : FeedMemory) (a : Act) (waits : ℕ) → is_tell (feed_after_read m a waits).1 ≡ false
feed_reads_quietly m (act.Auth name filters) waits = refl
feed_reads_quietly m (act.Answer at identifier ack why) waits = feed_answers_quietly m m.peer identifier ack waits
feed_reads_quietly m (act.Packet packet) waits = feed_on is_tell m waits refl refl refl
feed_reads_quietly m act.Nothing waits = feed_on is_tell m waits refl refl refl
feed_reads_quietly m (act.Challenge asker) waits = feed_on is_tell m waits refl refl refl
feed_reads_quietly m (act.Beat asker) waits = feed_on is_tell m waits refl refl refl
feed_reads_quietly m act.Pass waits = feed_on is_tell m waits refl refl refl
feed_reads_quietly m (act.Garbage place why) waits = feed_on is_tell m waits refl refl refl

feed_turns_quietly : (m : FeedMemory) (r : BrokerStep) (front waits : ℕ) → is_tell (feed_after_turn m r front waits).1 ≡ false
feed_turns_quietly m (reply.Joined link session) front waits = feed_on is_tell (placed m (Linked link session) 0) waits refl refl refl
feed_turns_quietly m (reply.Guest after) front waits = feed_on is_tell _ waits refl refl refl
feed_turns_quietly m (reply.Packet at identifier packet) front waits = refl
feed_turns_quietly m reply.Nothing front waits = feed_on is_tell (becomes_guest m m.peer front) waits refl refl refl
feed_turns_quietly m (reply.Replaced newer) front waits = refl
feed_turns_quietly m (reply.Down faults stopped) front waits = refl
feed_turns_quietly m reply.NoMemory front waits = refl
feed_turns_quietly m (reply.Answer verdict) front waits = feed_on is_tell m waits refl refl refl
feed_turns_quietly m reply.Noted front waits = feed_on is_tell m waits refl refl refl
feed_turns_quietly m reply.Passed front waits = feed_on is_tell m waits refl refl refl
feed_turns_quietly m reply.Full front waits = feed_on is_tell m waits refl refl refl

pub feed_stops : StopsByTurns feed_rules
feed_stops = record {
  read = λ m a beat waits. feed_reads_on (record m { owes_beat = beat; found_nothing = false }) a waits;
  write = λ m waits. feed_on is_over m waits refl refl refl;
  line = λ m waits. feed_on is_over m waits refl refl refl;
}

pub feed_tells : TellsNothing feed_rules
feed_tells = record {
  read = λ m a beat waits. feed_reads_quietly (record m { owes_beat = beat; found_nothing = false }) a waits;
  turn = λ m r front waits. feed_turns_quietly m r front waits;
  write = λ m waits. feed_on is_tell m waits refl refl refl;
  line = λ m waits. feed_on is_tell m waits refl refl refl;
}

-- ---- an author

author_reads_quietly : (m : AuthorMemory) (a : Act) → is_tell (author_after_read m a).1 ≡ false
author_reads_quietly m (act.Answer at identifier ack why) = refl
author_reads_quietly m (act.Packet packet) = refl
author_reads_quietly m act.Nothing = refl
author_reads_quietly m (act.Auth name filters) = refl
author_reads_quietly m (act.Challenge asker) = refl
author_reads_quietly m (act.Beat asker) = refl
author_reads_quietly m act.Pass = refl
author_reads_quietly m (act.Garbage place why) = refl

recorded_quietly : (m : AuthorMemory) → is_tell (recorded m).1 ≡ false
recorded_quietly None = refl
recorded_quietly (Some heard) = refl

author_turns_quietly : (m : AuthorMemory) (r : AuthorStep) → is_tell (author_after_turn m r).1 ≡ false
author_turns_quietly m (author.Packet at identifier packet) = refl
author_turns_quietly m author.Nothing = refl
author_turns_quietly m author.Noted = recorded_quietly m
author_turns_quietly m author.Full = refl
author_turns_quietly m (author.Down faults stopped) = refl
author_turns_quietly m author.NoMemory = refl
author_turns_quietly m author.Wrote = refl
author_turns_quietly m author.Known = refl
author_turns_quietly m (author.Refused code) = refl
author_turns_quietly m author.Passed = refl

pub author_tells : TellsNothing author_rules
author_tells = record {
  read = λ m a beat waits. author_reads_quietly m a;
  turn = λ m r front waits. author_turns_quietly m r;
  write = λ m waits. refl;
  line = λ m waits. refl;
}
