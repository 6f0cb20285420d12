-- The ended talk of a broker's connection, as the bytes of its link tell it.
use Rattle.std.specs.Prelude.{◌≡◌, ℕ, Bool, true, false, List, [], ◌++◌, Option, Some, None, ⊤}
use Rattle.voe_outside.specs.Traffic.{Traffic}
use Rattle.voe_outside.specs.declared.link.Link.{Ghosts as LinkGhosts}
use Rattle.net_model.specs.declared.step.BrokerStep.{BrokerStep}
use Rattle.vtp_framing.specs.Frames.{frames}
use Rattle.vtp_session.specs.declared.side.Side.{Side}
use Rattle.vtp_session.specs.declared.side.Side.TheVariants.{Author, Line, Feed, Take}
use Rattle.vtp_session.specs.declared.side.Timers.{Timers}
use Rattle.vtp_server.specs.Calls.{course_from, terms_by}
use Rattle.vtp_server.specs.Counts.{LinkCounts, link_counts}
use Rattle.vtp_server.specs.Endings.{serve_ended}
use Rattle.vtp_server.specs.Ends.{EndsBy, Lost}
use Rattle.vtp_server.specs.FeedMemory.{first_memory}
use Rattle.vtp_server.specs.FeedSide.{feed_rules}
use Rattle.vtp_server.specs.LineSide.{line_rules}
use Rattle.vtp_server.specs.Moves.{Move, messages_read, messages_written}
use Rattle.vtp_server.specs.TakeSide.{take_rules}
use Rattle.vtp_server.specs.Talk.{Rules, Talk, Terms, course_after}
use Rattle.vtp_server.specs.declared.ask.BrokerAsk.{BrokerAsk}
use Rattle.vtp_server.specs.declared.breach.Parted.{Parted}
use Rattle.vtp_server.specs.declared.ended.Ended.{Ended}
use Rattle.vtp_server.specs.declared.ended.Ended.TheVariants as ended
use Rattle.vtp_server.specs.declared.ended.Stop.{Stop}
use Rattle.vtp_server.specs.declared.side.Next.{Next}
use Rattle.vtp_server.specs.declared.side.Next.TheVariants as next
use Rattle.vtp_server.specs.declared.speech.Speech.TheVariants as speech

-- there was no memory for the connection
abbrev pub has_lacked : Ended → Bool
has_lacked ended.NoMemory = true
has_lacked ended.Counted = false
has_lacked ended.PeerClosed = false
has_lacked (ended.Garbage place why) = false
has_lacked (ended.Silent heard now) = false
has_lacked (ended.Replaced newer) = false
has_lacked ended.LinkFault = false
has_lacked ended.SinkFault = false
has_lacked (ended.HubDown faults) = false

abbrev pub uncounted : LinkCounts
uncounted = record { faults = 0; idles = 0; ends = 0 }

-- A talk by these rules from this first move has ended, and not for want of memory. All bytes that were taken from the link
-- are those of the messages that were read, and a rest; all that were put on it are those of the messages that were written,
-- but for the last ones where the link failed. What the link has counted is what the end of the talk says.
pub record IsEndedTalk {M : Type 0} (terms : Terms) (rules : Rules M BrokerAsk BrokerStep Stop) (memory : M) (first : Next BrokerAsk Stop) (counts : LinkCounts) (t : Traffic) : Type 0 where
  -- the clock's moment before the first move
  pub start : ℕ
  pub moves : List (Move BrokerAsk BrokerStep)
  pub talk : Talk terms rules (course_from memory first start) moves
  pub rest : List ℕ
  pub read : t.taken ≡ frames (messages_read moves) ++ rest
  pub lost : Lost
  pub wrote : t.held ++ lost.link ≡ frames (messages_written moves)
  pub parted : Parted Stop
  pub some_memory : has_lacked (serve_ended parted) ≡ false
  -- the count of a sink that no move of such a talk asks
  pub no_sink : ℕ
  pub cause : EndsBy terms parted (course_after terms rules (course_from memory first start) moves) moves rest lost (record { link = uncounted; sink = 0 }) (record { link = counts; sink = no_sink })

-- the same, where the link tells its bytes
abbrev pub IsToldTalk : {M : Type 0} → Terms → Rules M BrokerAsk BrokerStep Stop → M → Next BrokerAsk Stop → LinkCounts → Option Traffic → Type 0
IsToldTalk terms rules memory first counts None = ⊤
IsToldTalk terms rules memory first counts (Some t) = IsEndedTalk terms rules memory first counts t

-- a broker's talk on this side, by its name and its timers
abbrev pub IsTalkAs : Side → List ℕ → Timers → LinkCounts → Option Traffic → Type 0
IsTalkAs Line name timers counts traffic = IsToldTalk (terms_by Line timers name []) line_rules (record { owes_beat = false }) next.Read counts traffic
IsTalkAs Feed name timers counts traffic = IsToldTalk (terms_by Feed timers name []) feed_rules (first_memory 32) (next.Say speech.WhoAreYou) counts traffic
IsTalkAs Take name timers counts traffic = IsToldTalk (terms_by Take timers name []) take_rules (record {}) next.Read counts traffic
IsTalkAs Author name timers counts traffic = ⊥

-- The whole use of a link that was handed out was such a talk, by a broker of some name and some timers.
pub record WasTalk {L : Type 0} (side : Side) (link : LinkGhosts L) (l : L) : Type 0 where
  pub name : List ℕ
  pub timers : Timers
  pub talk : IsTalkAs side name timers (link_counts link l) (link.traffic l)
