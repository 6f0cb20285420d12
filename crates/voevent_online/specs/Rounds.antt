-- Rounds: connections to the broker, one after the other, each of which submits the first unanswered packet of line 0.
use Rattle.std.specs.Prelude.{◌≡◌, ◌≤◌, ◌⊎◌, ℕ, nat_lt, Bool, true, false, List, [], ◌∷◌, Some, None}
use Rattle.std.specs.declared.option.Option.{Option}
use Rattle.voe_disk.specs.declared.disk.Disk.{Ghosts as DiskGhosts}
use Rattle.voe_outside.specs.Causes.{counted, count_after}
use Rattle.voe_outside.specs.Returns.{Returns, TakesBack}
use Rattle.voe_outside.specs.Traffic.{IsUnused}
use Rattle.voe_outside.specs.declared.link.Link.{Ghosts as LinkGhosts}
use Rattle.net_model.specs.Notes.{is_open}
use Rattle.net_model.specs.declared.step.AuthorStep.{AuthorStep}
use Rattle.node_book.specs.Ends.{EndView}
use Rattle.node_book.specs.Keeps.{has_room}
use Rattle.vtp_session.specs.declared.side.Side.TheVariants as side
use Rattle.vtp_server.specs.Calls.{IsSubmitted, IsSubmittedInTime, terms_by}
use Rattle.vtp_server.specs.OneEnd.{IsAuthorTurn, IsSameEnd, state_of}
use Rattle.vtp_server.specs.Submission.{AllExpected, IsRecorded, IsToldOf}
use Rattle.vtp_server.specs.declared.author.AuthorAsk.{AuthorAsk}
use Rattle.vtp_server.specs.declared.ended.Ended.{Ended}
use Rattle.vtp_server.specs.declared.ended.Ended.TheVariants as ended
use Rattle.vtp_server.specs.declared.ended.Submitted.{Submitted}
use Rattle.vtp_server.specs.declared.ended.Submitted.TheVariants as submitted
use Rattle.voevent_online.specs.Following.{timers}
use Rattle.voevent_online.specs.declared.submit_lines.Outcome.{Outcome}
use Rattle.voevent_online.specs.declared.submit_lines.Outcome.TheVariants as outcome

-- where the command stands: the author's end, the last moment of its clock, and the dialer
pub record Standing (D Di : Type 0) : Type 0 where
  pub end : EndView D
  pub moment : ℕ
  pub dialer : Di

-- what becomes of the packet where a connection has ended so
abbrev pub outcome_of_ended : Ended → Outcome
outcome_of_ended ended.PeerClosed = outcome.Ended
outcome_of_ended (ended.Garbage place why) = outcome.Ended
outcome_of_ended (ended.Silent heard now) = outcome.Ended
outcome_of_ended ended.LinkFault = outcome.LinkFault
outcome_of_ended (ended.HubDown faults) = outcome.DiskFault
outcome_of_ended ended.NoMemory = outcome.NoMemory
outcome_of_ended ended.Counted = outcome.NoMemory
outcome_of_ended (ended.Replaced newer) = outcome.NoMemory
outcome_of_ended ended.SinkFault = outcome.NoMemory

-- the outcome of an answer, or another round, where the packet is still unanswered
abbrev pub unless_unanswered : Bool → Outcome → Option Outcome
unless_unanswered true answered = None
unless_unanswered false answered = Some answered

-- what becomes of the packet behind a round
abbrev pub outcome_after : Option Submitted → Bool → Option Outcome
outcome_after None unanswered = Some outcome.LinkFault
outcome_after (Some (submitted.Ended why)) unanswered = Some (outcome_of_ended why)
outcome_after (Some submitted.Full) unanswered = Some outcome.Full
outcome_after (Some (submitted.Ack identifier)) unanswered = unless_unanswered unanswered outcome.Acked
outcome_after (Some (submitted.Nak why)) unanswered = unless_unanswered unanswered (outcome.Nak why)
outcome_after (Some submitted.Nothing) unanswered = unless_unanswered unanswered outcome.Acked

module _ {D Di L : Type 0} (disk : DiskGhosts D) (link : LinkGhosts L) (returns : Di → Option (Returns L)) (faults : Di → ℕ) where
  -- a turn of line 0 at the end
  abbrev pub LineTurns : EndView D → AuthorAsk → AuthorStep → ℕ → ℕ → EndView D → Type 0
  LineTurns before ask reply place front after = IsAuthorTurn disk 0 before ask reply place front after

  -- The line's first unanswered packet was submitted over a link that was dialed and is the last that was taken back, and this
  -- was told of it. The link's bytes are those of a talk, whose turns are the end's steps.
  pub record Submits (told : Submitted) (s t : Standing D Di) : Type 0 where
    pub fresh : L
    pub last : L
    pub unused : IsUnused (link.fault_count fresh) (link.idle_count fresh) (link.end_count fresh) (link.traffic fresh)
    pub taken_back : TakesBack (returns s.dialer) (returns t.dialer) last
    pub dial_faults : faults t.dialer ≡ count_after (faults s.dialer) (nat_lt 0 (link.fault_count last))
    pub same : IsSameEnd disk s.end t.end
    pub forward : s.moment ≤ t.moment
    pub becomes : IsToldOf 0 (λ notes note. has_room s.end.config notes note) (state_of disk s.end) told (state_of disk t.end)
    pub talk : IsSubmitted LineTurns link (terms_by side.Author timers s.end.config.name []) s.moment told s.end t.end fresh last
    pub replies : AllExpected talk.ends.moves
    pub in_time : IsSubmittedInTime told s.moment t.moment

  -- the broker was not reached, which is counted, and nothing else was done
  pub record IsNotReached (s t : Standing D Di) : Type 0 where
    pub same_end : t.end ≡ s.end
    pub same_moment : t.moment ≡ s.moment
    pub none_back : returns t.dialer ≡ returns s.dialer
    pub dial_faults : faults t.dialer ≡ counted (faults s.dialer)

  abbrev pub IsRound : Option Submitted → Standing D Di → Standing D Di → Type 0
  IsRound (Some told) s t = Submits told s t
  IsRound None s t = IsNotReached s t

  -- in a round the answer to an identifier was recorded
  pub record Records (ack : Bool) (identifier : List ℕ) (s t : Standing D Di) : Type 0 where
    pub told : Submitted
    pub submits : Submits told s t
    pub recorded : IsRecorded 0 (state_of disk s.end) ack identifier (state_of disk t.end)

  -- rounds that recorded these answers, each while the packet of this identifier was unanswered
  abbrev pub Rounds : List ℕ → List (Bool × List ℕ) → Standing D Di → Standing D Di → Type 0
  Rounds wanted [] s t = t ≡ s
  Rounds wanted (answer ∷ answers) s t = (m : Standing D Di) × (is_open s.end.notes 0 wanted ≡ true) × Records answer.0 answer.1 s m × Rounds wanted answers m t

  -- why the last of these rounds is the last
  abbrev pub Closes : List ℕ → Outcome → Standing D Di → Standing D Di → Type 0
  Closes wanted outcome.Acked s t = Submits (submitted.Ack wanted) s t
  Closes wanted (outcome.Nak why) s t = Submits (submitted.Nak why) s t × IsRecorded 0 (state_of disk s.end) false wanted (state_of disk t.end)
  Closes wanted outcome.Full s t = Submits submitted.Full s t
  Closes wanted outcome.DiskFault s t = (count : ℕ) × Submits (submitted.Ended (ended.HubDown count)) s t
  Closes wanted outcome.NoMemory s t = Submits (submitted.Ended ended.NoMemory) s t
  Closes wanted outcome.LinkFault s t = IsNotReached s t ⊎ Submits (submitted.Ended ended.LinkFault) s t
  Closes wanted outcome.Ended s t = (why : Ended) × (outcome_of_ended why ≡ outcome.Ended) × Submits (submitted.Ended why) s t
  Closes wanted outcome.Conflict s t = ⊥
  Closes wanted outcome.NoLine s t = ⊥

  -- Rounds were made while the packet was unanswered; the last of them gave its answer, or failed.
  pub record EndsRounds (wanted : List ℕ) (became : Outcome) (s t : Standing D Di) : Type 0 where
    pub answers : List (Bool × List ℕ)
    pub last : Standing D Di
    pub rounds : Rounds wanted answers s last
    pub unanswered : is_open last.end.notes 0 wanted ≡ true
    pub closes : Closes wanted became last t
