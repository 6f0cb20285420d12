-- What the words asked for, what was done, and how the program ends.
use Rattle.std.specs.Prelude.{◌≡◌, ◌⊎◌, ℕ, ◌*◌, ◌≤◌, List, Option, Some, None, IsSome, length}
use Rattle.clap.specs.Walk.{Text}
use Rattle.online_words.specs.Requests.{IsRequest}
use Rattle.online_words.specs.declared.request.Request.{Request}
use Rattle.online_words.specs.declared.request.Request.TheVariants.{Submit, Listen, Serve}
use Rattle.voe_disk.specs.declared.disk.Disk.{Ghosts as DiskGhosts}
use Rattle.voe_outside.specs.Causes.{Rose}
use Rattle.voe_outside.specs.Returns.{Returns}
use Rattle.voe_outside.specs.declared.link.Link.{Ghosts as LinkGhosts}
use Rattle.voe_outside.specs.declared.stream.Sink.{Ghosts as SinkGhosts}
use Rattle.voe_outside.specs.declared.stream.Source.{Ghosts as SourceGhosts}
use Rattle.voe_world.specs.Parts.{Parts}
use Rattle.broker_run.specs.declared.outcome.Dialing.{Dialing}
use Rattle.broker_run.specs.declared.outcome.Dialing.TheVariants.{Once, Again}
use Rattle.voevent_online.specs.Lines.{refusal_line}
use Rattle.voevent_online.specs.Listening.{DiskRose, ListenTells}
use Rattle.voevent_online.specs.Serving.{ServeTells}
use Rattle.voevent_online.specs.Submitting.{SubmitTells}
use Rattle.voevent_online.specs.Telling.{Tells}
use Rattle.voevent_online.specs.declared.refusal.Refusal.TheVariants.{Usage as BadWords}
use Rattle.voevent_online.specs.declared.status.Status.{Status}
use Rattle.voevent_online.specs.declared.status.Status.TheVariants.{Done, Usage, Refused, ReadFault, WriteFault, DiskFault, NoMemory, JournalRefused, Full, LinkFault, Ended, SpawnFault}

-- each upstream broker is dialed once, or again after a pause of so many seconds
abbrev pub dialing_of : Option ℕ → Dialing
dialing_of None = Once
dialing_of (Some seconds) = Again (seconds * 1000)

-- no more connections are asked for than a run may have
abbrev pub HasFewSessions : Request → Type 0
HasFewSessions (Submit address) = Unit {0}
HasFewSessions (Listen address count) = Unit {0}
HasFewSessions (Serve redial authors subscribers sessions upstream) = sessions ≤ 1000000

module _ {So Si D Di Li Sp La Ld : Type 0} (source : SourceGhosts So) (sink : SinkGhosts Si) (disk : DiskGhosts D) (line : LinkGhosts Ld) (returns : Di → Option (Returns Ld)) (dial_faults : Di → ℕ) (guest : LinkGhosts La) (guests_of : Li → Option (Returns La)) (accepts_of : Li → ℕ) (spawn_faults begun_of : Sp → ℕ) (p q : Parts So Si D Di Li Sp) where
  -- a packet was submitted, and ended so; no other part of the world has changed, and the disk is there again
  pub record HasSubmitted (answer : Status) : Type 0 where
    pub rest : q ≡ record p { source = q.source; sink = q.sink; disk = q.disk; dialer = q.dialer; moment = q.moment }
    pub back : IsSome q.disk
    pub tells : SubmitTells source sink disk line returns dial_faults p q answer

  -- a broker was listened to, and it ended so; no other part of the world has changed, and the disk is there again
  pub record HasListened (count : ℕ) (answer : Status) : Type 0 where
    pub rest : q ≡ record p { sink = q.sink; disk = q.disk; dialer = q.dialer; moment = q.moment }
    pub back : IsSome q.disk
    pub tells : ListenTells disk sink line returns dial_faults p q count answer

  -- what was asked for was done, and ended so
  abbrev pub Performs : Request → Status → Type 0
  Performs (Submit address) answer = HasSubmitted answer
  Performs (Listen address count) answer = HasListened count answer
  Performs (Serve redial authors subscribers sessions upstream) answer = ServeTells sink disk dial_faults spawn_faults begun_of returns line guests_of accepts_of guest sessions (length upstream) (dialing_of redial) p q answer

  -- the words ask for it
  pub record IsPerformed (words : List Text) (answer : Status) : Type 0 where
    pub request : Request
    pub asked : IsRequest words request
    pub done : Performs request answer

  -- the words ask for nothing, and the line says so
  pub record IsFaulty (words : List Text) (answer : Status) : Type 0 where
    pub nothing : (request : Request) → IsRequest words request → ⊥
    pub told : Tells sink Usage (refusal_line BadWords) answer p.sink q.sink
    pub parts : q ≡ record p { sink = q.sink }

  -- there was no memory to read the words
  pub record IsUnheard (answer : Status) : Type 0 where
    pub answer_is : answer ≡ NoMemory
    pub parts : q ≡ p

  abbrev pub OnlineTells : List Text → Status → Type 0
  OnlineTells words answer = IsPerformed words answer ⊎ (IsFaulty words answer ⊎ IsUnheard answer)

  -- The count that rose where the outside has failed: the source's at 4, the sink's at 5, the disk's at 6, the dialer's or the
  -- world's at 10, the spawner's at 12; and at 2 the words ask for nothing. The causes of 0, 3, 8, 9 and 11 stand in what was
  -- done; 7 has none.
  abbrev pub HasCause : List Text → Status → Type 0
  HasCause words Usage = (request : Request) → IsRequest words request → ⊥
  HasCause words ReadFault = Rose (source.fault_count p.source) (source.fault_count q.source)
  HasCause words WriteFault = Rose (sink.fault_count p.sink) (sink.fault_count q.sink)
  HasCause words DiskFault = DiskRose disk sink line returns dial_faults p q
  HasCause words LinkFault = Rose (dial_faults p.dialer) (dial_faults q.dialer) ⊎ Rose p.faults q.faults
  HasCause words SpawnFault = Rose (spawn_faults p.spawner) (spawn_faults q.spawner)
  HasCause words Done = Unit {0}
  HasCause words Refused = Unit {0}
  HasCause words NoMemory = Unit {0}
  HasCause words JournalRefused = Unit {0}
  HasCause words Full = Unit {0}
  HasCause words Ended = Unit {0}
