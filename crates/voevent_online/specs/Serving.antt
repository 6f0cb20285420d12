-- What a command that serves did, and how it ended.
use Rattle.std.specs.Prelude.{◌≡◌, ◌⊎◌, ℕ, List, [], ◌∷◌, ◌++◌, Option, Some, None, IfSome, codes}
use Rattle.std.specs.Fmt.{decimal}
use Rattle.voe_disk.specs.declared.disk.Disk.{Ghosts as DiskGhosts}
use Rattle.voe_values.specs.declared.kind.NodeKind.TheVariants.{Broker}
use Rattle.node_notes.specs.declared.config.Config.{Config}
use Rattle.node_book.specs.EndMaking.{IsNotLoaded, KeepsSuch}
use Rattle.node_book.specs.declared.fault.BookFault.{BookFault}
use Rattle.path_filter.specs.Links.{AreReadable, HasRefused}
use Rattle.voe_outside.specs.Causes.{Rose}
use Rattle.voe_outside.specs.Returns.{Returns}
use Rattle.voe_outside.specs.declared.stream.Sink.{Ghosts as SinkGhosts}
use Rattle.voe_outside.specs.declared.link.Link.{Ghosts as LinkGhosts}
use Rattle.voe_world.specs.Parts.{Parts, added}
use Rattle.broker_run.specs.Run.{HasRun, IfTold, IsOutcome, ServedGuests}
use Rattle.broker_run.specs.declared.outcome.BrokerRun.{BrokerRun}
use Rattle.broker_run.specs.declared.outcome.BrokerRun.TheVariants as run
use Rattle.broker_run.specs.declared.outcome.Dialing.{Dialing}
use Rattle.broker_run.specs.declared.outcome.Dialing.TheVariants.{Once}
use Rattle.voevent_online.specs.Loading.{AnswersUnloaded}
use Rattle.voevent_online.specs.Telling.{Tells}
use Rattle.voevent_online.specs.declared.status.Status.{Status}
use Rattle.voevent_online.specs.declared.status.Status.TheVariants as status

-- the line of a run that has ended
abbrev pub served_line : ℕ → List ℕ
served_line connections = (codes "served " ++ decimal connections) ++ 10 ∷ []

-- a configuration that a broker's end takes, and one that it does not
abbrev pub IsBrokers : Config → Type 0
IsBrokers config = (config.kind ≡ Broker) × AreReadable config.links

abbrev pub IsNoBrokers : Config → Type 0
IsNoBrokers config = (config.kind ≡ Broker → ⊥) ⊎ HasRefused config.links

-- the disk, where it tells its bytes, keeps a broker's journal
abbrev pub KeepsBroker : {D : Type 0} → DiskGhosts D → D → Type 0
KeepsBroker disk d = IfSome (disk.reads d) (KeepsSuch IsBrokers)

-- a run has served so many connections: the sessions, which the listeners handed out, and lines, one for each upstream address
-- where these are dialed once
pub record HasServed {So Si D Di Li Sp La Ld : Type 0} (begun_of : Sp → ℕ) (returns_of : Di → Option (Returns Ld)) (line : LinkGhosts Ld) (guests_of : Li → Option (Returns La)) (accepts_of : Li → ℕ) (guest : LinkGhosts La) (sessions upstream : ℕ) (dialing : Dialing) (old new : Parts So Si D Di Li Sp) (served : ℕ) : Type 0 where
  pub lines : ℕ
  pub once : dialing ≡ Once → lines ≡ upstream
  pub run : HasRun begun_of returns_of line old new sessions lines served
  pub accepted : new.accepted ≡ added old.accepted sessions
  pub guests : IfTold new.listeners (λ a s. ∥ ServedGuests guests_of accepts_of guest sessions a s ∥₁)

-- why a run has ended so: it has served, or the count of the world, of the dialer, of the spawner rose
abbrev pub RunCause : {So Si D Di Li Sp La Ld : Type 0} → (Di → ℕ) → (Sp → ℕ) → (Sp → ℕ) → (Di → Option (Returns Ld)) → LinkGhosts Ld → (Li → Option (Returns La)) → (Li → ℕ) → LinkGhosts La → ℕ → ℕ → Dialing → Parts So Si D Di Li Sp → Parts So Si D Di Li Sp → BrokerRun → Type 0
RunCause dial_faults spawn_faults begun_of returns_of line guests_of accepts_of guest sessions upstream dialing old new ended =
    IsOutcome ended
    (λ n. HasServed begun_of returns_of line guests_of accepts_of guest sessions upstream dialing old new n)
    (Rose old.faults new.faults)
    ((dialing ≡ Once) × Rose (dial_faults old.dialer) (dial_faults new.dialer))
    (Rose (spawn_faults old.spawner) (spawn_faults new.spawner))

-- what the sink got, and the status: a line where the run has served, and else none
abbrev pub AnswersRun : {K : Type 0} → SinkGhosts K → BrokerRun → Status → K → K → Type 0
AnswersRun sink (run.Served connections) answer old new = Tells sink status.Done (served_line connections) answer old new
AnswersRun sink run.ListenFault answer old new = (answer ≡ status.LinkFault) × (new ≡ old)
AnswersRun sink run.DialFault answer old new = (answer ≡ status.LinkFault) × (new ≡ old)
AnswersRun sink run.SpawnFault answer old new = (answer ≡ status.SpawnFault) × (new ≡ old)
AnswersRun sink run.NoMemory answer old new = (answer ≡ status.NoMemory) × (new ≡ old)

-- The disk keeps a broker's journal, and stays with the broker; a run was made and has ended so.
pub record HasRunSo {So Si D Di Li Sp La Ld : Type 0} (sink : SinkGhosts Si) (disk : DiskGhosts D) (dial_faults : Di → ℕ) (spawn_faults begun_of : Sp → ℕ) (returns_of : Di → Option (Returns Ld)) (line : LinkGhosts Ld) (guests_of : Li → Option (Returns La)) (accepts_of : Li → ℕ) (guest : LinkGhosts La) (sessions upstream : ℕ) (dialing : Dialing) (own : D) (old new : Parts So Si D Di Li Sp) (answer : Status) : Type 0 where
  pub keeps : KeepsBroker disk own
  pub ended : BrokerRun
  pub cause : RunCause dial_faults spawn_faults begun_of returns_of line guests_of accepts_of guest sessions upstream dialing old new ended
  pub told : AnswersRun sink ended answer old.sink new.sink
  pub disk_is : new.disk ≡ None
  pub source_is : new.source ≡ old.source
  pub moment_is : new.moment ≡ old.moment
  pub tells_is : new.tells ≡ old.tells

-- What the disk holds is no broker's journal, or could not be read. The disk is put back, and nothing but the sink has changed.
pub record IsTurnedAway {So Si D Di Li Sp : Type 0} (sink : SinkGhosts Si) (disk : DiskGhosts D) (own : D) (old new : Parts So Si D Di Li Sp) (answer : Status) : Type 0 where
  pub back : D
  pub fault : BookFault
  pub refused : IsNotLoaded disk IsNoBrokers own back fault
  pub told : AnswersUnloaded sink fault answer old.sink new.sink
  pub parts : new ≡ record old { disk = Some back; sink = new.sink }

-- what a command that serves did with the world's disk, and how it ended
abbrev pub ServeTells : {So Si D Di Li Sp La Ld : Type 0} → SinkGhosts Si → DiskGhosts D → (Di → ℕ) → (Sp → ℕ) → (Sp → ℕ) → (Di → Option (Returns Ld)) → LinkGhosts Ld → (Li → Option (Returns La)) → (Li → ℕ) → LinkGhosts La → ℕ → ℕ → Dialing → Parts So Si D Di Li Sp → Parts So Si D Di Li Sp → Status → Type 0
ServeTells {D = D} sink disk dial_faults spawn_faults begun_of returns_of line guests_of accepts_of guest sessions upstream dialing old new answer =
    (own : D) × (old.disk ≡ Some own)
    × (HasRunSo sink disk dial_faults spawn_faults begun_of returns_of line guests_of accepts_of guest sessions upstream dialing own old new answer
    ⊎ IsTurnedAway sink disk own old new answer)
