-- What a command that serves has done, put together.
use Rattle.std.proofs.Common.{◌≡◌, ℕ, List, Some, None, refl, sym, ap, subst, ◌∙◌, arith}
use Rattle.std.specs.Prelude.{Option, IfSome}
use Rattle.voe_disk.specs.declared.disk.Disk.{Ghosts as DiskGhosts}
use Rattle.voe_outside.specs.Returns.{Returns}
use Rattle.voe_outside.specs.declared.link.Link.{Ghosts as LinkGhosts}
use Rattle.voe_outside.specs.declared.stream.Sink.{Ghosts as SinkGhosts}
use Rattle.voe_world.specs.Parts.{Parts, added}
use Rattle.net_model.specs.declared.note.Note.{Note}
use Rattle.node_notes.specs.declared.config.Config.{Config}
use Rattle.node_book.specs.EndMaking.{KeepsSuch}
use Rattle.node_book.specs.Keeps.{Keeps}
use Rattle.broker_run.specs.Run.{IfTold, IsOutcome, ServedGuests}
use Rattle.broker_run.specs.declared.outcome.BrokerRun.{BrokerRun}
use Rattle.broker_run.specs.declared.outcome.BrokerRun.TheVariants as run
use Rattle.broker_run.specs.declared.outcome.Dialing.{Dialing}
use Rattle.broker_run.proofs.Served.{run_seen, spawner_same, dialer_same, accepted_same, listeners_same}
use Rattle.voevent_online.specs.Serving.{AnswersRun, HasRunSo, IsBrokers, RunCause}
use Rattle.voevent_online.specs.declared.status.Status.{Status}

-- what holds after each answer, by the answers one by one
pub outcome_by : {Serves : ℕ → Type 0} {Listens Dials Spawns : Type 0} (ended : BrokerRun) → ((n : ℕ) → ended ≡ run.Served n → Serves n) → (ended ≡ run.ListenFault → Listens) → (ended ≡ run.DialFault → Dials) → (ended ≡ run.SpawnFault → Spawns) → IsOutcome ended Serves Listens Dials Spawns
outcome_by (run.Served n) served listened dialed spawned = served n refl
outcome_by run.ListenFault served listened dialed spawned = listened refl
outcome_by run.DialFault served listened dialed spawned = dialed refl
outcome_by run.SpawnFault served listened dialed spawned = spawned refl
outcome_by run.NoMemory served listened dialed spawned = tt

-- a disk that keeps these notes and such a configuration keeps a broker's journal
pub keeps_broker : (reading : Option (List ℕ)) (config : Config) (notes : List Note) → IfSome reading (λ file. Keeps file config notes) → IsBrokers config → IfSome reading (KeepsSuch IsBrokers)
keeps_broker None config notes kept is = tt
keeps_broker (Some file) config notes kept is = (config, notes, kept, is)

-- the other parts of equal worlds are equal
module _ {So Si D Di Li Sp : Type 0} where
  pub faults_same : {p q : Parts So Si D Di Li Sp} → p ≡ q → p.faults ≡ q.faults
  faults_same e = ap (λ (x : Parts So Si D Di Li Sp). x.faults) e

  pub sink_same : {p q : Parts So Si D Di Li Sp} → p ≡ q → p.sink ≡ q.sink
  sink_same e = ap (λ (x : Parts So Si D Di Li Sp). x.sink) e

  pub source_same : {p q : Parts So Si D Di Li Sp} → p ≡ q → p.source ≡ q.source
  source_same e = ap (λ (x : Parts So Si D Di Li Sp). x.source) e

  pub moment_same : {p q : Parts So Si D Di Li Sp} → p ≡ q → p.moment ≡ q.moment
  moment_same e = ap (λ (x : Parts So Si D Di Li Sp). x.moment) e

  pub tells_same : {p q : Parts So Si D Di Li Sp} → p ≡ q → p.tells ≡ q.tells
  tells_same e = ap (λ (x : Parts So Si D Di Li Sp). x.tells) e

  pub disk_same : {p q : Parts So Si D Di Li Sp} → p ≡ q → p.disk ≡ q.disk
  disk_same e = ap (λ (x : Parts So Si D Di Li Sp). x.disk) e

module _ {So Si D Di Li Sp La Ld : Type 0} (dial_faults : Di → ℕ) (spawn_faults begun_of : Sp → ℕ) (returns_of : Di → Option (Returns Ld)) (line : LinkGhosts Ld) (guests_of : Li → Option (Returns La)) (accepts_of : Li → ℕ) (guest : LinkGhosts La) (sessions upstream : ℕ) (dialing : Dialing) where
  -- the same run, seen from before and from behind
  pub cause_seen : (was : Option D) (old first last new : Parts So Si D Di Li Sp) → first ≡ record old { disk = was } → new ≡ record last { sink = new.sink } → (ended : BrokerRun)
      → RunCause dial_faults spawn_faults begun_of returns_of line guests_of accepts_of guest sessions upstream dialing first last ended
      → RunCause dial_faults spawn_faults begun_of returns_of line guests_of accepts_of guest sessions upstream dialing old new ended
  cause_seen was old first last new before behind (run.Served n) served = record {
    lines = served.lines;
    once = served.once;
    run = run_seen begun_of returns_of line old first last new sessions served.lines n (spawner_same before) (dialer_same before) (spawner_same behind) (dialer_same behind) served.run;
    accepted = accepted_same behind ∙ (served.accepted ∙ ap (λ (n : ℕ). added n sessions) (accepted_same before));
    guests = subst (λ (l : Option (Li × Li)). IfTold l (λ a s. ∥ ServedGuests guests_of accepts_of guest sessions a s ∥₁)) (sym (listeners_same behind)) served.guests;
  }
  cause_seen was old first last new before behind run.ListenFault rose =
      let one = faults_same before in
      let two = faults_same behind in
      omega (arith, one, two, rose)
  cause_seen was old first last new before behind run.DialFault dialed =
      let one = ap dial_faults (dialer_same before) in
      let two = ap dial_faults (dialer_same behind) in
      let rose = dialed.1 in
      (dialed.0, omega (arith, one, two, rose))
  cause_seen was old first last new before behind run.SpawnFault rose =
      let one = ap spawn_faults (spawner_same before) in
      let two = ap spawn_faults (spawner_same behind) in
      omega (arith, one, two, rose)
  cause_seen was old first last new before behind run.NoMemory none = tt

  -- the same, where the disk was taken before
  pub run_so_seen : (was : Option D) (sink : SinkGhosts Si) (disk : DiskGhosts D) (own : D) (old first new : Parts So Si D Di Li Sp) (answer : Status) → first ≡ record old { disk = was }
      → HasRunSo sink disk dial_faults spawn_faults begun_of returns_of line guests_of accepts_of guest sessions upstream dialing own first new answer
      → HasRunSo sink disk dial_faults spawn_faults begun_of returns_of line guests_of accepts_of guest sessions upstream dialing own old new answer
  run_so_seen was sink disk own old first new answer before h = record {
    keeps = h.keeps;
    ended = h.ended;
    cause = cause_seen was old first new new before refl h.ended h.cause;
    told = subst (λ (k : Si). AnswersRun sink h.ended answer k new.sink) (sink_same before) h.told;
    disk_is = h.disk_is;
    source_is = h.source_is ∙ source_same before;
    moment_is = h.moment_is ∙ moment_same before;
    tells_is = h.tells_is ∙ tells_same before;
  }
