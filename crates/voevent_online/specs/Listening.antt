-- What `listen` did, by the status that it answers.
use Rattle.std.specs.Prelude.{◌≡◌, ◌⊎◌, ℕ, ◌+◌, ◌≤◌, List, ◌++◌, ◌∷◌, [], length, Some, None}
use Rattle.std.specs.declared.option.Option.{Option}
use Rattle.std.specs.Io.KnownBytes.{append_known}
use Rattle.voe_values.specs.declared.kind.NodeKind.TheVariants.{Subscriber}
use Rattle.voe_disk.specs.Disk.{Rose as RoseAtDisk}
use Rattle.voe_disk.specs.declared.disk.Disk.{Ghosts as DiskGhosts}
use Rattle.voe_outside.specs.Causes.{Rose}
use Rattle.voe_outside.specs.Returns.{Returns}
use Rattle.voe_outside.specs.declared.link.Link.{Ghosts as LinkGhosts}
use Rattle.voe_outside.specs.declared.stream.Sink.{Ghosts as SinkGhosts}
use Rattle.voe_world.specs.Parts.{Parts}
use Rattle.gate_journal.specs.Format.{StandsBeyond}
use Rattle.gate_journal.specs.Journal.{EachFile}
use Rattle.net_model.specs.declared.note.Note.{Note}
use Rattle.net_model.specs.declared.note.Note.TheVariants.{Enter}
use Rattle.node_notes.specs.Tells.{payloads_of}
use Rattle.node_notes.specs.declared.config.Config.{Config}
use Rattle.path_filter.specs.Links.{AreReadable, HasRefused}
use Rattle.node_book.specs.EndMaking.{IsLoaded, IsNotLoaded}
use Rattle.node_book.specs.Ends.{EndView, IsSound}
use Rattle.node_book.specs.Keeps.{Keeps}
use Rattle.node_book.specs.declared.fault.BookFault.{BookFault}
use Rattle.node_book.specs.declared.fault.BookFault.TheVariants as book
use Rattle.vtp_session.specs.declared.act.GarbageFault.{GarbageFault}
use Rattle.vtp_server.specs.Entered.{entry_lines}
use Rattle.vtp_server.specs.OneEnd.{IsSameEnd}
use Rattle.vtp_server.specs.declared.ended.Ended.{Ended}
use Rattle.vtp_server.specs.declared.ended.Ended.TheVariants as ended
use Rattle.voevent_online.specs.Following.{Follows, IsUnreached}
use Rattle.voevent_online.specs.Lines.{refusal_line}
use Rattle.voevent_online.specs.Loading.{refusal_of_loading}
use Rattle.voevent_online.specs.Telling.{IsCutShort, IsTold, IsUnwritten}
use Rattle.voevent_online.specs.declared.refusal.Refusal.{Refusal}
use Rattle.voevent_online.specs.declared.status.Status.{Status}
use Rattle.voevent_online.specs.declared.status.Status.TheVariants as status

-- a configuration that is no subscriber's, or has a filter that is refused
abbrev pub IsUnfit : Config → Type 0
IsUnfit config = (config.kind ≡ Subscriber → ⊥) ⊎ HasRefused config.links

-- the notes are kept, or these and one more, of a packet that was entered
abbrev pub KeepsOrOneMore : Config → List Note → List ℕ → Type 0
KeepsOrOneMore config notes image = Keeps image config notes ⊎ ((identifier : List ℕ) × (packet : List ℕ) × Keeps image config (notes ++ Enter identifier packet ∷ []))

module _ {So Si D Di Li Sp L : Type 0} (disk : DiskGhosts D) (sink : SinkGhosts Si) (link : LinkGhosts L) (returns : Di → Option (Returns L)) (faults : Di → ℕ) (p q : Parts So Si D Di Li Sp) where
  -- ---- the disk

  -- The disk kept a subscriber's journal, and its end was loaded; the disk that was put back is that of this end.
  pub record HasLoaded (before after : EndView D) : Type 0 where
    pub taken : D
    pub taken_is : p.disk ≡ Some taken
    pub unarmed : (disk.arming taken).calls ≡ None
    pub kind : before.config.kind ≡ Subscriber
    pub readable : AreReadable before.config.links
    pub loaded : IsLoaded disk taken before
    pub back_is : q.disk ≡ Some after.disk
    pub same : IsSameEnd disk before after
    pub sound : IsSound disk after

  -- No subscriber's end was loaded from the disk, for this reason. The disk was put back, and nobody was dialed.
  pub record IsUnloaded (fault : BookFault) : Type 0 where
    pub taken : D
    pub back : D
    pub taken_is : p.disk ≡ Some taken
    pub back_is : q.disk ≡ Some back
    pub unloaded : IsNotLoaded disk IsUnfit taken back fault
    pub same_moment : q.moment ≡ p.moment
    pub same_dialer : q.dialer ≡ p.dialer

  -- the disk was put back with a count that had risen
  pub record DiskRose : Type 0 where
    pub taken : D
    pub back : D
    pub taken_is : p.disk ≡ Some taken
    pub back_is : q.disk ≡ Some back
    pub rose : RoseAtDisk (disk.faults taken) (disk.faults back)

  -- ---- the connection

  -- the end followed the broker until so many packets were entered, or the connection ended otherwise
  pub record HasFollowed (count : ℕ) (why : Ended) : Type 0 where
    pub before : EndView D
    pub after : EndView D
    pub loaded : HasLoaded before after
    pub forward : p.moment ≤ q.moment
    pub follows : Follows disk sink link returns faults count why before after p.moment q.moment p.sink q.sink p.dialer q.dialer

  -- what the disk reads that was put back, and whatever a crash leaves of it, keeps the notes of before, and behind them those
  -- of the packets that were entered, and no other
  abbrev pub KeepsEntered : (count : ℕ) (why : Ended) → HasFollowed count why → Type 0
  KeepsEntered count why h = EachFile disk h.after.disk (λ file. Keeps file h.before.config (h.before.notes ++ h.follows.entered.entered))

  -- the end was loaded, and the broker was not reached
  pub record IsNotReached : Type 0 where
    pub before : EndView D
    pub after : EndView D
    pub loaded : HasLoaded before after
    pub unreached : IsUnreached disk sink link returns faults before after p.moment q.moment p.sink q.sink p.dialer q.dialer

  -- ---- the statuses

  -- so many packets were entered, and the sink got a line for each
  pub record HasCounted (count : ℕ) : Type 0 where
    pub followed : HasFollowed count ended.Counted
    pub keeps : KeepsEntered count ended.Counted followed
    pub number : length followed.follows.entered.entered ≡ count
    pub lines : sink.held q.sink ≡ append_known (sink.held p.sink) (entry_lines followed.follows.entered.entered)

  -- a line could not be written
  pub record HasLostLine (count : ℕ) : Type 0 where
    pub followed : HasFollowed count ended.SinkFault
    pub keeps : KeepsEntered count ended.SinkFault followed

  -- the refusal of what the disk holds could not be written whole
  pub record HasLostRefusal : Type 0 where
    pub fault : BookFault
    pub refusal : Refusal
    pub shown : refusal_of_loading fault ≡ Some refusal
    pub unloaded : IsUnloaded fault
    pub cut_short : IsCutShort sink (refusal_line refusal) p.sink q.sink

  -- The disk failed in a step of the end. What the disk reads begins with the notes of before and those of the packets that were
  -- entered, and whatever a crash leaves of it keeps these, or these and the one of the step that failed.
  pub record HasFallen (count : ℕ) : Type 0 where
    pub count_of_faults : ℕ
    pub followed : HasFollowed count (ended.HubDown count_of_faults)
    pub leaves : (image : List ℕ) → disk.may_leave followed.after.disk image → KeepsOrOneMore followed.before.config (followed.before.notes ++ followed.follows.entered.entered) image
    pub begins : EachFile disk followed.after.disk (StandsBeyond (payloads_of followed.before.config (followed.before.notes ++ followed.follows.entered.entered)))

  -- there was no memory to load the end, or for the refusal
  pub record LacksMemory : Type 0 where
    pub fault : BookFault
    pub unloaded : IsUnloaded fault
    pub unwritten : IsUnwritten sink p.sink q.sink

  -- what the disk holds is refused, and its line is written
  pub record IsRefused : Type 0 where
    pub fault : BookFault
    pub refusal : Refusal
    pub shown : refusal_of_loading fault ≡ Some refusal
    pub unloaded : IsUnloaded fault
    pub told : IsTold sink (refusal_line refusal) p.sink q.sink

  -- the link failed
  pub record HasLostLink (count : ℕ) : Type 0 where
    pub followed : HasFollowed count ended.LinkFault
    pub keeps : KeepsEntered count ended.LinkFault followed

  -- the broker closed the link
  pub record IsClosed (count : ℕ) : Type 0 where
    pub followed : HasFollowed count ended.PeerClosed
    pub keeps : KeepsEntered count ended.PeerClosed followed
    pub ends : 1 ≤ link.end_count followed.follows.last

  -- the broker sent what is no message to a subscriber, by the bytes that were taken from the link
  pub record MetGarbage (count : ℕ) : Type 0 where
    pub place : ℕ
    pub fault : GarbageFault
    pub followed : HasFollowed count (ended.Garbage place fault)
    pub keeps : KeepsEntered count (ended.Garbage place fault) followed

  -- the broker was silent for too long
  pub record MetSilence (count : ℕ) : Type 0 where
    pub heard : ℕ
    pub now : ℕ
    pub followed : HasFollowed count (ended.Silent heard now)
    pub keeps : KeepsEntered count (ended.Silent heard now) followed
    pub idles : 1 ≤ link.idle_count followed.follows.last
    pub rose : p.moment + 180000 ≤ q.moment

  abbrev pub ListenTells : ℕ → Status → Type 0
  ListenTells count status.Done = HasCounted count
  ListenTells count status.WriteFault = (HasLostLine count ⊎ HasLostRefusal) × Rose (sink.fault_count p.sink) (sink.fault_count q.sink)
  ListenTells count status.DiskFault = ((IsUnloaded book.DiskFault × (q.sink ≡ p.sink)) ⊎ HasFallen count) × DiskRose
  ListenTells count status.NoMemory = LacksMemory ⊎ HasFollowed count ended.NoMemory
  ListenTells count status.JournalRefused = IsRefused
  ListenTells count status.LinkFault = (IsNotReached ⊎ HasLostLink count) × Rose (faults p.dialer) (faults q.dialer)
  ListenTells count status.Ended = IsClosed count ⊎ (MetGarbage count ⊎ MetSilence count)
  ListenTells count status.Usage = ⊥
  ListenTells count status.Refused = ⊥
  ListenTells count status.ReadFault = ⊥
  ListenTells count status.Full = ⊥
  ListenTells count status.SpawnFault = ⊥
