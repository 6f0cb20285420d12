-- What `submit` did, by the status that it answers.
use Rattle.std.specs.Prelude.{◌≡◌, ◌⊎◌, ℕ, ◌+◌, ◌≤◌, true, false, List, ◌++◌, Some, None}
use Rattle.std.specs.declared.option.Option.{Option}
use Rattle.voe_values.specs.declared.kind.NodeKind.TheVariants.{Author}
use Rattle.voe_disk.specs.Disk.{Rose as RoseAtDisk}
use Rattle.voe_disk.specs.declared.disk.Disk.{Ghosts as DiskGhosts}
use Rattle.voe_outside.specs.Causes.{Rose}
use Rattle.voe_outside.specs.Returns.{Returns}
use Rattle.voe_outside.specs.declared.link.Link.{Ghosts as LinkGhosts}
use Rattle.voe_outside.specs.declared.stream.Sink.{Ghosts as SinkGhosts}
use Rattle.voe_outside.specs.declared.stream.Source.{Ghosts as SourceGhosts}
use Rattle.voe_world.specs.Parts.{Parts}
use Rattle.gate_journal.specs.Journal.{EachFile}
use Rattle.net_model.specs.Notes.{is_open}
use Rattle.net_model.specs.declared.note.Note.{Note}
use Rattle.net_model.specs.declared.note.Note.TheVariants.{Acked}
use Rattle.node_notes.specs.declared.config.Config.{Config}
use Rattle.path_filter.specs.Links.{AreReadable, HasRefused}
use Rattle.node_book.specs.EndMaking.{IsLoaded, IsNotLoaded}
use Rattle.node_book.specs.Ends.{EndView, IsSound}
use Rattle.node_book.specs.Keeps.{Keeps, has_room}
use Rattle.node_book.specs.declared.fault.BookFault.{BookFault}
use Rattle.node_book.specs.declared.fault.BookFault.TheVariants as book
use Rattle.vtp_server.specs.OneEnd.{IsSameEnd}
use Rattle.vtp_server.specs.declared.ended.Ended.{Ended}
use Rattle.vtp_server.specs.declared.ended.Ended.TheVariants as ended
use Rattle.vtp_server.specs.declared.ended.Submitted.TheVariants as submitted
use Rattle.voevent_online.specs.Held.{LacksRoom, has_answer}
use Rattle.voevent_online.specs.Lines.{refusal_line}
use Rattle.voevent_online.specs.Loading.{refusal_of_loading}
use Rattle.voevent_online.specs.Outcomes.{ack_line, nak_line}
use Rattle.voevent_online.specs.Packets.{HasFailed, IsGiven, IsRefused}
use Rattle.voevent_online.specs.Rounds.{Standing, Submits}
use Rattle.voevent_online.specs.Submission.{AreOwnNotes, Becomes}
use Rattle.voevent_online.specs.Telling.{IsCutShort, IsTold, IsUnwritten}
use Rattle.voevent_online.specs.declared.refusal.Refusal.{Refusal}
use Rattle.voevent_online.specs.declared.refusal.Refusal.TheVariants as refusal
use Rattle.voevent_online.specs.declared.status.Status.{Status}
use Rattle.voevent_online.specs.declared.status.Status.TheVariants as status
use Rattle.voevent_online.specs.declared.submit_lines.Outcome.{Outcome}
use Rattle.voevent_online.specs.declared.submit_lines.Outcome.TheVariants as outcome

-- a configuration that is no author's, or has a filter that is refused
abbrev pub IsNoAuthor : Config → Type 0
IsNoAuthor config = (config.kind ≡ Author → ⊥) ⊎ HasRefused config.links

-- What the link that was taken back last has counted, by how its session ended: the peer closed it, or sent what no message is,
-- or was silent for three minutes of the world's.
abbrev pub HasEndCause : Ended → (ends idles start stop : ℕ) → Type 0
HasEndCause ended.PeerClosed ends idles start stop = 1 ≤ ends
HasEndCause (ended.Garbage place why) ends idles start stop = Unit {0}
HasEndCause (ended.Silent heard now) ends idles start stop = (1 ≤ idles) × (start + 180000 ≤ stop)
HasEndCause _ ends idles start stop = ⊥

-- an identifier is unanswered on line 0, and the journal has no room for its acknowledgement
pub record LacksAnswerRoom {D : Type 0} (after : EndView D) : Type 0 where
  pub identifier : List ℕ
  pub unanswered : is_open after.notes 0 identifier ≡ true
  pub no_room : has_room after.config after.notes (Acked 0 identifier) ≡ false

module _ {So Si D Di Li Sp L : Type 0} (source : SourceGhosts So) (sink : SinkGhosts Si) (disk : DiskGhosts D) (link : LinkGhosts L) (returns : Di → Option (Returns L)) (faults : Di → ℕ) (p q : Parts So Si D Di Li Sp) where
  -- ---- the disk

  -- The disk kept an author's journal, and its end was loaded; the disk that was put back is that of this end.
  pub record HasLoadedAuthor (before after : EndView D) : Type 0 where
    pub taken : D
    pub taken_is : p.disk ≡ Some taken
    pub unarmed : (disk.arming taken).calls ≡ None
    pub kind : before.config.kind ≡ Author
    pub readable : AreReadable before.config.links
    pub loaded : IsLoaded disk taken before
    pub back_is : q.disk ≡ Some after.disk
    pub same : IsSameEnd disk before after
    pub sound : IsSound disk after

  -- No author's end was loaded from the disk, for this reason. The disk was put back, and nobody was dialed.
  pub record IsNotLoadedAuthor (fault : BookFault) : Type 0 where
    pub taken : D
    pub back : D
    pub taken_is : p.disk ≡ Some taken
    pub back_is : q.disk ≡ Some back
    pub unloaded : IsNotLoaded disk IsNoAuthor taken back fault
    pub same_moment : q.moment ≡ p.moment
    pub same_dialer : q.dialer ≡ p.dialer

  -- the disk was put back with a count that had risen
  pub record HasDiskRisen : Type 0 where
    pub taken : D
    pub back : D
    pub taken_is : p.disk ≡ Some taken
    pub back_is : q.disk ≡ Some back
    pub rose : RoseAtDisk (disk.faults taken) (disk.faults back)

  -- ---- the packet

  -- no good packet was given, and the disk and the dialer stayed as they were
  pub record IsUntried : Type 0 where
    pub same_disk : q.disk ≡ p.disk
    pub same_moment : q.moment ≡ p.moment
    pub same_dialer : q.dialer ≡ p.dialer

  abbrev pub begins : EndView D → Standing D Di
  begins before = record { end = before; moment = p.moment; dialer = p.dialer }

  abbrev pub stops : EndView D → Standing D Di
  stops after = record { end = after; moment = q.moment; dialer = q.dialer }

  -- the source gave a good packet, an author's end was loaded, and this became of the packet
  pub record Runs (became : Outcome) (identifier packet : List ℕ) (before after : EndView D) : Type 0 where
    pub given : IsGiven source identifier packet p.source q.source
    pub loaded : HasLoadedAuthor before after
    pub becomes : Becomes disk link returns faults identifier packet became (begins before) (stops after)

  -- what the disk reads that was put back, and whatever a crash leaves of it, keeps the end's notes
  abbrev pub KeepsNotes : EndView D → Type 0
  KeepsNotes after = EachFile disk after.disk (λ file. Keeps file after.config after.notes)

  -- the same; the notes of before and, behind them, records of the packet and of answers on line 0 alone are kept by the journal
  -- that was put back
  pub record RunsAndKeeps (became : Outcome) : Type 0 where
    pub identifier : List ℕ
    pub packet : List ℕ
    pub before : EndView D
    pub after : EndView D
    pub runs : Runs became identifier packet before after
    pub added : List Note
    pub notes_are : after.notes ≡ before.notes ++ added
    pub own : AreOwnNotes identifier packet added
    pub keeps : KeepsNotes after

  -- ---- what a line says

  -- the packet's acknowledgement stands in the journal that was put back
  pub record IsAcked (line : List ℕ) : Type 0 where
    pub run : RunsAndKeeps outcome.Acked
    pub stands : has_answer true 0 run.identifier run.after.notes ≡ true
    pub line_is : line ≡ ack_line run.identifier

  -- its refusal does
  pub record HasRefusal (line : List ℕ) : Type 0 where
    pub why : Option (List ℕ)
    pub run : RunsAndKeeps (outcome.Nak why)
    pub stands : has_answer false 0 run.identifier run.after.notes ≡ true
    pub line_is : line ≡ nak_line why

  -- the journal has another packet of its identifier
  pub record IsConflict (line : List ℕ) : Type 0 where
    pub run : RunsAndKeeps outcome.Conflict
    pub line_is : line ≡ refusal_line refusal.Conflict

  -- the bytes that the source gave are refused, or too many
  pub record IsBadPacket (line : List ℕ) : Type 0 where
    pub why : Refusal
    pub refused : IsRefused source why p.source q.source
    pub untried : IsUntried
    pub line_is : line ≡ refusal_line why

  -- what the disk holds is refused
  pub record IsBadJournal (line : List ℕ) : Type 0 where
    pub identifier : List ℕ
    pub packet : List ℕ
    pub given : IsGiven source identifier packet p.source q.source
    pub fault : BookFault
    pub why : Refusal
    pub shown : refusal_of_loading fault ≡ Some why
    pub unloaded : IsNotLoadedAuthor fault
    pub line_is : line ≡ refusal_line why

  -- the author has no line, which is refused as its configuration's place
  pub record HasNoLine (line : List ℕ) : Type 0 where
    pub run : RunsAndKeeps outcome.NoLine
    pub line_is : line ≡ refusal_line (refusal.BadNote 16)

  -- what the line of a status says
  abbrev pub Means : Status → List ℕ → Type 0
  Means status.Done line = IsAcked line
  Means status.Refused line = IsBadPacket line ⊎ (IsConflict line ⊎ HasRefusal line)
  Means status.JournalRefused line = IsBadJournal line ⊎ HasNoLine line
  Means _ line = ⊥

  -- the line is written that says this
  pub record IsSaid (wanted : Status) : Type 0 where
    pub line : List ℕ
    pub means : Means wanted line
    pub told : IsTold sink line p.sink q.sink

  -- it could not be written whole
  pub record IsHalfSaid : Type 0 where
    pub wanted : Status
    pub line : List ℕ
    pub means : Means wanted line
    pub cut_short : IsCutShort sink line p.sink q.sink

  -- ---- without a line

  -- a good packet was given, and the disk failed while it was loaded, or in a step of the end
  pub record HasDiskFailed : Type 0 where
    pub identifier : List ℕ
    pub packet : List ℕ
    pub given : IsGiven source identifier packet p.source q.source
    pub unloaded_or_run : IsNotLoadedAuthor book.DiskFault ⊎ ((before after : EndView D) × Runs outcome.DiskFault identifier packet before after)
    pub rose : HasDiskRisen

  -- the packet is new, and the journal has no room for its record; or it has none for an answer
  pub record IsFull : Type 0 where
    pub run : RunsAndKeeps outcome.Full
    pub lacks : LacksRoom disk run.identifier run.packet run.before run.after ⊎ LacksAnswerRoom run.after

  -- the session of the link that was taken back last has ended so
  pub record IsEnded : Type 0 where
    pub run : RunsAndKeeps outcome.Ended
    pub why : Ended
    pub last : Standing D Di
    pub submits : Submits disk link returns faults (submitted.Ended why) last (stops run.after)
    pub cause : HasEndCause why (link.end_count submits.last) (link.idle_count submits.last) p.moment q.moment

  -- how far the call had come when there was no memory: no packet, no end, or anything that may become of the packet
  abbrev pub LacksMemory : Type 0
  LacksMemory = IsUntried ⊎ (((fault : BookFault) × IsNotLoadedAuthor fault) ⊎ ((became : Outcome) × (identifier packet : List ℕ) × (before after : EndView D) × Runs became identifier packet before after))

  abbrev pub SubmitTells : Status → Type 0
  SubmitTells status.Done = IsSaid status.Done
  SubmitTells status.Refused = IsSaid status.Refused
  SubmitTells status.ReadFault = HasFailed source p.source q.source × IsUntried × (q.sink ≡ p.sink)
  SubmitTells status.WriteFault = IsHalfSaid × Rose (sink.fault_count p.sink) (sink.fault_count q.sink)
  SubmitTells status.DiskFault = HasDiskFailed × (q.sink ≡ p.sink)
  SubmitTells status.NoMemory = LacksMemory × IsUnwritten sink p.sink q.sink
  SubmitTells status.JournalRefused = IsSaid status.JournalRefused
  SubmitTells status.Full = IsFull × (q.sink ≡ p.sink)
  SubmitTells status.LinkFault = RunsAndKeeps outcome.LinkFault × Rose (faults p.dialer) (faults q.dialer) × (q.sink ≡ p.sink)
  SubmitTells status.Ended = IsEnded × (q.sink ≡ p.sink)
  SubmitTells status.Usage = ⊥
  SubmitTells status.SpawnFault = ⊥
