-- What the command has done with the world, by its status.
use Rattle.std.proofs.Common.{◌≡◌, ℕ, ◌+◌, ◌≤◌, List, [], ◌++◌, length, Some, None, refl, sym, ap, ◌∙◌, subst, inl, inr, ⊎_elim, arith}
use Rattle.std.proofs.lemmas.List.{append-nil}
use Rattle.std.specs.Prelude.{Option, nat_lt}
use Rattle.std.specs.Io.KnownBytes.{append_known}
use Rattle.voe_disk.specs.Disk.{Rose as RoseAtDisk}
use Rattle.voe_disk.specs.Runs.{Moments}
use Rattle.voe_disk.specs.declared.disk.Disk.{Ghosts as DiskGhosts}
use Rattle.voe_outside.specs.Causes.{count_after}
use Rattle.voe_outside.specs.Returns.{Returns, TakesBack}
use Rattle.voe_outside.specs.Traffic.{IsUnused}
use Rattle.voe_outside.specs.declared.link.Link.{Ghosts as LinkGhosts}
use Rattle.voe_outside.specs.declared.stream.Sink.{Ghosts as SinkGhosts}
use Rattle.voe_world.specs.Parts.{Parts}
use Rattle.gate_journal.specs.Format.{StandsBeyond}
use Rattle.gate_journal.specs.Journal.{EachFile}
use Rattle.node_notes.specs.Tells.{payloads_of}
use Rattle.net_model.specs.declared.note.Note.{Note}
use Rattle.node_notes.specs.declared.config.Config.{Config}
use Rattle.node_book.specs.EndMaking.{IsNotLoaded}
use Rattle.node_book.specs.Ends.{EndView}
use Rattle.node_book.specs.Keeps.{Keeps}
use Rattle.node_book.specs.declared.fault.BookFault.{BookFault}
use Rattle.node_book.specs.declared.fault.BookFault.TheVariants as book
use Rattle.vtp_session.specs.declared.side.Side.TheVariants as side
use Rattle.vtp_server.specs.Calls.{IsFollowed, IsSilentInTime, course_from, terms_by}
use Rattle.vtp_server.specs.Counts.{counts_of}
use Rattle.vtp_server.specs.Ends.{EndsBy}
use Rattle.vtp_server.specs.Entered.{HasEntered, entry_lines}
use Rattle.vtp_server.specs.ListenMemory.{first_listening}
use Rattle.vtp_server.specs.ListenSide.{listen_rules, listens}
use Rattle.vtp_server.specs.OneEnd.{down_of, state_of}
use Rattle.vtp_server.specs.Talk.{Terms, course_after}
use Rattle.vtp_server.specs.declared.breach.Parted.{Parted}
use Rattle.vtp_server.specs.declared.ended.Ended.{Ended}
use Rattle.vtp_server.specs.declared.ended.Ended.TheVariants as ended
use Rattle.vtp_server.specs.declared.ended.ListenStop.{ListenStop}
use Rattle.voevent_online.specs.Following.{Follows, FollowsOrNot, Turns, status_of_ended, timers}
use Rattle.voevent_online.specs.Lines.{refusal_line, status_of_refusal}
use Rattle.voevent_online.specs.Listening.{HasFollowed, HasLoaded, IsUnfit, IsUnloaded, KeepsEntered, KeepsOrOneMore, ListenTells}
use Rattle.voevent_online.specs.Loading.{AnswersUnloaded, IsPossible, refusal_of_loading}
use Rattle.voevent_online.specs.Telling.{Tells}
use Rattle.voevent_online.specs.declared.refusal.Refusal.{Refusal}
use Rattle.voevent_online.specs.declared.refusal.Refusal.TheVariants as refusal
use Rattle.voevent_online.specs.declared.status.Status.{Status}
use Rattle.voevent_online.specs.declared.status.Status.TheVariants as status
use Rattle.voevent_online.proofs.Falling.{fallen_by}
use Rattle.voevent_online.proofs.Ending.{is_down, is_up, link_counted, risen, silent_of}

-- a disk that is not armed gives an end, or has one of these faults
pub possible : {D : Type 0} (disk : DiskGhosts D) (Unfit : Config → Type 0) (old new : D) (fault : BookFault) → (disk.arming old).calls ≡ None → IsNotLoaded disk Unfit old new fault → IsPossible fault
possible disk Unfit old new book.Unmade unarmed h = tt
possible disk Unfit old new (book.NotJournal place) unarmed h = tt
possible disk Unfit old new (book.Damaged place) unarmed h = tt
possible disk Unfit old new (book.BadNote place) unarmed h = tt
possible disk Unfit old new book.DiskFault unarmed h = tt
possible disk Unfit old new book.NoMemory unarmed h = tt
possible disk Unfit old new book.Full unarmed h = ⊎_elim (λ none. none) (λ bad. absurd (let no : book.Full ≡ book.BadNote 16 = bad.0 in cc)) h.refused
possible disk Unfit old new book.AlreadyMade unarmed h = ⊎_elim (λ none. none) (λ bad. absurd (let no : book.AlreadyMade ≡ book.BadNote 16 = bad.0 in cc)) h.refused
possible disk Unfit old new book.Stopped unarmed h = absurd (let no : None ≡ Some 0 = sym (h.same_disk.unarmed unarmed) ∙ h.stopped refl in cc)

module _ {D Si Di L : Type 0} (disk : DiskGhosts D) (sink : SinkGhosts Si) (link : LinkGhosts L) (returns : Di → Option (Returns L)) (faults : Di → ℕ) where
  -- what the call says of the parts that it was lent, said of the world's
  pub follows_so : (count : ℕ) (why : Ended) (before after : EndView D) (start stop : ℕ) (out lent given out_after : Si) (dials lent_dials dials_after : Di) (fresh last : L)
      → lent ≡ out → out_after ≡ given → returns lent_dials ≡ returns dials → faults lent_dials ≡ faults dials
      → IsUnused (link.fault_count fresh) (link.idle_count fresh) (link.end_count fresh) (link.traffic fresh)
      → TakesBack (returns lent_dials) (returns dials_after) last → faults dials_after ≡ count_after (faults lent_dials) (nat_lt 0 (link.fault_count last))
      → HasEntered count (state_of disk before) (state_of disk after) why (sink.held lent) (sink.held given)
      → IsFollowed (Turns disk sink link returns faults) link sink (terms_by side.Take timers before.config.name []) count (length before.notes) start why before after fresh last lent given
      → IsSilentInTime why start stop
      → Follows disk sink link returns faults count why before after start stop out out_after dials dials_after
  follows_so count why before after start stop out lent given out_after dials lent_dials dials_after fresh last here there same_returns same_faults unused back count_is entered talk in_time =
      let Says : Si → Si → Type 0 = λ x y. HasEntered count (state_of disk before) (state_of disk after) why (sink.held x) (sink.held y) in
      let Talks : Si → Si → Type 0 = λ x y. IsFollowed (Turns disk sink link returns faults) link sink (terms_by side.Take timers before.config.name []) count (length before.notes) start why before after fresh last x y in
      record {
        fresh = fresh;
        last = last;
        unused = unused;
        taken_back = subst (λ (r : Option (Returns L)). TakesBack r (returns dials_after) last) same_returns back;
        dial_faults = count_is ∙ ap (λ (n : ℕ). count_after n (nat_lt 0 (link.fault_count last))) same_faults;
        entered = subst (λ (x : Si). Says x out_after) here (subst (λ (y : Si). Says lent y) (sym there) entered);
        talk = subst (λ (x : Si). Talks x out_after) here (subst (λ (y : Si). Talks lent y) (sym there) talk);
        in_time = in_time;
      }

  -- a silence is as long as the timers say
  pub was_silent : (count : ℕ) (heard now : ℕ) (before after : EndView D) (start stop : ℕ) (out out_after : Si) (dials dials_after : Di)
      → Follows disk sink link returns faults count (ended.Silent heard now) before after start stop out out_after dials dials_after → start + 180000 ≤ stop
  was_silent count heard now before after start stop out out_after dials dials_after h =
      let t = h.talk in
      let Terms_ : Terms = terms_by side.Take timers before.config.name [] in
      let first = course_from (first_listening count (length before.notes)) (listens count) t.start in
      let cause = subst (λ (e : Parted ListenStop). EndsBy Terms_ e (course_after Terms_ listen_rules first t.ends.moves) t.ends.moves t.ends.rest t.ends.lost (counts_of link sink h.fresh out) (counts_of link sink h.last out_after)) (silent_of t.parted heard now t.told) t.ends.cause in
      let long = cause.0.silent in
      let from = h.in_time.0 in
      let to = h.in_time.1 in
      omega (arith, long, from, to)

module _ {So Si D Di Li Sp L : Type 0} (disk : DiskGhosts D) (sink : SinkGhosts Si) (link : LinkGhosts L) (returns : Di → Option (Returns L)) (faults : Di → ℕ) (p q : Parts So Si D Di Li Sp) where
  abbrev World : Type 0
  World = Parts So Si D Di Li Sp

  abbrev Says : ℕ → Status → Type 0
  Says count result = ListenTells disk sink link returns faults p q count result

  abbrev Followed : ℕ → Ended → Type 0
  Followed count why = HasFollowed disk sink link returns faults p q count why

  -- ---- an end was loaded

  keeps : (count : ℕ) (why : Ended) (h : Followed count why) → down_of disk h.after.disk h.after.down ≡ down_of disk h.before.disk h.before.down → KeepsEntered disk sink link returns faults p q count why h
  keeps count why h same =
      let up = is_up disk h.after.disk h.after.down (same ∙ ap (down_of disk h.before.disk) h.loaded.loaded.is_up) in
      subst (λ (notes : List Note). EachFile disk h.after.disk (λ file. Keeps file h.before.config notes)) h.follows.entered.notes
      (subst (λ (config : Config). EachFile disk h.after.disk (λ file. Keeps file config h.after.notes)) h.loaded.same.config (h.loaded.sound.up up))

  all_told : (said missing lines : List ℕ) (held held_after : Option (List ℕ)) → said ++ missing ≡ lines → missing ≡ [] → held_after ≡ append_known held said → held_after ≡ append_known held lines
  all_told said missing lines held held_after are none told = told ∙ ap (append_known held) (sym (append-nil said) ∙ (ap (λ (m : List ℕ). said ++ m) (sym none) ∙ are))

  fell_says : Moments disk → (count count_of_faults : ℕ) → Followed count (ended.HubDown count_of_faults) → Says count status.DiskFault
  fell_says moments count count_of_faults h =
      let unarmed = h.loaded.loaded.same_disk.unarmed h.loaded.unarmed in
      let down = is_down disk h.after.disk h.after.down count_of_faults h.follows.entered.cause.2 in
      let fallen = fallen_by disk moments h.before h.after h.follows.talk.ends.moves h.loaded.loaded.is_up unarmed h.follows.talk.ends.made.turns down in
      let notes = h.follows.entered.notes in (
        inr (record {
          count_of_faults = count_of_faults;
          followed = h;
          leaves = λ image left. subst (λ (l : List Note). KeepsOrOneMore h.before.config l image) notes (fallen.leaves image left);
          begins = subst (λ (l : List Note). EachFile disk h.after.disk (StandsBeyond (payloads_of h.before.config l))) notes
              (subst (λ (config : Config). EachFile disk h.after.disk (StandsBeyond (payloads_of config h.after.notes))) h.loaded.same.config h.loaded.sound.begins);
        }),
        record {
          taken = h.loaded.taken;
          back = h.after.disk;
          taken_is = h.loaded.taken_is;
          back_is = h.loaded.back_is;
          rose = subst (λ (n : ℕ). RoseAtDisk n (disk.faults h.after.disk)) h.loaded.loaded.same_count fallen.risen;
        },
      )

  followed_says : Moments disk → (count : ℕ) (why : Ended) → Followed count why → Says count (status_of_ended why)
  followed_says moments count ended.Counted h =
      let e = h.follows.entered in
      record {
        followed = h;
        keeps = keeps count ended.Counted h e.cause.2;
        number = e.cause.0;
        lines = all_told e.said e.missing (entry_lines e.entered) (sink.held p.sink) (sink.held q.sink) e.lines e.cause.1 e.told;
      }
  followed_says moments count ended.PeerClosed h =
      inl (record {
        followed = h;
        keeps = keeps count ended.PeerClosed h h.follows.entered.cause.2;
        ends = risen (link.end_count h.follows.fresh) (link.end_count h.follows.last) h.follows.unused.no_end h.follows.talk.cause;
      })
  followed_says moments count (ended.Garbage place why) h =
      inr (inl (record {
        place = place;
        fault = why;
        followed = h;
        keeps = keeps count (ended.Garbage place why) h h.follows.entered.cause.2;
      }))
  followed_says moments count (ended.Silent heard now) h =
      inr (inr (record {
        heard = heard;
        now = now;
        followed = h;
        keeps = keeps count (ended.Silent heard now) h h.follows.entered.cause.2;
        idles = risen (link.idle_count h.follows.fresh) (link.idle_count h.follows.last) h.follows.unused.no_idle h.follows.talk.cause;
        rose = was_silent disk sink link returns faults count heard now h.before h.after p.moment q.moment p.sink q.sink p.dialer q.dialer h.follows;
      }))
  followed_says moments count ended.LinkFault h = (
    inr (record { followed = h; keeps = keeps count ended.LinkFault h h.follows.entered.cause }),
    link_counted (faults p.dialer) (faults q.dialer) (link.fault_count h.follows.last) h.follows.dial_faults
        (risen (link.fault_count h.follows.fresh) (link.fault_count h.follows.last) h.follows.unused.no_fault h.follows.talk.cause),
  )
  followed_says moments count ended.SinkFault h = (inl (record { followed = h; keeps = keeps count ended.SinkFault h h.follows.entered.cause }), h.follows.talk.cause)
  followed_says moments count (ended.HubDown count_of_faults) h = fell_says moments count count_of_faults h
  followed_says moments count ended.NoMemory h = inr h
  followed_says moments count (ended.Replaced newer) h = absurd h.follows.entered.cause

  -- what was done between the taking of the disk and its return
  pub loaded_says : Moments disk → (count : ℕ) (result : Status) (m n : World) (before after : EndView D) → m ≡ record p { disk = None } → q ≡ record n { disk = Some after.disk }
      → m.moment ≤ n.moment → FollowsOrNot disk sink link returns faults count result before after m.moment n.moment m.sink n.sink m.dialer n.dialer
      → HasLoaded disk sink link returns faults p q before after → Says count result
  loaded_says moments count result m n before after taken back forward done loaded =
      let Did : World → World → Type 0 = λ x y. (x.moment ≤ y.moment) × FollowsOrNot disk sink link returns faults count result before after x.moment y.moment x.sink y.sink x.dialer y.dialer in
      let did : Did p q = subst (λ (y : World). Did p y) (sym back) (subst (λ (x : World). Did x n) taken (forward, done)) in
      ⊎_elim
      (λ h. subst (λ (s : Status). Says count s) (sym h.1) (followed_says moments count h.0 (record { before = before; after = after; loaded = loaded; forward = did.0; follows = h.2 })))
      (λ h. subst (λ (s : Status). Says count s) (sym h.0) (inl (record { before = before; after = after; loaded = loaded; unreached = h.1 }), (let rose = h.1.dial_faults in omega (arith, rose))))
      did.1

  -- ---- none was loaded

  refused_says : (count : ℕ) (result : Status) (fault : BookFault) (why : Refusal) → refusal_of_loading fault ≡ Some why → status_of_refusal why ≡ status.JournalRefused → IsUnloaded disk sink link returns faults p q fault
      → Tells sink (status_of_refusal why) (refusal_line why) result p.sink q.sink → Says count result
  refused_says count result fault why shown is unloaded told =
      ⊎_elim
      (λ h. subst (λ (s : Status). Says count s) (sym (h.0 ∙ is)) (record { fault = fault; refusal = why; shown = shown; unloaded = unloaded; told = h.1 }))
      (λ rest. ⊎_elim
      (λ h. subst (λ (s : Status). Says count s) (sym h.0) (inr (record { fault = fault; refusal = why; shown = shown; unloaded = unloaded; cut_short = h.1 }), (let rose = h.1.faults in omega (arith, rose))))
      (λ h. subst (λ (s : Status). Says count s) (sym h.0) (inl (record { fault = fault; unloaded = unloaded; unwritten = h.1 })))
      rest)
      told

  unloaded_so : (count : ℕ) (result : Status) (fault : BookFault) → IsPossible fault → IsUnloaded disk sink link returns faults p q fault → AnswersUnloaded sink fault result p.sink q.sink → Says count result
  unloaded_so count result book.Unmade may unloaded answer = refused_says count result book.Unmade refusal.Unmade refl refl unloaded answer
  unloaded_so count result (book.NotJournal place) may unloaded answer = refused_says count result (book.NotJournal place) (refusal.Foreign place) refl refl unloaded answer
  unloaded_so count result (book.Damaged place) may unloaded answer = refused_says count result (book.Damaged place) (refusal.Damaged place) refl refl unloaded answer
  unloaded_so count result (book.BadNote place) may unloaded answer = refused_says count result (book.BadNote place) (refusal.BadNote place) refl refl unloaded answer
  unloaded_so count result book.DiskFault may unloaded answer =
      subst (λ (s : Status). Says count s) (sym answer.0)
      (inl (unloaded, answer.1), record { taken = unloaded.taken; back = unloaded.back; taken_is = unloaded.taken_is; back_is = unloaded.back_is; rose = unloaded.unloaded.rose refl })
  unloaded_so count result book.NoMemory may unloaded answer =
      subst (λ (s : Status). Says count s) (sym answer.0)
      (inl (record { fault = book.NoMemory; unloaded = unloaded; unwritten = record { written = ap sink.held answer.1; faults = ap sink.fault_count answer.1 } }))
  unloaded_so count result book.Full may unloaded answer = absurd may
  unloaded_so count result book.AlreadyMade may unloaded answer = absurd may
  unloaded_so count result book.Stopped may unloaded answer = absurd may

  pub unloaded_says : (count : ℕ) (result : Status) (m n : World) (taken back : D) (fault : BookFault) → m ≡ record p { disk = None } → n ≡ record m { disk = Some back } → q ≡ record n { sink = q.sink }
      → p.disk ≡ Some taken → IsPossible fault → IsNotLoaded disk IsUnfit taken back fault → AnswersUnloaded sink fault result n.sink q.sink → Says count result
  unloaded_says count result m n taken back fault first second third taken_is may why answer =
      let put : n ≡ record p { disk = Some back } = second ∙ ap (λ (x : World). record x { disk = Some back }) first in
      let all : q ≡ record p { disk = Some back; sink = q.sink } = third ∙ ap (λ (x : World). record x { sink = q.sink }) put in
      unloaded_so count result fault may
      (record {
        taken = taken;
        back = back;
        taken_is = taken_is;
        back_is = ap (λ (x : World). x.disk) all;
        unloaded = why;
        same_moment = ap (λ (x : World). x.moment) all;
        same_dialer = ap (λ (x : World). x.dialer) all;
      })
      (subst (λ (x : World). AnswersUnloaded sink fault result x.sink q.sink) put answer)
