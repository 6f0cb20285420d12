-- What `submit` has done with the world, by its status.
use Rattle.std.proofs.Common.{◌≡◌, ℕ, List, Some, None, refl, sym, ap, ◌∙◌, subst, inl, inr, ⊎_elim, arith}
use Rattle.std.specs.Prelude.{Option}
use Rattle.voe_values.specs.declared.kind.NodeKind.TheVariants.{Author}
use Rattle.voe_disk.specs.declared.disk.Disk.{Ghosts as DiskGhosts}
use Rattle.voe_disk.specs.Disk.{Rose as RoseAtDisk}
use Rattle.voe_outside.specs.Returns.{Returns}
use Rattle.voe_outside.specs.declared.link.Link.{Ghosts as LinkGhosts}
use Rattle.voe_outside.specs.declared.stream.Sink.{Ghosts as SinkGhosts}
use Rattle.voe_outside.specs.declared.stream.Source.{Ghosts as SourceGhosts}
use Rattle.voe_world.specs.Parts.{Parts}
use Rattle.path_filter.specs.Links.{AreReadable}
use Rattle.node_book.specs.EndMaking.{IsLoaded, IsNotLoaded}
use Rattle.node_book.specs.Ends.{EndView, IsSound}
use Rattle.node_book.specs.declared.fault.BookFault.{BookFault}
use Rattle.node_book.specs.declared.fault.BookFault.TheVariants as book
use Rattle.voevent_online.specs.Lines.{refusal_line, status_of_refusal}
use Rattle.voevent_online.specs.Loading.{AnswersUnloaded, IsPossible, refusal_of_loading}
use Rattle.voevent_online.specs.Outcomes.{Concludes, ack_line, nak_line}
use Rattle.voevent_online.specs.Packets.{IsGiven, IsRefused}
use Rattle.voevent_online.specs.Rounds.{Standing}
use Rattle.voevent_online.specs.Submission.{Becomes}
use Rattle.voevent_online.specs.Submitting.{IsNoAuthor, IsNotLoadedAuthor, IsSaid, IsUntried, LacksMemory, Means, Runs, RunsAndKeeps, SubmitTells, begins, stops}
use Rattle.voevent_online.specs.Telling.{IsUnwritten, Tells}
use Rattle.voevent_online.specs.declared.refusal.Refusal.{Refusal}
use Rattle.voevent_online.specs.declared.refusal.Refusal.TheVariants as refusal
use Rattle.voevent_online.specs.declared.status.Status.{Status}
use Rattle.voevent_online.specs.declared.status.Status.TheVariants as status
use Rattle.voevent_online.specs.declared.submit_lines.Outcome.{Outcome}
use Rattle.voevent_online.specs.declared.submit_lines.Outcome.TheVariants as outcome
use Rattle.voevent_online.proofs.Added.{becomes_adds}
use Rattle.voevent_online.proofs.Later.{LeavesUp, acked_stands, becomes_later, becomes_up, dialer_rose, disk_rose, full_lacks, last_ended, nak_stands}

module _ {So Si D Di Li Sp L : Type 0} (source : SourceGhosts So) (sink : SinkGhosts Si) (disk : DiskGhosts D) (link : LinkGhosts L) (returns : Di → Option (Returns L)) (faults : Di → ℕ) (p q : Parts So Si D Di Li Sp) where
  abbrev World : Type 0
  World = Parts So Si D Di Li Sp

  abbrev Says : Status → Type 0
  Says result = SubmitTells source sink disk link returns faults p q result

  abbrev Meaning : Status → List ℕ → Type 0
  Meaning wanted line = Means source sink disk link returns faults p q wanted line

  abbrev Lacks : Type 0
  Lacks = LacksMemory source sink disk link returns faults p q

  abbrev Ran : Outcome → List ℕ → List ℕ → EndView D → EndView D → Type 0
  Ran became identifier packet before after = Runs source sink disk link returns faults p q became identifier packet before after

  abbrev RanAndKept : Outcome → Type 0
  RanAndKept became = RunsAndKeeps source sink disk link returns faults p q became

  -- ---- a line

  -- a line of this status is written, or cut short, or there was no memory for it
  said : (wanted result : Status) (line : List ℕ) → (IsSaid source sink disk link returns faults p q wanted → Says wanted) → Meaning wanted line → Lacks → Tells sink wanted line result p.sink q.sink → Says result
  said wanted result line whole means lacks told =
      ⊎_elim
      (λ h. subst Says (sym h.0) (whole (record { line = line; means = means; told = h.1 })))
      (λ rest. ⊎_elim
      (λ h. subst Says (sym h.0) (record { wanted = wanted; line = line; means = means; cut_short = h.1 }, (let rose = h.1.faults in omega (arith, rose))))
      (λ h. subst Says (sym h.0) (lacks, h.1))
      rest)
      told

  -- ---- the packet was tried

  unwritten : q.sink ≡ p.sink → IsUnwritten sink p.sink q.sink
  unwritten e = record { written = ap sink.held e; faults = ap sink.fault_count e }

  kept : (became : Outcome) (identifier packet : List ℕ) (before after : EndView D) → LeavesUp disk link returns faults became → Ran became identifier packet before after → RanAndKept became
  kept became identifier packet before after u run =
      let s = begins source sink disk link returns faults p q before in
      let t = stops source sink disk link returns faults p q after in
      let up = becomes_up disk link returns faults identifier packet became s t u run.loaded.loaded.is_up run.becomes in
      let adds = becomes_adds disk link returns faults identifier packet became s t u run.becomes in
      record { identifier = identifier; packet = packet; before = before; after = after; runs = run; added = adds.added; notes_are = adds.notes; own = adds.own; keeps = run.loaded.sound.up up }

  pub run_tells : (became : Outcome) (result : Status) (identifier packet : List ℕ) (before after : EndView D) → Ran became identifier packet before after → Concludes sink identifier became result p.sink q.sink → Says result
  unfolding kept
  run_tells outcome.Acked result identifier packet before after run told =
      let s = begins source sink disk link returns faults p q before in
      let t = stops source sink disk link returns faults p q after in
      said status.Done result (ack_line identifier) (λ h. h)
      (record { run = kept outcome.Acked identifier packet before after tt run; stands = acked_stands disk link returns faults identifier packet s t run.becomes; line_is = refl })
      (inr (inr (outcome.Acked, identifier, packet, before, after, run))) told
  run_tells (outcome.Nak why) result identifier packet before after run told =
      let s = begins source sink disk link returns faults p q before in
      let t = stops source sink disk link returns faults p q after in
      said status.Refused result (nak_line why) (λ h. h)
      (inr (inr (record { why = why; run = kept (outcome.Nak why) identifier packet before after tt run; stands = nak_stands disk link returns faults identifier packet why s t run.becomes; line_is = refl })))
      (inr (inr (outcome.Nak why, identifier, packet, before, after, run))) told
  run_tells outcome.Conflict result identifier packet before after run told =
      said status.Refused result (refusal_line refusal.Conflict) (λ h. h)
      (inr (inl (record { run = kept outcome.Conflict identifier packet before after tt run; line_is = refl })))
      (inr (inr (outcome.Conflict, identifier, packet, before, after, run))) told
  run_tells outcome.NoLine result identifier packet before after run told =
      said status.JournalRefused result (refusal_line (refusal.BadNote 16)) (λ h. h)
      (inr (record { run = kept outcome.NoLine identifier packet before after tt run; line_is = refl }))
      (inr (inr (outcome.NoLine, identifier, packet, before, after, run))) told
  run_tells outcome.Full result identifier packet before after run told =
      let s = begins source sink disk link returns faults p q before in
      let t = stops source sink disk link returns faults p q after in
      subst Says (sym told.0) (record { run = kept outcome.Full identifier packet before after tt run; lacks = full_lacks disk link returns faults identifier packet s t run.becomes }, told.1)
  run_tells outcome.DiskFault result identifier packet before after run told =
      let s = begins source sink disk link returns faults p q before in
      let t = stops source sink disk link returns faults p q after in
      let loaded = run.loaded in
      let unarmed = loaded.loaded.same_disk.unarmed loaded.unarmed in
      let rose = disk_rose disk link returns faults identifier packet s t unarmed run.becomes in
      subst Says (sym told.0) (
        record {
          identifier = identifier;
          packet = packet;
          given = run.given;
          unloaded_or_run = inr (before, after, run);
          rose = record {
            taken = loaded.taken;
            back = after.disk;
            taken_is = loaded.taken_is;
            back_is = loaded.back_is;
            rose = subst (λ (n : ℕ). RoseAtDisk n (disk.faults after.disk)) loaded.loaded.same_count rose;
          };
        },
        told.1,
      )
  run_tells outcome.NoMemory result identifier packet before after run told =
      subst Says (sym told.0) (inr (inr (outcome.NoMemory, identifier, packet, before, after, run)), unwritten told.1)
  run_tells outcome.LinkFault result identifier packet before after run told =
      let s = begins source sink disk link returns faults p q before in
      let t = stops source sink disk link returns faults p q after in
      subst Says (sym told.0) (kept outcome.LinkFault identifier packet before after tt run, dialer_rose disk link returns faults identifier packet s t run.becomes, told.1)
  run_tells outcome.Ended result identifier packet before after run told =
      let s = begins source sink disk link returns faults p q before in
      let t = stops source sink disk link returns faults p q after in
      let last = last_ended disk link returns faults identifier packet s t run.becomes in
      subst Says (sym told.0) (
        record {
          run = kept outcome.Ended identifier packet before after tt run;
          why = last.why;
          last = last.last;
          submits = last.submits;
          cause = last.cause;
        },
        told.1,
      )

  -- what was done between the reading of the packet, the taking of the disk, the run, its return, and the line
  pub loaded_tells : (became : Outcome) (result : Status) (name identifier packet : List ℕ) → name ≡ identifier → (a m n k : World) (taken : D) (before after : EndView D)
      → a ≡ record p { source = a.source } → m ≡ record a { disk = None } → n ≡ record m { dialer = n.dialer; moment = n.moment } → k ≡ record n { disk = Some after.disk } → q ≡ record k { sink = q.sink }
      → IsGiven source identifier packet p.source a.source
      → a.disk ≡ Some taken → (disk.arming taken).calls ≡ None → before.config.kind ≡ Author → AreReadable before.config.links → IsLoaded disk taken before → IsSound disk after
      → Becomes disk link returns faults name packet became (record { end = before; moment = m.moment; dialer = m.dialer }) (record { end = after; moment = n.moment; dialer = n.dialer })
      → Concludes sink name became result k.sink q.sink → Says result
  loaded_tells became result name identifier packet is_name a m n k taken before after first second third fourth fifth given taken_is unarmed kind readable loaded sound becomes told =
      let am : m ≡ record p { source = a.source; disk = None } = second ∙ ap (λ (x : World). record x { disk = None }) first in
      let an : n ≡ record p { source = a.source; disk = None; dialer = n.dialer; moment = n.moment } = third ∙ ap (λ (x : World). record x { dialer = n.dialer; moment = n.moment }) am in
      let ak : k ≡ record p { source = a.source; disk = Some after.disk; dialer = n.dialer; moment = n.moment } = fourth ∙ ap (λ (x : World). record x { disk = Some after.disk }) an in
      let aq : q ≡ record p { source = a.source; disk = Some after.disk; dialer = n.dialer; moment = n.moment; sink = q.sink } = fifth ∙ ap (λ (x : World). record x { sink = q.sink }) ak in
      let same_source : q.source ≡ a.source = ap (λ (x : World). x.source) aq in
      let from_moment : m.moment ≡ p.moment = ap (λ (x : World). x.moment) am in
      let from_dialer : m.dialer ≡ p.dialer = ap (λ (x : World). x.dialer) am in
      let to_moment : q.moment ≡ n.moment = ap (λ (x : World). x.moment) aq in
      let to_dialer : q.dialer ≡ n.dialer = ap (λ (x : World). x.dialer) aq in
      let same_sink : k.sink ≡ p.sink = ap (λ (x : World). x.sink) ak in
      let back : q.disk ≡ Some after.disk = ap (λ (x : World). x.disk) aq in
      let had : p.disk ≡ Some taken = sym (ap (λ (x : World). x.disk) first) ∙ taken_is in
      let start : record { end = before; moment = m.moment; dialer = m.dialer } ≡ begins source sink disk link returns faults p q before = λ i. record { end = before; moment = from_moment i; dialer = from_dialer i } in
      let stop : record { end = after; moment = n.moment; dialer = n.dialer } ≡ stops source sink disk link returns faults p q after = λ i. record { end = after; moment = sym to_moment i; dialer = sym to_dialer i } in
      let Went : Standing D Di → Standing D Di → Type 0 = λ s t. Becomes disk link returns faults identifier packet became s t in
      let went : Went (begins source sink disk link returns faults p q before) (stops source sink disk link returns faults p q after) =
      subst (λ (t : Standing D Di). Went (begins source sink disk link returns faults p q before) t) stop
      (subst (λ (s : Standing D Di). Went s (record { end = after; moment = n.moment; dialer = n.dialer })) start
      (subst (λ (i : List ℕ). Becomes disk link returns faults i packet became (record { end = before; moment = m.moment; dialer = m.dialer }) (record { end = after; moment = n.moment; dialer = n.dialer })) is_name becomes)) in
      run_tells became result identifier packet before after
      (record {
        given = subst (λ (s : So). IsGiven source identifier packet p.source s) (sym same_source) given;
        loaded = record {
          taken = taken;
          taken_is = had;
          unarmed = unarmed;
          kind = kind;
          readable = readable;
          loaded = loaded;
          back_is = back;
          same = (becomes_later disk link returns faults identifier packet became (begins source sink disk link returns faults p q before) (stops source sink disk link returns faults p q after) went).same;
          sound = sound;
        };
        becomes = went;
      })
      (subst (λ (s : Si). Concludes sink identifier became result s q.sink) same_sink (subst (λ (i : List ℕ). Concludes sink i became result k.sink q.sink) is_name told))

  -- ---- none was loaded

  module _ (result : Status) (identifier packet : List ℕ) (given : IsGiven source identifier packet p.source q.source) where
    bad_journal : (fault : BookFault) (why : Refusal) → refusal_of_loading fault ≡ Some why → status_of_refusal why ≡ status.JournalRefused → IsNotLoadedAuthor source sink disk link returns faults p q fault
        → Tells sink (status_of_refusal why) (refusal_line why) result p.sink q.sink → Says result
    bad_journal fault why shown is unloaded told =
        said status.JournalRefused result (refusal_line why) (λ h. h)
        (inl (record { identifier = identifier; packet = packet; given = given; fault = fault; why = why; shown = shown; unloaded = unloaded; line_is = refl }))
        (inr (inl (fault, unloaded)))
        (subst (λ (s : Status). Tells sink s (refusal_line why) result p.sink q.sink) is told)

    unloaded_so : (fault : BookFault) → IsPossible fault → IsNotLoadedAuthor source sink disk link returns faults p q fault → AnswersUnloaded sink fault result p.sink q.sink → Says result
    unloaded_so book.Unmade may unloaded answer = bad_journal book.Unmade refusal.Unmade refl refl unloaded answer
    unloaded_so (book.NotJournal place) may unloaded answer = bad_journal (book.NotJournal place) (refusal.Foreign place) refl refl unloaded answer
    unloaded_so (book.Damaged place) may unloaded answer = bad_journal (book.Damaged place) (refusal.Damaged place) refl refl unloaded answer
    unloaded_so (book.BadNote place) may unloaded answer = bad_journal (book.BadNote place) (refusal.BadNote place) refl refl unloaded answer
    unloaded_so book.DiskFault may unloaded answer =
        subst Says (sym answer.0) (
          record {
            identifier = identifier;
            packet = packet;
            given = given;
            unloaded_or_run = inl unloaded;
            rose = record { taken = unloaded.taken; back = unloaded.back; taken_is = unloaded.taken_is; back_is = unloaded.back_is; rose = unloaded.unloaded.rose refl };
          },
          answer.1,
        )
    unloaded_so book.NoMemory may unloaded answer = subst Says (sym answer.0) (inr (inl (book.NoMemory, unloaded)), unwritten answer.1)
    unloaded_so book.Full may unloaded answer = absurd may
    unloaded_so book.AlreadyMade may unloaded answer = absurd may
    unloaded_so book.Stopped may unloaded answer = absurd may

  pub unloaded_tells : (result : Status) (identifier packet : List ℕ) (a m n : World) (taken back : D) (fault : BookFault)
      → a ≡ record p { source = a.source } → m ≡ record a { disk = None } → n ≡ record m { disk = Some back } → q ≡ record n { sink = q.sink }
      → IsGiven source identifier packet p.source a.source → a.disk ≡ Some taken → IsPossible fault → IsNotLoaded disk IsNoAuthor taken back fault → AnswersUnloaded sink fault result n.sink q.sink → Says result
  unloaded_tells result identifier packet a m n taken back fault first second third fourth given taken_is may why answer =
      let am : m ≡ record p { source = a.source; disk = None } = second ∙ ap (λ (x : World). record x { disk = None }) first in
      let an : n ≡ record p { source = a.source; disk = Some back } = third ∙ ap (λ (x : World). record x { disk = Some back }) am in
      let aq : q ≡ record p { source = a.source; disk = Some back; sink = q.sink } = fourth ∙ ap (λ (x : World). record x { sink = q.sink }) an in
      unloaded_so result identifier packet
      (subst (λ (s : So). IsGiven source identifier packet p.source s) (sym (ap (λ (x : World). x.source) aq)) given)
      fault may
      (record {
        taken = taken;
        back = back;
        taken_is = sym (ap (λ (x : World). x.disk) first) ∙ taken_is;
        back_is = ap (λ (x : World). x.disk) aq;
        unloaded = why;
        same_moment = ap (λ (x : World). x.moment) aq;
        same_dialer = ap (λ (x : World). x.dialer) aq;
      })
      (subst (λ (s : Si). AnswersUnloaded sink fault result s q.sink) (ap (λ (x : World). x.sink) an) answer)

  -- ---- no good packet was given

  is_three : (why : Refusal) (x y : So) → IsRefused source why x y → status_of_refusal why ≡ status.Refused
  is_three refusal.TooLong x y h = refl
  is_three (refusal.Tree number place) x y h = refl
  is_three (refusal.Validity number) x y h = refl
  is_three refusal.Conflict x y h = refl
  is_three refusal.Usage x y h = absurd h.refuses
  is_three refusal.Unmade x y h = absurd h.refuses
  is_three (refusal.Foreign place) x y h = absurd h.refuses
  is_three (refusal.Damaged place) x y h = absurd h.refuses
  is_three (refusal.BadNote place) x y h = absurd h.refuses

  pub refused_tells : (why : Refusal) (result : Status) (a : World) → a ≡ record p { source = a.source } → q ≡ record a { sink = q.sink }
      → IsRefused source why p.source a.source → Tells sink (status_of_refusal why) (refusal_line why) result a.sink q.sink → Says result
  refused_tells why result a first second refused told =
      let aq : q ≡ record p { source = a.source; sink = q.sink } = second ∙ ap (λ (x : World). record x { sink = q.sink }) first in
      let here = subst (λ (s : So). IsRefused source why p.source s) (sym (ap (λ (x : World). x.source) aq)) refused in
      let untried : IsUntried source sink disk link returns faults p q = record { same_disk = ap (λ (x : World). x.disk) aq; same_moment = ap (λ (x : World). x.moment) aq; same_dialer = ap (λ (x : World). x.dialer) aq } in
      said status.Refused result (refusal_line why) (λ h. h)
      (inl (record { why = why; refused = here; untried = untried; line_is = refl }))
      (inl untried)
      (subst (λ (s : Status). Tells sink s (refusal_line why) result p.sink q.sink) (is_three why p.source a.source refused)
      (subst (λ (s : Si). Tells sink (status_of_refusal why) (refusal_line why) result s q.sink) (ap (λ (x : World). x.sink) first) told))
