-- What each status says of the counts, whichever command answers it.
use Rattle.std.proofs.Common.{◌≡◌, ℕ, List, Some, refl, sym, ap, subst, inl, inr, ⊎_elim, arith}
use Rattle.std.specs.Prelude.{Option}
use Rattle.clap.specs.Walk.{Text}
use Rattle.online_words.specs.declared.request.Request.{Request}
use Rattle.online_words.specs.declared.request.Request.TheVariants.{Submit, Listen, Serve}
use Rattle.voe_disk.specs.declared.disk.Disk.{Ghosts as DiskGhosts}
use Rattle.voe_outside.specs.Returns.{Returns}
use Rattle.voe_outside.specs.declared.link.Link.{Ghosts as LinkGhosts}
use Rattle.voe_outside.specs.declared.stream.Sink.{Ghosts as SinkGhosts}
use Rattle.voe_outside.specs.declared.stream.Source.{Ghosts as SourceGhosts}
use Rattle.voe_world.specs.Parts.{Parts}
use Rattle.node_book.specs.EndMaking.{IsNotLoaded}
use Rattle.node_book.specs.declared.fault.BookFault.{BookFault}
use Rattle.node_book.specs.declared.fault.BookFault.TheVariants as book
use Rattle.broker_run.specs.declared.outcome.BrokerRun.{BrokerRun}
use Rattle.broker_run.specs.declared.outcome.BrokerRun.TheVariants as run
use Rattle.broker_run.specs.declared.outcome.Dialing.{Dialing}
use Rattle.voevent_online.specs.Listening.{ListenTells}
use Rattle.voevent_online.specs.Loading.{AnswersUnloaded}
use Rattle.voevent_online.specs.Online.{HasCause, OnlineTells, Performs}
use Rattle.voevent_online.specs.Serving.{AnswersRun, IsNoBrokers, RunCause, ServeTells, served_line}
use Rattle.voevent_online.specs.Submitting.{SubmitTells}
use Rattle.voevent_online.specs.Telling.{Tells}
use Rattle.voevent_online.specs.declared.status.Status.{Status}
use Rattle.voevent_online.specs.declared.status.Status.TheVariants as status

module _ {So Si D Di Li Sp La Ld : Type 0} (source : SourceGhosts So) (sink : SinkGhosts Si) (disk : DiskGhosts D) (line : LinkGhosts Ld) (returns : Di → Option (Returns Ld)) (dial_faults : Di → ℕ) (guest : LinkGhosts La) (guests_of : Li → Option (Returns La)) (accepts_of : Li → ℕ) (spawn_faults begun_of : Sp → ℕ) (p q : Parts So Si D Di Li Sp) (words : List Text) where
  abbrev Cause : Status → Type 0
  Cause answer = HasCause source sink disk line returns dial_faults guest guests_of accepts_of spawn_faults begun_of p q words answer

  told_cause : (wanted answer : Status) (bytes : List ℕ) → Cause wanted → Tells sink wanted bytes answer p.sink q.sink → Cause answer
  told_cause wanted answer bytes cause told =
      ⊎_elim
      (λ whole. subst (λ (a : Status). Cause a) (sym whole.0) cause)
      (λ less. ⊎_elim
      (λ cut. subst (λ (a : Status). Cause a) (sym cut.0) (let n = cut.1.faults in omega (arith, n)))
      (λ none. subst (λ (a : Status). Cause a) (sym none.0) tt)
      less)
      told

  run_cause : (sessions upstream : ℕ) (dialing : Dialing) (ended : BrokerRun) (answer : Status) → RunCause dial_faults spawn_faults begun_of returns line guests_of accepts_of guest sessions upstream dialing p q ended → AnswersRun sink ended answer p.sink q.sink → Cause answer
  run_cause sessions upstream dialing (run.Served n) answer cause told = told_cause status.Done answer (served_line n) tt told
  run_cause sessions upstream dialing run.ListenFault answer cause told = subst (λ (a : Status). Cause a) (sym told.0) (inr cause)
  run_cause sessions upstream dialing run.DialFault answer cause told = subst (λ (a : Status). Cause a) (sym told.0) (inl cause.1)
  run_cause sessions upstream dialing run.SpawnFault answer cause told = subst (λ (a : Status). Cause a) (sym told.0) cause
  run_cause sessions upstream dialing run.NoMemory answer cause told = subst (λ (a : Status). Cause a) (sym told.0) tt

  away_cause : (own back : D) (fault : BookFault) (answer : Status) → p.disk ≡ Some own → q.disk ≡ Some back → IsNotLoaded disk IsNoBrokers own back fault → AnswersUnloaded sink fault answer p.sink q.sink → Cause answer
  away_cause own back book.Unmade answer own_is back_is refused told = told_cause status.JournalRefused answer _ tt told
  away_cause own back (book.NotJournal place) answer own_is back_is refused told = told_cause status.JournalRefused answer _ tt told
  away_cause own back (book.Damaged place) answer own_is back_is refused told = told_cause status.JournalRefused answer _ tt told
  away_cause own back (book.BadNote place) answer own_is back_is refused told = told_cause status.JournalRefused answer _ tt told
  away_cause own back book.Full answer own_is back_is refused told = subst (λ (a : Status). Cause a) (sym told.0) tt
  away_cause own back book.AlreadyMade answer own_is back_is refused told = subst (λ (a : Status). Cause a) (sym told.0) tt
  away_cause own back book.Stopped answer own_is back_is refused told = subst (λ (a : Status). Cause a) (sym told.0) tt
  away_cause own back book.NoMemory answer own_is back_is refused told = subst (λ (a : Status). Cause a) (sym told.0) tt
  away_cause own back book.DiskFault answer own_is back_is refused told = subst (λ (a : Status). Cause a) (sym told.0) (record {
    taken = own;
    back = back;
    taken_is = own_is;
    back_is = back_is;
    rose = refused.rose refl;
  })

  serve_cause : (sessions upstream : ℕ) (dialing : Dialing) (answer : Status) → ServeTells sink disk dial_faults spawn_faults begun_of returns line guests_of accepts_of guest sessions upstream dialing p q answer → Cause answer
  serve_cause sessions upstream dialing answer tells =
      ⊎_elim
      (λ run_so. run_cause sessions upstream dialing run_so.ended answer run_so.cause run_so.told)
      (λ away. away_cause tells.0 away.back away.fault answer tells.1 (ap (λ (x : Parts So Si D Di Li Sp). x.disk) away.parts) away.refused away.told)
      tells.2

  listen_cause : (count : ℕ) (answer : Status) → ListenTells disk sink line returns dial_faults p q count answer → Cause answer
  listen_cause count status.Done tells = tt
  listen_cause count status.Usage tells = absurd tells
  listen_cause count status.Refused tells = tt
  listen_cause count status.ReadFault tells = absurd tells
  listen_cause count status.WriteFault tells = tells.1
  listen_cause count status.DiskFault tells = tells.1
  listen_cause count status.NoMemory tells = tt
  listen_cause count status.JournalRefused tells = tt
  listen_cause count status.Full tells = tt
  listen_cause count status.LinkFault tells = inl tells.1
  listen_cause count status.Ended tells = tt
  listen_cause count status.SpawnFault tells = absurd tells

  submit_cause : (answer : Status) → SubmitTells source sink disk line returns dial_faults p q answer → Cause answer
  submit_cause status.Done tells = tt
  submit_cause status.Usage tells = absurd tells
  submit_cause status.Refused tells = tt
  submit_cause status.ReadFault tells = let n = tells.0.faults in omega (arith, n)
  submit_cause status.WriteFault tells = tells.1
  submit_cause status.DiskFault tells = let d = tells.0.rose in record { taken = d.taken; back = d.back; taken_is = d.taken_is; back_is = d.back_is; rose = d.rose }
  submit_cause status.NoMemory tells = tt
  submit_cause status.JournalRefused tells = tt
  submit_cause status.Full tells = tt
  submit_cause status.LinkFault tells = inl tells.1
  submit_cause status.Ended tells = tt
  submit_cause status.SpawnFault tells = absurd tells

  performed_cause : (request : Request) (answer : Status) → Performs source sink disk line returns dial_faults guest guests_of accepts_of spawn_faults begun_of p q request answer → Cause answer
  performed_cause (Submit address) answer done = submit_cause answer done.tells
  performed_cause (Listen address count) answer done = listen_cause count answer done.tells
  performed_cause (Serve redial authors subscribers sessions upstream) answer done = serve_cause sessions _ _ answer done

  -- whatever the words ask for, or where they ask for nothing
  pub online_cause : (answer : Status) → OnlineTells source sink disk line returns dial_faults guest guests_of accepts_of spawn_faults begun_of p q words answer → Cause answer
  online_cause answer tells =
      ⊎_elim
      (λ done. performed_cause done.request answer done.done)
      (λ other. ⊎_elim
      (λ faulty. told_cause status.Usage answer _ faulty.nothing faulty.told)
      (λ unheard. subst (λ (a : Status). Cause a) (sym unheard.answer_is) tt)
      other)
      tells
