-- Which notes a call adds to the journal.
use Rattle.std.proofs.Common.{◌≡◌, ℕ, Bool, true, false, List, [], ◌∷◌, ◌++◌, refl, sym, ap, ◌∙◌, inl, inr, ⊎_elim, append_assoc}
use Rattle.std.proofs.lemmas.List.{append-nil}
use Rattle.std.specs.Prelude.{Option}
use Rattle.voe_disk.specs.declared.disk.Disk.{Ghosts as DiskGhosts}
use Rattle.voe_outside.specs.Returns.{Returns}
use Rattle.voe_outside.specs.declared.link.Link.{Ghosts as LinkGhosts}
use Rattle.net_model.specs.declared.note.Note.{Note}
use Rattle.net_model.specs.declared.note.Note.TheVariants.{Wrote}
use Rattle.node_book.specs.Ends.{EndView}
use Rattle.vtp_server.specs.NodeState.{NodeState}
use Rattle.vtp_server.specs.OneEnd.{state_of}
use Rattle.vtp_server.specs.Submission.{IsRecorded, LeavesLine}
use Rattle.vtp_server.specs.declared.ended.Ended.{Ended}
use Rattle.vtp_server.specs.declared.ended.Ended.TheVariants as ended
use Rattle.voevent_online.specs.Held.{IsHeld, IsWritten, WasKnown}
use Rattle.voevent_online.specs.Rounds.{Closes, Rounds, Standing, outcome_of_ended}
use Rattle.voevent_online.specs.Submission.{AreOwnNotes, Becomes, Settles, StaysOut}
use Rattle.voevent_online.specs.declared.submit_lines.Outcome.{Outcome}
use Rattle.voevent_online.specs.declared.submit_lines.Outcome.TheVariants as outcome
use Rattle.voevent_online.proofs.Later.{LeavesUp}

module _ {D Di L : Type 0} (disk : DiskGhosts D) (link : LinkGhosts L) (returns : Di → Option (Returns L)) (faults : Di → ℕ) (identifier packet : List ℕ) where
  abbrev Stand : Type 0
  Stand = Standing D Di

  abbrev Own : List Note → Type 0
  Own notes = AreOwnNotes identifier packet notes

  own_append : (ns ms : List Note) → Own ns → Own ms → Own (ns ++ ms)
  own_append [] ms h k = k
  own_append (n ∷ ns) ms h k = (h.0, own_append ns ms h.1 k)

  -- these notes were added, each of them the call's own
  pub record Adds (old new : List Note) : Type 0 where
    pub added : List Note
    pub notes : new ≡ old ++ added
    pub own : Own added

  adds_none : (old new : List Note) → new ≡ old → Adds old new
  adds_none old new e = record { added = []; notes = e ∙ sym (append-nil old); own = tt }

  adds_on : (old mid new : List Note) → Adds old mid → Adds mid new → Adds old new
  adds_on old mid new h k = record {
    added = h.added ++ k.added;
    notes = k.notes ∙ (ap (λ (notes : List Note). notes ++ k.added) h.notes ∙ append_assoc old h.added k.added);
    own = own_append h.added k.added h.own k.own;
  }

  adds_answer : (s t : Stand) (ack : Bool) (own : List ℕ) → IsRecorded 0 (state_of disk s.end) ack own (state_of disk t.end) → Adds s.end.notes t.end.notes
  adds_answer s t ack own r = record { added = _; notes = ap (λ (x : NodeState). x.notes) r.after; own = (inr (ack, own, refl), tt) }

  same_state : (s t : Stand) → state_of disk t.end ≡ state_of disk s.end → Adds s.end.notes t.end.notes
  same_state s t e = adds_none s.end.notes t.end.notes (ap (λ (x : NodeState). x.notes) e)

  rounds_add : (answers : List (Bool × List ℕ)) (s t : Stand) → Rounds disk link returns faults identifier answers s t → Adds s.end.notes t.end.notes
  rounds_add [] s t e = adds_none s.end.notes t.end.notes (ap (λ (x : Stand). x.end.notes) e)
  rounds_add (answer ∷ answers) s t h = adds_on s.end.notes h.0.end.notes t.end.notes (adds_answer s h.0 answer.0 answer.1 h.2.recorded) (rounds_add answers h.0 t h.3)

  ended_adds : (why : Ended) (s t : Stand) → outcome_of_ended why ≡ outcome.Ended → LeavesLine 0 (state_of disk s.end) why (state_of disk t.end) → Adds s.end.notes t.end.notes
  ended_adds ended.PeerClosed s t e h = same_state s t h.same
  ended_adds (ended.Garbage place why) s t e h = same_state s t h.same
  ended_adds (ended.Silent heard now) s t e h = same_state s t h.same
  ended_adds ended.LinkFault s t e h = absurd (cc)
  ended_adds (ended.HubDown count) s t e h = absurd (cc)
  ended_adds ended.NoMemory s t e h = absurd (cc)
  ended_adds ended.Counted s t e h = absurd h
  ended_adds (ended.Replaced newer) s t e h = absurd h
  ended_adds ended.SinkFault s t e h = absurd h

  closes_adds : (became : Outcome) (s t : Stand) → LeavesUp disk link returns faults became → Closes disk link returns faults identifier became s t → Adds s.end.notes t.end.notes
  closes_adds outcome.Acked s t u h = adds_answer s t true identifier h.becomes
  closes_adds (outcome.Nak why) s t u h = adds_answer s t false identifier h.1
  closes_adds outcome.Full s t u h = same_state s t h.becomes.same
  closes_adds outcome.LinkFault s t u h = ⊎_elim (λ n. adds_none s.end.notes t.end.notes (ap (λ (x : EndView D). x.notes) n.same_end)) (λ k. same_state s t k.becomes.same) h
  closes_adds outcome.Ended s t u h = ended_adds h.0 s t h.1 h.2.becomes
  closes_adds outcome.DiskFault s t u h = absurd u
  closes_adds outcome.NoMemory s t u h = absurd u
  closes_adds outcome.Conflict s t u h = absurd h
  closes_adds outcome.NoLine s t u h = absurd h

  settles_adds : (became : Outcome) (s t : Stand) → LeavesUp disk link returns faults became → Settles disk link returns faults identifier became s t → Adds s.end.notes t.end.notes
  settles_adds became s t u h =
      ⊎_elim
      (λ stands. adds_none s.end.notes t.end.notes (ap (λ (x : Stand). x.end.notes) stands.1))
      (λ ends. adds_on s.end.notes ends.last.end.notes t.end.notes (rounds_add ends.answers s ends.last ends.rounds) (closes_adds became ends.last t u ends.closes))
      h

  held_adds : (old new : EndView D) → IsHeld disk identifier packet old new → Adds old.notes new.notes
  held_adds old new h =
      ⊎_elim
      (λ (was : WasKnown disk identifier old new). adds_none old.notes new.notes was.notes)
      (λ (written : IsWritten disk identifier packet old new). record { added = Wrote identifier packet ∷ []; notes = written.notes; own = (inl refl, tt) })
      h.either

  stays_adds : (became : Outcome) (s t : Stand) → LeavesUp disk link returns faults became → StaysOut disk link returns faults identifier packet became s t → Adds s.end.notes t.end.notes
  stays_adds outcome.NoLine s t u h = adds_none s.end.notes t.end.notes (ap (λ (x : Stand). x.end.notes) h.1)
  stays_adds outcome.Conflict s t u h = adds_none s.end.notes t.end.notes (ap (λ (x : Stand). x.end.notes) h.1)
  stays_adds outcome.Full s t u h = adds_none s.end.notes t.end.notes h.0.notes
  stays_adds outcome.DiskFault s t u h = absurd u
  stays_adds outcome.NoMemory s t u h = absurd u
  stays_adds outcome.Acked s t u h = absurd h
  stays_adds (outcome.Nak why) s t u h = absurd h
  stays_adds outcome.LinkFault s t u h = absurd h
  stays_adds outcome.Ended s t u h = absurd h

  pub becomes_adds : (became : Outcome) (s t : Stand) → LeavesUp disk link returns faults became → Becomes disk link returns faults identifier packet became s t → Adds s.end.notes t.end.notes
  becomes_adds became s t u h =
      ⊎_elim
      (λ out. stays_adds became s t u out)
      (λ came. adds_on s.end.notes came.begun.end.notes t.end.notes (held_adds s.end came.begun.end came.held) (settles_adds became came.begun t u came.settles))
      h
