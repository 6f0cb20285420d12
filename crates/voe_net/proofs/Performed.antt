-- What the network is told of an end's work.
use Rattle.std.proofs.Common.{◌≡◌, ◌⊎◌, inl, inr, ℕ, ◌<◌, ◌≤◌, Bool, true, false, List, ◌++◌, Option, Some, None, Ok, Err, length, refl, sym, ap, subst, ◌∙◌, arith}
use Rattle.voe_disk.specs.Disk.{Rose}
use Rattle.voe_disk.specs.declared.disk.Disk.{Ghosts}
use Rattle.voe_disk.specs.declared.fail.DiskFail.{DiskFail}
use Rattle.gate_journal.specs.Device.{IsSameDisk}
use Rattle.net_model.proofs.Members.{IsIn-append}
use Rattle.voe_values.specs.declared.kind.NodeKind.TheVariants.{Subscriber}
use Rattle.net_model.specs.Rules.{NodeRules}
use Rattle.net_model.specs.declared.note.Note.{Note}
use Rattle.net_model.specs.declared.state.Verdict.{Verdict}
use Rattle.node_notes.specs.Forms.{is_config}
use Rattle.node_notes.specs.declared.config.Config.{Config}
use Rattle.path_filter.specs.Links.{AreReadable}
use Rattle.node_book.specs.Ends.{EndView}
use Rattle.node_book.specs.EndSteps.{HasAnswered, HasFallen}
use Rattle.net_machine.specs.Ends as net
use Rattle.net_machine.specs.Ends.{noting, note_packet}
use Rattle.net_machine.specs.Works.{IsAbout, OnlyBrings, is_step, work_added, work_answer, worked}
use Rattle.net_machine.specs.declared.fault.EndFault.{EndFault}
use Rattle.net_machine.specs.declared.fault.EndFault.TheVariants as fault
use Rattle.net_machine.specs.declared.work.Work.{Work}
use Rattle.voe_net.specs.Kept.{HasKind, HasSessions, IsConfigured, IsKeptNode, end_of}
use Rattle.voe_net.specs.Nodes.{AreDistinct, names_of, show, show_up}
use Rattle.voe_net.specs.Performed.{HasPerformed}
use Rattle.voe_net.specs.Right.{IsRight}
use Rattle.voe_net.specs.Told.{told_as}
use Rattle.voe_net.specs.Worked.{AllBring, HasWorked, outcome_of}
use Rattle.voe_net.specs.declared.kept.Kept.{Kept}
use Rattle.voe_net.specs.declared.working.Worked.{Worked}
use Rattle.voe_net.specs.declared.working.Worked.TheVariants.{Answered, Fallen, NoMemory}

-- ---- nodes

configured : {D : Type 0} (disk : Ghosts D) (old new : EndView D) → new.config ≡ old.config → IsConfigured disk old → IsConfigured disk new
configured disk old new same is = record {
  form = ap is_config same ∙ is.form;
  filters = (let P : Config → Type 0 = λ config. AreReadable config.links in subst P (sym same) is.filters);
  names = (let P : Config → Type 0 = λ config. AreDistinct (names_of config.links) in subst P (sym same) is.names);
}

module _ {D : Type 0} (disk : Ghosts D) where
  -- a node stays one where its configuration stays and it was up
  pub still_node : (old new : Kept D) → IsKeptNode disk old → (end_of old).down ≡ None → HasKind new → HasSessions new → (end_of new).config ≡ (end_of old).config
      → IsSameDisk disk (end_of old).disk (end_of new).disk → IsKeptNode disk new
  still_node old new node up kind sessions same same_disk = record {
    kind = kind;
    sessions = sessions;
    configured = λ still. configured disk (end_of old) (end_of new) same (node.configured up);
    unarmed = same_disk.unarmed node.unarmed;
  }

  -- the end was up and has worked, or nothing has changed
  abbrev pub HasDone : Work → Kept D → Kept D → Worked → Type 0
  HasDone work old new result = (((end_of old).down ≡ None) × HasWorked disk work (end_of old) (end_of new) result) ⊎ ((result ≡ NoMemory) × (new ≡ old))

  pub has_done : (work : Work) (old new : Kept D) (result : Worked) → ((end_of old).down ≡ None → HasWorked disk work (end_of old) (end_of new) result)
      → ((fail : DiskFail) → (end_of old).down ≡ Some fail → (result ≡ NoMemory) × (new ≡ old)) → HasDone work old new result
  has_done work old new result was_up was_down = by (end_of old).down refl
    where
      by : (down : Option DiskFail) → (end_of old).down ≡ down → HasDone work old new result
      by None is = inl (is, was_up is)
      by (Some fail) is = inr (was_down fail is)

  -- it is still a node
  pub node_after : (work : Work) (old new : Kept D) (result : Worked) → IsKeptNode disk old → HasKind new → (HasSessions old → HasSessions new) → HasDone work old new result → IsKeptNode disk new
  node_after work old new result node kind sessions (inl done) = still_node old new node done.0 kind (sessions node.sessions) done.1.config_is done.1.same_disk
  node_after work old new result node kind sessions (inr done) = subst (λ (k : Kept D). IsKeptNode disk k) (sym done.1) node

  -- ---- what is shown

  shown : (end : EndView D) → end.down ≡ None → show (Some end) ≡ show_up end None
  shown end up = ap (λ (d : Option DiskFail). show_up end d) up

  -- the end shows more records
  shown_more : (old new : EndView D) (added : List Note) → new.down ≡ None → new.config ≡ old.config → new.notes ≡ old.notes ++ added → new.sessions ≡ old.sessions
      → show (Some new) ≡ noting (show_up old None) added
  shown_more old new added up config_is notes_are sessions_are =
      shown new up
      ∙ ap (λ (config : Config). view config new.notes new.sessions) config_is
      ∙ ap (λ (notes : List Note). view old.config notes new.sessions) notes_are
      ∙ ap (λ (sessions : List ℕ). view old.config (old.notes ++ added) sessions) sessions_are
    where
      view : Config → List Note → List ℕ → net.EndView
      view config notes sessions = record { config = config; notes = notes; sessions = sessions }

  only_brings : (work : Work) (view : net.EndView) (added : List Note) → AllBring work added → OnlyBrings work view (noting view added)
  only_brings work view added all = record {
    same = refl;
    only = λ note is. elim (IsIn-append note view.notes added is) [ inl before ↦ inl before | inr new ↦ inr (all note new) ];
  }

  -- the end has answered
  answered_up : (work : Work) (old new : EndView D) (answer : Option Verdict) → old.down ≡ None → HasWorked disk work old new (Answered answer) → HasPerformed disk work (Some old) (Some new) (Ok answer)
  answered_up work old new answer up has =
      let P : net.EndView → Type 0 = λ v. (rules : NodeRules) (packets : List (List ℕ)) → IsAbout work packets → IsRight v.config packets rules
      → (show (Some new) ≡ worked rules v work) × (answer ≡ work_answer rules v work) in
      let Q : net.EndView → Type 0 = λ v. OnlyBrings work v (show (Some new)) in
      let S : net.EndView → Type 0 = λ v. is_step v.config.kind work ≡ true → Rose old.steps new.steps in
      let back = sym (shown old up) in
      record {
        value = subst P back (λ rules packets about right.
            let h : HasAnswered disk old new (outcome_of rules old work) answer = has.happens rules packets about right in
            (shown_more old new (work_added rules (show_up old None) work) h.still_up has.config_is h.notes_are has.sessions_are, h.answer_is));
        only = subst Q back
            (let h : HasAnswered disk old new (record { added = has.brings.0; answer = answer }) answer = has.brings.2 in
            subst (λ (v : net.EndView). OnlyBrings work (show_up old None) v) (sym (shown_more old new has.brings.0 h.still_up has.config_is h.notes_are has.sessions_are))
            (only_brings work (show_up old None) has.brings.0 has.brings.1));
        answers = has.answers answer refl;
        steps = subst S back (has.steps answer refl);
        told = λ tells fill. (has.same_disk.tells_exact fill).1 (tells fill);
        faults = record { later = has.same_disk.faults; fault = tt };
      }

  -- the disk has failed, or there was no memory
  not_performed : (work : Work) (old new : EndView D) (why : EndFault) → disk.faults old.disk ≤ disk.faults new.disk → (why ≡ fault.Disk → Rose (disk.faults old.disk) (disk.faults new.disk))
      → HasPerformed disk work (Some old) (Some new) (Err why)
  not_performed work old new why later rose = record { value = tt; only = tt; answers = tt; steps = tt; told = tt; faults = record { later = later; fault = rose } }

  fallen_rose : (old new : EndView D) (added : List Note) (stopped : Bool) (answer : Option Verdict) → (disk.arming old.disk).calls ≡ None → HasFallen disk old new (record { added = added; answer = answer }) (disk.faults new.disk) stopped
      → Rose (disk.faults old.disk) (disk.faults new.disk)
  fallen_rose old new added false answer unarmed h = h.cause
  fallen_rose old new added true answer unarmed h = absurd (let armed = h.cause.2 in let bad = sym unarmed ∙ armed in cc)

  pub performed : (work : Work) (old new : Kept D) (result : Worked) → IsKeptNode disk old → HasDone work old new result → HasPerformed disk work (Some (end_of old)) (Some (end_of new)) (told_as result)
  performed work old new (Answered answer) node (inl done) = answered_up work (end_of old) (end_of new) answer done.0 done.1
  performed work old new (Fallen stopped) node (inl done) =
      not_performed work (end_of old) (end_of new) fault.Disk done.1.same_disk.faults (λ same. fallen_rose (end_of old) (end_of new) done.1.brings.0 stopped None node.unarmed done.1.brings.2)
  performed work old new NoMemory node (inl done) = not_performed work (end_of old) (end_of new) fault.NoMemory done.1.same_disk.faults (λ same. absurd (cc))
  performed work old new (Answered answer) node (inr done) = absurd (let bad = done.0 in cc)
  performed work old new (Fallen stopped) node (inr done) = absurd (let bad = done.0 in cc)
  performed work old new NoMemory node (inr done) =
      let same : disk.faults (end_of new).disk ≡ disk.faults (end_of old).disk = ap (λ (k : Kept D). disk.faults (end_of k).disk) done.1 in
      not_performed work (end_of old) (end_of new) fault.NoMemory (omega (arith, same)) (λ is. absurd (cc))

-- ---- an end over which something is sent is up

-- the line or link is the end's
pub record IsUpOver {D : Type 0} (end : EndView D) (number : ℕ) : Type 0 where
  pub up : end.down ≡ None
  pub within : number < length end.config.links

up_by : {D : Type 0} (end : EndView D) (down : Option DiskFail) → ((show_up end down).config.kind ≡ Subscriber → ⊥) → down ≡ None
up_by end None not_subscriber = refl
up_by end (Some fail) not_subscriber = absurd (not_subscriber refl)

pub up_over : {D : Type 0} (end : EndView D) (number : ℕ) → ((show (Some end)).config.kind ≡ Subscriber → ⊥) → number < length (show (Some end)).config.links → IsUpOver end number
up_over end number not_subscriber low =
    let up = up_by end end.down not_subscriber in
    record { up = up; within = (let P : Option DiskFail → Type 0 = λ d. number < length (show_up end d).config.links in subst P up low) }
