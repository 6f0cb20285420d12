-- A node from before a stop until behind the crash.
use Rattle.std.proofs.Common.{◌≡◌, ◌⊎◌, inl, inr, ℕ, ◌+◌, ◌≤◌, true, false, List, ◌++◌, Some, None, Result, Ok, Err, refl, sym, ◌∙◌, ap, subst, arith}
use Rattle.std.specs.Prelude.{Option, IsSome, IfErr, min, ◌^◌, ◌-◌}
use Rattle.voe_disk.specs.Disk.{Arming}
use Rattle.voe_disk.specs.Runs.{Moments}
use Rattle.voe_disk.specs.declared.disk.Disk.{Ghosts}
use Rattle.voe_disk.specs.declared.fail.DiskFail.{DiskFail}
use Rattle.voe_values.specs.declared.kind.NodeKind.{NodeKind}
use Rattle.net_model.specs.Rules.{NodeRules}
use Rattle.net_model.specs.Steps.{Outcome}
use Rattle.net_model.specs.declared.note.Note.{Note}
use Rattle.node_notes.specs.declared.config.Config.{Config}
use Rattle.node_book.specs.Ends.{EndView, IsSound}
use Rattle.node_book.specs.EndSteps.{Happens, KeepsEither}
use Rattle.net_machine.specs.Counts.{HasCause, Rose}
use Rattle.net_machine.specs.Works.{IsAbout, work_added}
use Rattle.net_machine.specs.Ends as net
use Rattle.net_machine.specs.declared.fault.EndFault.{EndFault}
use Rattle.net_machine.specs.declared.fault.EndFault.TheVariants.{Disk}
use Rattle.net_machine.specs.declared.work.Work.{Work}
use Rattle.voe_net.specs.Crashes.{IsLoadedAgain, KeepsNode, LeavesItself}
use Rattle.voe_net.specs.Kept.{IsConfigured, IsKeptNode, end_of}
use Rattle.voe_net.specs.Right.{IsRight}
use Rattle.voe_net.specs.Stopping.{HasCauseAfter, IsArmedNode, IsStopped, IsWhole}
use Rattle.voe_net.specs.Worked.{HasWorked, answer_of, fate_of, kind_of}
use Rattle.voe_net.specs.declared.kept.Kept.{Kept}
use Rattle.voe_net.specs.declared.working.Worked.{Worked}
use Rattle.voe_net.specs.declared.working.Worked.TheVariants.{Answered, Fallen, NoMemory}
use Rattle.voe_net.proofs.AfterStop.{is_stopped}
use Rattle.voe_net.proofs.Crashed.{kind_known}
use Rattle.voe_net.proofs.Stopped.{HasRun, answered_ran, fallen_ran}
use Rattle.voe_net.proofs.Views.{forgotten, view_is, view_of}

-- a count that rose early or late has risen
rose_late : (most before middle now : ℕ) → before ≤ middle → min (middle + 1) most ≤ now → min (before + 1) most ≤ now
rose_late most before middle now one two = omega (arith, one, two)

rose_early : (most before middle now : ℕ) → min (before + 1) most ≤ middle → middle ≤ now → min (before + 1) most ≤ now
rose_early most before middle now one two = omega (arith, one, two)

-- an end that was whole behind its work was up
still_up : {D : Type 0} (armed after : Kept D) (result : Worked) (down : Option DiskFail) → (end_of armed).down ≡ down
    → ((fail : DiskFail) → (end_of armed).down ≡ Some fail → (result ≡ NoMemory) × (after ≡ armed)) → IsWhole result → down ≡ None
still_up armed after result None is was_down whole = refl
still_up armed after result (Some fail) is was_down whole = absurd (subst IsWhole (was_down fail is).0 whole)

module _ {D : Type 0} (disk : Ghosts D) (moments : Moments disk) (exact_counts : (state : D) (fill : ℕ) (image : List ℕ) → disk.crash_image state fill ≡ Some image → disk.may_leave state image)
    (calls fill : ℕ) (armed after : EndView D) (arming : disk.arming armed.disk ≡ record { calls = Some calls; fill = fill }) (same : after.config ≡ armed.config) (sound : IsSound disk after) where
  -- what was to be recorded was run
  ran_by : {A : Type 0} (result : Worked) (outcome : Outcome A) (answer : A) (faults : ℕ) → IsWhole result → Happens disk armed after outcome answer (fate_of faults result)
      → HasRun disk calls fill armed.config armed.notes outcome.added after.disk
  ran_by (Answered verdict) outcome answer faults whole h = answered_ran disk moments exact_counts calls fill armed after arming same outcome answer sound h
  ran_by (Fallen true) outcome answer faults whole h = fallen_ran disk moments exact_counts calls fill armed after arming same outcome faults h
  ran_by (Fallen false) outcome answer faults whole h = absurd (cc)
  ran_by NoMemory outcome answer faults whole h = absurd whole

keeps_either : {D : Type 0} (disk : Ghosts D) (kind : NodeKind) (image : List ℕ) (end : EndView D) (added : List Note) → end.config.kind ≡ kind → IsConfigured disk end
    → KeepsEither end.config end.notes added image → KeepsNode kind image
keeps_either disk kind image end added is good (inl before) =
    record { config = end.config; notes = end.notes; keeps = before; kind_is = is; form = good.form; filters = good.filters; names = good.names }
keeps_either disk kind image end added is good (inr later) =
    record { config = end.config; notes = end.notes ++ added; keeps = later; kind_is = is; form = good.form; filters = good.filters; names = good.names }

module _ {D : Type 0} (disk : Ghosts D) (moments : Moments disk) (exact_counts : (state : D) (fill : ℕ) (image : List ℕ) → disk.crash_image state fill ≡ Some image → disk.may_leave state image)
    (calls fill : ℕ) (work : Work) (old armed after : Kept D) (is : IsKeptNode disk old) (a : IsArmedNode disk old armed calls fill) (result : Worked) (same_kind : kind_of after ≡ kind_of armed)
    (was_up : (end_of armed).down ≡ None → HasWorked disk work (end_of armed) (end_of after) result)
    (was_down : (fail : DiskFail) → (end_of armed).down ≡ Some fail → (result ≡ NoMemory) × (after ≡ armed)) where
  module _ (whole : IsWhole result) where
    armed_up : (end_of armed).down ≡ None
    armed_up = still_up armed after result (end_of armed).down refl was_down whole

    old_up : (end_of old).down ≡ None
    old_up = sym a.down_is ∙ armed_up

    worked : HasWorked disk work (end_of armed) (end_of after) result
    worked = was_up armed_up

    run : {A : Type 0} (outcome : Outcome A) (answer : A) → Happens disk (end_of armed) (end_of after) outcome answer (fate_of (disk.faults (end_of after).disk) result)
        → HasRun disk calls fill (end_of old).config (end_of old).notes outcome.added (end_of after).disk
    run outcome answer h =
        let ran = ran_by disk moments exact_counts calls fill (end_of armed) (end_of after) a.arming worked.config_is worked.sound result outcome answer (disk.faults (end_of after).disk) whole h in
        subst (λ (c : Config). HasRun disk calls fill c (end_of old).notes outcome.added (end_of after).disk) a.config_is
        (subst (λ (l : List Note). HasRun disk calls fill (end_of armed).config l outcome.added (end_of after).disk) a.notes_are ran)

    right_run : (rules : NodeRules) (packets : List (List ℕ)) → IsAbout work packets → IsRight (end_of old).config packets rules
        → HasRun disk calls fill (end_of old).config (end_of old).notes (work_added rules (view_of (end_of old).config (end_of old).notes (end_of old).sessions) work) (end_of after).disk
    right_run rules packets about right =
        let its : IsRight (end_of armed).config packets rules = subst (λ (c : Config). IsRight c packets rules) (sym a.config_is) right in
        let seen = view_is (end_of armed).config (end_of old).config (end_of armed).notes (end_of old).notes (end_of armed).sessions (end_of old).sessions a.config_is a.notes_are a.sessions_are in
        subst (λ (v : net.EndView). HasRun disk calls fill (end_of old).config (end_of old).notes (work_added rules v work) (end_of after).disk) seen
        (run _ _ (worked.happens rules packets about its))

    -- a crash leaves an end of the same kind
    pub leaves_after : LeavesItself disk after
    leaves_after =
        let kind = kind_known old is.kind old_up in
        let known = run _ _ worked.brings.2 in (
          kind.0,
          same_kind ∙ (a.same_kind ∙ kind.1),
          λ image left.
              keeps_either disk kind.0 image (end_of old) worked.brings.0 kind.2 (is.configured old_up) (known.either image left),
        )

    -- and the end that is loaded again is what the model says
    pub stopped_after : (new : EndView D) → IsLoadedAgain disk (end_of after).disk new → IsStopped disk calls fill work (end_of old) new
    stopped_after new loaded =
        let kind = kind_known old is.kind old_up in
        is_stopped disk calls fill work (end_of old) new (end_of after).disk old_up (forgotten old kind.0 kind.1 is.kind is.sessions)
        (worked.same_disk.fill ∙ ap (λ (n : Arming). n.fill) a.arming)
        (λ byte some. (worked.same_disk.tells_exact byte).1 (subst (λ (o : Option (List ℕ)). IsSome o) (sym (a.exact_image byte)) some))
        loaded right_run worked.brings.0 worked.brings.1 (run _ _ worked.brings.2)

  no_less_by : (down : Option DiskFail) → (end_of armed).down ≡ down → disk.faults (end_of armed).disk ≤ disk.faults (end_of after).disk
  no_less_by None up = (was_up up).same_disk.faults
  no_less_by (Some fail) fell =
      let same : disk.faults (end_of after).disk ≡ disk.faults (end_of armed).disk = ap (λ (n : Kept D). disk.faults (end_of n).disk) (was_down fail fell).1 in
      omega (arith, same)

  rose_by : (down : Option DiskFail) → (end_of armed).down ≡ down → result ≡ Fallen false → Rose (disk.faults (end_of armed).disk) (disk.faults (end_of after).disk)
  rose_by None up fell =
      let h = was_up up in
      let P : Worked → Type 0 = λ r. Happens disk (end_of armed) (end_of after) (record { added = h.brings.0; answer = answer_of result }) (answer_of result) (fate_of (disk.faults (end_of after).disk) r) in
      (subst P fell h.brings.2).cause
  rose_by (Some fail) was fell = absurd (let none : result ≡ NoMemory = (was_down fail was).0 in cc)

  -- why a stop fails
  pub stop_cause : (outcome : Result (Unit {0}) EndFault) (now : ℕ) → HasCauseAfter result (disk.faults (end_of after).disk) now outcome
      → HasCause (disk.faults (end_of old).disk) now outcome
  stop_cause outcome now cause =
      let no_less = no_less_by (end_of armed).down refl in
      record {
        later = omega (arith, no_less, a.faults, cause.later);
        fault = why outcome cause.fault;
      }
    where
      why : (r : Result (Unit {0}) EndFault) → IfErr r (λ fault. fault ≡ Disk → (result ≡ Fallen false) ⊎ Rose (disk.faults (end_of after).disk) now)
          → IfErr r (λ fault. fault ≡ Disk → Rose (disk.faults (end_of old).disk) now)
      why (Ok done) holds = tt
      why (Err fault) holds = λ disk_failed. subst (λ (n : ℕ). Rose n now) a.faults (elim (holds disk_failed) [
        | inl fell ↦ rose_early (2 ^ 64 - 1) (disk.faults (end_of armed).disk) (disk.faults (end_of after).disk) now (rose_by (end_of armed).down refl fell) cause.later
        | inr rose ↦ rose_late (2 ^ 64 - 1) (disk.faults (end_of armed).disk) (disk.faults (end_of after).disk) now (no_less_by (end_of armed).down refl) rose
      ])
