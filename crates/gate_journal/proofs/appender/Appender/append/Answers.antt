use Rattle.std.proofs.Common.{◌≡◌, ◌∷◌, ◌++◌, [], ◌+◌, ℕ, List, length, Some, None, Err, rules, refl, sym, ◌∙◌, ap, subst}
use Rattle.std.specs.Prelude.{Result}
use Rattle.voe_disk.specs.Disk.{Arming}
use Rattle.voe_disk.specs.Runs.{LeavesOnly, Moments}
use Rattle.voe_disk.specs.declared.fail.DiskFail.{DiskFail}
use Rattle.voe_disk.specs.declared.fail.DiskFail.TheVariants.{Fault, Stopped as WasStopped}
use Rattle.gate_journal.specs.Appender.{AppenderView, HasPayloads, ForPayloads}
use Rattle.gate_journal.specs.Fault.{fault_of}
use Rattle.gate_journal.specs.declared.fault.JournalFault.{JournalFault}
use Rattle.gate_journal.specs.declared.fault.JournalFault.TheVariants.{Stopped}
use Rattle.gate_journal.specs.Format.{kept, Stands, StandsBeforeOrAfter}
use Rattle.gate_journal.proofs.Files.{stopped_stands}
use Rattle.gate_journal.proofs.Sound.{on_the_way, fallen_has, grown_has}
use Rattle.gate_journal.proofs.appender.Appender.append.Goals as goal

pub invariant_of-self-in-Err : goal.invariant_of-self-in-Err
invariant_of-self-in-Err g c =
    let d = g.D.Disk in
    let moments : Moments d = record { itself = g.met.D.Disk.since_itself; earlier = g.met.D.Disk.since_earlier; alone = g.met.D.Disk.one_moment; splits = g.met.D.Disk.splits; last = g.met.D.Disk.last_counts } in
    let was = c.self.inside in
    let up : was.down ≡ None = search rules in
    let body_is = c.deref.ensures.value ∙ c.in_ok-entry.ensures.bytes in
    let some = c.self.invariant in
    (some.0, fallen_has d moments c.args.payload.now (c.requires.some, c.requires.few) c.deref.result.now body_is was.end was.down up was.disk c.reserve.new.self c.write_behind.new.disk c.reserve.ensures.reading c.reserve.ensures.images c.reserve.ensures.moments some.0 some.1 c.write_behind.ensures.any_moment c.write_behind.ensures.reading c.in-Err.fail)

pub returns-in-Err-clause-err : goal.returns-in-Err-clause-err
returns-in-Err-clause-err g c =
    let d = g.D.Disk in
    let moments : Moments d = record { itself = g.met.D.Disk.since_itself; earlier = g.met.D.Disk.since_earlier; alone = g.met.D.Disk.one_moment; splits = g.met.D.Disk.splits; last = g.met.D.Disk.last_counts } in
    let was = c.self.inside in
    let up : was.down ≡ None = search rules in
    let body_is = c.deref.ensures.value ∙ c.in_ok-entry.ensures.bytes in
    let P : AppenderView _ → Type 0 = λ v. ForPayloads d v (HasPayloads d (record { disk = c.write_behind.new.disk; end = was.end; down = Some c.in-Err.fail })) in
    subst P c.self.view_is (λ had has.
    fallen_has d moments c.args.payload.now (c.requires.some, c.requires.few) c.deref.result.now body_is was.end was.down up was.disk c.reserve.new.self c.write_behind.new.disk c.reserve.ensures.reading c.reserve.ensures.images c.reserve.ensures.moments had has c.write_behind.ensures.any_moment c.write_behind.ensures.reading c.in-Err.fail)

pub returns-in-Err-clause-any_moment : goal.returns-in-Err-clause-any_moment
returns-in-Err-clause-any_moment g c =
    let d = g.D.Disk in
    let moments : Moments d = record { itself = g.met.D.Disk.since_itself; earlier = g.met.D.Disk.since_earlier; alone = g.met.D.Disk.one_moment; splits = g.met.D.Disk.splits; last = g.met.D.Disk.last_counts } in
    let was = c.self.inside in
    let body_is = c.deref.ensures.value ∙ c.in_ok-entry.ensures.bytes in
    let P : AppenderView _ → Type 0 = λ v. v.down ≡ None → ForPayloads d v (λ payloads. LeavesOnly d v.disk c.write_behind.new.disk (StandsBeforeOrAfter payloads c.args.payload.now)) in
    subst P c.self.view_is (λ up had has.
    on_the_way d moments c.args.payload.now (c.requires.some, c.requires.few) c.deref.result.now body_is was.end was.down up was.disk c.reserve.new.self c.write_behind.new.disk c.reserve.ensures.reading c.reserve.ensures.images c.reserve.ensures.moments had has c.write_behind.ensures.any_moment)

pub returns-clause-any_moment : goal.returns-clause-any_moment
returns-clause-any_moment g c =
    let d = g.D.Disk in
    let moments : Moments d = record { itself = g.met.D.Disk.since_itself; earlier = g.met.D.Disk.since_earlier; alone = g.met.D.Disk.one_moment; splits = g.met.D.Disk.splits; last = g.met.D.Disk.last_counts } in
    let was = c.self.inside in
    let body_is = c.deref.ensures.value ∙ c.in_ok-entry.ensures.bytes in
    let P : AppenderView _ → Type 0 = λ v. v.down ≡ None → ForPayloads d v (λ payloads. LeavesOnly d v.disk c.write_behind.new.disk (StandsBeforeOrAfter payloads c.args.payload.now)) in
    subst P c.self.view_is (λ up had has.
    on_the_way d moments c.args.payload.now (c.requires.some, c.requires.few) c.deref.result.now body_is was.end was.down up was.disk c.reserve.new.self c.write_behind.new.disk c.reserve.ensures.reading c.reserve.ensures.images c.reserve.ensures.moments had has c.write_behind.ensures.any_moment)

only_stopped : (fail : DiskFail) → fault_of fail ≡ Stopped → fail ≡ WasStopped
only_stopped Fault is = absurd (cc is)
only_stopped WasStopped is = refl

err_is : {T : Type 0} {a b : JournalFault} (r : Result T JournalFault) → r ≡ Err a → r ≡ Err b → a ≡ b
err_is r one two = cc

pub returns-in-Err-clause-stopped_image : goal.returns-in-Err-clause-stopped_image
returns-in-Err-clause-stopped_image g c stop =
    let d = g.D.Disk in
    let was = c.self.inside in
    let P : AppenderView _ → Type 0 = λ v. v.down ≡ None → ForPayloads d v (λ payloads. (fill : ℕ) (image : List ℕ) → d.crash_image c.write_behind.new.disk fill ≡ Some image → Stands image (kept (d.arming v.disk).calls fill payloads c.args.payload.now)) in
    subst P c.self.view_is (λ up had has fill image is.
    let body_is = c.deref.ensures.value ∙ c.in_ok-entry.ensures.bytes in
    let which : c.in-Err.fail ≡ WasStopped = only_stopped c.in-Err.fail (sym c.from-in-Err.ensures ∙ err_is _ refl stop) in
    let failed : c.write_behind.result ≡ Err WasStopped = c.in-Err.is ∙ ap (λ (f : DiskFail). Err f) which in
    let from = c.write_behind.ensures.stopped_image failed fill image is in
    let stood = (has.sound.up up).images from.0 ((c.reserve.ensures.images from.0).0 from.1) in
    let stands = stopped_stands had c.args.payload.now was.end has.end c.deref.result.now body_is (c.requires.some, c.requires.few) (d.arming c.reserve.new.self).calls fill from.0 image stood from.2 (c.write_behind.ensures.few failed) in
    subst (λ (a : Arming). Stands image (kept a.calls fill had c.args.payload.now)) c.reserve.ensures.arming stands)

pub invariant_of-self-2 : goal.invariant_of-self-2
invariant_of-self-2 g c =
    let d = g.D.Disk in
    let moments : Moments d = record { itself = g.met.D.Disk.since_itself; earlier = g.met.D.Disk.since_earlier; alone = g.met.D.Disk.one_moment; splits = g.met.D.Disk.splits; last = g.met.D.Disk.last_counts } in
    let was = c.self.inside in
    let up : was.down ≡ None = search rules in
    let body_is = c.deref.ensures.value ∙ c.in_ok-entry.ensures.bytes in
    let some = c.self.invariant in
    (some.0 ++ c.args.payload.now ∷ [], grown_has d moments c.args.payload.now (c.requires.some, c.requires.few) c.deref.result.now body_is was.end was.down up was.disk c.reserve.new.self c.write_behind.new.disk c.reserve.ensures.reading c.reserve.ensures.images c.reserve.ensures.moments some.0 some.1 c.in_default-write_behind.ensures.opened_reading c.in_default-write_behind.ensures.opened)

pub returns-clause-ok : goal.returns-clause-ok
returns-clause-ok g c =
    let d = g.D.Disk in
    let moments : Moments d = record { itself = g.met.D.Disk.since_itself; earlier = g.met.D.Disk.since_earlier; alone = g.met.D.Disk.one_moment; splits = g.met.D.Disk.splits; last = g.met.D.Disk.last_counts } in
    let was = c.self.inside in
    let up : was.down ≡ None = search rules in
    let body_is = c.deref.ensures.value ∙ c.in_ok-entry.ensures.bytes in
    let P : AppenderView _ → Type 0 = λ v. ForPayloads d v (λ payloads. HasPayloads d (record { disk = c.write_behind.new.disk; end = was.end + 5 + length c.args.payload.now; down = was.down }) (payloads ++ c.args.payload.now ∷ [])) in
    subst P c.self.view_is (λ had has.
    grown_has d moments c.args.payload.now (c.requires.some, c.requires.few) c.deref.result.now body_is was.end was.down up was.disk c.reserve.new.self c.write_behind.new.disk c.reserve.ensures.reading c.reserve.ensures.images c.reserve.ensures.moments had has c.in_default-write_behind.ensures.opened_reading c.in_default-write_behind.ensures.opened)
