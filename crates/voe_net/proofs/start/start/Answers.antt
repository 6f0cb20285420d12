-- Disks that were looked at before nodes are made on them.
use Rattle.std.proofs.Common.{◌≡◌, List, drop, length, sym, ◌∙◌, subst}
use Rattle.std.specs.Prelude.{IfErr, IfOk}
use Rattle.voe_net.specs.Begun.{HasStarted}
use Rattle.voe_net.specs.Looking.{AreLooked, NoneFailed, SeesFault}
use Rattle.voe_net.specs.Starting.{AllBlank, AreBack, NoneArmed}
use Rattle.voe_net.proofs.Backs.{all-later, all-started, looked-back, looked-blank, looked-unarmed, take-first}
use Rattle.voe_net.proofs.start.start.Goals as goal

pub returns-in-Err-clause-err : goal.returns-in-Err-clause-err
returns-in-Err-clause-err g c =
    let value = c.deref_mut.ensures.value in
    let looked = subst (λ (old : List g.row.D.Denot). AreLooked g.D.Disk old c.look_at.new.disks) value c.in-Err.ensures.looked in
    let sees = subst (λ (old : List g.row.D.Denot). SeesFault g.D.Disk old c.look_at.new.disks c.in-Err.fault) value c.in-Err.ensures.fault in
    let count : c.args.disks.now.len ≡ length c.look_at.new.disks = c.args.disks.now.ok.0 ∙ sym looked.same in
    subst (λ (new : List g.row.D.Denot). AreBack g.D.Disk c.args.disks.now.items new c.in-Err.fault)
    (sym (take-first c.look_at.new.disks (drop (length c.look_at.new.disks) c.args.disks.now.items) c.args.disks.now.len count))
    (looked-back g.D.Disk c.args.disks.now.items c.look_at.new.disks c.in-Err.fault looked sees c.requires.unarmed)

pub make_machine-requires-clause-blank : goal.make_machine-requires-clause-blank
make_machine-requires-clause-blank g c =
    let value = c.deref_mut.ensures.value in
    let looked = subst (λ (old : List g.row.D.Denot). AreLooked g.D.Disk old c.look_at.new.disks) value c.in-Ok.ensures.looked in
    let blank = subst (λ (old : List g.row.D.Denot). AllBlank g.D.Disk old) value c.in-Ok.ensures.blank.0 in
    let count : c.args.disks.now.len ≡ length c.look_at.new.disks = c.args.disks.now.ok.0 ∙ sym looked.same in
    subst (λ (new : List g.row.D.Denot). AllBlank g.D.Disk new) (sym (take-first c.look_at.new.disks (drop (length c.look_at.new.disks) c.args.disks.now.items) c.args.disks.now.len count))
    (looked-blank g.D.Disk c.args.disks.now.items c.look_at.new.disks looked blank)

pub make_machine-requires-clause-unarmed : goal.make_machine-requires-clause-unarmed
make_machine-requires-clause-unarmed g c =
    let looked = subst (λ (old : List g.row.D.Denot). AreLooked g.D.Disk old c.look_at.new.disks) c.deref_mut.ensures.value c.in-Ok.ensures.looked in
    let count : c.args.disks.now.len ≡ length c.look_at.new.disks = c.args.disks.now.ok.0 ∙ sym looked.same in
    subst (λ (new : List g.row.D.Denot). NoneArmed g.D.Disk new) (sym (take-first c.look_at.new.disks (drop (length c.look_at.new.disks) c.args.disks.now.items) c.args.disks.now.len count))
    (looked-unarmed g.D.Disk c.args.disks.now.items c.look_at.new.disks looked c.requires.unarmed)

pub returns-in-Ok-clause-ok : goal.returns-in-Ok-clause-ok
returns-in-Ok-clause-ok g c =
    let value = c.deref_mut.ensures.value in
    let looked = subst (λ (old : List g.row.D.Denot). AreLooked g.D.Disk old c.look_at.new.disks) value c.in-Ok.ensures.looked in
    let quiet = subst (λ (old : List g.row.D.Denot). NoneFailed g.D.Disk old c.look_at.new.disks) value c.in-Ok.ensures.blank.1 in
    let count : c.args.disks.now.len ≡ length c.look_at.new.disks = c.args.disks.now.ok.0 ∙ sym looked.same in
    all-started g.D.Disk c.args.graph.now c.args.packets.now c.args.disks.now.items c.look_at.new.disks c.make_machine.result looked quiet
    (subst (λ (mid : List g.row.D.Denot). IfOk c.make_machine.result (HasStarted g.D.Disk c.args.graph.now c.args.packets.now mid))
    (take-first c.look_at.new.disks (drop (length c.look_at.new.disks) c.args.disks.now.items) c.args.disks.now.len count) c.make_machine.ensures.ok)

pub returns-in-Ok-clause-err : goal.returns-in-Ok-clause-err
returns-in-Ok-clause-err g c =
    let looked = subst (λ (old : List g.row.D.Denot). AreLooked g.D.Disk old c.look_at.new.disks) c.deref_mut.ensures.value c.in-Ok.ensures.looked in
    let count : c.args.disks.now.len ≡ length c.look_at.new.disks = c.args.disks.now.ok.0 ∙ sym looked.same in
    all-later g.D.Disk c.args.disks.now.items c.look_at.new.disks c.make_machine.new.disks.items c.make_machine.result looked
    (subst (λ (mid : List g.row.D.Denot). IfErr c.make_machine.result (AreBack g.D.Disk mid c.make_machine.new.disks.items))
    (take-first c.look_at.new.disks (drop (length c.look_at.new.disks) c.args.disks.now.items) c.args.disks.now.len count) c.make_machine.ensures.err)
