use Rattle.std.proofs.Common.{◌≡◌, ◌∙◌, inl, inr, ℕ, List, Err, length, sym, ap, subst, arith}
use Rattle.voe_disk.specs.Runs.{Moments, LeavesOnly}
use Rattle.gate_journal.specs.Format.{front}
use Rattle.gate_journal.specs.declared.fault.JournalFault.{JournalFault}
use Rattle.gate_journal.proofs.Split.{length-front_nil}
use Rattle.node_notes.specs.Spelling.{config_payload}
use Rattle.node_notes.proofs.Shapes.{config_spells, config_small}
use Rattle.node_book.specs.declared.fault.BookFault.{BookFault}
use Rattle.node_book.specs.Fault.{ComesFromDisk}
use Rattle.node_book.specs.Making.{IsMakeRefusal, IsMaking, IsOnTheWay}
use Rattle.node_book.proofs.Made.{append_refused, append_from_disk, first_payload, made_on}
use Rattle.node_book.proofs.making.make_journal.Goals as goal

pub write_config-requires : goal.write_config-requires
write_config-requires g c = config_spells c.args.config.now c.requires

pub append-requires-clause-few : goal.append-requires-clause-few
append-requires-clause-few g c =
    let is : c.deref.result.now ≡ config_payload c.args.config.now = c.deref.ensures.value ∙ c.in-Ok.ensures in
    omega (arith, (config_small c.args.config.now c.requires).few, ap length is)

pub returns-in-Err-clause-refused : goal.returns-in-Err-clause-refused
returns-in-Err-clause-refused g c =
    let reading = g.D.Disk.reads c.args.disk in
    let is : c.deref.result.now ≡ config_payload c.args.config.now = c.deref.ensures.value ∙ c.in-Ok.ensures in
    let small = config_small c.args.config.now c.requires in
    elim c.in-Err.ensures.causes [
      | inl full ↦
          let why = c.append.ensures.full.0 (c.in-Err.is ∙ ap (λ (f : JournalFault). Err f) full) in
          let empty = ap (λ (l : List (List ℕ)). length (front l)) c.in_ok-journal.ensures.ok.0 ∙ length-front_nil in
          absurd (omega (arith, why.1, empty, small.few, ap length is))
      | inr disk ↦ subst (λ (f : BookFault). IsMakeRefusal f reading) (sym c.from.ensures) (append_refused c.in-Err.fault reading disk)
    ]

pub returns-in-Err-clause-reading_err : goal.returns-in-Err-clause-reading_err
returns-in-Err-clause-reading_err g c missing =
    let is : c.deref.result.now ≡ config_payload c.args.config.now = c.deref.ensures.value ∙ c.in-Ok.ensures in
    let small = config_small c.args.config.now c.requires in
    elim c.in-Err.ensures.causes [
      | inl full ↦
          let why = c.append.ensures.full.0 (c.in-Err.is ∙ ap (λ (f : JournalFault). Err f) full) in
          let empty = ap (λ (l : List (List ℕ)). length (front l)) c.in_ok-journal.ensures.ok.0 ∙ length-front_nil in
          absurd (omega (arith, why.1, empty, small.few, ap length is))
      | inr disk ↦ absurd (missing (subst (λ (f : BookFault). ComesFromDisk f) (sym c.from.ensures) (append_from_disk c.in-Err.fault disk)))
    ]

pub returns-in-Err-clause-any_moment_err : goal.returns-in-Err-clause-any_moment_err
returns-in-Err-clause-any_moment_err g c =
    let d = g.D.Disk in
    let moments : Moments d = record { itself = g.met.D.Disk.since_itself; earlier = g.met.D.Disk.since_earlier; alone = g.met.D.Disk.one_moment; splits = g.met.D.Disk.splits; last = g.met.D.Disk.last_counts } in
    let config = c.args.config.now in
    let is : c.deref.result.now ≡ config_payload config = c.deref.ensures.value ∙ c.in-Ok.ensures in
    let run = c.append.ensures.any_moment c.in_ok-journal.ensures.ok.1 in
    let run_on : LeavesOnly d c.in_ok-journal.journal.disk c.append.new.self.disk (IsOnTheWay config) = record { later = run.later; each = λ image left. first_payload config c.in_ok-journal.journal.payloads c.deref.result.now c.requires c.in_ok-journal.ensures.ok.0 is image (run.each image left) } in
    let made = made_on d moments config c.args.disk c.in_ok-journal.journal.disk c.append.new.self.disk (c.in_ok-journal.ensures.any_moment config) run_on in
    inr (subst (λ (x : _). IsMaking d config c.args.disk x) (sym c.into_disk.ensures.disk) made)

pub returns-clause-any_moment : goal.returns-clause-any_moment
returns-clause-any_moment g c =
    let d = g.D.Disk in
    let moments : Moments d = record { itself = g.met.D.Disk.since_itself; earlier = g.met.D.Disk.since_earlier; alone = g.met.D.Disk.one_moment; splits = g.met.D.Disk.splits; last = g.met.D.Disk.last_counts } in
    let config = c.args.config.now in
    let is : c.deref.result.now ≡ config_payload config = c.deref.ensures.value ∙ c.in-Ok.ensures in
    let run = c.append.ensures.any_moment c.in_ok-journal.ensures.ok.1 in
    let run_on : LeavesOnly d c.in_ok-journal.journal.disk c.append.new.self.disk (IsOnTheWay config) = record { later = run.later; each = λ image left. first_payload config c.in_ok-journal.journal.payloads c.deref.result.now c.requires c.in_ok-journal.ensures.ok.0 is image (run.each image left) } in
    made_on d moments config c.args.disk c.in_ok-journal.journal.disk c.append.new.self.disk (c.in_ok-journal.ensures.any_moment config) run_on
