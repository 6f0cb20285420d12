-- What was seen of the disks so far.
use Rattle.std.proofs.Common.{◌≡◌, Some, sym, ◌∙◌, arith, below_more}
use Rattle.std.specs.Prelude.{slice_get}
use Rattle.std.proofs.lemmas.Option.{slice_get-get_or, slice_get_within}
use Rattle.voe_net.specs.Starting.{IsBlank}
use Rattle.voe_net.specs.Looking.{IsLooked}
use Rattle.voe_net.proofs.Eaches.{some-same}
use Rattle.voe_net.proofs.Looks.{all-looked-on, all-looked-self, blank-before, first-at, has-failed, is-first-made, is-quiet, match-false, match-true, none-failed-on, none-failed-self}
use Rattle.voe_net.proofs.blank.look_at.Goals as goal

pub loop-node-init : goal.loop-node-init
loop-node-init g c = record {
  looked = all-looked-self g.D.Disk c.args.disks.now;
  none_failed = none-failed-self g.D.Disk c.args.disks.now;
  blank = λ n own below at. absurd (omega arith);
}

pub returns-in-Ok-false-clause-looked : goal.returns-in-Ok-false-clause-looked
returns-in-Ok-false-clause-looked g c =
    let there = slice_get-get_or c.loop-node.disks c.loop-node.node c.index-disks-node.result (omega arith) in
    all-looked-on g.D.Disk c.args.disks.now c.loop-node.disks c.loop-node.node _ c.is_blank.new.disk c.loop-node.invariant.looked there c.in-Ok-false.ensures.looked

pub returns-in-Ok-false-clause-fault : goal.returns-in-Ok-false-clause-fault
returns-in-Ok-false-clause-fault g c =
    let there = slice_get-get_or c.loop-node.disks c.loop-node.node c.index-disks-node.result (omega arith) in
    is-first-made g.D.Disk c.args.disks.now c.loop-node.disks c.loop-node.node _ c.loop-node.invariant.looked there (omega arith)
    (λ k other below at. c.loop-node.invariant.blank k other below at)
    (match-false _ _ c.in-Ok-false.field-0 c.in-Ok-false.field-0-test c.in-Ok-false.ensures.told)

pub returns-in-Err-clause-looked : goal.returns-in-Err-clause-looked
returns-in-Err-clause-looked g c =
    let there = slice_get-get_or c.loop-node.disks c.loop-node.node c.index-disks-node.result (omega arith) in
    all-looked-on g.D.Disk c.args.disks.now c.loop-node.disks c.loop-node.node _ c.is_blank.new.disk c.loop-node.invariant.looked there c.in-Err.ensures.looked

pub returns-in-Err-clause-fault : goal.returns-in-Err-clause-fault
returns-in-Err-clause-fault g c =
    let there = slice_get-get_or c.loop-node.disks c.loop-node.node c.index-disks-node.result (omega arith) in
    has-failed g.D.Disk c.args.disks.now c.loop-node.disks c.loop-node.node _ c.is_blank.new.disk c.in-Err.field-0 c.is_blank.result c.loop-node.invariant.looked
    c.loop-node.invariant.none_failed there (omega arith) c.requires.unarmed c.in-Err.is c.is_blank.ensures.cause c.is_blank.ensures.stopped

pub loop-node-preserved : goal.loop-node-preserved
loop-node-preserved g c =
    let there = slice_get-get_or c.loop-node.disks c.loop-node.node c.index-disks-node.result (omega arith) in
    let first = first-at (λ k was last. IsLooked g.D.Disk was last) c.args.disks.now c.loop-node.disks c.loop-node.node _ c.loop-node.invariant.looked there (omega arith) in
    let blank = blank-before g.D.Disk first.0 _ first.2 (match-true _ _ c.in-Ok-true.field-0 c.in-Ok-true.field-0-test c.in-Ok-true.ensures.told) in
    record {
      looked = all-looked-on g.D.Disk c.args.disks.now c.loop-node.disks c.loop-node.node _ c.is_blank.new.disk c.loop-node.invariant.looked there c.in-Ok-true.ensures.looked;
      none_failed = none-failed-on g.D.Disk c.args.disks.now c.loop-node.disks c.loop-node.node _ c.is_blank.new.disk c.loop-node.invariant.none_failed there
          (is-quiet _ _ c.is_blank.result c.in-Ok-true.field-0 c.in-Ok-true.is c.is_blank.ensures.cause);
      blank = λ n own below at. below_more (λ k. (other : g.row.D.Denot) → slice_get c.args.disks.now k ≡ Some other → IsBlank g.D.Disk other) c.loop-node.node
          (λ k before other is. c.loop-node.invariant.blank k other before is)
          (λ other is. let same : first.0 ≡ other = some-same first.0 other (sym first.1 ∙ is) in rw (← same) blank)
          n below own at;
    }

pub returns-clause-blank : goal.returns-clause-blank
returns-clause-blank g c =
    ((λ n own at. c.loop-node.invariant.blank n own (omega (arith, slice_get_within c.args.disks.now n own at, c.loop-node-test.false)) at), c.loop-node.invariant.none_failed)
