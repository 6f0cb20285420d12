use Rattle.std.proofs.Common.{◌≡◌, not, sym, ap, ◌∙◌}
use Rattle.std.specs.Option.{option_map}
use Rattle.net_model.specs.Runs.{is_new_identifier}
use Rattle.net_model.specs.declared.step.Judged.{Judged}
use Rattle.net_model.specs.declared.step.Judged.TheVariants.{BadTree, BadPacket, Good}
use Rattle.voe_net.specs.Kept.{end_of}
use Rattle.voe_net.specs.Nodes.{show}
use Rattle.voe_net.proofs.Up.{judged_as}
use Rattle.voe_net.proofs.holding.is_new.Goals as goal

pub returns-in-Good : goal.returns-in-Good
returns-in-Good g c = λ rules packets among right.
    let view = show (option_map end_of c.args.kept.now) in
    let judged = Good c.in-Good.identifier in
    let is : c.in_ok-judged.field-0.judged ≡ judged = cc in
    let same = judged_as view.config packets rules c.as_slice.result.now c.args.packet.now c.in_ok-judged.field-0.judged judged c.as_slice.ensures is c.in_ok-judged.ensures.judged among right in
    ap not c.knows.ensures ∙ sym (ap (λ (j : Judged). is_new_identifier view.notes j) same)

pub returns-in-BadTree : goal.returns-in-BadTree
returns-in-BadTree g c = λ rules packets among right.
    let view = show (option_map end_of c.args.kept.now) in
    let judged = BadTree c.in-BadTree.number in
    let is : c.in_ok-judged.field-0.judged ≡ judged = cc in
    let same = judged_as view.config packets rules c.as_slice.result.now c.args.packet.now c.in_ok-judged.field-0.judged judged c.as_slice.ensures is c.in_ok-judged.ensures.judged among right in
    sym (ap (λ (j : Judged). is_new_identifier view.notes j) same)

pub returns : goal.returns
returns g c = λ rules packets among right.
    let view = show (option_map end_of c.args.kept.now) in
    let judged = BadPacket c.in-BadPacket.number c.in-BadPacket.identifier in
    let is : c.in_ok-judged.field-0.judged ≡ judged = cc in
    let same = judged_as view.config packets rules c.as_slice.result.now c.args.packet.now c.in_ok-judged.field-0.judged judged c.as_slice.ensures is c.in_ok-judged.ensures.judged among right in
    sym (ap (λ (j : Judged). is_new_identifier view.notes j) same)
