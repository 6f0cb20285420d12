use Rattle.std.proofs.Common.{◌≡◌, inl, inr, ℕ, Bool, true, false, List, length, None, refl, sym, subst}
use Rattle.std.specs.Prelude.{Option}
use Rattle.voe_disk.specs.declared.disk.Disk.{Ghosts}
use Rattle.voe_tree.specs.Document.{Spells}
use Rattle.voe_tree.specs.declared.element.Tree.{Tree as DocumentTree}
use Rattle.net_model.specs.Notes.{knows}
use Rattle.net_model.specs.Rules.{NodeRules}
use Rattle.net_model.specs.Steps.{Outcome, broker_packet, says}
use Rattle.net_model.specs.declared.state.NakCode.{NakCode}
use Rattle.net_model.specs.declared.state.NakCode.TheVariants.{Tree, Validity}
use Rattle.net_model.specs.declared.state.Verdict.{Verdict}
use Rattle.net_model.specs.declared.state.Verdict.TheVariants.{Nak}
use Rattle.net_model.specs.declared.step.Judged.{Judged}
use Rattle.net_model.specs.declared.step.Judged.TheVariants.{BadTree, BadPacket, Good}
use Rattle.net_model.specs.declared.step.BrokerStep.{BrokerStep}
use Rattle.net_model.specs.declared.step.BrokerStep.TheVariants.{Answer}
use Rattle.voe_validity.specs.Judging.{HasTree, IsJudged, IsNamed}
use Rattle.voe_validity.proofs.Once.{judged_once}
use Rattle.node_book.specs.Ends.{EndView}
use Rattle.node_book.specs.EndSteps.{HasAnswered, Happens, IsReady}
use Rattle.node_book.proofs.EndReady.{says_so}
use Rattle.node_book.proofs.EndReplies.{named, sized}
use Rattle.broker_end.specs.Broker.{fate_of, is_line, replies}
use Rattle.broker_end.proofs.Packets.{right_where_new, right_where_old, same_packet}
use Rattle.broker_end.proofs.taking.take.Goals as goal

judged_is : (bytes packet : List ℕ) (one other : Judged) → bytes ≡ packet → one ≡ other → IsJudged bytes one → IsJudged packet other
judged_is bytes packet one other e f j = subst (λ (k : Judged). IsJudged packet k) f (subst (λ (s : List ℕ). IsJudged s one) e j)

refused : {D : Type 0} (disk : Ghosts D) (end : EndView D) (rules : NodeRules) (from_line : Bool) (packet : List ℕ) (identifier : Option (List ℕ)) (code : NakCode) (result : BrokerStep)
    → IsReady disk end → result ≡ Answer (Nak identifier code) → broker_packet rules (length end.config.links) end.notes from_line packet ≡ says (Nak identifier code)
    → Happens disk end end (replies (broker_packet rules (length end.config.links) end.notes from_line packet)) result (fate_of result)
refused disk end rules from_line packet identifier code result ready is same =
    let P : BrokerStep → Type 0 = λ a. Happens disk end end (replies (broker_packet rules (length end.config.links) end.notes from_line packet)) a (fate_of a) in
    let Q : Outcome Verdict → Type 0 = λ o. HasAnswered disk end end (replies o) (Answer (Nak identifier code)) in
    subst P (sym is) (subst Q (sym same) (says_so disk end (replies (says (Nak identifier code))) (Answer (Nak identifier code)) ready refl refl))

not_tree : (n : ℕ) (i : List ℕ) (j : Judged) → j ≡ BadTree n → j ≡ Good i → ⊥
not_tree n i j e f = cc

not_packet : (n : ℕ) (k : Option (List ℕ)) (i : List ℕ) (j : Judged) → j ≡ BadPacket n k → j ≡ Good i → ⊥
not_packet n k i j e f = cc

same_name : (i k : List ℕ) (j : Judged) → j ≡ Good i → j ≡ Good k → i ≡ k
same_name i k j e f = cc

both_ways : (b : Bool) → b ≡ true → b ≡ false → ⊥
both_ways b e f = cc

pub returns-in-BadTree-clause-happens : goal.returns-in-BadTree-clause-happens
returns-in-BadTree-clause-happens g c = λ rules right.
    let end = c.args.end.now in
    let is = judged_is c.as_slice.result.now c.args.packet c.in-Ok.field-0.judged (BadTree c.in-BadTree.number) c.as_slice.ensures c.in-BadTree.is c.in-Ok.ensures.judged in
    refused g.D.Disk end rules (is_line c.args.from) c.args.packet None (Tree c.in-BadTree.number) c.refuse.result c.requires.ready c.refuse.ensures
    (same_packet rules (length end.config.links) end.notes (is_line c.args.from) c.args.packet (BadTree c.in-BadTree.number) is right.judge)

pub returns-in-BadTree-clause-rules : goal.returns-in-BadTree-clause-rules
returns-in-BadTree-clause-rules g c =
    let end = c.args.end.now in
    let judged = c.in-Ok.field-0.judged in
    let is = judged_is c.as_slice.result.now c.args.packet judged judged c.as_slice.ensures refl c.in-Ok.ensures.judged in
    inr (right_where_old end.config end.notes c.args.packet judged is (λ i same new. not_tree c.in-BadTree.number i judged c.in-BadTree.is same))

pub returns-in-BadPacket-clause-happens : goal.returns-in-BadPacket-clause-happens
returns-in-BadPacket-clause-happens g c = λ rules right.
    let end = c.args.end.now in
    let judged = BadPacket c.in-BadPacket.number c.in-BadPacket.identifier in
    let is = judged_is c.as_slice.result.now c.args.packet c.in-Ok.field-0.judged judged c.as_slice.ensures c.in-BadPacket.is c.in-Ok.ensures.judged in
    refused g.D.Disk end rules (is_line c.args.from) c.args.packet c.in-BadPacket.identifier (Validity c.in-BadPacket.number) c.refuse-in-BadPacket.result c.requires.ready c.refuse-in-BadPacket.ensures
    (same_packet rules (length end.config.links) end.notes (is_line c.args.from) c.args.packet judged is right.judge)

pub returns-in-BadPacket-clause-rules : goal.returns-in-BadPacket-clause-rules
returns-in-BadPacket-clause-rules g c =
    let end = c.args.end.now in
    let judged = c.in-Ok.field-0.judged in
    let is = judged_is c.as_slice.result.now c.args.packet judged judged c.as_slice.ensures refl c.in-Ok.ensures.judged in
    inr (right_where_old end.config end.notes c.args.packet judged is (λ i same new. not_packet c.in-BadPacket.number c.in-BadPacket.identifier i judged c.in-BadPacket.is same))

pub accept-requires-clause-identifier : goal.accept-requires-clause-identifier
accept-requires-clause-identifier g c =
    let is : IsNamed (Good c.in-Good.identifier) = subst IsNamed c.in-Good.is c.in-Ok.ensures.named in
    named c.in-Good.identifier is.0 is.1

pub accept-requires-clause-packet : goal.accept-requires-clause-packet
accept-requires-clause-packet g c = sized c.args.packet c.requires.some c.requires.few

pub accept-requires-clause-tree : goal.accept-requires-clause-tree
accept-requires-clause-tree g c =
    let T : Option DocumentTree → Type 0 = λ t. HasTree c.as_slice.result.now c.in-Ok.field-0.judged t in
    let has = subst T c.in-Some.is c.in-Ok.ensures.tree in
    subst (λ (s : List ℕ). Spells c.in-Some.tree.root s) c.as_slice.ensures has.0

pub returns-in-Some-clause-happens : goal.returns-in-Some-clause-happens
returns-in-Some-clause-happens g c = λ rules right.
    let end = c.args.end.now in
    let i = c.in-Good.identifier in
    let is = judged_is c.as_slice.result.now c.args.packet c.in-Ok.field-0.judged (Good i) c.as_slice.ensures c.in-Good.is c.in-Ok.ensures.judged in
    let judge_is = judged_once c.args.packet (rules.judge c.args.packet) (Good i) right.judge is in
    let P : Outcome Verdict → Type 0 = λ o. Happens g.D.Disk end c.accept.new.end (replies o) c.accept.result (fate_of c.accept.result) in
    subst P (sym (same_packet rules (length end.config.links) end.notes (is_line c.args.from) c.args.packet (Good i) is right.judge))
    (c.accept.ensures.happens rules right.digest_of right.has_room (λ new. right.passes i judge_is new))

pub returns-in-Some-clause-rules : goal.returns-in-Some-clause-rules
returns-in-Some-clause-rules g c =
    let end = c.args.end.now in
    let i = c.in-Good.identifier in
    let judged = c.in-Ok.field-0.judged in
    let is = judged_is c.as_slice.result.now c.args.packet judged judged c.as_slice.ensures refl c.in-Ok.ensures.judged in
    let T : Option DocumentTree → Type 0 = λ t. HasTree c.as_slice.result.now judged t in
    let has = subst T c.in-Some.is c.in-Ok.ensures.tree in
    let spells = subst (λ (s : List ℕ). Spells c.in-Some.tree.root s) c.as_slice.ensures has.0 in
    elim c.accept.ensures.decided [
      | inl lacked ↦ inl lacked
      | inr done ↦ elim done [
        | inl known ↦ inr (right_where_old end.config end.notes c.args.packet judged is
            (λ k same new. both_ways (knows end.notes i) known (subst (λ (s : List ℕ). knows end.notes s ≡ false) (sym (same_name i k judged c.in-Good.is same)) new)))
        | inr found ↦ inr (right_where_new end.config end.notes c.args.packet judged c.args.filters.now.sets c.in-Some.tree.root found.0 is c.requires.filters found.1 spells)
      ]
    ]
