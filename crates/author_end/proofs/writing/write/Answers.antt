use Rattle.std.proofs.Common.{◌≡◌, inr, ℕ, false, List, refl, sym, ap, subst}
use Rattle.voe_disk.specs.declared.disk.Disk.{Ghosts}
use Rattle.net_model.specs.Rules.{NodeRules}
use Rattle.net_model.specs.Steps.{Outcome, author_write, says, write_judged}
use Rattle.net_model.specs.declared.note.Note.{Note}
use Rattle.net_model.specs.declared.state.NakCode.{NakCode}
use Rattle.net_model.specs.declared.state.NakCode.TheVariants.{Tree, Validity}
use Rattle.net_model.specs.declared.step.Judged.{Judged}
use Rattle.net_model.specs.declared.step.Judged.TheVariants.{BadTree, BadPacket, Good}
use Rattle.net_model.specs.declared.step.AuthorStep.{AuthorStep}
use Rattle.net_model.specs.declared.step.AuthorStep.TheVariants as a
use Rattle.node_notes.specs.declared.config.Config.{Config}
use Rattle.node_book.specs.Keeps.{has_room}
use Rattle.voe_validity.specs.Judging.{IsJudged, IsNamed}
use Rattle.voe_validity.proofs.Once.{judged_once}
use Rattle.node_book.specs.Ends.{EndView}
use Rattle.node_book.specs.EndSteps.{Fate, HasAnswered, Happens, IsReady}
use Rattle.node_book.proofs.EndReady.{says_so}
use Rattle.node_book.proofs.EndReplies.{named, sized}
use Rattle.author_end.specs.Author.{AreRightFor, fate_of}
use Rattle.author_end.specs.declared.event.AuthorEvent.TheVariants.{Write}
use Rattle.author_end.proofs.writing.write.Goals as goal

judged_is : (bytes packet : List ℕ) (one other : Judged) → bytes ≡ packet → one ≡ other → IsJudged bytes one → IsJudged packet other
judged_is bytes packet one other e f j = subst (λ (k : Judged). IsJudged packet k) f (subst (λ (s : List ℕ). IsJudged s one) e j)

-- rules that answer this packet as it is
abbrev rules_of : Config → Judged → NodeRules
rules_of config judged = record { judge = λ bytes. judged; digest_of = λ bytes. bytes; passes = λ link bytes. false; has_room = has_room config }

are_right : (config : Config) (packet : List ℕ) (judged : Judged) → IsJudged packet judged → (rules : NodeRules) × AreRightFor config (Write packet) rules
are_right config packet judged is = (rules_of config judged, (is, λ notes note. refl))

-- a packet is judged so by all rules that are right
same_packet : (rules : NodeRules) (notes : List Note) (packet : List ℕ) (judged : Judged) → IsJudged packet judged → IsJudged packet (rules.judge packet)
    → author_write rules notes packet ≡ write_judged rules notes packet judged
same_packet rules notes packet judged one other =
    ap (λ (j : Judged). write_judged rules notes packet j) (judged_once packet (rules.judge packet) judged other one)

refused : {D : Type 0} (disk : Ghosts D) (end : EndView D) (rules : NodeRules) (packet : List ℕ) (code : NakCode)
    → IsReady disk end → author_write rules end.notes packet ≡ says (a.Refused code) → HasAnswered disk end end (author_write rules end.notes packet) (a.Refused code)
refused disk end rules packet code ready same =
    let P : Outcome AuthorStep → Type 0 = λ o. HasAnswered disk end end o (a.Refused code) in
    subst P (sym same) (says_so disk end (says (a.Refused code)) (a.Refused code) ready refl refl)

pub returns-in-BadTree-clause-happens : goal.returns-in-BadTree-clause-happens
returns-in-BadTree-clause-happens g c = λ rules right.
    let end = c.args.end.now in
    let is = judged_is c.as_slice.result.now c.args.packet c.in-Ok.field-0.judged (BadTree c.in-BadTree.number) c.as_slice.ensures c.in-BadTree.is c.in-Ok.ensures.judged in
    refused g.D.Disk end rules c.args.packet (Tree c.in-BadTree.number) c.requires.ready
    (same_packet rules end.notes c.args.packet (BadTree c.in-BadTree.number) is right.0)

pub returns-in-BadTree-clause-rules : goal.returns-in-BadTree-clause-rules
returns-in-BadTree-clause-rules g c =
    inr (are_right c.args.end.now.config c.args.packet c.in-Ok.field-0.judged (judged_is c.as_slice.result.now c.args.packet c.in-Ok.field-0.judged c.in-Ok.field-0.judged c.as_slice.ensures refl c.in-Ok.ensures.judged))

pub returns-in-BadPacket-clause-happens : goal.returns-in-BadPacket-clause-happens
returns-in-BadPacket-clause-happens g c = λ rules right.
    let end = c.args.end.now in
    let judged = BadPacket c.in-BadPacket.number c.in-BadPacket.identifier in
    let is = judged_is c.as_slice.result.now c.args.packet c.in-Ok.field-0.judged judged c.as_slice.ensures c.in-BadPacket.is c.in-Ok.ensures.judged in
    refused g.D.Disk end rules c.args.packet (Validity c.in-BadPacket.number) c.requires.ready
    (same_packet rules end.notes c.args.packet judged is right.0)

pub returns-in-BadPacket-clause-rules : goal.returns-in-BadPacket-clause-rules
returns-in-BadPacket-clause-rules g c =
    inr (are_right c.args.end.now.config c.args.packet c.in-Ok.field-0.judged (judged_is c.as_slice.result.now c.args.packet c.in-Ok.field-0.judged c.in-Ok.field-0.judged c.as_slice.ensures refl c.in-Ok.ensures.judged))

pub returns-in-Good-clause-happens : goal.returns-in-Good-clause-happens
returns-in-Good-clause-happens g c = λ rules right.
    let end = c.args.end.now in
    let judged = Good c.in-Good.identifier in
    let is = judged_is c.as_slice.result.now c.args.packet c.in-Ok.field-0.judged judged c.as_slice.ensures c.in-Good.is c.in-Ok.ensures.judged in
    let P : Outcome AuthorStep → Type 0 = λ o. Happens g.D.Disk end c.record.new.end o c.record.result (fate_of c.record.result) in
    subst P (sym (same_packet rules end.notes c.args.packet judged is right.0)) (c.record.ensures.happens rules right.1)

pub returns-in-Good-clause-rules : goal.returns-in-Good-clause-rules
returns-in-Good-clause-rules g c =
    inr (are_right c.args.end.now.config c.args.packet c.in-Ok.field-0.judged (judged_is c.as_slice.result.now c.args.packet c.in-Ok.field-0.judged c.in-Ok.field-0.judged c.as_slice.ensures refl c.in-Ok.ensures.judged))

pub returns-in-Good-clause-no_memory : goal.returns-in-Good-clause-no_memory
returns-in-Good-clause-no_memory g c = λ lacked.
    let end = c.args.end.now in
    let rules = rules_of end.config c.in-Ok.field-0.judged in
    let o = write_judged rules end.notes c.args.packet (Good c.in-Good.identifier) in
    let P : Fate → Type 0 = λ f. Happens g.D.Disk end c.record.new.end o c.record.result f in
    subst P lacked (c.record.ensures.happens rules (λ notes note. refl))

pub record-requires-clause-identifier : goal.record-requires-clause-identifier
record-requires-clause-identifier g c =
    let is : IsNamed (Good c.in-Good.identifier) = subst IsNamed c.in-Good.is c.in-Ok.ensures.named in
    named c.in-Good.identifier is.0 is.1

pub record-requires-clause-packet : goal.record-requires-clause-packet
record-requires-clause-packet g c = sized c.args.packet c.requires.some c.requires.few
