use Rattle.std.proofs.Common.{◌≡◌, ℕ, List, refl, sym, ◌∙◌, subst}
use Rattle.net_model.specs.declared.step.Judged.{Judged}
use Rattle.net_model.specs.declared.step.Judged.TheVariants.{BadPacket, BadTree, Good}
use Rattle.voe_validity.specs.Judging.{IsJudged}
use Rattle.voevent_online.proofs.submit_packet.judge_packet.Goals as goal

judged_as : (slice bytes : List ℕ) (was is : Judged) → slice ≡ bytes → was ≡ is → IsJudged slice was → IsJudged bytes is
judged_as slice bytes was is same says h = subst (λ (j : Judged). IsJudged bytes j) says (subst (λ (b : List ℕ). IsJudged b was) same h)

pub refusal_of_tree-requires-clause-no_tree : goal.refusal_of_tree-requires-clause-no_tree
refusal_of_tree-requires-clause-no_tree c = (
  c.in-BadTree.number,
  judged_as c.as_slice.result.now c.as_slice-in-BadTree.result.now c.in-Ok.field-0.judged (BadTree c.in-BadTree.number) (c.as_slice.ensures ∙ sym c.as_slice-in-BadTree.ensures) c.in-BadTree.is c.in-Ok.ensures.judged,
)

pub returns-in-BadPacket-clause-err : goal.returns-in-BadPacket-clause-err
returns-in-BadPacket-clause-err c = record {
  identifier = c.in-BadPacket.identifier;
  judged = judged_as c.as_slice.result.now c.args.bytes c.in-Ok.field-0.judged (BadPacket c.in-BadPacket.number c.in-BadPacket.identifier) c.as_slice.ensures c.in-BadPacket.is c.in-Ok.ensures.judged;
}

pub returns-in-Good-clause-ok : goal.returns-in-Good-clause-ok
returns-in-Good-clause-ok c = (refl, judged_as c.as_slice.result.now c.args.bytes c.in-Ok.field-0.judged (Good c.in-Good.identifier) c.as_slice.ensures c.in-Good.is c.in-Ok.ensures.judged)
