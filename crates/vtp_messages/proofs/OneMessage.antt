-- A tree says at most one message.
use Rattle.std.proofs.Common.{◌≡◌, Some, refl, sym, ◌∙◌}
use Rattle.std.proofs.Props.{props}
use Rattle.std.specs.Prelude.{IsTrue}
use mathlib.Core.HLevel.{is_prop→PathP}
use Rattle.voe_tree.specs.declared.element.Element.{Element}
use Rattle.vtp_messages.specs.Parts.{is_stripped_if}
use Rattle.vtp_messages.specs.Reading.{IsMessageOf, RefusesMessage}
use Rattle.vtp_messages.specs.declared.fault.MessageFault.{MessageFault}
use Rattle.vtp_messages.specs.declared.fault.MessageFault.TheVariants.{NotTransport, BadRole, NoOrigin, NoMemory}
use Rattle.vtp_messages.specs.declared.message.Message.{Message}

same_some : {A : Type 0} {a c : A} → Some a ≡ Some c → a ≡ c
same_some e = cc

pub one_message : (root : Element) (m n : Message) → IsMessageOf m root → IsMessageOf n root → m ≡ n
one_message root m n h k =
    let role = same_some (sym h.role ∙ k.role) in
    let origin = same_some (sym h.origin ∙ k.origin) in
    let response = sym h.response ∙ k.response in
    let stamp = sym h.stamp ∙ k.stamp in
    let params = sym h.params ∙ k.params in
    let answer = sym h.result ∙ k.result in
    λ i. record {
      role = role i;
      origin = origin i;
      response = response i;
      stamp = stamp i;
      params = params i;
      result = answer i;
      stamp_is_stripped = is_prop→PathP (λ j. IsTrue (is_stripped_if (stamp j))) (λ j. hlevel props) m.stamp_is_stripped n.stamp_is_stripped i;
      result_is_stripped = is_prop→PathP (λ j. IsTrue (is_stripped_if (answer j))) (λ j. hlevel props) m.result_is_stripped n.result_is_stripped i;
    }

pub not_refused : (root : Element) (m : Message) (fault : MessageFault) → IsMessageOf m root → RefusesMessage root fault → fault ≡ NoMemory
not_refused root m NotTransport says refused = absurd (let yes = says.transport in cc)
not_refused root m BadRole says refused = absurd (let yes = says.role in let no = refused.1 in cc)
not_refused root m NoOrigin says refused = absurd (let yes = says.origin in let no = refused.2 in cc)
not_refused root m NoMemory says refused = refl
