use Rattle.std.proofs.Common.{◌≡◌, ◌++◌, map, ◌∙◌, ap}
use Rattle.std.specs.List.{list_all}
use Rattle.voe_tree.specs.Validity.{citations_of, is_lone_identifier}
use Rattle.voe_tree.specs.declared.element.Element.{Element}
use Rattle.voe_packet.specs.Parts.{citation_of, elements}
use Rattle.voe_packet.proofs.ValidParts.{citation_places}
use Rattle.voe_packet.proofs.parts.citations_of.Goals as goal

pub loop-element-init : goal.loop-element-init
loop-element-init c =
    let same : elements c.as_slice-element-items.result.now ≡ citations_of c.args.root.now =
    ap elements c.as_slice-element-items.ensures.value ∙ c.in_ok-found.ensures ∙ citation_places c.args.root.now in
    record {
      all = ap (λ l. l ++ map citation_of (elements c.as_slice-element-items.result.now)) c.new-citations.ensures ∙ ap (map citation_of) same;
      lone = ap (list_all (λ (e : Element). is_lone_identifier e.children)) same ∙ c.requires;
    }
