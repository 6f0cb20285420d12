use Rattle.std.proofs.Common.{◌≡◌, ◌++◌, true, drop, map}
use Rattle.std.specs.List.{list_all}
use Rattle.voe_tree.specs.Validity.{citations_of, is_lone_identifier}
use Rattle.voe_packet.specs.Parts.{citation_of, elements}
use Rattle.voe_packet.proofs.parts.citations_of.Given as goal

abbrev pub invariant-loop-element : goal.invariant-loop-element
invariant-loop-element l = record {
  all : l.citations ++ map citation_of (elements (drop l.element-index l.element-items)) ≡ map citation_of (citations_of l.root);
  lone : list_all (λ e. is_lone_identifier e.children) (elements (drop l.element-index l.element-items)) ≡ true;
}
