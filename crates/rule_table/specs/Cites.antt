-- What is asked of a citation.
use Rattle.std.specs.Prelude.{Bool, codes}
use Rattle.voe_tree.specs.declared.element.Element.{Element}
use Rattle.voe_tree.specs.Contents.{attribute_of}
use Rattle.voe_tree.specs.Validity.{has_kind, is_lone_identifier}
use Rattle.rule_table.specs.declared.cites.CiteRule.{CiteRule}
use Rattle.rule_table.specs.declared.cites.CiteRule.TheVariants.{HasKind, NamesIdentifier}

abbrev pub is_kept : CiteRule → Element → Bool
is_kept HasKind cite = has_kind (attribute_of cite (codes "cite"))
is_kept NamesIdentifier cite = is_lone_identifier cite.children
