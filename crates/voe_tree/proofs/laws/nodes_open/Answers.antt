use Rattle.voe_tree.proofs.Contained.{element_in-element, element_in-text, string_in-element, string_in-text, text_in-element, text_in-text}
use Rattle.voe_tree.proofs.WrittenTree.{tokens_in-element, tokens_in-text}
use Rattle.voe_tree.proofs.WrittenNodes.{height-element, height-text, kept-element, kept-text}
use Rattle.voe_tree.proofs.laws.nodes_open.Goals as goal

pub returns-clause-element_tokens : goal.returns-clause-element_tokens
returns-clause-element_tokens c = tokens_in-element

pub returns-clause-text_tokens : goal.returns-clause-text_tokens
returns-clause-text_tokens c = tokens_in-text

pub returns-clause-element_kept : goal.returns-clause-element_kept
returns-clause-element_kept c = kept-element

pub returns-clause-text_kept : goal.returns-clause-text_kept
returns-clause-text_kept c = kept-text

pub returns-clause-element_height : goal.returns-clause-element_height
returns-clause-element_height c = height-element

pub returns-clause-text_height : goal.returns-clause-text_height
returns-clause-text_height c = height-text

pub returns-clause-element_string : goal.returns-clause-element_string
returns-clause-element_string c = string_in-element

pub returns-clause-text_string : goal.returns-clause-text_string
returns-clause-text_string c = string_in-text

pub returns-clause-element_in : goal.returns-clause-element_in
returns-clause-element_in c = element_in-element

pub returns-clause-text_no_element : goal.returns-clause-text_no_element
returns-clause-text_no_element c = element_in-text

pub returns-clause-text_in : goal.returns-clause-text_in
returns-clause-text_in c = text_in-text

pub returns-clause-element_no_text : goal.returns-clause-element_no_text
returns-clause-element_no_text c = text_in-element
