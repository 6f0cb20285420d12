use Rattle.std.proofs.Common.{◌∙◌, ap, length}
use Rattle.std.specs.Prelude.{◌==◌}
use Rattle.xml_lexer.specs.Spelling.{tag_end}
use Rattle.voe_tree.proofs.WrittenStart.{tag_put}
use Rattle.voe_tree.proofs.element.Element.put_tag.Goals as goal

pub returns-clause-bytes : goal.returns-clause-bytes
returns-clause-bytes c =
    tag_put c.args.default.now c.args.self.now.space c.args.self.now.local c.args.self.now.attributes c.args.spaces.now (length c.args.self.now.children == 0) c.requires
    c.args.writer.now.bytes.items c.put.new.self.bytes.items c.put-2.new.self.bytes.items c.default_declaration.new.self.bytes.items c.declarations.new.self.bytes.items
    c.attributes.new.self.bytes.items c.finish.new.self.bytes.items c.as_bytes.result.now c.as_str-2.result.now c.tag_end.result.now c.as_slice.result.now
    c.in_ok-put.ensures.bytes c.in_ok-put-2.ensures.bytes (c.as_bytes.ensures.value ∙ c.as_str.ensures)
    c.in_ok-default_declaration.ensures.bytes c.as_str-2.ensures c.in_ok-declarations.ensures.bytes c.in_ok-attributes.ensures.bytes c.as_slice.ensures
    c.in_ok-finish.ensures.bytes (c.tag_end.ensures.value ∙ ap tag_end c.is_childless.ensures)
