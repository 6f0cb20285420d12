-- The text of a tree whose root has a prefix spells the tree.
use Rattle.std.proofs.Common.{◌≡◌, true, false, [], ◌∷◌, ◌++◌, length, map, refl, sym, ◌∙◌, ap, lit<}
use Rattle.std.specs.Prelude.{◌&&◌, not, nat_le, codes}
use Rattle.std.specs.List.{concat, list_all}
use Rattle.std.proofs.lemmas.Bool.{and_parts, both_ways, leb-true}
use Rattle.std.proofs.lemmas.List.Folds.{list_all-append}
use Rattle.xml_lexer.specs.Characters.{Text, is_name, is_name_byte, starts_name}
use Rattle.xml_lexer.specs.Token.{start, end}
use Rattle.xml_lexer.specs.Spelling.{same, tag_end}
use Rattle.xml_lexer.specs.Phases.{max_tokens}
use Rattle.voe_tree.specs.Texts.{is_xml_text}
use Rattle.voe_tree.specs.Shape.{attributes_keep, children_keep, depth, is_local_name, is_well_formed, keeps as keeps_all, node_kept}
use Rattle.voe_tree.specs.Document.{Spells}
use Rattle.voe_tree.specs.declared.element.Element.{Element}
use Rattle.voe_tree.specs.Canonical.{all_written, is_narrow, is_short, max_bytes, written, written_spelled}
use Rattle.voe_tree.specs.Prefixed.{is_prefix, prefixed, prefixed_attributes, prefixed_name, prefixed_tokens, takes_prefix}
use Rattle.voe_tree.proofs.XmlTexts.{xml-nil, xml-append}
use Rattle.voe_tree.proofs.WrittenRuns.{all_written-append}
use Rattle.voe_tree.proofs.WrittenXml.{ascii_xml, attributes_xml, start_xml, value_xml}
use Rattle.voe_tree.proofs.WrittenNodes.{keeps_out, kids_tokens}
use Rattle.voe_tree.proofs.WrittenDocument.{BeginsTag, first_stands, is_document, kids_xml, xml_within}
use Rattle.voe_tree.proofs.PrefixedTree.{Prefixes, prefixed-is_root, prefixed-reads, prefixes}

-- ---- characters

name_xml : (prefix local : Text) → is_xml_text prefix ≡ true → is_xml_text local ≡ true → is_xml_text (prefixed_name prefix local) ≡ true
name_xml prefix local h k = xml-append prefix (58 ∷ local) h (xml-append (58 ∷ []) local (ascii_xml (58 ∷ []) refl) k)

end_xml : (name : Text) → is_xml_text name ≡ true → is_xml_text (written (end name)) ≡ true
end_xml name h = xml-append (codes "</" ++ name) (codes ">") (xml-append (codes "</") name (ascii_xml (codes "</") refl) h) (ascii_xml (codes ">") refl)

last_xml : (name : Text) → is_xml_text name ≡ true → is_xml_text (all_written (end name ∷ [])) ≡ true
last_xml name h = xml-append (written (end name)) [] (end_xml name h) xml-nil

-- the facts of characters
record AreCharacters (prefix : Text) (root : Element) : Type 0 where
  pub prefix_xml : is_xml_text prefix ≡ true
  pub local_xml : is_xml_text root.local ≡ true
  pub space_xml : is_xml_text root.space ≡ true

are_characters : (prefix : Text) (root : Element) → is_prefix prefix ≡ true → keeps_all root ≡ true → AreCharacters prefix root
are_characters prefix root h kept =
    let outer = and_parts (is_local_name prefix && not (same prefix (codes "xml"))) (not (same prefix (codes "xmlns"))) h in
    let inner = and_parts (is_local_name prefix) (not (same prefix (codes "xml"))) outer.0 in
    let all = and_parts (is_xml_text root.space && is_local_name root.local && attributes_keep root.attributes) (children_keep (map node_kept root.children)) (sym (keeps_out root) ∙ kept) in
    let own = and_parts (is_xml_text root.space && is_local_name root.local) (attributes_keep root.attributes) all.0 in
    let names = and_parts (is_xml_text root.space) (is_local_name root.local) own.0 in
    record {
      prefix_xml = (and_parts (is_name prefix) (is_xml_text prefix) inner.0).1;
      local_xml = (and_parts (is_name root.local) (is_xml_text root.local) names.1).1;
      space_xml = names.0;
    }

prefixed_xml : (prefix : Text) (root : Element) → AreCharacters prefix root → Prefixes prefix root → list_all is_narrow (kids_tokens [] root.children) ≡ true →
    is_xml_text (prefixed prefix root) ≡ true
prefixed_xml prefix root texts keeps narrow =
    let name = prefixed_name prefix root.local in
    let name_is : is_xml_text name ≡ true = name_xml prefix root.local texts.prefix_xml texts.local_xml in
    xml-append (written (start name (prefixed_attributes prefix root.space root.attributes) false)) (all_written (kids_tokens [] root.children ++ end name ∷ []))
    (start_xml name (prefixed_attributes prefix root.space root.attributes) false name_is (
      xml-append (codes "xmlns:") prefix (ascii_xml (codes "xmlns:") refl) texts.prefix_xml,
      value_xml root.space texts.space_xml,
      attributes_xml [] root.attributes (lit< tt) keeps.attributes,
    ))
    (ap is_xml_text (all_written-append (kids_tokens [] root.children) (end name ∷ []))
    ∙ xml-append (all_written (kids_tokens [] root.children)) (all_written (end name ∷ []))
    (kids_xml 63 (xml_within 63) [] root.children keeps.low keeps.children narrow) (last_xml name name_is))

-- ---- the law

prefixed_begins : (prefix : Text) → is_name prefix ≡ true → (local attributes ending rest : Text) →
    BeginsTag ((((codes "<" ++ (prefix ++ 58 ∷ local)) ++ attributes) ++ ending) ++ rest)
prefixed_begins [] h local attributes ending rest = absurd (both_ways (is_name []) refl h)
prefixed_begins (c ∷ l) h local attributes ending rest =
    record { name = c; rest = (((l ++ 58 ∷ local) ++ attributes) ++ ending) ++ rest; starts = (and_parts (starts_name c) (list_all is_name_byte (c ∷ l)) h).0; split = refl }

-- the text of a tree whose root has a prefix spells the tree, where it is short enough to be read
pub prefixed-spells : (prefix : Text) (root : Element) → is_prefix prefix ≡ true → takes_prefix root ≡ true → is_well_formed root ≡ true →
    is_short (length (prefixed prefix root)) (prefixed_tokens prefix root) ≡ true → Spells root (prefixed prefix root)
prefixed-spells prefix root h takes well short =
    let name = prefixed_name prefix root.local in
    let given = prefixed_attributes prefix root.space root.attributes in
    let kids = kids_tokens [] root.children in
    let keeps = prefixes prefix root h takes well in
    let bounds = and_parts (nat_le (length (prefixed prefix root)) max_bytes && nat_le (length (prefixed_tokens prefix root)) max_tokens) (list_all is_narrow (prefixed_tokens prefix root)) short in
    let few = leb-true (length (prefixed_tokens prefix root)) max_tokens (and_parts (nat_le (length (prefixed prefix root)) max_bytes) (nat_le (length (prefixed_tokens prefix root)) max_tokens) bounds.0).1 in
    let tags = and_parts (nat_le (length given) 64) (list_all is_narrow (kids ++ end name ∷ [])) bounds.1 in
    let narrow : list_all is_narrow kids ≡ true =
    (and_parts (list_all is_narrow kids) (list_all is_narrow (end name ∷ [])) (sym (list_all-append is_narrow kids (end name ∷ [])) ∙ tags.1)).0 in
    let reads = prefixed-reads prefix root keeps (leb-true (length given) 64 tags.0) narrow in
    let kept = (and_parts (keeps_all root) (nat_le (depth root) 64) well).0 in (
      prefixed_tokens prefix root,
      is_document (prefixed prefix root) (prefixed_tokens prefix root) (prefixed_xml prefix root (are_characters prefix root h kept) keeps narrow)
          (prefixed_begins prefix keeps.named_prefix root.local (concat (map written_spelled given)) (tag_end false) (all_written (kids ++ end name ∷ [])))
          (first_stands (prefixed prefix root) name given false (kids ++ end name ∷ []) reads) few,
      prefixed-is_root prefix root keeps narrow,
    )
