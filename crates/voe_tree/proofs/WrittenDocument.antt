-- The canonical text of a tree spells the tree.
use Rattle.std.proofs.Common.{◌≡◌, ℕ, ◌≤◌, zero, suc, Bool, true, false, List, [], ◌∷◌, ◌++◌, length, map, refl, sym, ◌∙◌, ap, subst, inl, inr, arith, one-add}
use Rattle.std.specs.Prelude.{◌==◌, ◌&&◌, nat_le, nat_lt, slice_index, Option, Some, codes}
use Rattle.std.specs.List.{concat, list_all, take_while}
use Rattle.std.specs.Str.{IsUtf8, is_utf8, chars, encode_utf8_all}
use Rattle.std.proofs.lemmas.Bool.{and_parts, both_ways, leb-true}
use Rattle.std.proofs.lemmas.Str.{IsUtf8-from_is_utf8, chars-encodes}
use Rattle.std.proofs.lemmas.List.Folds.{list_all-append}
use Rattle.xml_lexer.specs.Characters.{Text, is_name, is_name_byte, is_xml_character, starts_name, xml_front}
use Rattle.xml_lexer.specs.Token.{Token, start, Spelled}
use Rattle.xml_lexer.specs.Spelling.{tag_end}
use Rattle.xml_lexer.specs.Cut.{Follow}
use Rattle.xml_lexer.specs.Phases.{BeginsDeclared, Covers, IsText, IsTokensOf, max_tokens, without_mark}
use Rattle.voe_tree.specs.Texts.{is_xml_text}
use Rattle.voe_tree.specs.Shape.{Kept, attributes_keep, children_keep, depth, greatest, height, is_local_name, is_well_formed, keeps, node_kept}
use Rattle.voe_tree.specs.Document.{Spells}
use Rattle.voe_tree.specs.declared.element.Element.{Element}
use Rattle.voe_tree.specs.declared.element.Node.{Node}
use Rattle.voe_tree.specs.Canonical.{all_written, canonical, canonical_tokens, end_tag, is_narrow, is_writable, max_bytes, tokens_in, tokens_of, written, written_attributes, written_spelled}
use Rattle.voe_tree.proofs.XmlTexts.{xml-nil, xml-append}
use Rattle.voe_tree.proofs.WrittenRuns.{all_written-append}
use Rattle.voe_tree.proofs.WrittenTexts.{Reads}
use Rattle.voe_tree.proofs.WrittenTree.{tokens_of-layer, tokens_in-element, tokens_in-text}
use Rattle.voe_tree.proofs.WrittenElements.{few_spaces}
use Rattle.voe_tree.proofs.WrittenXml.{ascii_xml, start_xml, text_xml, written_xml}
use Rattle.voe_tree.proofs.WrittenCases.{node_cases}
use Rattle.voe_tree.proofs.WrittenNodes.{canonical-is_root, canonical-reads, depth_out, first_keeps, height-element, keeps_out, kept-element, kept-text, kids_tokens, tag_keeps}

-- ---- characters

-- the elements of this depth are written in XML characters
abbrev pub XmlWithin : ℕ → Type 0
XmlWithin deep = (e : Element) → depth e ≤ deep → keeps e ≡ true → (default : Text) → list_all is_narrow (tokens_of e default) ≡ true → is_xml_text (all_written (tokens_of e default)) ≡ true

end_xml : (b : Bool) (name : Text) → is_xml_text name ≡ true → is_xml_text (all_written (end_tag b name)) ≡ true
end_xml true name h = xml-nil
end_xml false name h =
    xml-append (codes "</" ++ name ++ codes ">") [] (xml-append (codes "</" ++ name) (codes ">") (xml-append (codes "</") name (ascii_xml (codes "</") refl) h) (ascii_xml (codes ">") refl)) xml-nil

pub kids_xml : (deep : ℕ) → XmlWithin deep → (space : Text) (ns : List Node) → greatest (map height ns) ≤ deep → children_keep (map node_kept ns) ≡ true →
    list_all is_narrow (kids_tokens space ns) ≡ true → is_xml_text (all_written (kids_tokens space ns)) ≡ true
kids_xml deep below space [] low kept narrow = xml-nil
kids_xml deep below space (n ∷ ns) low kept narrow =
    let facts = first_keeps (node_kept n) (map node_kept ns) kept in
    let parts = and_parts (list_all is_narrow (tokens_in n space)) (list_all is_narrow (kids_tokens space ns))
    (sym (list_all-append is_narrow (tokens_in n space) (kids_tokens space ns)) ∙ narrow) in
    let more : is_xml_text (all_written (kids_tokens space ns)) ≡ true = kids_xml deep below space ns (omega arith) facts.1 parts.1 in
    let low_first : height n ≤ deep = omega arith in
    let own : is_xml_text (all_written (tokens_in n space)) ≡ true =
    elim (node_cases n) [
      | inl e ↦ ap (λ m. is_xml_text (all_written (tokens_in m space))) e.1 ∙ ap (λ l. is_xml_text (all_written l)) (tokens_in-element e.0 space)
          ∙ below e.0 (subst (λ k. k ≤ deep) (ap height e.1 ∙ height-element e.0) low_first)
          (sym (ap (λ (k : Kept). k.1) (ap node_kept e.1 ∙ kept-element e.0)) ∙ facts.0) space
          (ap (list_all is_narrow) (sym (tokens_in-element e.0 space) ∙ ap (λ m. tokens_in m space) (sym e.1)) ∙ parts.0)
      | inr t ↦ ap (λ m. is_xml_text (all_written (tokens_in m space))) t.1 ∙ ap (λ l. is_xml_text (all_written l)) (tokens_in-text t.0 space)
          ∙ text_xml t.0 (and_parts (nat_lt 0 (length t.0)) (is_xml_text t.0) (sym (ap (λ (k : Kept). k.1) (ap node_kept t.1 ∙ kept-text t.0)) ∙ facts.0)).1
    ] in
    ap is_xml_text (all_written-append (tokens_in n space) (kids_tokens space ns)) ∙ xml-append (all_written (tokens_in n space)) (all_written (kids_tokens space ns)) own more

element_xml : (deep : ℕ) → XmlWithin deep → XmlWithin (suc deep)
element_xml deep below e low kept default narrow =
    let facts = tag_keeps e default kept narrow in
    let all = and_parts (is_xml_text e.space && is_local_name e.local && attributes_keep e.attributes) (children_keep (map node_kept e.children)) (sym (keeps_out e) ∙ kept) in
    let own = and_parts (is_xml_text e.space && is_local_name e.local) (attributes_keep e.attributes) all.0 in
    let named = and_parts (is_xml_text e.space) (is_local_name e.local) own.0 in
    let local_xml : is_xml_text e.local ≡ true = (and_parts (is_name e.local) (is_xml_text e.local) named.1).1 in
    let begin = start e.local (written_attributes default e.space e.attributes) (length e.children == 0) in
    let finish = end_tag (length e.children == 0) e.local in
    let kids = kids_xml deep below e.space e.children (let out = depth_out e in omega arith) facts.1 facts.2 in
    ap (λ l. is_xml_text (all_written l)) (tokens_of-layer e default)
    ∙ xml-append (written begin) (all_written (kids_tokens e.space e.children ++ finish))
    (start_xml e.local (written_attributes default e.space e.attributes) (length e.children == 0) local_xml
    (written_xml default e.space e.attributes named.0 facts.0.attributes (few_spaces e default facts.0)))
    (ap is_xml_text (all_written-append (kids_tokens e.space e.children) finish)
    ∙ xml-append (all_written (kids_tokens e.space e.children)) (all_written finish) kids (end_xml (length e.children == 0) e.local local_xml))

pub xml_within : (deep : ℕ) → XmlWithin deep
xml_within zero e low kept default narrow = absurd (let out = depth_out e in omega arith)
xml_within (suc deep) e low kept default narrow = element_xml deep (xml_within deep) e low kept default narrow

-- ---- the front

passes_all : (p : ℕ → Bool) (s : Text) → list_all p s ≡ true → take_while p s ≡ s
passes_all p [] h = refl
passes_all p (x ∷ s) h =
    let parts = and_parts (p x) (list_all p s) h in
    let passes : p x ≡ true = parts.0 in
    rw (passes, one-add) (ap (λ l. x ∷ l) (passes_all p s parts.1))

utf8_again : (s : Text) → IsUtf8 s → encode_utf8_all (chars s) ≡ s
utf8_again s u = ap encode_utf8_all (ap chars (sym u.1.1) ∙ chars-encodes u.0 u.1.0) ∙ u.1.1

xml_is_utf8 : (s : Text) → is_xml_text s ≡ true → IsUtf8 s
xml_is_utf8 s h = IsUtf8-from_is_utf8 s (and_parts (is_utf8 s) (list_all is_xml_character (chars s)) h).0

own_front : (s : Text) → is_xml_text s ≡ true → s ≡ xml_front s
own_front s h =
    sym (ap encode_utf8_all (passes_all is_xml_character (chars s) (and_parts (is_utf8 s) (list_all is_xml_character (chars s)) h).1) ∙ utf8_again s (xml_is_utf8 s h))

-- a text that begins with `<` and a name has no declaration and no mark
pub record BeginsTag (s : Text) : Type 0 where
  pub name : ℕ
  pub rest : Text
  pub starts : starts_name name ≡ true
  pub split : s ≡ 60 ∷ name ∷ rest

no_declaration : (s : Text) → BeginsTag s → (encoding : Option Text) (declared behind : Text) → BeginsDeclared s encoding declared behind → ⊥
no_declaration s tag encoding declared behind begins =
    let same : slice_index (60 ∷ tag.name ∷ tag.rest) 1 ≡ slice_index (declared ++ behind) 1 = ap (λ t. slice_index t 1) (sym tag.split ∙ begins.1) in
    let question : slice_index (declared ++ behind) 1 ≡ 63 = ap (λ t. slice_index (t ++ behind) 1) begins.0.11 in
    both_ways (starts_name 63) refl (ap starts_name (sym (same ∙ question)) ∙ tag.starts)

no_mark : (s : Text) → BeginsTag s → without_mark s ≡ s
no_mark s tag = ap without_mark tag.split ∙ sym tag.split

tag_begins : (local : Text) → is_name local ≡ true → (attributes ending rest : Text) → BeginsTag ((((codes "<" ++ local) ++ attributes) ++ ending) ++ rest)
tag_begins [] h attributes ending rest = absurd (both_ways (is_name []) refl h)
tag_begins (c ∷ l) h attributes ending rest =
    record { name = c; rest = ((l ++ attributes) ++ ending) ++ rest; starts = (and_parts (starts_name c) (list_all is_name_byte (c ∷ l)) h).0; split = refl }

root_begins : (root : Element) → is_name root.local ≡ true → BeginsTag (canonical root)
root_begins root named =
    subst BeginsTag (sym (ap all_written (tokens_of-layer root [])))
    (tag_begins root.local named (concat (map written_spelled (written_attributes [] root.space root.attributes))) (tag_end (length root.children == 0))
    (all_written (kids_tokens root.space root.children ++ end_tag (length root.children == 0) root.local)))

-- a start tag may come first
pub first_stands : (s name : Text) (given : List Spelled) (is_empty : Bool) (ks : List Token) → Reads s (start name given is_empty ∷ ks) → Follow true s (start name given is_empty ∷ ks) []
first_stands s name given is_empty ks (next, begins, more) =
    (next, record { spelled = begins.spelled; is_spelled = begins.is_spelled; is_front = begins.is_front; may_stand = tt }, more)

canonical-follows : (root : Element) → Reads (canonical root) (canonical_tokens root) → Follow true (canonical root) (canonical_tokens root) []
canonical-follows root reads =
    subst (λ l. Follow true (canonical root) l []) (sym (tokens_of-layer root []))
    (first_stands (canonical root) root.local (written_attributes [] root.space root.attributes) (length root.children == 0)
    (kids_tokens root.space root.children ++ end_tag (length root.children == 0) root.local)
    (subst (λ l. Reads (canonical root) l) (tokens_of-layer root []) reads))

-- ---- the law

-- a text that begins with a tag, and reads as few enough tokens, is a document of these
pub is_document : (s : Text) (ks : List Token) → is_xml_text s ≡ true → BeginsTag s → Follow true s ks [] → length ks ≤ max_tokens → IsTokensOf ks s
is_document s ks xml tag follows few =
    let is_text : IsText s = (xml_is_utf8 s xml, λ encoding declared behind begins any. absurd (no_declaration s tag (Some encoding) declared behind begins)) in
    let covers : Covers s ks = (inr (λ encoding declared behind begins. no_declaration s tag encoding declared behind begins, own_front s xml), follows) in
    subst (λ t. IsText t × Covers t ks × (length ks ≤ max_tokens)) (sym (no_mark s tag)) (is_text, covers, few)

-- the canonical text of a tree spells the tree, where it is short enough to be read
pub canonical-spells : (root : Element) → is_well_formed root ≡ true → is_writable root ≡ true → Spells root (canonical root)
canonical-spells root well writable =
    let facts = and_parts (keeps root) (nat_le (depth root) 64) well in
    let bounds = and_parts (nat_le (length (canonical root)) max_bytes && nat_le (length (canonical_tokens root)) max_tokens) (list_all is_narrow (canonical_tokens root)) writable in
    let few = leb-true (length (canonical_tokens root)) max_tokens (and_parts (nat_le (length (canonical root)) max_bytes) (nat_le (length (canonical_tokens root)) max_tokens) bounds.0).1 in
    let low : depth root ≤ 64 = leb-true (depth root) 64 facts.1 in
    let xml : is_xml_text (canonical root) ≡ true = xml_within 64 root low facts.0 [] bounds.1 in
    let tag : BeginsTag (canonical root) = root_begins root (tag_keeps root [] facts.0 bounds.1).0.local in
    let follows : Follow true (canonical root) (canonical_tokens root) [] = canonical-follows root (canonical-reads root facts.0 low bounds.1) in
    (canonical_tokens root, is_document (canonical root) (canonical_tokens root) xml tag follows few, canonical-is_root root facts.0 low bounds.1)

-- what the writer gives spells the tree
pub written_spells : (root : Element) (bytes : Text) → is_well_formed root ≡ true → (bytes ≡ canonical root) × (is_writable root ≡ true) → Spells root bytes
written_spells root bytes well given = subst (Spells root) (sym given.0) (canonical-spells root well given.1)
