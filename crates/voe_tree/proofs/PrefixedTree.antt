-- A tree whose root has a prefix reads as the tree.
use Rattle.std.proofs.Common.{◌≡◌, ℕ, ◌≤◌, ◌<◌, Bool, true, false, List, [], ◌∷◌, ◌++◌, length, map, refl, sym, ◌∙◌, ap, subst, lit<, arith}
use Rattle.std.specs.Prelude.{◌==◌, ◌||◌, ◌&&◌, not, nat_le, nat_lt, if◌then◌else◌, Some, None, unwrap_or, codes}
use Rattle.std.specs.List.{list_all, list_any}
use Rattle.std.proofs.lemmas.Bool.{and_parts, both_ways, eqb-true, leb-true, ltb-true, not-true}
use Rattle.xml_lexer.specs.Characters.{Text, is_name}
use Rattle.xml_lexer.specs.Token.{end, Spelled}
use Rattle.xml_lexer.specs.Spelling.{same}
use Rattle.voe_tree.specs.Texts.{is_xml_text}
use Rattle.voe_tree.specs.Pairs.{has_pair}
use Rattle.voe_tree.specs.Shape.{attribute_keeps, attributes_keep, children_keep, depth, greatest, height, is_local_name, is_well_formed, keeps, node_kept, same_attribute}
use Rattle.voe_tree.specs.Build.{Node as Built, none, node, element, outermost}
use Rattle.voe_tree.specs.Names.{Bindings, declare, declared_prefix, element_with, is_bound, is_declaration, local_of, named, named_all, named_attribute, named_attributes, namespace, prefix_of, read_value, undeclaring, xml_namespace}
use Rattle.voe_tree.specs.Rules.{names_unbound, repeats, same_named, same_spelled, start_rule, unbound_in}
use Rattle.voe_tree.specs.Document.{IsRootOf}
use Rattle.voe_tree.specs.declared.element.Attribute.{Attribute}
use Rattle.voe_tree.specs.declared.element.Element.{Element}
use Rattle.voe_tree.specs.declared.element.Node.TheVariants as tree
use Rattle.voe_tree.specs.Canonical.{all_written, is_narrow, written, written_attribute, written_value}
use Rattle.voe_tree.specs.Prefixed.{is_prefix, prefixed, prefixed_attributes, prefixed_name, prefixed_tokens, takes_prefix}
use Rattle.voe_tree.proofs.WrittenRuns.{all_written-append}
use Rattle.voe_tree.proofs.WrittenNames.{is-same, with-has, with-local, with-prefix, with-spelled}
use Rattle.voe_tree.proofs.WrittenValues.{read_value-written, written_value-is_value}
use Rattle.voe_tree.proofs.WrittenAttributes.{bound_to, reads_as}
use Rattle.voe_tree.proofs.WrittenBindings.{HasDefault}
use Rattle.voe_tree.proofs.WrittenTags.{AllRead, declare-attributes, map_named, undeclaring-attributes, bound_all}
use Rattle.voe_tree.proofs.WrittenRepeats.{attributes_apart, declared_apart, false_since, named_pairs, or_from}
use Rattle.voe_tree.proofs.WrittenTexts.{Reads}
use Rattle.voe_tree.proofs.WrittenElements.{AreSpelled, NodesRead, attributes_spelled, end_goes_on, levels_close, reads_end, reads_start, start_goes_on, start_rule_of}
use Rattle.voe_tree.proofs.WrittenNodes.{all_within, depth_out, keeps_out, kids_tokens, kids_within}

-- ---- what is kept

-- the facts of a root that has a prefix
pub record Prefixes (prefix : Text) (root : Element) : Type 0 where
  pub named_prefix : is_name prefix ≡ true
  pub not_xml : same prefix (codes "xml") ≡ false
  pub local : is_name root.local ≡ true
  pub some : 0 < length root.space
  pub attributes : list_all attribute_keeps root.attributes ≡ true
  pub apart : has_pair same_attribute root.attributes ≡ false
  pub spaceless : list_all (λ (a : Attribute). length a.space == 0) root.attributes ≡ true
  pub children : children_keep (map node_kept root.children) ≡ true
  pub low : greatest (map height root.children) ≤ 63

pub prefixes : (prefix : Text) (root : Element) → is_prefix prefix ≡ true → takes_prefix root ≡ true → is_well_formed root ≡ true → Prefixes prefix root
prefixes prefix root h takes well =
    let outer = and_parts (is_local_name prefix && not (same prefix (codes "xml"))) (not (same prefix (codes "xmlns"))) h in
    let inner = and_parts (is_local_name prefix) (not (same prefix (codes "xml"))) outer.0 in
    let root_takes = and_parts (nat_lt 0 (length root.space)) (list_all (λ (a : Attribute). length a.space == 0) root.attributes) takes in
    let facts = and_parts (keeps root) (nat_le (depth root) 64) well in
    let all = and_parts (is_xml_text root.space && is_local_name root.local && attributes_keep root.attributes) (children_keep (map node_kept root.children)) (sym (keeps_out root) ∙ facts.0) in
    let own = and_parts (is_xml_text root.space && is_local_name root.local) (attributes_keep root.attributes) all.0 in
    let names = and_parts (is_xml_text root.space) (is_local_name root.local) own.0 in
    let attributes = and_parts (list_all attribute_keeps root.attributes) (not (has_pair same_attribute root.attributes)) own.1 in
    let shallow : depth root ≤ 64 = leb-true (depth root) 64 facts.1 in
    record {
      named_prefix = (and_parts (is_name prefix) (is_xml_text prefix) inner.0).0;
      not_xml = not-true (same prefix (codes "xml")) inner.1;
      local = (and_parts (is_name root.local) (is_xml_text root.local) names.1).0;
      some = ltb-true 0 (length root.space) root_takes.0;
      attributes = attributes.0;
      apart = not-true (has_pair same_attribute root.attributes) attributes.1;
      spaceless = root_takes.1;
      children = all.1;
      low = let out = depth_out root in omega arith;
    }

-- ---- attributes in no namespace

not_numbered : (space : Text) (t u : Bool) → t ≡ true → not (t || u) ≡ true → ⊥
not_numbered space true u h k = cc
not_numbered space false u h k = cc

spaceless_reads : (bindings : Bindings) (attributes : List Attribute) → list_all attribute_keeps attributes ≡ true → list_all (λ (a : Attribute). length a.space == 0) attributes ≡ true →
    AllRead bindings [] attributes
spaceless_reads bindings [] keeps h = tt
spaceless_reads bindings (a ∷ more) keeps h =
    let kept = and_parts (attribute_keeps a) (list_all attribute_keeps more) keeps in
    let none = and_parts (length a.space == 0) (list_all (λ (a : Attribute). length a.space == 0) more) h in (
      reads_as bindings [] a kept.0 (λ x has. cc) (λ numbered. absurd (not_numbered a.space (length a.space == 0) (same a.space xml_namespace) none.0 numbered)) (lit< tt),
      spaceless_reads bindings more kept.1 none.1,
    )

-- ---- the declaration of the prefix

abbrev prefix_declared : Text → Text → Spelled
prefix_declared prefix space = record { name = codes "xmlns:" ++ prefix; value = written_value space }

declares_prefix : (prefix value : Text) → is_declaration (record { name = codes "xmlns:" ++ prefix; value = value }) ≡ true
declares_prefix prefix value = ap (λ p. same (codes "xmlns:" ++ prefix) (codes "xmlns") || same p (codes "xmlns")) (with-prefix (codes "xmlns") prefix refl)

declared_prefix-is : (prefix : Text) → declared_prefix (codes "xmlns:" ++ prefix) ≡ prefix
declared_prefix-is prefix =
    ap (λ b. if b then local_of (codes "xmlns:" ++ prefix) else []) (with-has (codes "xmlns") prefix refl) ∙ with-local (codes "xmlns") prefix refl

-- what is bound in the root
abbrev root_bindings : Text → Text → Bindings
root_bindings prefix space = (prefix, space) ∷ []

given_declare : (prefix space : Text) (attributes : List Attribute) → AllRead (root_bindings prefix space) [] attributes →
    declare (prefixed_attributes prefix space attributes) [] ≡ root_bindings prefix space
given_declare prefix space attributes all =
    ap (λ b. declare (map (written_attribute []) attributes) (if b then (declared_prefix (codes "xmlns:" ++ prefix), read_value (written_value space)) ∷ [] else [])) (declares_prefix prefix (written_value space))
    ∙ ap (λ p. declare (map (written_attribute []) attributes) ((p, read_value (written_value space)) ∷ [])) (declared_prefix-is prefix)
    ∙ ap (λ v. declare (map (written_attribute []) attributes) ((prefix, v) ∷ [])) (read_value-written space)
    ∙ declare-attributes (root_bindings prefix space) (root_bindings prefix space) [] attributes all

no_prefix : (prefix : Text) → is_name prefix ≡ true → same prefix [] ≡ false
no_prefix [] h = absurd (both_ways (is_name []) refl h)
no_prefix (x ∷ p) h = refl

-- no default namespace is in force in the root
root_default : (prefix space : Text) → is_name prefix ≡ true → HasDefault (root_bindings prefix space) []
root_default prefix space h = ap (λ b. unwrap_or (if b then Some space else None) []) (no_prefix prefix h)

root_namespace : (prefix space : Text) → same prefix (codes "xml") ≡ false → namespace (root_bindings prefix space) prefix ≡ space
root_namespace prefix space other =
    ap (λ b. if b then xml_namespace else unwrap_or (if same prefix prefix then Some space else None) []) other
    ∙ ap (λ b. unwrap_or (if b then Some space else None) []) (is-same prefix prefix refl)

given_undeclaring : (bindings : Bindings) (prefix space : Text) (attributes : List Attribute) → AllRead bindings [] attributes →
    undeclaring (prefixed_attributes prefix space attributes) ≡ map (written_attribute []) attributes
given_undeclaring bindings prefix space attributes all =
    rw (declares_prefix prefix (written_value space)) (undeclaring-attributes bindings [] attributes all)

given_named : (bindings : Bindings) (prefix space : Text) (attributes : List Attribute) → AllRead bindings [] attributes →
    named_attributes bindings (prefixed_attributes prefix space attributes) ≡ attributes
given_named bindings prefix space attributes all =
    ap (map (named_attribute bindings)) (given_undeclaring bindings prefix space attributes all) ∙ map_named bindings [] attributes all

-- ---- the start tag breaks no rule

given_apart : (bindings : Bindings) (prefix space : Text) (attributes : List Attribute) → AllRead bindings [] attributes → has_pair same_attribute attributes ≡ false →
    repeats bindings (prefixed_attributes prefix space attributes) ≡ false
given_apart bindings prefix space attributes all h =
    or_from (has_pair same_spelled (prefixed_attributes prefix space attributes)) (has_pair same_named (named_attributes bindings (prefixed_attributes prefix space attributes)))
    (or_from (list_any (same_spelled (prefix_declared prefix space)) (map (written_attribute []) attributes)) (has_pair same_spelled (map (written_attribute []) attributes))
    (declared_apart (prefix_declared prefix space) (declares_prefix prefix (written_value space)) bindings [] attributes all)
    (attributes_apart bindings [] attributes all h))
    (ap (has_pair same_named) (given_named bindings prefix space attributes all) ∙ named_pairs attributes h)

not_zero : (n : ℕ) → 0 < n → (n == 0) ≡ false
not_zero n h = false_since (n == 0) (λ e. let none : n ≡ 0 = eqb-true n 0 e in omega arith)

given_bound : (prefix : Text) (root : Element) → Prefixes prefix root → AllRead (root_bindings prefix root.space) [] root.attributes →
    names_unbound (root_bindings prefix root.space) (prefixed_name prefix root.local) (prefixed_attributes prefix root.space root.attributes) ≡ false
given_bound prefix root keeps all =
    let within = root_bindings prefix root.space in
    ap (λ p. not (is_bound within p) || unbound_in within (prefixed_attributes prefix root.space root.attributes)) (with-prefix prefix root.local keeps.named_prefix)
    ∙ ap (λ b. not b || unbound_in within (prefixed_attributes prefix root.space root.attributes))
    (bound_to within prefix root.space (root_namespace prefix root.space keeps.not_xml) (not_zero (length root.space) keeps.some))
    ∙ ap (list_any (λ (a : Spelled). not (is_bound within (prefix_of a.name)))) (given_undeclaring within prefix root.space root.attributes all)
    ∙ bound_all within [] root.attributes all

root_all : (prefix : Text) (root : Element) → Prefixes prefix root → (bindings : Bindings) → AllRead bindings [] root.attributes
root_all prefix root keeps bindings = spaceless_reads bindings root.attributes keeps.attributes keeps.spaceless

start_unbroken : (prefix : Text) (root : Element) → Prefixes prefix root →
    start_rule [] (prefixed_name prefix root.local) (prefixed_attributes prefix root.space root.attributes) ≡ None
start_unbroken prefix root keeps =
    let within = root_bindings prefix root.space in
    let given = prefixed_attributes prefix root.space root.attributes in
    let all = root_all prefix root keeps within in
    ap (λ b. start_rule_of false (repeats b given) (names_unbound b (prefixed_name prefix root.local) given)) (given_declare prefix root.space root.attributes all)
    ∙ ap (λ b. start_rule_of false b (names_unbound within (prefixed_name prefix root.local) given)) (given_apart within prefix root.space root.attributes all keeps.apart)
    ∙ ap (λ b. start_rule_of false false b) (given_bound prefix root keeps all)

-- ---- the root

root_kids : (prefix : Text) (root : Element) → Prefixes prefix root → list_all is_narrow (kids_tokens [] root.children) ≡ true → NodesRead [] root.children 63
root_kids prefix root keeps narrow = (kids_within 63 (all_within 63) [] root.children keeps.low keeps.children narrow).nodes

prefixed_named : (prefix : Text) (root : Element) → Prefixes prefix root → (kids : NodesRead [] root.children 63) →
    named [] (element (prefixed_name prefix root.local) (prefixed_attributes prefix root.space root.attributes) kids.made) ≡ tree.Element root
prefixed_named prefix root keeps kids =
    let within = root_bindings prefix root.space in
    let name = prefixed_name prefix root.local in
    let given = prefixed_attributes prefix root.space root.attributes in
    let all = root_all prefix root keeps within in
    let space_is : namespace within (prefix_of name) ≡ root.space =
    ap (namespace within) (with-prefix prefix root.local keeps.named_prefix) ∙ root_namespace prefix root.space keeps.not_xml in
    ap (λ b. tree.Element (element_with b name given (named_all b kids.made))) (given_declare prefix root.space root.attributes all)
    ∙ ap (λ s. tree.Element (record { space = s; local = local_of name; attributes = named_attributes within given; children = named_all within kids.made })) space_is
    ∙ ap (λ l. tree.Element (record { space = root.space; local = l; attributes = named_attributes within given; children = named_all within kids.made })) (with-local prefix root.local keeps.named_prefix)
    ∙ ap (λ l. tree.Element (record { space = root.space; local = root.local; attributes = l; children = named_all within kids.made })) (given_named within prefix root.space root.attributes all)
    ∙ ap (λ l. tree.Element (record { space = root.space; local = root.local; attributes = root.attributes; children = l })) (kids.names within (root_default prefix root.space keeps.named_prefix))

pub prefixed-is_root : (prefix : Text) (root : Element) → Prefixes prefix root → list_all is_narrow (kids_tokens [] root.children) ≡ true → IsRootOf root (prefixed_tokens prefix root)
prefixed-is_root prefix root keeps narrow =
    let kids = root_kids prefix root keeps narrow in
    let name = prefixed_name prefix root.local in
    let given = prefixed_attributes prefix root.space root.attributes in
    let built : Built = element name given kids.made in
    let has : HasDefault (declare given []) [] =
    subst (λ b. HasDefault b []) (sym (given_declare prefix root.space root.attributes (root_all prefix root keeps (root_bindings prefix root.space)))) (root_default prefix root.space keeps.named_prefix) in
    record {
      outer = node built none;
      built = built;
      unbroken = start_goes_on [] false name given false 0 (kids_tokens [] root.children ++ end name ∷ []) refl (start_unbroken prefix root keeps)
          (kids.fine (name, declare given []) [] (end name ∷ []) has (omega arith) (end_goes_on name (declare given []) [] [] (λ place. refl)) 1);
      nested = levels_close name given kids.made (kids_tokens [] root.children ++ end name ∷ []) (outermost none) (kids.levels name (end name ∷ []) (outermost none) refl);
      alone = refl;
      is_root = sym (prefixed_named prefix root keeps kids);
    }

pub prefixed-reads : (prefix : Text) (root : Element) → Prefixes prefix root → length (prefixed_attributes prefix root.space root.attributes) ≤ 64 →
    list_all is_narrow (kids_tokens [] root.children) ≡ true → Reads (prefixed prefix root) (prefixed_tokens prefix root)
prefixed-reads prefix root keeps few narrow =
    let kids = root_kids prefix root keeps narrow in
    let name = prefixed_name prefix root.local in
    let given = prefixed_attributes prefix root.space root.attributes in
    let named_root = with-spelled prefix root.local keeps.named_prefix keeps.local in
    let spelled : AreSpelled given = (
      with-spelled (codes "xmlns") prefix refl keeps.named_prefix,
      written_value-is_value root.space,
      attributes_spelled (root_bindings prefix root.space) [] root.attributes (root_all prefix root keeps (root_bindings prefix root.space)),
    ) in
    reads_start name given false (all_written (kids_tokens [] root.children ++ end name ∷ [])) (kids_tokens [] root.children ++ end name ∷ []) named_root spelled few
    (subst (λ s. Reads s (kids_tokens [] root.children ++ end name ∷ [])) (sym (all_written-append (kids_tokens [] root.children) (end name ∷ [])))
    (kids.reads (written (end name) ++ []) (end name ∷ []) refl (reads_end name [] [] named_root refl)))
