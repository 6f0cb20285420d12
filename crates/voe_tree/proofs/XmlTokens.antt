-- Tokens whose texts are made of XML characters, and what they are named.
use Rattle.std.proofs.Common.{◌≡◌, Bool, true, false, cond, List, [], ◌∷◌, Some, length, map, refl, sym, ◌∙◌, ap, arith}
use Rattle.std.specs.Prelude.{◌&&◌, ◌||◌, ◌==◌, not, nat_lt, filter, unwrap_or, codes}
use Rattle.std.specs.List.{list_all, list_any, before_first, after_first}
use Rattle.std.specs.Char.{encode_utf8}
use Rattle.std.proofs.lemmas.Bool.Decides.{nat_tests}
use Rattle.xml_lexer.specs.Characters.{Text, is_colon, has_prefix, is_name, is_spelled_name}
use Rattle.xml_lexer.specs.Token.{Token, cdata, start, reference, text, Spelled}
use Rattle.xml_lexer.specs.Spelling.{same}
use Rattle.voe_tree.specs.Texts.{is_xml_text}
use Rattle.voe_tree.specs.Pairs.{has_pair}
use Rattle.voe_tree.specs.Shape.{same_attribute, is_local_name, is_xmlns, attribute_keeps, attributes_keep}
use Rattle.voe_tree.specs.Names.{Bindings, declare, is_declaration, declared_prefix, read_value, prefix_of, local_of, xml_namespace, lookup, namespace, is_bound, undeclaring, named_attribute, named_attributes}
use Rattle.voe_tree.specs.Rules.{same_spelled, same_named, unbound_in}
use Rattle.voe_tree.proofs.XmlTexts.{and_left, and_right, and_both, xml-nil, xml-all_ascii, xml-left, xml-value, colon_small}

abbrev pub IsXmlSpelled : Spelled → Type 0
IsXmlSpelled a = (is_spelled_name a.name ≡ true) × (is_xml_text a.name ≡ true) × (is_xml_text a.value ≡ true)

abbrev pub AreXmlSpelled : List Spelled → Type 0
AreXmlSpelled [] = Unit {0}
AreXmlSpelled (a ∷ more) = IsXmlSpelled a × AreXmlSpelled more

abbrev pub IsXmlToken : Token → Type 0
IsXmlToken (text run) = is_xml_text run ≡ true
IsXmlToken (cdata run) = is_xml_text run ≡ true
IsXmlToken (reference c) = is_xml_text (encode_utf8 c) ≡ true
IsXmlToken (start name given is_empty) = (is_spelled_name name ≡ true) × (is_xml_text name ≡ true) × AreXmlSpelled given
IsXmlToken _ = Unit {0}

abbrev pub AreXmlTokens : List Token → Type 0
AreXmlTokens [] = Unit {0}
AreXmlTokens (k ∷ ks) = IsXmlToken k × AreXmlTokens ks

abbrev pub AreXmlBindings : Bindings → Type 0
AreXmlBindings [] = Unit {0}
AreXmlBindings (b ∷ more) = (is_xml_text b.1 ≡ true) × AreXmlBindings more

xml-namespace : is_xml_text xml_namespace ≡ true
xml-namespace = xml-all_ascii xml_namespace refl

xml-lookup : (prefix : Text) (bs : Bindings) → AreXmlBindings bs → is_xml_text (unwrap_or (lookup prefix bs) []) ≡ true
xml-lookup prefix [] h = xml-nil
xml-lookup prefix (b ∷ bs) h =
    elim (same b.0 prefix) as (λ t. is_xml_text (unwrap_or (cond t (Some b.1) (lookup prefix bs)) []) ≡ true) [ true ↦ h.0 | false ↦ xml-lookup prefix bs h.1 ]

pub xml-space_of : (bs : Bindings) (prefix : Text) → AreXmlBindings bs → is_xml_text (namespace bs prefix) ≡ true
xml-space_of bs prefix h =
    elim (same prefix (codes "xml")) as (λ t. is_xml_text (cond t xml_namespace (unwrap_or (lookup prefix bs) [])) ≡ true)
    [ true ↦ xml-namespace | false ↦ xml-lookup prefix bs h ]

pub xml-declare : (given : List Spelled) (bs : Bindings) → AreXmlSpelled given → AreXmlBindings bs → AreXmlBindings (declare given bs)
xml-declare [] bs g h = h
xml-declare (a ∷ given) bs g h =
    xml-declare given (cond (is_declaration a) ((declared_prefix a.name, read_value a.value) ∷ bs) bs) g.1
    (elim (is_declaration a) as (λ t. AreXmlBindings (cond t ((declared_prefix a.name, read_value a.value) ∷ bs) bs)) [ true ↦ (xml-value a.value g.0.2, h) | false ↦ h ])

pub local_name : (name : Text) → is_spelled_name name ≡ true → is_xml_text name ≡ true → is_local_name (local_of name) ≡ true
local_name name spelled x =
    elim (has_prefix name) as (λ t. cond t (is_name (before_first is_colon name) && is_name (after_first is_colon name)) (is_name name) ≡ true →
    is_local_name (cond t (after_first is_colon name) name) ≡ true) [
      | true ↦ λ h. and_both (is_name (after_first is_colon name)) (is_xml_text (after_first is_colon name)) (and_right (is_name (before_first is_colon name)) (is_name (after_first is_colon name)) h)
          (xml-left is_colon colon_small name x)
      | false ↦ λ h. and_both (is_name name) (is_xml_text name) h x
    ] spelled

some_name : (s : Text) → is_name s ≡ true → (length s == 0) ≡ false
some_name [] h = cc
some_name (x ∷ s) h = grind (arith, nat_tests)

-- ---- attributes that are no declarations and whose prefixes are bound

or_left : (a b : Bool) → (a || b) ≡ false → a ≡ false
or_left true b h = cc
or_left false b h = refl

or_right : (a b : Bool) → (a || b) ≡ false → b ≡ false
or_right true b h = cc
or_right false b h = h

or_neither : (a b : Bool) → a ≡ false → b ≡ false → (a || b) ≡ false
or_neither a b h k = rw (h, k) refl

not_true : (b : Bool) → not b ≡ false → b ≡ true
not_true true h = refl
not_true false h = cc

abbrev pub IsGood : Bindings → Spelled → Type 0
IsGood bs a = IsXmlSpelled a × (is_declaration a ≡ false) × (is_bound bs (prefix_of a.name) ≡ true)

abbrev pub AreGood : Bindings → List Spelled → Type 0
AreGood bs [] = Unit {0}
AreGood bs (a ∷ more) = IsGood bs a × AreGood bs more

good_step : (bs : Bindings) (a : Spelled) (given : List Spelled) (t : Bool) → IsXmlSpelled a → is_declaration a ≡ t → (unbound_in bs given ≡ false → AreGood bs (undeclaring given)) →
    list_any (λ b. not (is_bound bs (prefix_of b.name))) (cond (not t) (a ∷ undeclaring given) (undeclaring given)) ≡ false →
    AreGood bs (cond (not t) (a ∷ undeclaring given) (undeclaring given))
good_step bs a given true x e further k = further k
good_step bs a given false x e further k = (
  (x, e, not_true (is_bound bs (prefix_of a.name)) (or_left (not (is_bound bs (prefix_of a.name))) (unbound_in bs given) k)),
  further (or_right (not (is_bound bs (prefix_of a.name))) (unbound_in bs given) k),
)

pub good_given : (bs : Bindings) (given : List Spelled) → AreXmlSpelled given → unbound_in bs given ≡ false → AreGood bs (undeclaring given)
good_given bs [] g h = tt
good_given bs (a ∷ given) g h = good_step bs a given (is_declaration a) g.0 refl (λ k. good_given bs given g.1 k) h

-- a bound prefix that stands has a namespace
has_space : (bs : Bindings) (a : Spelled) → IsGood bs a → has_prefix a.name ≡ true → nat_lt 0 (length (named_attribute bs a).space) ≡ true
has_space bs a good p =
    let name = a.name in
    let spelled : is_name (before_first is_colon name) && is_name (after_first is_colon name) ≡ true =
    ap (λ t. cond t (is_name (before_first is_colon name) && is_name (after_first is_colon name)) (is_name name)) (sym p) ∙ good.0.0 in
    let some : (length (prefix_of name) == 0) ≡ false =
    ap (λ t. length (cond t (before_first is_colon name) []) == 0) p
    ∙ some_name (before_first is_colon name) (and_left (is_name (before_first is_colon name)) (is_name (after_first is_colon name)) spelled) in
    let bound : nat_lt 0 (length (namespace bs (prefix_of name))) ≡ true =
    ap (λ t. t || nat_lt 0 (length (namespace bs (prefix_of name)))) (sym some) ∙ good.2 in
    ap (λ t. nat_lt 0 (length (cond t (namespace bs (prefix_of name)) []))) p ∙ bound

no_space : (bs : Bindings) (a : Spelled) → has_prefix a.name ≡ false → (named_attribute bs a).space ≡ []
no_space bs a p = ap (λ t. cond t (namespace bs (prefix_of a.name)) []) p

plain_local : (bs : Bindings) (a : Spelled) → has_prefix a.name ≡ false → (named_attribute bs a).local ≡ a.name
plain_local bs a p = ap (λ t. cond t (after_first is_colon a.name) a.name) p

not_empty : (s : Text) → nat_lt 0 (length s) ≡ true → (length s == 0) ≡ false
not_empty s h = grind (arith, nat_tests)

not_xmlns : (bs : Bindings) (a : Spelled) → IsGood bs a → is_xmlns (named_attribute bs a) ≡ false
not_xmlns bs a good = by_prefix (has_prefix a.name) refl
  where
    by_prefix : (t : Bool) → has_prefix a.name ≡ t → is_xmlns (named_attribute bs a) ≡ false
    by_prefix true p = ap (λ t. t && same (named_attribute bs a).local (codes "xmlns")) (not_empty (named_attribute bs a).space (has_space bs a good p))
    by_prefix false p =
        let other : same a.name (codes "xmlns") ≡ false = or_left (same a.name (codes "xmlns")) (same (prefix_of a.name) (codes "xmlns")) good.1 in
        ap (λ s. (length s == 0) && same (named_attribute bs a).local (codes "xmlns")) (no_space bs a p)
        ∙ ap (λ s. same s (codes "xmlns")) (plain_local bs a p) ∙ other

xml-attribute_space : (bs : Bindings) (a : Spelled) → AreXmlBindings bs → is_xml_text (named_attribute bs a).space ≡ true
xml-attribute_space bs a h =
    elim (has_prefix a.name) as (λ t. is_xml_text (cond t (namespace bs (prefix_of a.name)) []) ≡ true) [ true ↦ xml-space_of bs (prefix_of a.name) h | false ↦ xml-nil ]

named_keeps : (bs : Bindings) (a : Spelled) → AreXmlBindings bs → IsGood bs a → attribute_keeps (named_attribute bs a) ≡ true
named_keeps bs a h good =
    let n = named_attribute bs a in
    and_both (is_xml_text n.space && is_local_name n.local && is_xml_text n.value) (not (is_xmlns n))
    (and_both (is_xml_text n.space && is_local_name n.local) (is_xml_text n.value)
    (and_both (is_xml_text n.space) (is_local_name n.local) (xml-attribute_space bs a h) (local_name a.name good.0.0 good.0.1))
    (xml-value a.value good.0.2))
    (ap not (not_xmlns bs a good))

all_keep : (bs : Bindings) (given : List Spelled) → AreXmlBindings bs → AreGood bs given → list_all attribute_keeps (map (named_attribute bs) given) ≡ true
all_keep bs [] h g = refl
all_keep bs (a ∷ given) h g =
    and_both (attribute_keeps (named_attribute bs a)) (list_all attribute_keeps (map (named_attribute bs) given)) (named_keeps bs a h g.0) (all_keep bs given h g.1)

empty_differs : (s : Text) → nat_lt 0 (length s) ≡ true → same [] s ≡ false
empty_differs [] h = cc
empty_differs (x ∷ s) h = refl

-- names that differ as spelled, and under their namespaces where they have some, differ
differ : (bs : Bindings) (a r : Spelled) → IsGood bs a → IsGood bs r → same_spelled a r ≡ false → same_named (named_attribute bs a) (named_attribute bs r) ≡ false →
    same_attribute (named_attribute bs a) (named_attribute bs r) ≡ false
differ bs a r good_a good_r spelled named = by_prefixes (has_prefix a.name) (has_prefix r.name) refl refl
  where
    by_prefixes : (p q : Bool) → has_prefix a.name ≡ p → has_prefix r.name ≡ q → same_attribute (named_attribute bs a) (named_attribute bs r) ≡ false
    by_prefixes true q e f =
        ap (λ t. t && same_attribute (named_attribute bs a) (named_attribute bs r)) (sym (has_space bs a good_a e)) ∙ named
    by_prefixes false true e f =
        ap (λ s. same s (named_attribute bs r).space && same (named_attribute bs a).local (named_attribute bs r).local) (no_space bs a e)
        ∙ ap (λ t. t && same (named_attribute bs a).local (named_attribute bs r).local) (empty_differs (named_attribute bs r).space (has_space bs r good_r f))
    by_prefixes false false e f =
        ap (λ s. same s (named_attribute bs r).space && same (named_attribute bs a).local (named_attribute bs r).local) (no_space bs a e)
        ∙ ap (λ s. same [] s && same (named_attribute bs a).local (named_attribute bs r).local) (no_space bs r f)
        ∙ ap (λ s. same s (named_attribute bs r).local) (plain_local bs a e) ∙ ap (λ s. same a.name s) (plain_local bs r f) ∙ spelled

one_differs : (bs : Bindings) (a : Spelled) (given : List Spelled) → IsGood bs a → AreGood bs given → list_any (same_spelled a) given ≡ false →
    list_any (same_named (named_attribute bs a)) (map (named_attribute bs) given) ≡ false → list_any (same_attribute (named_attribute bs a)) (map (named_attribute bs) given) ≡ false
one_differs bs a [] good g s n = refl
one_differs bs a (r ∷ given) good g s n =
    or_neither (same_attribute (named_attribute bs a) (named_attribute bs r)) (list_any (same_attribute (named_attribute bs a)) (map (named_attribute bs) given))
    (differ bs a r good g.0 (or_left (same_spelled a r) (list_any (same_spelled a) given) s)
    (or_left (same_named (named_attribute bs a) (named_attribute bs r)) (list_any (same_named (named_attribute bs a)) (map (named_attribute bs) given)) n))
    (one_differs bs a given good g.1 (or_right (same_spelled a r) (list_any (same_spelled a) given) s)
    (or_right (same_named (named_attribute bs a) (named_attribute bs r)) (list_any (same_named (named_attribute bs a)) (map (named_attribute bs) given)) n))

all_differ : (bs : Bindings) (given : List Spelled) → AreGood bs given → has_pair same_spelled given ≡ false → has_pair same_named (map (named_attribute bs) given) ≡ false →
    has_pair same_attribute (map (named_attribute bs) given) ≡ false
all_differ bs [] g s n = refl
all_differ bs (a ∷ given) g s n =
    or_neither (list_any (same_attribute (named_attribute bs a)) (map (named_attribute bs) given)) (has_pair same_attribute (map (named_attribute bs) given))
    (one_differs bs a given g.0 g.1 (or_left (list_any (same_spelled a) given) (has_pair same_spelled given) s)
    (or_left (list_any (same_named (named_attribute bs a)) (map (named_attribute bs) given)) (has_pair same_named (map (named_attribute bs) given)) n))
    (all_differ bs given g.1 (or_right (list_any (same_spelled a) given) (has_pair same_spelled given) s)
    (or_right (list_any (same_named (named_attribute bs a)) (map (named_attribute bs) given)) (has_pair same_named (map (named_attribute bs) given)) n))

any_filtered : (f p : Spelled → Bool) (given : List Spelled) → list_any f given ≡ false → list_any f (filter p given) ≡ false
any_filtered f p [] h = refl
any_filtered f p (a ∷ given) h =
    elim (p a) as (λ t. list_any f (cond t (a ∷ filter p given) (filter p given)) ≡ false) [
      | true ↦ or_neither (f a) (list_any f (filter p given)) (or_left (f a) (list_any f given) h) (any_filtered f p given (or_right (f a) (list_any f given) h))
      | false ↦ any_filtered f p given (or_right (f a) (list_any f given) h)
    ]

pair_filtered : (p : Spelled → Bool) (given : List Spelled) → has_pair same_spelled given ≡ false → has_pair same_spelled (filter p given) ≡ false
pair_filtered p [] h = refl
pair_filtered p (a ∷ given) h =
    elim (p a) as (λ t. has_pair same_spelled (cond t (a ∷ filter p given) (filter p given)) ≡ false) [
      | true ↦ or_neither (list_any (same_spelled a) (filter p given)) (has_pair same_spelled (filter p given))
          (any_filtered (same_spelled a) p given (or_left (list_any (same_spelled a) given) (has_pair same_spelled given) h))
          (pair_filtered p given (or_right (list_any (same_spelled a) given) (has_pair same_spelled given) h))
      | false ↦ pair_filtered p given (or_right (list_any (same_spelled a) given) (has_pair same_spelled given) h)
    ]

-- the attributes of a tag that breaks no rule keep those of a tree
pub named_attributes_keep : (bs : Bindings) (given : List Spelled) → AreXmlBindings bs → AreXmlSpelled given → has_pair same_spelled given ≡ false →
    has_pair same_named (named_attributes bs given) ≡ false → unbound_in bs given ≡ false → attributes_keep (named_attributes bs given) ≡ true
named_attributes_keep bs given h g s n u =
    let good = good_given bs given g u in
    let differ_all : has_pair same_attribute (named_attributes bs given) ≡ false = all_differ bs (undeclaring given) good (pair_filtered (λ a. not (is_declaration a)) given s) n in
    and_both (list_all attribute_keeps (named_attributes bs given)) (not (has_pair same_attribute (named_attributes bs given)))
    (all_keep bs (undeclaring given) h good) (ap not differ_all)
