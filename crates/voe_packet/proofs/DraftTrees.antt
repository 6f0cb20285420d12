-- The tree of a draft is a valid packet with the draft's parts.
use Rattle.std.proofs.Common.{◌≡◌, ℕ, ◌≤◌, Bool, true, false, List, [], ◌∷◌, ◌++◌, length, map, refl, ◌∙◌, ap, arith, append-nil}
use Rattle.std.specs.Prelude.{◌&&◌, not, nat_lt, nat_le, filter, Option, Some, None, option_map, codes}
use Rattle.std.specs.List.{flat_map, list_all}
use Rattle.std.proofs.lemmas.Bool.{and_parts, and_from, both_ways, le-leb, lt-ltb}
use Rattle.std.proofs.lemmas.List.Concat.{flat_map-cons}
use Rattle.std.proofs.lemmas.List.Folds.{list_all-append}
use Rattle.xml_lexer.specs.Characters.{Text, is_name}
use Rattle.xml_lexer.specs.Spelling.{same}
use Rattle.voe_tree.specs.Texts.{is_xml_text, trimmed}
use Rattle.voe_tree.specs.Shape.{Kept, are_apart, attribute_keeps, attributes_keep, children_keep, depth, greatest, height, is_local_name, is_well_formed, is_xmlns, keeps, node_kept}
use Rattle.voe_tree.specs.Contents.{attribute_of, children_called, elements_in, is_called, string_in, text_of}
use Rattle.voe_tree.specs.Identifier.{is_identifier}
use Rattle.voe_tree.specs.Places.{places}
use Rattle.voe_tree.specs.Validity.{citations_of, cited_in, has_kind, has_role, is_lone_identifier, is_valid, meets_V01, meets_V02, meets_V03, meets_V04, meets_V05, meets_V06, meets_V07, meets_V08, meets_V09, meets_V10, meets_V11, meets_V12, names_identifier, packet_namespace, stands_at_most_once}
use Rattle.voe_tree.specs.declared.element.Attribute.{Attribute}
use Rattle.voe_tree.specs.declared.element.Element.{Element}
use Rattle.voe_tree.specs.declared.element.Node.{Node}
use Rattle.voe_tree.specs.declared.element.Node.TheVariants as tree
use Rattle.voe_tree.proofs.Contained.{element_in-element, string_in-text, string_of_children, text_in-text}
use Rattle.voe_tree.proofs.WrittenNodes.{depth_out, height-element, height-text, keeps_out, kept-element, kept-text}
use Rattle.voe_tree.proofs.WrittenXml.{ascii_xml}
use Rattle.voe_values.specs.declared.citation.Cite.{Cite}
use Rattle.voe_values.specs.declared.citation.Cite.TheVariants.{Followup, Supersedes, Retraction}
use Rattle.voe_values.specs.declared.citation.Role.{Role}
use Rattle.voe_values.specs.declared.citation.Role.TheVariants.{Observation, Prediction, Utility, Test}
use Rattle.voe_packet.specs.Words.{cite_named, cite_word, role_named, role_word}
use Rattle.voe_packet.specs.Params.{param_element, param_of, plain, simple}
use Rattle.voe_packet.specs.Parts.{all_texts, citation_of, first, first_text, packet_of, params_in, params_of, params_within, position_at}
use Rattle.voe_packet.specs.Drafts.{citation_element, draft_root, drafted_packet, has_identifier, has_identifiers, has_xml_texts, is_xml_citation, is_xml_param, section_of, sections_of}
use Rattle.voe_packet.specs.declared.draft.Draft.{Draft}
use Rattle.voe_packet.specs.declared.packet.Citation.{Citation}
use Rattle.voe_packet.specs.declared.packet.Packet.{Packet}
use Rattle.voe_packet.specs.declared.packet.Position.{Position}
use Rattle.voe_packet.specs.declared.param.Param.{Param}
use Rattle.voe_packet.proofs.Identifiers.{empty_is_none, identifier-trimmed}

abbrev nodes : List Element → List Node
nodes es = map (λ e. tree.Element e) es

-- ---- elements among nodes

elements-nodes : (es : List Element) → elements_in (nodes es) ≡ es
elements-nodes [] = refl
elements-nodes (e ∷ es) = rw (element_in-element e) (ap (λ l. e ∷ l) (elements-nodes es))

-- ---- what is kept

closed_name : (s : Text) → is_name s ≡ true → is_xml_text s ≡ true → is_local_name s ≡ true
closed_name s h k = and_from (is_name s) (is_xml_text s) h k

plain-keeps : (local value : Text) → is_local_name local ≡ true → is_xml_text value ≡ true → same local (codes "xmlns") ≡ false → attribute_keeps (plain local value) ≡ true
plain-keeps local value h k other =
    and_from (is_xml_text [] && is_local_name local && is_xml_text value) (not (is_xmlns (plain local value)))
    (and_from (is_xml_text [] && is_local_name local) (is_xml_text value) (and_from (is_xml_text []) (is_local_name local) (ascii_xml [] refl) h) k)
    (ap not other)

-- what an element in no namespace keeps
simple-keeps : (local : Text) (attributes : List Attribute) (children : List Node) → is_local_name local ≡ true → attributes_keep attributes ≡ true →
    children_keep (map node_kept children) ≡ true → keeps (simple local attributes children) ≡ true
simple-keeps local attributes children h k l =
    keeps_out (simple local attributes children)
    ∙ and_from (is_xml_text [] && is_local_name local && attributes_keep attributes) (children_keep (map node_kept children))
    (and_from (is_xml_text [] && is_local_name local) (attributes_keep attributes) (and_from (is_xml_text []) (is_local_name local) (ascii_xml [] refl) h) k) l

param-keeps : (p : Param) → is_xml_param p ≡ true → keeps (param_element p) ≡ true
param-keeps p h =
    let texts = and_parts (is_xml_text p.name) (is_xml_text p.value) h in
    let name = plain-keeps (codes "name") p.name (closed_name (codes "name") refl (ascii_xml (codes "name") refl)) texts.0 refl in
    let value = plain-keeps (codes "value") p.value (closed_name (codes "value") refl (ascii_xml (codes "value") refl)) texts.1 refl in
    simple-keeps (codes "Param") (plain (codes "name") p.name ∷ plain (codes "value") p.value ∷ []) [] (closed_name (codes "Param") refl (ascii_xml (codes "Param") refl))
    (and_from (attribute_keeps (plain (codes "name") p.name) && (attribute_keeps (plain (codes "value") p.value) && true)) true
    (and_from (attribute_keeps (plain (codes "name") p.name)) (attribute_keeps (plain (codes "value") p.value) && true) name (and_from (attribute_keeps (plain (codes "value") p.value)) true value refl)) refl)
    refl

cite-xml : (k : Cite) → is_xml_text (cite_word k) ≡ true
cite-xml Followup = ascii_xml (codes "followup") refl
cite-xml Supersedes = ascii_xml (codes "supersedes") refl
cite-xml Retraction = ascii_xml (codes "retraction") refl

role-xml : (r : Role) → is_xml_text (role_word r) ≡ true
role-xml Observation = ascii_xml (codes "observation") refl
role-xml Prediction = ascii_xml (codes "prediction") refl
role-xml Utility = ascii_xml (codes "utility") refl
role-xml Test = ascii_xml (codes "test") refl

not_empty : (s : Text) → is_identifier s ≡ true → nat_lt 0 (length s) ≡ true
not_empty [] h = absurd (both_ways (is_identifier []) empty_is_none h)
not_empty (x ∷ s) h = lt-ltb 0 (length (x ∷ s)) (omega arith)

one_kept : (k : Kept) → k.1 ≡ true → children_keep (k ∷ []) ≡ true
one_kept k h = ap (λ b. b && true) h

citation-keeps : (c : Citation) → is_xml_citation c ≡ true → has_identifier c ≡ true → keeps (citation_element c) ≡ true
citation-keeps c h k =
    let cite = plain-keeps (codes "cite") (cite_word c.kind) (closed_name (codes "cite") refl (ascii_xml (codes "cite") refl)) (cite-xml c.kind) refl in
    simple-keeps (codes "EventIVORN") (plain (codes "cite") (cite_word c.kind) ∷ []) (tree.Text c.identifier ∷ []) (closed_name (codes "EventIVORN") refl (ascii_xml (codes "EventIVORN") refl))
    (and_from (attribute_keeps (plain (codes "cite") (cite_word c.kind)) && true) true (and_from (attribute_keeps (plain (codes "cite") (cite_word c.kind))) true cite refl) refl)
    (one_kept (node_kept (tree.Text c.identifier))
    (ap (λ (k : Kept). k.1) (kept-text c.identifier) ∙ and_from (nat_lt 0 (length c.identifier)) (is_xml_text c.identifier) (not_empty c.identifier k) h))

apart-elements : (es : List Element) → are_apart (map node_kept (nodes es)) ≡ true
apart-elements [] = refl
apart-elements (e ∷ []) = refl
apart-elements (e ∷ f ∷ es) =
    and_from (not ((node_kept (tree.Element e)).0 && (node_kept (tree.Element f)).0)) (are_apart (map node_kept (nodes (f ∷ es))))
    (ap (λ (k : Kept). not (k.0 && (node_kept (tree.Element f)).0)) (kept-element e)) (apart-elements (f ∷ es))

all-keep : (es : List Element) → list_all keeps es ≡ true → list_all (λ (k : Kept). k.1) (map node_kept (nodes es)) ≡ true
all-keep [] h = refl
all-keep (e ∷ es) h =
    let parts = and_parts (keeps e) (list_all keeps es) h in
    and_from (node_kept (tree.Element e)).1 (list_all (λ (k : Kept). k.1) (map node_kept (nodes es))) (ap (λ (k : Kept). k.1) (kept-element e) ∙ parts.0) (all-keep es parts.1)

elements-keep : (es : List Element) → list_all keeps es ≡ true → children_keep (map node_kept (nodes es)) ≡ true
elements-keep es h =
    and_from (are_apart (map node_kept (nodes es))) (list_all (λ (k : Kept). k.1) (map node_kept (nodes es))) (apart-elements es) (all-keep es h)

params-keep : (ps : List Param) → list_all is_xml_param ps ≡ true → list_all keeps (map param_element ps) ≡ true
params-keep [] h = refl
params-keep (p ∷ ps) h =
    let parts = and_parts (is_xml_param p) (list_all is_xml_param ps) h in
    and_from (keeps (param_element p)) (list_all keeps (map param_element ps)) (param-keeps p parts.0) (params-keep ps parts.1)

citations-keep : (cs : List Citation) → list_all is_xml_citation cs ≡ true → list_all has_identifier cs ≡ true → list_all keeps (map citation_element cs) ≡ true
citations-keep [] h k = refl
citations-keep (c ∷ cs) h k =
    let parts = and_parts (is_xml_citation c) (list_all is_xml_citation cs) h in
    let named = and_parts (has_identifier c) (list_all has_identifier cs) k in
    and_from (keeps (citation_element c)) (list_all keeps (map citation_element cs)) (citation-keeps c parts.0 named.0) (citations-keep cs parts.1 named.1)

section-keeps : (name : Text) (items : List Element) → is_local_name name ≡ true → list_all keeps items ≡ true → list_all keeps (section_of name items) ≡ true
section-keeps name [] h k = refl
section-keeps name (e ∷ es) h k = and_from (keeps (simple name [] (nodes (e ∷ es)))) true (simple-keeps name [] (nodes (e ∷ es)) h refl (elements-keep (e ∷ es) k)) refl

-- ---- depth

abbrev Below : ℕ → List Element → Type 0
Below n [] = Unit {0}
Below n (e ∷ es) = (depth e ≤ n) × Below n es

below-greatest : (n : ℕ) (es : List Element) → Below n es → greatest (map height (nodes es)) ≤ n
below-greatest n [] h = omega arith
below-greatest n (e ∷ es) h =
    let own = h.0 in
    let more = below-greatest n es h.1 in
    let is = height-element e in omega arith

below-append : (n : ℕ) (xs ys : List Element) → Below n xs → Below n ys → Below n (xs ++ ys)
below-append n [] ys h k = k
below-append n (x ∷ xs) ys h k = (h.0, below-append n xs ys h.1 k)

params-below : (ps : List Param) → Below 1 (map param_element ps)
params-below [] = tt
params-below (p ∷ ps) = (let out = depth_out (param_element p) in omega arith, params-below ps)

citations-below : (cs : List Citation) → Below 1 (map citation_element cs)
citations-below [] = tt
citations-below (c ∷ cs) = (let out = depth_out (citation_element c) in let text = height-text c.identifier in omega arith, citations-below cs)

section-below : (name : Text) (items : List Element) → Below 1 items → Below 2 (section_of name items)
section-below name [] h = tt
section-below name (e ∷ es) h =
    (let out = depth_out (simple name [] (nodes (e ∷ es))) in let low = below-greatest 1 (e ∷ es) h in omega arith, tt)

root-depth : (d : Draft) → depth (draft_root d) ≤ 64
root-depth d =
    let out = depth_out (draft_root d) in
    let low = below-greatest 2 (sections_of d) (below-append 2 (section_of (codes "What") (map param_element d.params)) (section_of (codes "Citations") (map citation_element d.citations))
    (section-below (codes "What") (map param_element d.params) (params-below d.params))
    (section-below (codes "Citations") (map citation_element d.citations) (citations-below d.citations))) in omega arith

pub draft-well_formed : (d : Draft) → has_identifiers d ≡ true → has_xml_texts d ≡ true → is_well_formed (draft_root d) ≡ true
draft-well_formed d named h =
    let ids = and_parts (is_identifier d.identifier) (list_all has_identifier d.citations) named in
    let outer = and_parts (is_xml_text d.identifier && list_all is_xml_param d.params) (list_all is_xml_citation d.citations) h in
    let inner = and_parts (is_xml_text d.identifier) (list_all is_xml_param d.params) outer.0 in
    let ivorn = plain-keeps (codes "ivorn") d.identifier (closed_name (codes "ivorn") refl (ascii_xml (codes "ivorn") refl)) inner.0 refl in
    let role = plain-keeps (codes "role") (role_word d.role) (closed_name (codes "role") refl (ascii_xml (codes "role") refl)) (role-xml d.role) refl in
    let version = plain-keeps (codes "version") (codes "2.0") (closed_name (codes "version") refl (ascii_xml (codes "version") refl)) (ascii_xml (codes "2.0") refl) refl in
    let attributes : attributes_keep (draft_root d).attributes ≡ true =
    and_from (list_all attribute_keeps (draft_root d).attributes) true
    (and_from (attribute_keeps (plain (codes "ivorn") d.identifier)) (attribute_keeps (plain (codes "role") (role_word d.role)) && (attribute_keeps (plain (codes "version") (codes "2.0")) && true)) ivorn
    (and_from (attribute_keeps (plain (codes "role") (role_word d.role))) (attribute_keeps (plain (codes "version") (codes "2.0")) && true) role
    (and_from (attribute_keeps (plain (codes "version") (codes "2.0"))) true version refl))) refl in
    let sections : list_all keeps (sections_of d) ≡ true =
    list_all-append keeps (section_of (codes "What") (map param_element d.params)) (section_of (codes "Citations") (map citation_element d.citations))
    ∙ and_from (list_all keeps (section_of (codes "What") (map param_element d.params))) (list_all keeps (section_of (codes "Citations") (map citation_element d.citations)))
    (section-keeps (codes "What") (map param_element d.params) (closed_name (codes "What") refl (ascii_xml (codes "What") refl)) (params-keep d.params inner.1))
    (section-keeps (codes "Citations") (map citation_element d.citations) (closed_name (codes "Citations") refl (ascii_xml (codes "Citations") refl)) (citations-keep d.citations outer.1 ids.1)) in
    and_from (keeps (draft_root d)) (nat_le (depth (draft_root d)) 64)
    (keeps_out (draft_root d)
    ∙ and_from (is_xml_text packet_namespace && is_local_name (codes "VOEvent") && attributes_keep (draft_root d).attributes) (children_keep (map node_kept (nodes (sections_of d))))
    (and_from (is_xml_text packet_namespace && is_local_name (codes "VOEvent")) (attributes_keep (draft_root d).attributes)
    (and_from (is_xml_text packet_namespace) (is_local_name (codes "VOEvent")) (ascii_xml packet_namespace refl) (closed_name (codes "VOEvent") refl (ascii_xml (codes "VOEvent") refl))) attributes)
    (elements-keep (sections_of d) sections))
    (le-leb (depth (draft_root d)) 64 (root-depth d))

-- ---- sections

-- what stands in the root under a name
abbrev called : Text → Draft → List Element
called name d = filter (is_called name) (sections_of d)

children-called : (d : Draft) (name : Text) → children_called (draft_root d) name ≡ called name d
children-called d name = ap (filter (is_called name)) (elements-nodes (sections_of d))

what-called : (ps : List Param) (cs : List Citation) →
    filter (is_called (codes "What")) (section_of (codes "What") (map param_element ps) ++ section_of (codes "Citations") (map citation_element cs)) ≡ section_of (codes "What") (map param_element ps)
what-called [] [] = refl
what-called [] (c ∷ cs) = refl
what-called (p ∷ ps) [] = refl
what-called (p ∷ ps) (c ∷ cs) = refl

cited-called : (ps : List Param) (cs : List Citation) →
    filter (is_called (codes "Citations")) (section_of (codes "What") (map param_element ps) ++ section_of (codes "Citations") (map citation_element cs)) ≡ section_of (codes "Citations") (map citation_element cs)
cited-called [] [] = refl
cited-called [] (c ∷ cs) = refl
cited-called (p ∷ ps) [] = refl
cited-called (p ∷ ps) (c ∷ cs) = refl

-- a name of none of the two sections
none-called : (name : Text) → same (codes "What") name ≡ false → same (codes "Citations") name ≡ false → (ps : List Param) (cs : List Citation) →
    filter (is_called name) (section_of (codes "What") (map param_element ps) ++ section_of (codes "Citations") (map citation_element cs)) ≡ []
none-called name h k [] [] = refl
none-called name h k [] (c ∷ cs) = rw k refl
none-called name h k (p ∷ ps) [] = rw h refl
none-called name h k (p ∷ ps) (c ∷ cs) = rw (h, k) refl

section-once : (name : Text) (items : List Element) → nat_le (length (section_of name items)) 1 ≡ true
section-once name [] = refl
section-once name (e ∷ es) = refl

once : (d : Draft) (name : Text) (found : List Element) → called name d ≡ found → nat_le (length found) 1 ≡ true → stands_at_most_once (draft_root d) name ≡ true
once d name found is few = ap (λ (l : List Element). nat_le (length l) 1) (children-called d name ∙ is) ∙ few

-- ---- citations

citation-called : (cs : List Citation) → filter (is_called (codes "EventIVORN")) (map citation_element cs) ≡ map citation_element cs
citation-called [] = refl
citation-called (c ∷ cs) = ap (λ l. citation_element c ∷ l) (citation-called cs)

section-cited : (cs : List Citation) → cited_in (section_of (codes "Citations") (map citation_element cs)) ≡ map citation_element cs
section-cited [] = refl
section-cited (c ∷ cs) =
    append-nil (children_called (simple (codes "Citations") [] (nodes (map citation_element (c ∷ cs)))) (codes "EventIVORN"))
    ∙ ap (filter (is_called (codes "EventIVORN"))) (elements-nodes (map citation_element (c ∷ cs))) ∙ citation-called (c ∷ cs)

draft-cites : (d : Draft) → citations_of (draft_root d) ≡ map citation_element d.citations
draft-cites d = ap cited_in (children-called d (codes "Citations") ∙ cited-called d.params d.citations) ∙ section-cited d.citations

cite-kind : (k : Cite) → has_kind (Some (cite_word k)) ≡ true
cite-kind Followup = refl
cite-kind Supersedes = refl
cite-kind Retraction = refl

kinds-good : (cs : List Citation) → list_all (λ e. has_kind (attribute_of e (codes "cite"))) (map citation_element cs) ≡ true
kinds-good [] = refl
kinds-good (c ∷ cs) = and_from (has_kind (Some (cite_word c.kind))) (list_all (λ e. has_kind (attribute_of e (codes "cite"))) (map citation_element cs)) (cite-kind c.kind) (kinds-good cs)

lone : (s : Text) → is_identifier s ≡ true → is_lone_identifier (tree.Text s ∷ []) ≡ true
lone s h = ap (λ (o : Option Text). names_identifier (option_map trimmed o)) (text_in-text s) ∙ ap is_identifier (identifier-trimmed s h) ∙ h

all-lone : (cs : List Citation) → list_all has_identifier cs ≡ true → list_all (λ (e : Element). is_lone_identifier e.children) (map citation_element cs) ≡ true
all-lone [] h = refl
all-lone (c ∷ cs) h =
    let parts = and_parts (has_identifier c) (list_all has_identifier cs) h in
    and_from (is_lone_identifier (tree.Text c.identifier ∷ [])) (list_all (λ (e : Element). is_lone_identifier e.children) (map citation_element cs)) (lone c.identifier parts.0) (all-lone cs parts.1)

-- ---- validity

good-role : (r : Role) → has_role (Some (role_word r)) ≡ true
good-role Observation = refl
good-role Prediction = refl
good-role Utility = refl
good-role Test = refl

twelve : (a b c d e f g h i j k l : Bool) → a ≡ true → b ≡ true → c ≡ true → d ≡ true → e ≡ true → f ≡ true → g ≡ true → h ≡ true → i ≡ true → j ≡ true → k ≡ true → l ≡ true →
    (a && (b && (c && (d && (e && (f && (g && (h && (i && (j && (k && (l && true)))))))))))) ≡ true
twelve a b c d e f g h i j k l pa pb pc pd pe pf pg ph pi pj pk pl = rw (pa, pb, pc, pd, pe, pf, pg, ph, pi, pj, pk, pl) refl

pub draft-valid : (d : Draft) → has_identifiers d ≡ true → is_valid (draft_root d) ≡ true
draft-valid d named =
    let ids = and_parts (is_identifier d.identifier) (list_all has_identifier d.citations) named in
    let root = draft_root d in
    let v3 : meets_V03 root ≡ true = ids.0 in
    let v4 : meets_V04 root ≡ true = good-role d.role in
    let v5 : meets_V05 root ≡ true = once d (codes "Who") [] (none-called (codes "Who") refl refl d.params d.citations) refl in
    let v6 : meets_V06 root ≡ true = once d (codes "What") (section_of (codes "What") (map param_element d.params)) (what-called d.params d.citations) (section-once (codes "What") (map param_element d.params)) in
    let v7 : meets_V07 root ≡ true = once d (codes "WhereWhen") [] (none-called (codes "WhereWhen") refl refl d.params d.citations) refl in
    let v8 : meets_V08 root ≡ true = once d (codes "How") [] (none-called (codes "How") refl refl d.params d.citations) refl in
    let v9 : meets_V09 root ≡ true = once d (codes "Why") [] (none-called (codes "Why") refl refl d.params d.citations) refl in
    let v10 : meets_V10 root ≡ true = once d (codes "Citations") (section_of (codes "Citations") (map citation_element d.citations)) (cited-called d.params d.citations) (section-once (codes "Citations") (map citation_element d.citations)) in
    let v11 : meets_V11 root ≡ true = ap (list_all (λ e. has_kind (attribute_of e (codes "cite")))) (draft-cites d) ∙ kinds-good d.citations in
    let v12 : meets_V12 root ≡ true = ap (list_all (λ (e : Element). is_lone_identifier e.children)) (draft-cites d) ∙ all-lone d.citations ids.1 in
    twelve (meets_V01 root) (meets_V02 root) (meets_V03 root) (meets_V04 root) (meets_V05 root) (meets_V06 root) (meets_V07 root) (meets_V08 root) (meets_V09 root) (meets_V10 root) (meets_V11 root) (meets_V12 root)
    refl refl v3 v4 v5 v6 v7 v8 v9 v10 v11 v12

-- ---- parts

param-again : (ps : List Param) → map param_of (map param_element ps) ≡ ps
param-again [] = refl
param-again (p ∷ ps) = ap (λ l. p ∷ l) (param-again ps)

params-inside : (ps : List Param) → flat_map params_in (map param_element ps) ≡ map param_element ps
params-inside [] = refl
params-inside (p ∷ ps) = flat_map-cons params_in (param_element p) (map param_element ps) ∙ ap (λ l. param_element p ∷ l) (params-inside ps)

section-params : (ps : List Param) → flat_map params_within (section_of (codes "What") (map param_element ps)) ≡ map param_element ps
section-params [] = refl
section-params (p ∷ ps) =
    flat_map-cons params_within (simple (codes "What") [] (nodes (map param_element (p ∷ ps)))) []
    ∙ append-nil (params_within (simple (codes "What") [] (nodes (map param_element (p ∷ ps)))))
    ∙ ap (flat_map params_in) (elements-nodes (map param_element (p ∷ ps))) ∙ params-inside (p ∷ ps)

draft-params : (d : Draft) → map param_of (params_of (draft_root d)) ≡ d.params
draft-params d =
    ap (λ l. map param_of (flat_map params_within l)) (children-called d (codes "What") ∙ what-called d.params d.citations)
    ∙ ap (map param_of) (section-params d.params) ∙ param-again d.params

cite-again : (k : Cite) → cite_named (Some (cite_word k)) ≡ k
cite-again Followup = refl
cite-again Supersedes = refl
cite-again Retraction = refl

role-again : (r : Role) → role_named (Some (role_word r)) ≡ r
role-again Observation = refl
role-again Prediction = refl
role-again Utility = refl
role-again Test = refl

citation-text : (c : Citation) → has_identifier c ≡ true → text_of (citation_element c) ≡ c.identifier
citation-text c h =
    ap trimmed (string_of_children (citation_element c) ∙ append-nil (string_in (tree.Text c.identifier)) ∙ string_in-text c.identifier) ∙ identifier-trimmed c.identifier h

citation-again : (c : Citation) → has_identifier c ≡ true → citation_of (citation_element c) ≡ c
citation-again c h =
    ap (λ s. record { identifier = s; kind = cite_named (Some (cite_word c.kind)) }) (citation-text c h)
    ∙ ap (λ k. record { identifier = c.identifier; kind = k }) (cite-again c.kind)

citations-again : (cs : List Citation) → list_all has_identifier cs ≡ true → map citation_of (map citation_element cs) ≡ cs
citations-again [] h = refl
citations-again (c ∷ cs) h =
    let parts = and_parts (has_identifier c) (list_all has_identifier cs) h in
    ap (λ x. x ∷ map citation_of (map citation_element cs)) (citation-again c parts.0) ∙ ap (λ l. c ∷ l) (citations-again cs parts.1)

-- no path begins with another name
no-places : (d : Draft) (name : Text) (path : List Text) → same (codes "What") name ≡ false → same (codes "Citations") name ≡ false → places (name ∷ path) (draft_root d) ≡ []
no-places d name path h k = ap (flat_map (places path)) (children-called d name ∙ none-called name h k d.params d.citations)

abbrev with_parts : Draft → Role → Option Text → Option Text → List Param → List Text → Option Position → List Citation → Packet
with_parts d role author date params times position citations =
    record { identifier = d.identifier; role = role; author = author; date = date; params = params; times = times; position = position; citations = citations }

pub draft-parts : (d : Draft) → has_identifiers d ≡ true → packet_of (draft_root d) ≡ drafted_packet d
draft-parts d named =
    let ids = and_parts (is_identifier d.identifier) (list_all has_identifier d.citations) named in
    let root = draft_root d in
    let time = codes "ObsDataLocation" ∷ codes "ObservationLocation" ∷ codes "AstroCoords" ∷ codes "Time" ∷ codes "TimeInstant" ∷ codes "ISOTime" ∷ [] in
    let place = codes "ObsDataLocation" ∷ codes "ObservationLocation" ∷ codes "AstroCoords" ∷ codes "Position2D" ∷ [] in
    let author : first_text (codes "Who" ∷ codes "AuthorIVORN" ∷ []) root ≡ None = ap (λ l. option_map text_of (first l)) (no-places d (codes "Who") (codes "AuthorIVORN" ∷ []) refl refl) in
    let date : first_text (codes "Who" ∷ codes "Date" ∷ []) root ≡ None = ap (λ l. option_map text_of (first l)) (no-places d (codes "Who") (codes "Date" ∷ []) refl refl) in
    let times : all_texts (codes "WhereWhen" ∷ time) root ≡ [] = ap (map text_of) (no-places d (codes "WhereWhen") time refl refl) in
    let position : position_at (first (places (codes "WhereWhen" ∷ place) root)) ≡ None = ap (λ l. position_at (first l)) (no-places d (codes "WhereWhen") place refl refl) in
    let cited : map citation_of (citations_of root) ≡ d.citations = ap (map citation_of) (draft-cites d) ∙ citations-again d.citations ids.1 in
    ap (λ r. with_parts d r (first_text (codes "Who" ∷ codes "AuthorIVORN" ∷ []) root) (first_text (codes "Who" ∷ codes "Date" ∷ []) root) (map param_of (params_of root))
    (all_texts (codes "WhereWhen" ∷ time) root) (position_at (first (places (codes "WhereWhen" ∷ place) root))) (map citation_of (citations_of root))) (role-again d.role)
    ∙ ap (λ a. with_parts d d.role a (first_text (codes "Who" ∷ codes "Date" ∷ []) root) (map param_of (params_of root))
    (all_texts (codes "WhereWhen" ∷ time) root) (position_at (first (places (codes "WhereWhen" ∷ place) root))) (map citation_of (citations_of root))) author
    ∙ ap (λ a. with_parts d d.role None a (map param_of (params_of root))
    (all_texts (codes "WhereWhen" ∷ time) root) (position_at (first (places (codes "WhereWhen" ∷ place) root))) (map citation_of (citations_of root))) date
    ∙ ap (λ l. with_parts d d.role None None l (all_texts (codes "WhereWhen" ∷ time) root) (position_at (first (places (codes "WhereWhen" ∷ place) root))) (map citation_of (citations_of root))) (draft-params d)
    ∙ ap (λ l. with_parts d d.role None None d.params l (position_at (first (places (codes "WhereWhen" ∷ place) root))) (map citation_of (citations_of root))) times
    ∙ ap (λ o. with_parts d d.role None None d.params [] o (map citation_of (citations_of root))) position
    ∙ ap (λ l. with_parts d d.role None None d.params [] None l) cited
