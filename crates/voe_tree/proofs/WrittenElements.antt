-- An element as it is written reads as the element, where its children do.
use Rattle.std.proofs.Common.{◌≡◌, ℕ, ◌+◌, ◌<◌, ◌≤◌, ◌^◌, suc, Bool, true, false, cond, List, [], ◌∷◌, ◌++◌, length, map, refl, sym, ◌∙◌, ap, subst, inl, arith, append_assoc, append-nil}
use Rattle.std.specs.Prelude.{◌==◌, ◌||◌, not, if◌then◌else◌, Option, Some, None, option_and_then, option_map, codes}
use Rattle.std.specs.List.{concat, list_all}
use Rattle.std.proofs.lemmas.Bool.{eqb-true, lt-leb}
use Rattle.xml_lexer.specs.Characters.{Text, is_name, is_spelled_name}
use Rattle.xml_lexer.specs.Token.{Token, start, end, Spelled}
use Rattle.xml_lexer.specs.Spelling.{AreAttributes, IsAttribute, IsValue, same, tag_end}
use Rattle.voe_tree.specs.Pairs.{has_pair}
use Rattle.voe_tree.specs.Shape.{attribute_keeps, same_attribute}
use Rattle.voe_tree.specs.Build.{Nodes, none, node, element, Levels, outermost, inside, put, levels_of, step}
use Rattle.voe_tree.specs.Names.{Bindings, declare, element_with, is_bound, local_of, named, named_all, named_attributes, namespace, prefix_of}
use Rattle.voe_tree.specs.Rules.{Open, Rule, unbalanced, too_deep, repeated_attribute, unbound_prefix, after_token, bindings_in, or_else, names_unbound, refusal_from, repeats, start_rule, unbound_in}
use Rattle.voe_tree.specs.declared.element.Attribute.{Attribute}
use Rattle.voe_tree.specs.declared.element.Element.{Element}
use Rattle.voe_tree.specs.declared.element.Node.{Node}
use Rattle.voe_tree.specs.declared.element.Node.TheVariants as tree
use Rattle.voe_tree.specs.Canonical.{all_in, all_written, default_declaration, end_tag, numbered_declarations, numbered_spaces, tokens_in, tokens_of, written, written_attribute, written_attributes, written_spelled, written_value}
use Rattle.voe_tree.proofs.WrittenRuns.{all_written-append}
use Rattle.voe_tree.proofs.WrittenNames.{alone-local, alone-prefix, alone-spelled, is-same, number_prefix, number_prefix-name, with-spelled}
use Rattle.voe_tree.proofs.WrittenValues.{written_value-is_value}
use Rattle.voe_tree.proofs.WrittenBindings.{HasDefault}
use Rattle.voe_tree.proofs.WrittenStart.{attributes_length}
use Rattle.voe_tree.proofs.WrittenTags.{AllRead, inside_tag, inside_tag-default, inside_tag-is, inside_tag-reads, named_attributes-written, unbound_in-written}
use Rattle.voe_tree.proofs.WrittenRepeats.{repeats-written}
use Rattle.voe_tree.proofs.WrittenTexts.{AreFine, Reads, Stops}
use Rattle.voe_tree.proofs.WrittenTree.{tokens_of-layer}

-- ---- what is spelled in a tag

abbrev pub AreSpelled : List Spelled → Type 0
AreSpelled [] = Unit {0}
AreSpelled (a ∷ more) = (is_spelled_name a.name ≡ true) × IsValue 34 a.value × AreSpelled more

spelled-append : (some more : List Spelled) → AreSpelled some → AreSpelled more → AreSpelled (some ++ more)
spelled-append [] more h k = k
spelled-append (a ∷ some) more h k = (h.0, h.1, spelled-append some more h.2 k)

regroup : (name value : Text) → (((((32 ∷ []) ++ name) ++ (61 ∷ 34 ∷ [])) ++ value) ++ (34 ∷ [])) ≡ (((((32 ∷ []) ++ name) ++ []) ++ (61 ∷ [])) ++ (34 ∷ value)) ++ (34 ∷ [])
regroup name value = simp (append_assoc, append-nil)

spelled_attribute : (a : Spelled) → is_spelled_name a.name ≡ true → IsValue 34 a.value → IsAttribute a (written_spelled a)
spelled_attribute a named value = (32, [], [], [], 34, refl, refl, named, refl, refl, inl refl, value, regroup a.name a.value)

spelled_attributes : (given : List Spelled) → AreSpelled given → AreAttributes given (concat (map written_spelled given))
spelled_attributes [] h = refl
spelled_attributes (a ∷ more) h =
    (written_spelled a, concat (map written_spelled more), spelled_attribute a h.0 h.1, spelled_attributes more h.2, refl)

default_spelled : (default space : Text) → AreSpelled (default_declaration default space)
default_spelled default space =
    let both : (t : Bool) → AreSpelled (if t then [] else record { name = codes "xmlns"; value = written_value space } ∷ []) =
    λ t. elim t as (λ u. AreSpelled (if u then [] else record { name = codes "xmlns"; value = written_value space } ∷ []))
    [ true ↦ tt | false ↦ (refl, written_value-is_value space, tt) ] in
    both (same space default)

numbered_spelled : (n : ℕ) (spaces : List Text) → n + length spaces < 2 ^ 64 → AreSpelled (numbered_declarations n spaces)
numbered_spelled n [] small = tt
numbered_spelled n (space ∷ more) small =
    (with-spelled (codes "xmlns") (number_prefix n) refl (number_prefix-name n (omega arith)), written_value-is_value space, numbered_spelled (n + 1) more (omega arith))

pub attributes_spelled : (bindings : Bindings) (spaces : List Text) (attributes : List Attribute) → AllRead bindings spaces attributes → AreSpelled (map (written_attribute spaces) attributes)
attributes_spelled bindings spaces [] all = tt
attributes_spelled bindings spaces (a ∷ more) all = (all.0.spelled, written_value-is_value a.value, attributes_spelled bindings spaces more all.1)

written_spelled-all : (bindings : Bindings) (default space : Text) (attributes : List Attribute) → length (numbered_spaces attributes) < 2 ^ 64 →
    AllRead bindings (numbered_spaces attributes) attributes → AreSpelled (written_attributes default space attributes)
written_spelled-all bindings default space attributes small all =
    spelled-append (default_declaration default space ++ numbered_declarations 0 (numbered_spaces attributes)) (map (written_attribute (numbered_spaces attributes)) attributes)
    (spelled-append (default_declaration default space) (numbered_declarations 0 (numbered_spaces attributes)) (default_spelled default space)
    (numbered_spelled 0 (numbered_spaces attributes) (omega arith)))
    (attributes_spelled bindings (numbered_spaces attributes) attributes all)

-- ---- tags in the text

pub reads_start : (name : Text) (given : List Spelled) (is_empty : Bool) (rest : Text) (ks : List Token) → is_spelled_name name ≡ true → AreSpelled given → length given ≤ 64 →
    Reads rest ks → Reads (written (start name given is_empty) ++ rest) (start name given is_empty ∷ ks)
reads_start name given is_empty rest ks named spelled few reads = (
  rest,
  record {
    spelled = written (start name given is_empty);
    is_spelled = (
      concat (map written_spelled given),
      [],
      named,
      spelled_attributes given spelled,
      few,
      refl,
      ap (λ s. s ++ tag_end is_empty) (sym (append-nil ((60 ∷ name) ++ concat (map written_spelled given)))),
    );
    is_front = refl;
    may_stand = tt;
  },
  reads,
)

pub reads_end : (name rest : Text) (ks : List Token) → is_spelled_name name ≡ true → Reads rest ks → Reads (written (end name) ++ rest) (end name ∷ ks)
reads_end name rest ks named reads = (
  rest,
  record {
    spelled = written (end name);
    is_spelled = ([], named, refl, ap (λ s. s ++ 62 ∷ []) (sym (append-nil (60 ∷ 47 ∷ name))));
    is_front = refl;
    may_stand = tt;
  },
  reads,
)

-- ---- elements

-- what the nodes in an element of this namespace read as
pub record NodesRead (space : Text) (children : List Node) (deep : ℕ) : Type 0 where
  pub made : Nodes
  pub levels : (name : Text) (ks : List Token) (outer : Levels) → levels_of ks ≡ Some (inside name none outer) →
      levels_of (all_in space (map tokens_in children) ++ ks) ≡ Some (inside name made outer)
  pub names : (bindings : Bindings) → HasDefault bindings space → named_all bindings made ≡ children
  pub fine : (e : Text × Bindings) (opened : Open) (ks : List Token) → HasDefault e.1 space → suc (length opened) + deep ≤ 64 → AreFine e opened ks →
      AreFine e opened (all_in space (map tokens_in children) ++ ks)
  pub reads : (rest : Text) (ks : List Token) → Stops rest → Reads rest ks →
      Reads (all_written (all_in space (map tokens_in children)) ++ rest) (all_in space (map tokens_in children) ++ ks)

-- the facts of an element that are kept
pub record TagKeeps (e : Element) (default : Text) : Type 0 where
  pub local : is_name e.local ≡ true
  pub attributes : list_all attribute_keeps e.attributes ≡ true
  pub apart : has_pair same_attribute e.attributes ≡ false
  pub few : length (written_attributes default e.space e.attributes) ≤ 64

abbrev given_of : Element → Text → List Spelled
given_of e default = written_attributes default e.space e.attributes

pub few_spaces : (e : Element) (default : Text) → TagKeeps e default → length (numbered_spaces e.attributes) < 2 ^ 64
few_spaces e default keeps =
    let parts = attributes_length default e.space e.attributes in
    let few = keeps.few in
    omega arith

tag_reads : (e : Element) (default : Text) (bindings : Bindings) → TagKeeps e default →
    AllRead (inside_tag default e.space e.attributes bindings) (numbered_spaces e.attributes) e.attributes
tag_reads e default bindings keeps = inside_tag-reads default e.space e.attributes bindings keeps.attributes (few_spaces e default keeps)

declares : (e : Element) (default : Text) (bindings : Bindings) → TagKeeps e default →
    declare (given_of e default) bindings ≡ inside_tag default e.space e.attributes bindings
declares e default bindings keeps = inside_tag-is default e.space e.attributes bindings (tag_reads e default bindings keeps)

abbrev pub start_rule_of : Bool → Bool → Bool → Option Rule
start_rule_of deep repeated unbound = if deep then Some too_deep else (if repeated then Some repeated_attribute else (if unbound then Some unbound_prefix else None))

-- the start tag breaks no rule
start_fine : (e : Element) (default : Text) (opened : Open) → TagKeeps e default → HasDefault (bindings_in opened) default → length opened < 64 →
    start_rule opened e.local (given_of e default) ≡ None
start_fine e default opened keeps has shallow =
    let within = inside_tag default e.space e.attributes (bindings_in opened) in
    let all = tag_reads e default (bindings_in opened) keeps in
    let bindings_are = declares e default (bindings_in opened) keeps in
    let unbound : names_unbound within e.local (given_of e default) ≡ false =
    ap (λ p. not (is_bound within p) || unbound_in within (given_of e default)) (alone-prefix e.local keeps.local)
    ∙ unbound_in-written within default e.space e.attributes all in
    ap (λ b. start_rule_of b (repeats (declare (given_of e default) (bindings_in opened)) (given_of e default)) (names_unbound (declare (given_of e default) (bindings_in opened)) e.local (given_of e default)))
    (lt-leb 64 (length opened) shallow)
    ∙ ap (λ b. start_rule_of false (repeats b (given_of e default)) (names_unbound b e.local (given_of e default))) bindings_are
    ∙ ap (λ b. start_rule_of false b (names_unbound within e.local (given_of e default)))
    (repeats-written within default e.space e.attributes (few_spaces e default keeps) all keeps.apart)
    ∙ ap (λ b. start_rule_of false false b) unbound

-- ---- the tokens of an element

no_nodes : (ns : List Node) → (length ns == 0) ≡ true → ns ≡ []
no_nodes [] h = refl
no_nodes (n ∷ ns) h = absurd (let none_is : length (n ∷ ns) ≡ 0 = eqb-true (length (n ∷ ns)) 0 h in omega arith)

abbrev kids_of : Element → List Token
kids_of e = all_in e.space (map tokens_in e.children)

tokens_empty : (e : Element) (default : Text) → (length e.children == 0) ≡ true → tokens_of e default ≡ start e.local (given_of e default) true ∷ []
tokens_empty e default h =
    tokens_of-layer e default
    ∙ ap (λ (ns : List Node). start e.local (given_of e default) (length ns == 0) ∷ all_in e.space (map tokens_in ns) ++ end_tag (length ns == 0) e.local) (no_nodes e.children h)

tokens_full : (e : Element) (default : Text) → (length e.children == 0) ≡ false →
    tokens_of e default ≡ start e.local (given_of e default) false ∷ kids_of e ++ end e.local ∷ []
tokens_full e default h =
    tokens_of-layer e default ∙ ap (λ b. start e.local (given_of e default) b ∷ kids_of e ++ end_tag b e.local) h

tokens_full-with : (e : Element) (default : Text) (ks : List Token) → (length e.children == 0) ≡ false →
    tokens_of e default ++ ks ≡ start e.local (given_of e default) false ∷ (kids_of e ++ end e.local ∷ ks)
tokens_full-with e default ks h =
    ap (λ l. l ++ ks) (tokens_full e default h) ∙ ap (λ l. start e.local (given_of e default) false ∷ l) (append_assoc (kids_of e) (end e.local ∷ []) ks)

-- ---- an element as nodes

pub levels_close : (name : Text) (given : List Spelled) (made : Nodes) (body : List Token) (outer : Levels) → levels_of body ≡ Some (inside name made outer) →
    levels_of (start name given false ∷ body) ≡ Some (put (node (element name given made)) outer)
levels_close name given made body outer h =
    ap (option_and_then (step (start name given false))) h ∙ ap (λ b. cond b (Some (put (node (element name given made)) outer)) None) (is-same name name refl)

none_made : (e : Element) (deep : ℕ) (kids : NodesRead e.space e.children deep) → e.children ≡ [] → kids.made ≡ none
none_made e deep kids empty =
    let reads : levels_of (all_in e.space (map tokens_in e.children) ++ end [] ∷ []) ≡ Some (inside [] kids.made (outermost none)) =
    kids.levels [] (end [] ∷ []) (outermost none) refl in
    let nothing : levels_of (all_in e.space (map tokens_in e.children) ++ end [] ∷ []) ≡ Some (inside [] none (outermost none)) =
    ap (λ (ns : List Node). levels_of (all_in e.space (map tokens_in ns) ++ end [] ∷ [])) empty in
    cc

pub element_levels : (e : Element) (default : Text) (deep : ℕ) (kids : NodesRead e.space e.children deep) (ks : List Token) (outer : Levels) → levels_of ks ≡ Some outer →
    levels_of (tokens_of e default ++ ks) ≡ Some (put (node (element e.local (given_of e default) kids.made)) outer)
element_levels e default deep kids ks outer h =
    let both : (t : Bool) → (length e.children == 0) ≡ t → levels_of (tokens_of e default ++ ks) ≡ Some (put (node (element e.local (given_of e default) kids.made)) outer) =
    λ t. elim t as (λ u. (length e.children == 0) ≡ u → levels_of (tokens_of e default ++ ks) ≡ Some (put (node (element e.local (given_of e default) kids.made)) outer)) [
      | true ↦ λ is. ap (λ l. levels_of (l ++ ks)) (tokens_empty e default is) ∙ ap (option_and_then (step (start e.local (given_of e default) true))) h
          ∙ ap (λ made. Some (put (node (element e.local (given_of e default) made)) outer)) (sym (none_made e deep kids (no_nodes e.children is)))
      | false ↦ λ is. ap levels_of (tokens_full-with e default ks is)
          ∙ levels_close e.local (given_of e default) kids.made (kids_of e ++ end e.local ∷ ks) outer
          (kids.levels e.local (end e.local ∷ ks) outer (ap (option_and_then (step (end e.local))) h))
    ] in
    both (length e.children == 0) refl

-- ---- its names

pub element_named : (e : Element) (default : Text) (deep : ℕ) (kids : NodesRead e.space e.children deep) (bindings : Bindings) → TagKeeps e default → HasDefault bindings default →
    named bindings (element e.local (given_of e default) kids.made) ≡ tree.Element e
element_named e default deep kids bindings keeps has =
    let within = inside_tag default e.space e.attributes bindings in
    let has_space : HasDefault within e.space = inside_tag-default default e.space e.attributes bindings has in
    let space_is : namespace within (prefix_of e.local) ≡ e.space = ap (namespace within) (alone-prefix e.local keeps.local) ∙ has_space in
    let attributes_are : named_attributes within (given_of e default) ≡ e.attributes =
    named_attributes-written within default e.space e.attributes (tag_reads e default bindings keeps) in
    let children_are : named_all within kids.made ≡ e.children = kids.names within has_space in
    ap (λ b. tree.Element (element_with b e.local (given_of e default) (named_all b kids.made))) (declares e default bindings keeps)
    ∙ ap (λ s. tree.Element (record { space = s; local = local_of e.local; attributes = named_attributes within (given_of e default); children = named_all within kids.made })) space_is
    ∙ ap (λ l. tree.Element (record { space = e.space; local = l; attributes = named_attributes within (given_of e default); children = named_all within kids.made })) (alone-local e.local keeps.local)
    ∙ ap (λ l. tree.Element (record { space = e.space; local = e.local; attributes = l; children = named_all within kids.made })) attributes_are
    ∙ ap (λ l. tree.Element (record { space = e.space; local = e.local; attributes = e.attributes; children = l })) children_are

-- ---- its rules

-- a start tag may stand here: the root's stands first
abbrev pub MayOpen : Open → Bool → Type 0
MayOpen [] rooted = rooted ≡ false
MayOpen (e ∷ opened) rooted = Unit {0}

pub start_goes_on : (opened : Open) (rooted : Bool) (name : Text) (given : List Spelled) (is_empty : Bool) (place : ℕ) (ks : List Token) → MayOpen opened rooted →
    start_rule opened name given ≡ None → refusal_from (after_token opened (start name given is_empty)) true (place + 1) ks ≡ None →
    refusal_from opened rooted place (start name given is_empty ∷ ks) ≡ None
start_goes_on [] false name given is_empty place ks may own more =
    ap (λ r. or_else (option_map (λ (rule : Rule). (rule, place)) (or_else r None)) (refusal_from (after_token [] (start name given is_empty)) true (place + 1) ks)) own ∙ more
start_goes_on [] true name given is_empty place ks may own more = cc
start_goes_on (e ∷ opened) true name given is_empty place ks may own more =
    ap (λ r. or_else (option_map (λ (rule : Rule). (rule, place)) (or_else r None)) (refusal_from (after_token (e ∷ opened) (start name given is_empty)) true (place + 1) ks)) own ∙ more
start_goes_on (e ∷ opened) false name given is_empty place ks may own more =
    ap (λ r. or_else (option_map (λ (rule : Rule). (rule, place)) (or_else r None)) (refusal_from (after_token (e ∷ opened) (start name given is_empty)) true (place + 1) ks)) own ∙ more

-- what comes behind breaks no rule
abbrev pub Goes : Open → List Token → Type 0
Goes opened ks = (place : ℕ) → refusal_from opened true place ks ≡ None

pub end_goes_on : (name : Text) (bindings : Bindings) (opened : Open) (ks : List Token) → Goes opened ks → AreFine (name, bindings) opened (end name ∷ ks)
end_goes_on name bindings opened ks goes place =
    ap (λ b. or_else (option_map (λ (rule : Rule). (rule, place)) (or_else (if b then None else Some unbalanced) None)) (refusal_from opened true (place + 1) ks)) (is-same name name refl)
    ∙ goes (place + 1)

pub element_fine : (e : Element) (default : Text) (deep : ℕ) (kids : NodesRead e.space e.children deep) (opened : Open) (rooted : Bool) (ks : List Token) → TagKeeps e default →
    MayOpen opened rooted → HasDefault (bindings_in opened) default → length opened + suc deep ≤ 64 → Goes opened ks →
    (place : ℕ) → refusal_from opened rooted place (tokens_of e default ++ ks) ≡ None
element_fine e default deep kids opened rooted ks keeps may has shallow goes place =
    let own : start_rule opened e.local (given_of e default) ≡ None = start_fine e default opened keeps has (omega arith) in
    let has_space : HasDefault (declare (given_of e default) (bindings_in opened)) e.space =
    subst (λ b. HasDefault b e.space) (sym (declares e default (bindings_in opened) keeps)) (inside_tag-default default e.space e.attributes (bindings_in opened) has) in
    let both : (t : Bool) → (length e.children == 0) ≡ t → refusal_from opened rooted place (tokens_of e default ++ ks) ≡ None =
    λ t. elim t as (λ u. (length e.children == 0) ≡ u → refusal_from opened rooted place (tokens_of e default ++ ks) ≡ None) [
      | true ↦ λ is. ap (λ l. refusal_from opened rooted place (l ++ ks)) (tokens_empty e default is)
          ∙ start_goes_on opened rooted e.local (given_of e default) true place ks may own (goes (place + 1))
      | false ↦ λ is. ap (refusal_from opened rooted place) (tokens_full-with e default ks is)
          ∙ start_goes_on opened rooted e.local (given_of e default) false place (kids_of e ++ end e.local ∷ ks) may own
          (kids.fine (e.local, declare (given_of e default) (bindings_in opened)) opened (end e.local ∷ ks) has_space (omega arith)
          (end_goes_on e.local (declare (given_of e default) (bindings_in opened)) opened ks goes) (place + 1))
    ] in
    both (length e.children == 0) refl

-- ---- its text

pub element_reads : (e : Element) (default : Text) (deep : ℕ) (kids : NodesRead e.space e.children deep) (rest : Text) (ks : List Token) → TagKeeps e default →
    Reads rest ks → Reads (all_written (tokens_of e default) ++ rest) (tokens_of e default ++ ks)
element_reads e default deep kids rest ks keeps reads =
    let spelled = written_spelled-all (inside_tag default e.space e.attributes []) default e.space e.attributes (few_spaces e default keeps) (tag_reads e default [] keeps) in
    let named_e = alone-spelled e.local keeps.local in
    let begin = written (start e.local (given_of e default) false) in
    let finish = written (end e.local) in
    let both : (t : Bool) → (length e.children == 0) ≡ t → Reads (all_written (tokens_of e default) ++ rest) (tokens_of e default ++ ks) =
    λ t. elim t as (λ u. (length e.children == 0) ≡ u → Reads (all_written (tokens_of e default) ++ rest) (tokens_of e default ++ ks)) [
      | true ↦ λ is. subst (λ l. Reads (all_written l ++ rest) (l ++ ks)) (sym (tokens_empty e default is))
          (subst (λ s. Reads (s ++ rest) (start e.local (given_of e default) true ∷ ks)) (sym (append-nil (written (start e.local (given_of e default) true))))
          (reads_start e.local (given_of e default) true rest ks named_e spelled keeps.few reads))
      | false ↦ λ is.
          let text_is : all_written (tokens_of e default) ++ rest ≡ begin ++ (all_written (kids_of e) ++ (finish ++ rest)) =
          ap (λ l. all_written l ++ rest) (tokens_full e default is)
          ∙ ap (λ s. (begin ++ s) ++ rest) (all_written-append (kids_of e) (end e.local ∷ []) ∙ ap (λ s. all_written (kids_of e) ++ s) (append-nil finish))
          ∙ append_assoc begin (all_written (kids_of e) ++ finish) rest ∙ ap (λ s. begin ++ s) (append_assoc (all_written (kids_of e)) finish rest) in
          subst (λ l. Reads (all_written (tokens_of e default) ++ rest) l) (sym (tokens_full-with e default ks is))
          (subst (λ s. Reads s (start e.local (given_of e default) false ∷ (kids_of e ++ end e.local ∷ ks))) (sym text_is)
          (reads_start e.local (given_of e default) false (all_written (kids_of e) ++ (finish ++ rest)) (kids_of e ++ end e.local ∷ ks) named_e spelled keeps.few
          (kids.reads (finish ++ rest) (end e.local ∷ ks) refl (reads_end e.local rest ks named_e reads))))
    ] in
    both (length e.children == 0) refl
