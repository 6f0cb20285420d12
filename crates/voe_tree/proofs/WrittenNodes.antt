-- A tree as it is written reads as the tree, down from its root.
use Rattle.std.proofs.Common.{◌≡◌, ℕ, ◌+◌, ◌≤◌, zero, suc, Bool, true, false, List, [], ◌∷◌, ◌++◌, length, map, refl, sym, ◌∙◌, ap, subst, inl, inr, arith, append_assoc, append-nil}
use Rattle.std.specs.Prelude.{◌==◌, ◌&&◌, not, nat_lt, nat_le, Some, None}
use Rattle.std.specs.List.{list_all}
use Rattle.std.proofs.lemmas.List.Folds.{list_all-append}
use Rattle.std.proofs.lemmas.Bool.{and_parts, and_from, both_ways, leb-true, ltb-true, not-true}
use Rattle.xml_lexer.specs.Characters.{Text, is_name}
use Rattle.xml_lexer.specs.Token.{Token}
use Rattle.voe_tree.specs.Texts.{is_xml_text}
use Rattle.voe_tree.specs.Pairs.{has_pair}
use Rattle.voe_tree.specs.Shape.{Kept, are_apart, attribute_keeps, attributes_keep, children_keep, depth, element_depth, element_keeps, greatest, height, is_local_name, keeps, node_depth, node_keeps, node_kept, same_attribute}
use Rattle.voe_tree.specs.Build.{Node as Built, Nodes, none, node, element, characters, Levels, outermost, inside, put, put_text, levels_of}
use Rattle.voe_tree.specs.Names.{Bindings, named, named_all}
use Rattle.voe_tree.specs.Rules.{Open, bindings_in, refusal_from, refusal_of}
use Rattle.voe_tree.specs.Document.{IsRootOf}
use Rattle.voe_tree.specs.declared.element.Element.{Element, fold_out-Element}
use Rattle.voe_tree.specs.declared.element.Node.{Node}
use Rattle.voe_tree.specs.declared.element.Node.TheOpen.{Node-F}
use Rattle.voe_tree.specs.declared.element.Node.TheFolds.{fold-roll-Node}
use Rattle.voe_tree.specs.declared.element.Node.TheVariants as tree
use Rattle.voe_tree.specs.Canonical.{all_in, all_written, canonical, canonical_tokens, end_tag, is_narrow, text_tokens, tokens_in, tokens_of, written_attributes}
use Rattle.voe_tree.proofs.WrittenRuns.{all_written-append}
use Rattle.voe_tree.proofs.WrittenBindings.{HasDefault}
use Rattle.voe_tree.proofs.WrittenTexts.{Reads, Stops, fine_text, levels_of-text, reads_text}
use Rattle.voe_tree.proofs.WrittenTree.{tokens_of-layer, tokens_in-element, tokens_in-text}
use Rattle.voe_tree.proofs.WrittenElements.{Goes, MayOpen, NodesRead, TagKeeps, element_fine, element_levels, element_named, element_reads}
use Rattle.voe_tree.proofs.WrittenCases.{node_cases}

-- what an element reads as, where this default namespace is in force
pub record ElementRead (e : Element) (default : Text) (deep : ℕ) : Type 0 where
  pub made : Nodes
  pub levels : (ks : List Token) (outer : Levels) → levels_of ks ≡ Some outer →
      levels_of (tokens_of e default ++ ks) ≡ Some (put (node (element e.local (written_attributes default e.space e.attributes) made)) outer)
  pub names : (bindings : Bindings) → HasDefault bindings default → named bindings (element e.local (written_attributes default e.space e.attributes) made) ≡ tree.Element e
  pub fine : (opened : Open) (rooted : Bool) (ks : List Token) → MayOpen opened rooted → HasDefault (bindings_in opened) default → length opened + deep ≤ 64 → Goes opened ks →
      (place : ℕ) → refusal_from opened rooted place (tokens_of e default ++ ks) ≡ None
  pub reads : (rest : Text) (ks : List Token) → Reads rest ks → Reads (all_written (tokens_of e default) ++ rest) (tokens_of e default ++ ks)

element_read : (e : Element) (default : Text) (deep : ℕ) → NodesRead e.space e.children deep → TagKeeps e default → ElementRead e default (suc deep)
element_read e default deep kids tag = record {
  made = kids.made;
  levels = λ ks outer h. element_levels e default deep kids ks outer h;
  names = λ bindings has. element_named e default deep kids bindings tag has;
  fine = λ opened rooted ks may has shallow goes place. element_fine e default deep kids opened rooted ks tag may has shallow goes place;
  reads = λ rest ks reads. element_reads e default deep kids rest ks tag reads;
}

-- ---- nodes side by side

abbrev pub first_text : List Kept → Bool
first_text [] = false
first_text (k ∷ ks) = k.0

abbrev pub IsBare : Nodes → Type 0
IsBare (node (characters t) ns) = ⊥
IsBare ns = Unit {0}

pub record KidsRead (space : Text) (children : List Node) (deep : ℕ) : Type 0 where
  pub nodes : NodesRead space children deep
  pub bare : first_text (map node_kept children) ≡ false → IsBare nodes.made
  pub stops : first_text (map node_kept children) ≡ false → (rest : Text) → Stops rest → Stops (all_written (all_in space (map tokens_in children)) ++ rest)

no_kids : (space : Text) (deep : ℕ) → KidsRead space [] deep
no_kids space deep = record {
  nodes = record { made = none; levels = λ name ks outer h. h; names = λ bindings has. refl; fine = λ e opened ks has shallow goes. goes; reads = λ rest ks stops reads. reads };
  bare = λ h. tt;
  stops = λ h rest stops. stops;
}

abbrev pub kids_tokens : Text → List Node → List Token
kids_tokens space ns = all_in space (map tokens_in ns)

split_tokens : (space : Text) (n : Node) (ns : List Node) (own ks : List Token) → tokens_in n space ≡ own →
    kids_tokens space (n ∷ ns) ++ ks ≡ own ++ (kids_tokens space ns ++ ks)
split_tokens space n ns own ks is = ap (λ l. (l ++ kids_tokens space ns) ++ ks) is ∙ append_assoc own (kids_tokens space ns) ks

split_text : (space : Text) (n : Node) (ns : List Node) (own : List Token) (rest : Text) → tokens_in n space ≡ own →
    all_written (kids_tokens space (n ∷ ns)) ++ rest ≡ all_written own ++ (all_written (kids_tokens space ns) ++ rest)
split_text space n ns own rest is =
    ap (λ l. all_written (l ++ kids_tokens space ns) ++ rest) is ∙ ap (λ s. s ++ rest) (all_written-append own (kids_tokens space ns))
    ∙ append_assoc (all_written own) (all_written (kids_tokens space ns)) rest

with_element : (space : Text) (e : Element) (ns : List Node) (deep : ℕ) → ElementRead e space deep → NodesRead space ns deep → NodesRead space (tree.Element e ∷ ns) deep
with_element space e ns deep own kids =
    let is = tokens_in-element e space in
    record {
      made = node (element e.local (written_attributes space e.space e.attributes) own.made) kids.made;
      levels = λ name ks outer h. ap levels_of (split_tokens space (tree.Element e) ns (tokens_of e space) ks is)
          ∙ own.levels (kids_tokens space ns ++ ks) (inside name kids.made outer) (kids.levels name ks outer h);
      names = λ bindings has. ap (λ n. n ∷ named_all bindings kids.made) (own.names bindings has) ∙ ap (λ l. tree.Element e ∷ l) (kids.names bindings has);
      fine = λ e0 opened ks has shallow goes place. ap (refusal_from (e0 ∷ opened) true place) (split_tokens space (tree.Element e) ns (tokens_of e space) ks is)
          ∙ own.fine (e0 ∷ opened) true (kids_tokens space ns ++ ks) tt has shallow (kids.fine e0 opened ks has shallow goes) place;
      reads = λ rest ks stops reads. subst (λ l. Reads (all_written (kids_tokens space (tree.Element e ∷ ns)) ++ rest) l) (sym (split_tokens space (tree.Element e) ns (tokens_of e space) ks is))
          (subst (λ s. Reads s (tokens_of e space ++ (kids_tokens space ns ++ ks))) (sym (split_text space (tree.Element e) ns (tokens_of e space) rest is))
          (own.reads (all_written (kids_tokens space ns) ++ rest) (kids_tokens space ns ++ ks) (kids.reads rest ks stops reads)));
    }

put_text-bare : (t : Text) (ns : Nodes) → nat_lt 0 (length t) ≡ true → IsBare ns → put_text t ns ≡ node (characters t) ns
put_text-bare [] ns some bare = absurd (let less = ltb-true 0 (length {A = ℕ} []) some in omega arith)
put_text-bare (b ∷ bs) none some bare = refl
put_text-bare (b ∷ bs) (node (characters t) ns) some bare = absurd bare
put_text-bare (b ∷ bs) (node (element name given kids) ns) some bare = refl

with_text : (space : Text) (t : Text) (ns : List Node) (deep : ℕ) → nat_lt 0 (length t) ≡ true → (kids : KidsRead space ns deep) → first_text (map node_kept ns) ≡ false →
    NodesRead space (tree.Text t ∷ ns) deep
with_text space t ns deep some kids apart =
    let is = tokens_in-text t space in
    record {
      made = put_text t kids.nodes.made;
      levels = λ name ks outer h. ap levels_of (split_tokens space (tree.Text t) ns (text_tokens t) ks is)
          ∙ levels_of-text t (kids_tokens space ns ++ ks) (inside name kids.nodes.made outer) (kids.nodes.levels name ks outer h);
      names = λ bindings has. ap (named_all bindings) (put_text-bare t kids.nodes.made some (kids.bare apart)) ∙ ap (λ l. tree.Text t ∷ l) (kids.nodes.names bindings has);
      fine = λ e0 opened ks has shallow goes place. ap (refusal_from (e0 ∷ opened) true place) (split_tokens space (tree.Text t) ns (text_tokens t) ks is)
          ∙ fine_text t e0 opened (kids_tokens space ns ++ ks) (kids.nodes.fine e0 opened ks has shallow goes) place;
      reads = λ rest ks stops reads. subst (λ l. Reads (all_written (kids_tokens space (tree.Text t ∷ ns)) ++ rest) l) (sym (split_tokens space (tree.Text t) ns (text_tokens t) ks is))
          (subst (λ s. Reads s (text_tokens t ++ (kids_tokens space ns ++ ks))) (sym (split_text space (tree.Text t) ns (text_tokens t) rest is))
          (reads_text t (all_written (kids_tokens space ns) ++ rest) (kids_tokens space ns ++ ks) (kids.stops apart rest stops) (kids.nodes.reads rest ks stops reads)));
    }

-- ---- what a tree keeps, node by node

pub kept-element : (e : Element) → node_kept (tree.Element e) ≡ (false, keeps e)
kept-element e = ap node_kept (sym (tree.rolls-Element e)) ∙ fold-roll-Node Kept Bool node_keeps element_keeps (Node-F.Element e)

pub kept-text : (t : Text) → node_kept (tree.Text t) ≡ (true, (nat_lt 0 (length t) && is_xml_text t))
kept-text t = ap node_kept (sym (tree.rolls-Text t)) ∙ fold-roll-Node Kept Bool node_keeps element_keeps (Node-F.Text t)

pub height-element : (e : Element) → height (tree.Element e) ≡ depth e
height-element e = ap height (sym (tree.rolls-Element e)) ∙ fold-roll-Node ℕ ℕ node_depth element_depth (Node-F.Element e)

pub height-text : (t : Text) → height (tree.Text t) ≡ 0
height-text t = ap height (sym (tree.rolls-Text t)) ∙ fold-roll-Node ℕ ℕ node_depth element_depth (Node-F.Text t)

pub depth_out : (e : Element) → depth e ≡ suc (greatest (map height e.children))
depth_out e = fold_out-Element ℕ ℕ node_depth element_depth e

pub keeps_out : (e : Element) → keeps e ≡ (is_xml_text e.space && is_local_name e.local && attributes_keep e.attributes && children_keep (map node_kept e.children))
keeps_out e = fold_out-Element Kept Bool node_keeps element_keeps e

not_both : (a b : Bool) → not (a && b) ≡ true → a ≡ true → b ≡ false
not_both true true h k = cc
not_both true false h k = refl
not_both false b h k = cc

-- of the first node and the others
pub first_keeps : (k : Kept) (ks : List Kept) → children_keep (k ∷ ks) ≡ true → (k.1 ≡ true) × (children_keep ks ≡ true) × (k.0 ≡ true → first_text ks ≡ false)
first_keeps k [] h = ((and_parts k.1 true (and_parts true (k.1 && true) h).1).0, refl, λ e. refl)
first_keeps k (b ∷ more) h =
    let parts = and_parts (not (k.0 && b.0) && are_apart (b ∷ more)) (k.1 && list_all (λ (x : Kept). x.1) (b ∷ more)) h in
    let apart = and_parts (not (k.0 && b.0)) (are_apart (b ∷ more)) parts.0 in
    let kept = and_parts k.1 (list_all (λ (x : Kept). x.1) (b ∷ more)) parts.1 in
    (kept.0, and_from (are_apart (b ∷ more)) (list_all (λ (x : Kept). x.1) (b ∷ more)) apart.1 kept.1, λ e. not_both k.0 b.0 apart.0 e)

pub tag_keeps : (e : Element) (default : Text) → keeps e ≡ true → list_all is_narrow (tokens_of e default) ≡ true →
    TagKeeps e default × (children_keep (map node_kept e.children) ≡ true) × (list_all is_narrow (kids_tokens e.space e.children) ≡ true)
tag_keeps e default h narrow =
    let all = and_parts (is_xml_text e.space && is_local_name e.local && attributes_keep e.attributes) (children_keep (map node_kept e.children)) (sym (keeps_out e) ∙ h) in
    let own = and_parts (is_xml_text e.space && is_local_name e.local) (attributes_keep e.attributes) all.0 in
    let named = and_parts (is_xml_text e.space) (is_local_name e.local) own.0 in
    let attributes = and_parts (list_all attribute_keeps e.attributes) (not (has_pair same_attribute e.attributes)) own.1 in
    let tokens = and_parts (nat_le (length (written_attributes default e.space e.attributes)) 64)
    (list_all is_narrow (kids_tokens e.space e.children ++ end_tag (length e.children == 0) e.local)) (ap (list_all is_narrow) (sym (tokens_of-layer e default)) ∙ narrow) in (
      record {
        local = (and_parts (is_name e.local) (is_xml_text e.local) named.1).0;
        attributes = attributes.0;
        apart = not-true (has_pair same_attribute e.attributes) attributes.1;
        few = leb-true (length (written_attributes default e.space e.attributes)) 64 tokens.0;
      },
      all.1,
      (and_parts (list_all is_narrow (kids_tokens e.space e.children)) (list_all is_narrow (end_tag (length e.children == 0) e.local))
          (sym (list_all-append is_narrow (kids_tokens e.space e.children) (end_tag (length e.children == 0) e.local)) ∙ tokens.1)).0,
    )

-- ---- all the nodes

-- the elements of this depth read as they are
abbrev pub AllWithin : ℕ → Type 0
AllWithin deep = (e : Element) → depth e ≤ deep → keeps e ≡ true → (default : Text) → list_all is_narrow (tokens_of e default) ≡ true → ElementRead e default deep

element_stops : (e : Element) (space rest : Text) → Stops (all_written (tokens_of e space) ++ rest)
element_stops e space rest = subst (λ l. Stops (all_written l ++ rest)) (sym (tokens_of-layer e space)) refl

one_element : (space : Text) (e : Element) (ns : List Node) (deep : ℕ) → AllWithin deep → KidsRead space ns deep → height (tree.Element e) ≤ deep → (node_kept (tree.Element e)).1 ≡ true →
    list_all is_narrow (tokens_in (tree.Element e) space) ≡ true → KidsRead space (tree.Element e ∷ ns) deep
unfolding with_element
one_element space e ns deep below kids low kept narrow =
    let own : ElementRead e space deep = below e (subst (λ n. n ≤ deep) (height-element e) low) (sym (ap (λ (k : Kept). k.1) (kept-element e)) ∙ kept) space
    (ap (list_all is_narrow) (sym (tokens_in-element e space)) ∙ narrow) in
    record {
      nodes = with_element space e ns deep own kids.nodes;
      bare = λ h. tt;
      stops = λ h rest stops. subst Stops (sym (split_text space (tree.Element e) ns (tokens_of e space) rest (tokens_in-element e space)))
          (element_stops e space (all_written (kids_tokens space ns) ++ rest));
    }

one_text : (space : Text) (t : Text) (ns : List Node) (deep : ℕ) → KidsRead space ns deep → (node_kept (tree.Text t)).1 ≡ true →
    ((node_kept (tree.Text t)).0 ≡ true → first_text (map node_kept ns) ≡ false) → KidsRead space (tree.Text t ∷ ns) deep
one_text space t ns deep kids kept apart =
    let some : nat_lt 0 (length t) ≡ true = (and_parts (nat_lt 0 (length t)) (is_xml_text t) (sym (ap (λ (k : Kept). k.1) (kept-text t)) ∙ kept)).0 in
    let is_text : (node_kept (tree.Text t)).0 ≡ true = ap (λ (k : Kept). k.0) (kept-text t) in
    record {
      nodes = with_text space t ns deep some kids (apart is_text);
      bare = λ h. absurd (both_ways (node_kept (tree.Text t)).0 h is_text);
      stops = λ h. absurd (both_ways (node_kept (tree.Text t)).0 h is_text);
    }

pub kids_within : (deep : ℕ) → AllWithin deep → (space : Text) (ns : List Node) → greatest (map height ns) ≤ deep → children_keep (map node_kept ns) ≡ true →
    list_all is_narrow (kids_tokens space ns) ≡ true → KidsRead space ns deep
kids_within deep below space [] low kept narrow = no_kids space deep
kids_within deep below space (n ∷ ns) low kept narrow =
    let facts = first_keeps (node_kept n) (map node_kept ns) kept in
    let parts = and_parts (list_all is_narrow (tokens_in n space)) (list_all is_narrow (kids_tokens space ns))
    (sym (list_all-append is_narrow (tokens_in n space) (kids_tokens space ns)) ∙ narrow) in
    let more : KidsRead space ns deep = kids_within deep below space ns (omega arith) facts.1 parts.1 in
    let low_first : height n ≤ deep = omega arith in
    elim (node_cases n) [
      | inl e ↦ subst (λ m. KidsRead space (m ∷ ns) deep) (sym e.1)
          (one_element space e.0 ns deep below more (subst (λ m. height m ≤ deep) e.1 low_first) (subst (λ m. (node_kept m).1 ≡ true) e.1 facts.0)
          (subst (λ m. list_all is_narrow (tokens_in m space) ≡ true) e.1 parts.0))
      | inr t ↦ subst (λ m. KidsRead space (m ∷ ns) deep) (sym t.1)
          (one_text space t.0 ns deep more (subst (λ m. (node_kept m).1 ≡ true) t.1 facts.0)
          (subst (λ m. (node_kept m).0 ≡ true → first_text (map node_kept ns) ≡ false) t.1 facts.2))
    ]

pub all_within : (deep : ℕ) → AllWithin deep
all_within zero e low kept default narrow = absurd (let out = depth_out e in omega arith)
all_within (suc deep) e low kept default narrow =
    let facts = tag_keeps e default kept narrow in
    let kids = kids_within deep (all_within deep) e.space e.children (let out = depth_out e in omega arith) facts.1 facts.2 in
    element_read e default deep kids.nodes facts.0

-- ---- the root

pub root_read : (root : Element) → keeps root ≡ true → depth root ≤ 64 → list_all is_narrow (canonical_tokens root) ≡ true → ElementRead root [] 64
root_read root kept low narrow = all_within 64 root low kept [] narrow

pub canonical-is_root : (root : Element) → keeps root ≡ true → depth root ≤ 64 → list_all is_narrow (canonical_tokens root) ≡ true → IsRootOf root (canonical_tokens root)
canonical-is_root root kept low narrow =
    let read = root_read root kept low narrow in
    let built : Built = element root.local (written_attributes [] root.space root.attributes) read.made in
    record {
      outer = node built none;
      built = built;
      unbroken = ap refusal_of (sym (append-nil (canonical_tokens root))) ∙ read.fine [] false [] refl refl (omega arith) (λ place. refl) 0;
      nested = ap levels_of (sym (append-nil (canonical_tokens root))) ∙ read.levels [] (outermost none) refl;
      alone = refl;
      is_root = sym (read.names [] refl);
    }

pub canonical-reads : (root : Element) → keeps root ≡ true → depth root ≤ 64 → list_all is_narrow (canonical_tokens root) ≡ true → Reads (canonical root) (canonical_tokens root)
canonical-reads root kept low narrow =
    let read = root_read root kept low narrow in
    subst (λ s. Reads s (canonical_tokens root)) (append-nil (canonical root)) (subst (λ l. Reads (canonical root ++ []) l) (append-nil (canonical_tokens root)) (read.reads [] [] refl))
