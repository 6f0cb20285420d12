-- What a reader's state keeps, so that what it builds is a tree.
use Rattle.std.proofs.Common.{◌≡◌, ◌+◌, ◌<◌, ◌≤◌, ℕ, suc, Bool, true, false, List, [], ◌∷◌, ◌++◌, Some, None, length, map, refl, sym, ◌∙◌, ap, subst, arith}
use Rattle.std.specs.Prelude.{◌&&◌, not, nat_lt, nat_le}
use Rattle.std.specs.List.{list_all}
use Rattle.std.specs.Char.{encode_utf8}
use Rattle.std.proofs.lemmas.Bool.Decides.{nat_tests}
use Rattle.std.proofs.lemmas.List.Folds.{list_all-append}
use Rattle.std.proofs.lemmas.List.{map-append}
use Rattle.xml_lexer.specs.Characters.{Text}
use Rattle.xml_lexer.specs.Token.{Token, declaration, instruction, comment, cdata, start, end, text, reference, Spelled}
use Rattle.voe_tree.specs.Texts.{is_xml_text}
use Rattle.voe_tree.specs.Pairs.{has_pair}
use Rattle.voe_tree.specs.Shape.{max_depth, is_local_name, attributes_keep, depth, height, greatest, node_depth, element_depth, Kept, are_apart, children_keep, node_keeps, element_keeps, keeps, node_kept, is_well_formed}
use Rattle.voe_tree.specs.Build.{with_line_feeds}
use Rattle.voe_tree.specs.Names.{Bindings, declare, prefix_of, is_bound, named_attributes, element_with}
use Rattle.voe_tree.specs.Rules.{same_spelled, same_named, unbound_in}
use Rattle.voe_tree.specs.Document.{IsRootOf}
use Rattle.voe_tree.specs.Reader.{Stack, State, bottom, above, bindings_at, is_bottom, is_rooted, opened_in, with_children, push, push_text, pop, initial, add_text, after, breaks, tag_rule, IsOpen, none_open, IsTidy, outside, ended, in_element, result_of}
use Rattle.voe_tree.specs.declared.element.Element.{Element, fold_out-Element}
use Rattle.voe_tree.specs.declared.element.Node.{Node}
use Rattle.voe_tree.specs.declared.element.Node.TheOpen.{Node-F}
use Rattle.voe_tree.specs.declared.element.Node.TheFolds.{fold-roll-Node}
use Rattle.voe_tree.specs.declared.element.Node.TheVariants as tree
use Rattle.voe_tree.proofs.Contained.{same_element}
use Rattle.voe_tree.proofs.ReaderSteps.{open-push_text, opened-push_text, not_behind, tidy-after, refusal_at, refusal_at-after, unbroken-first, result_of-after}
use Rattle.voe_tree.proofs.RootLaws.{result_of-root}
use Rattle.voe_tree.proofs.TakeLaws.{breaks-start}
use Rattle.voe_tree.proofs.XmlTexts.{and_left, and_right, and_both, xml-nil, xml-append, xml-run}
use Rattle.voe_tree.proofs.XmlTokens.{IsXmlToken, AreXmlTokens, AreXmlBindings, xml-space_of, xml-declare, local_name, named_attributes_keep}

-- ---- nodes at the end of others

pub ends_in_text : List Kept → Bool
ends_in_text [] = false
ends_in_text (k ∷ []) = k.0
ends_in_text (k ∷ l ∷ more) = ends_in_text (l ∷ more)

apart-push : (ks : List Kept) (k : Kept) → are_apart ks ≡ true → (ends_in_text ks && k.0) ≡ false → are_apart (ks ++ k ∷ []) ≡ true
unfolding ends_in_text
apart-push [] k h t = refl
apart-push (a ∷ []) k h t = and_both (not (a.0 && k.0)) true (ap not t) refl
apart-push (a ∷ b ∷ ks) k h t =
    and_both (not (a.0 && b.0)) (are_apart (b ∷ ks ++ k ∷ [])) (and_left (not (a.0 && b.0)) (are_apart (b ∷ ks)) h)
    (apart-push (b ∷ ks) k (and_right (not (a.0 && b.0)) (are_apart (b ∷ ks)) h) t)

ends-push : (ks : List Kept) (k : Kept) → ends_in_text (ks ++ k ∷ []) ≡ k.0
unfolding ends_in_text
ends-push [] k = refl
ends-push (a ∷ []) k = refl
ends-push (a ∷ b ∷ ks) k = ends-push (b ∷ ks) k

ends-nil : ends_in_text [] ≡ false
unfolding ends_in_text
ends-nil = refl

children-push : (ks : List Kept) (k : Kept) → children_keep ks ≡ true → (ends_in_text ks && k.0) ≡ false → k.1 ≡ true → children_keep (ks ++ k ∷ []) ≡ true
children-push ks k h t g =
    and_both (are_apart (ks ++ k ∷ [])) (list_all (λ (x : Kept). x.1) (ks ++ k ∷ []))
    (apart-push ks k (and_left (are_apart ks) (list_all (λ (x : Kept). x.1) ks) h) t)
    (list_all-append (λ (x : Kept). x.1) ks (k ∷ [])
    ∙ and_both (list_all (λ (x : Kept). x.1) ks) (k.1 && true) (and_right (are_apart ks) (list_all (λ (x : Kept). x.1) ks) h) (and_both k.1 true g refl))

depth-push : (ns : List ℕ) (n l : ℕ) → greatest ns + l ≤ 64 → n + l ≤ 64 → greatest (ns ++ n ∷ []) + l ≤ 64
depth-push [] n l h g = omega arith
depth-push (m ∷ ns) n l h g = let further : greatest (ns ++ n ∷ []) + l ≤ 64 = depth-push ns n l (omega arith) g in omega arith

-- ---- one node

kept-element : (e : Element) → node_kept (tree.Element e) ≡ (false, keeps e)
kept-element e = ap node_kept (sym (tree.rolls-Element e)) ∙ fold-roll-Node Kept Bool node_keeps element_keeps (Node-F.Element e)

kept-text : (t : Text) → node_kept (tree.Text t) ≡ (true, (nat_lt 0 (length t) && is_xml_text t))
kept-text t = ap node_kept (sym (tree.rolls-Text t)) ∙ fold-roll-Node Kept Bool node_keeps element_keeps (Node-F.Text t)

height-element : (e : Element) → height (tree.Element e) ≡ depth e
height-element e = ap height (sym (tree.rolls-Element e)) ∙ fold-roll-Node ℕ ℕ node_depth element_depth (Node-F.Element e)

height-text : (t : Text) → height (tree.Text t) ≡ 0
height-text t = ap height (sym (tree.rolls-Text t)) ∙ fold-roll-Node ℕ ℕ node_depth element_depth (Node-F.Text t)

depth_out : (e : Element) → depth e ≡ suc (greatest (map height e.children))
depth_out e = fold_out-Element ℕ ℕ node_depth element_depth e

keeps_out : (e : Element) → keeps e ≡ (is_xml_text e.space && is_local_name e.local && attributes_keep e.attributes && children_keep (map node_kept e.children))
keeps_out e = fold_out-Element Kept Bool node_keeps element_keeps e

-- ---- what a state keeps

-- an open element at that depth
pub record IsSoundElement (level : ℕ) (e : Element) : Type 0 where
  pub space : is_xml_text e.space ≡ true
  pub local : is_local_name e.local ≡ true
  pub attributes : attributes_keep e.attributes ≡ true
  pub children : children_keep (map node_kept e.children) ≡ true
  pub deep : greatest (map height e.children) + level ≤ 64

abbrev pub AreSound : Stack → Type 0
AreSound (bottom b found) = AreXmlBindings b
AreSound (above name e b below) = IsSoundElement (suc (length (opened_in below))) e × AreXmlBindings b × AreSound below

abbrev pub IsSoundState : Text → Stack → Type 0
IsSoundState p (bottom b found) = AreXmlBindings b × ((e : Element) → found ≡ tree.Element e ∷ [] → is_well_formed e ≡ true)
IsSoundState p (above name e b below) = AreSound (above name e b below) × (is_xml_text p ≡ true) × (ends_in_text (map node_kept e.children) ≡ false)

push_child : (level : ℕ) (e : Element) (n : Node) → IsSoundElement level e → (ends_in_text (map node_kept e.children) && (node_kept n).0) ≡ false → (node_kept n).1 ≡ true →
    height n + level ≤ 64 → IsSoundElement level (with_children e (n ∷ []))
push_child level e n h t k d = record {
  space = h.space;
  local = h.local;
  attributes = h.attributes;
  children = ap children_keep (map-append node_kept e.children (n ∷ [])) ∙ children-push (map node_kept e.children) (node_kept n) h.children t k;
  deep = rw (map-append height e.children (n ∷ [])) (depth-push (map height e.children) (height n) level h.deep d);
}

some_bytes : (x : ℕ) (p : Text) → nat_lt 0 (length (x ∷ p)) ≡ true
some_bytes x p = grind (arith, nat_tests)

push_run : (level : ℕ) (e : Element) (x : ℕ) (p : Text) → IsSoundElement level e → ends_in_text (map node_kept e.children) ≡ false → is_xml_text (x ∷ p) ≡ true →
    IsSoundElement level (with_children e (tree.Text (x ∷ p) ∷ []))
push_run level e x p h t k =
    push_child level e (tree.Text (x ∷ p)) h (ap (λ b. b && (node_kept (tree.Text (x ∷ p))).0) t)
    (ap (λ (y : Kept). y.1) (kept-text (x ∷ p)) ∙ and_both (nat_lt 0 (length (x ∷ p))) (is_xml_text (x ∷ p)) (some_bytes x p) k)
    (let flat = height-text (x ∷ p) in let d = h.deep in omega arith)

sound-flush : (p : Text) (s : Stack) → IsTidy p s → IsSoundState p s → AreSound (push_text p s)
sound-flush [] (bottom b found) t h = h.0
sound-flush (x ∷ p) (bottom b found) t h = elim t [ ]
sound-flush [] (above name e b below) t h = h.0
sound-flush (x ∷ p) (above name e b below) t h = (push_run (suc (length (opened_in below))) e x p h.0.0 h.2 h.1, h.0.1, h.0.2)

complete_keeps : (level : ℕ) (e : Element) → IsSoundElement level e → keeps e ≡ true
complete_keeps level e h =
    keeps_out e
    ∙ and_both (is_xml_text e.space && is_local_name e.local && attributes_keep e.attributes) (children_keep (map node_kept e.children))
    (and_both (is_xml_text e.space && is_local_name e.local) (attributes_keep e.attributes) (and_both (is_xml_text e.space) (is_local_name e.local) h.space h.local) h.attributes)
    h.children

complete_depth : (n : ℕ) (e : Element) → IsSoundElement (suc n) e → depth e + n ≤ 64
complete_depth n e h = let out = depth_out e in let d = h.deep in omega arith

well_formed : (e : Element) → keeps e ≡ true → depth e + 0 ≤ 64 → is_well_formed e ≡ true
well_formed e k d = and_both (keeps e) (nat_le (depth e) max_depth) k (let low : depth e ≤ 64 = omega arith in grind (arith, nat_tests))

and_false : (b : Bool) → (b && false) ≡ false
and_false true = refl
and_false false = refl

sound-place : (e : Element) (s : Stack) → IsOpen s → AreSound s → keeps e ≡ true → depth e + length (opened_in s) ≤ 64 → IsSoundState [] (push (tree.Element e) s)
sound-place e (bottom b found) none_open h k d =
    (h, λ f same. let one : tree.Element e ≡ tree.Element f = cc in subst (λ (x : Element). is_well_formed x ≡ true) (same_element e f one) (well_formed e k d))
sound-place e (above name f b below) o h k d = (
  (
    push_child (suc (length (opened_in below))) f (tree.Element e) h.0
        (let no_text = ap (λ (y : Kept). y.0) (kept-element e) in rw no_text (and_false (ends_in_text (map node_kept f.children))))
        (ap (λ (y : Kept). y.1) (kept-element e) ∙ k)
        (let tall = height-element e in omega arith),
    h.1,
    h.2,
  ),
  xml-nil,
  ap ends_in_text (map-append node_kept f.children (tree.Element e ∷ [])) ∙ ends-push (map node_kept f.children) (node_kept (tree.Element e)) ∙ ap (λ (y : Kept). y.0) (kept-element e),
)

sound-end : (p : Text) (s : Stack) → IsTidy p s → IsSoundState p s → IsSoundState [] (pop (push_text p s))
sound-end [] (bottom b found) t h = h
sound-end (x ∷ p) (bottom b found) t h = elim t [ ]
sound-end [] (above name e b below) (in_element q n f c s t) h =
    sound-place e below t h.0.2 (complete_keeps (suc (length (opened_in below))) e h.0.0) (complete_depth (length (opened_in below)) e h.0.0)
sound-end (x ∷ p) (above name e b below) (in_element q n f c s t) h =
    let more = push_run (suc (length (opened_in below))) e x p h.0.0 h.2 h.1 in
    sound-place (with_children e (tree.Text (x ∷ p) ∷ [])) below t h.0.2
    (complete_keeps (suc (length (opened_in below))) (with_children e (tree.Text (x ∷ p) ∷ [])) more)
    (complete_depth (length (opened_in below)) (with_children e (tree.Text (x ∷ p) ∷ [])) more)

sound-add_text : (more p : Text) (s : Stack) → is_xml_text more ≡ true → IsSoundState p s →
    IsSoundState (add_text more (record { pending = p; stack = s })).pending (add_text more (record { pending = p; stack = s })).stack
sound-add_text more p (bottom b found) x h = h
sound-add_text more p (above name e b below) x h = (h.0, xml-append p more h.1 x, h.2)

-- ---- start tags

tag_none : (a b c d e f : Bool) → tag_rule a b c d e f ≡ None → (a ≡ false) × (b ≡ false) × (c ≡ false) × (d ≡ false) × (e ≡ false)
tag_none true b c d e f h = absurd (let bad : ⊥ = cc in bad)
tag_none false true c d e f h = absurd (let bad : ⊥ = cc in bad)
tag_none false false true d e f h = absurd (let bad : ⊥ = cc in bad)
tag_none false false false true e f h = absurd (let bad : ⊥ = cc in bad)
tag_none false false false false true f h = absurd (let bad : ⊥ = cc in bad)
tag_none false false false false false f h = (refl, refl, refl, refl, refl)

xml-bindings_at : (p : Text) (s : Stack) → IsSoundState p s → AreXmlBindings (bindings_at s)
xml-bindings_at p (bottom b found) h = h.0
xml-bindings_at p (above name e b below) h = h.0.1

not_deep : (n : ℕ) → nat_le 64 n ≡ false → n < 64
not_deep n h = grind (arith, nat_tests)

module _ (p : Text) (s : Stack) (name : Text) (given : List Spelled) (is_empty : Bool) (t : IsTidy p s) (h : IsSoundState p s)
    (x : IsXmlToken (start name given is_empty)) (n : breaks (record { pending = p; stack = s }) (start name given is_empty) ≡ None) where
  inside_tag : Bindings
  inside_tag = declare given (bindings_at s)

  bindings_xml : AreXmlBindings (declare given (bindings_at s))
  bindings_xml = xml-declare given (bindings_at s) x.2 (xml-bindings_at p s h)

  rules : (nat_le max_depth (length (opened_in s)) ≡ false) × (has_pair same_spelled given ≡ false) × (has_pair same_named (named_attributes (declare given (bindings_at s)) given) ≡ false)
      × (not (is_bound (declare given (bindings_at s)) (prefix_of name)) ≡ false) × (unbound_in (declare given (bindings_at s)) given ≡ false)
  rules = tag_none (nat_le max_depth (length (opened_in s))) (has_pair same_spelled given) (has_pair same_named (named_attributes (declare given (bindings_at s)) given))
      (not (is_bound (declare given (bindings_at s)) (prefix_of name))) (unbound_in (declare given (bindings_at s)) given) (is_bottom s && is_rooted s) (sym (breaks-start p s name given is_empty (declare given (bindings_at s)) t refl) ∙ n)

  sound-head : IsSoundElement (suc (length (opened_in (push_text p s)))) (element_with (declare given (bindings_at s)) name given [])
  sound-head = record {
    space = xml-space_of (declare given (bindings_at s)) (prefix_of name) bindings_xml;
    local = local_name name x.0 x.1;
    attributes = named_attributes_keep (declare given (bindings_at s)) given bindings_xml x.2 rules.1 rules.2 rules.4;
    children = refl;
    deep = (let few : length (opened_in (push_text p s)) < 64 = rw (opened-push_text p s) (not_deep (length (opened_in s)) rules.0) in omega arith);
  }

  sound-open : IsSoundState [] (above name (element_with (declare given (bindings_at s)) name given []) (declare given (bindings_at s)) (push_text p s))
  sound-open = ((sound-head, bindings_xml, sound-flush p s t h), xml-nil, ends-nil)

  sound-empty : IsSoundState [] (push (tree.Element (element_with (declare given (bindings_at s)) name given [])) (push_text p s))
  sound-empty =
      sound-place (element_with (declare given (bindings_at s)) name given []) (push_text p s) (open-push_text p s t (not_behind s name given is_empty n)) (sound-flush p s t h)
      (complete_keeps (suc (length (opened_in (push_text p s)))) (element_with (declare given (bindings_at s)) name given []) sound-head)
      (complete_depth (length (opened_in (push_text p s))) (element_with (declare given (bindings_at s)) name given []) sound-head)

sound-after : (k : Token) (s : State) → IsXmlToken k → IsTidy s.pending s.stack → IsSoundState s.pending s.stack → breaks s k ≡ None →
    IsSoundState (after k s).pending (after k s).stack
sound-after (text run) s x t h n = sound-add_text (with_line_feeds run) s.pending s.stack (xml-run run x) h
sound-after (cdata run) s x t h n = sound-add_text (with_line_feeds run) s.pending s.stack (xml-run run x) h
sound-after (reference c) s x t h n = sound-add_text (encode_utf8 c) s.pending s.stack x h
sound-after (declaration e) s x t h n = h
sound-after instruction s x t h n = h
sound-after comment s x t h n = h
sound-after (start name given true) s x t h n = sound-empty s.pending s.stack name given true t h x n
sound-after (start name given false) s x t h n = sound-open s.pending s.stack name given false t h x n
sound-after (end name) s x t h n = sound-end s.pending s.stack t h

-- ---- all tokens

sound-done : (p : Text) (s : Stack) (place : ℕ) → IsTidy p s → IsSoundState p s → refusal_at (record { pending = p; stack = s }) place [] ≡ None →
    (root : Element) × (is_well_formed root ≡ true) × (result_of (record { pending = p; stack = s }) [] ≡ Some (tree.Element root ∷ []))
sound-done p (bottom b found) place outside h n = absurd (let bad : ⊥ = cc in bad)
sound-done p (bottom b found) place (ended e) h n = (e, h.1 e refl, refl)
sound-done p (above name e b below) place t h n = absurd (let bad : ⊥ = cc in bad)

pub sound-run : (ks : List Token) (s : State) (place : ℕ) → AreXmlTokens ks → IsTidy s.pending s.stack → IsSoundState s.pending s.stack → refusal_at s place ks ≡ None →
    (root : Element) × (is_well_formed root ≡ true) × (result_of s ks ≡ Some (tree.Element root ∷ []))
sound-run [] s place x t h n = sound-done s.pending s.stack place t h n
sound-run (k ∷ ks) s place x t h n =
    let kept = unbroken-first k s place ks n in
    let rest = sound-run ks (after k s) (place + 1) x.1 (tidy-after k s t kept) (sound-after k s x.0 t h kept) (sym (refusal_at-after k s place ks t kept) ∙ n) in
    (rest.0, rest.1, result_of-after k s ks t kept ∙ rest.2)

start_sound : IsSoundState [] (bottom [] [])
start_sound = (tt, λ e same. let bad : [] ≡ tree.Element e ∷ [] = same in cc)

-- the root of a document's tokens is well formed
pub root_sound : (ks : List Token) (root : Element) → AreXmlTokens ks → IsRootOf root ks → is_well_formed root ≡ true
root_sound ks root x h =
    let made = sound-run ks initial 0 x outside start_sound h.unbroken in
    let both : Some (tree.Element root ∷ []) ≡ Some (tree.Element made.0 ∷ []) = sym (result_of-root ks root h) ∙ made.2 in
    let one : tree.Element root ≡ tree.Element made.0 = cc in
    subst (λ (e : Element). is_well_formed e ≡ true) (sym (same_element root made.0 one)) made.1
