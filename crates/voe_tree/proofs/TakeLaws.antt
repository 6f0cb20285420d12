-- Which rule each token breaks, and what it does, in the code's words.
use Rattle.std.proofs.Common.{◌≡◌, ℕ, Bool, true, false, cond, List, [], ◌∷◌, ◌++◌, Some, None, length, refl, sym, ◌∙◌, ap, append-nil}
use Rattle.std.specs.Prelude.{◌&&◌, ◌||◌, ◌↔◌, IsTrue, not, nat_le}
use Rattle.xml_lexer.specs.Spelling.{same}
use Rattle.std.specs.List.{list_all}
use Rattle.xml_lexer.specs.Characters.{Text, is_blank}
use Rattle.xml_lexer.specs.Token.{cdata, start, end, text, reference, Spelled}
use Rattle.voe_tree.specs.Pairs.{has_pair}
use Rattle.voe_tree.specs.Shape.{max_depth}
use Rattle.voe_tree.specs.Names.{Bindings, declare, prefix_of, is_bound, named_attributes}
use Rattle.voe_tree.specs.Rules.{too_deep, repeated_attribute, unbound_prefix, root_missing, after_root, unbalanced, end_rule, or_else, outside_rule, start_rule, is_none_open, is_innermost, same_spelled, same_named, unbound_in, repeats, names_unbound}
use Rattle.voe_tree.specs.Reader.{Stack, State, bottom, above, bindings_at, is_bottom, is_rooted, opened_in, add_text, breaks, content_rule, tag_rule, start_breaks, IsTidy, outside, ended, result_of}
use Rattle.voe_tree.specs.declared.element.Node.TheVariants as tree
use Rattle.voe_tree.specs.declared.element.Element.{Element}
use Rattle.voe_tree.specs.declared.element.Node.{Node}
use Rattle.voe_tree.specs.declared.level.Level.{Level}
use Rattle.voe_tree.specs.View.{stack_from, own_bindings}
use Rattle.voe_tree.specs.Contents.{element_in}
use Rattle.voe_tree.proofs.Contained.{element_in-element}
use Rattle.voe_tree.proofs.ReaderSteps.{bindings-opened}

-- ---- content

pub breaks-cdata : (run : Text) (p : Text) (s : Stack) → breaks (record { pending = p; stack = s }) (cdata run) ≡ content_rule s
breaks-cdata run p (bottom b []) = refl
breaks-cdata run p (bottom b (n ∷ found)) = refl
breaks-cdata run p (above name e b below) = refl

pub breaks-reference : (c : ℕ) (p : Text) (s : Stack) → breaks (record { pending = p; stack = s }) (reference c) ≡ content_rule s
breaks-reference c p (bottom b []) = refl
breaks-reference c p (bottom b (n ∷ found)) = refl
breaks-reference c p (above name e b below) = refl

pub breaks-text : (run : Text) (p : Text) (s : Stack) → list_all is_blank run ≡ false → breaks (record { pending = p; stack = s }) (text run) ≡ content_rule s
breaks-text run p (bottom b []) h = rw h refl
breaks-text run p (bottom b (n ∷ found)) h = rw h refl
breaks-text run p (above name e b below) h = refl

pub breaks-blanks : (run : Text) (p : Text) (s : Stack) → list_all is_blank run ≡ true → breaks (record { pending = p; stack = s }) (text run) ≡ None
breaks-blanks run p (bottom b []) h = rw h refl
breaks-blanks run p (bottom b (n ∷ found)) h = rw h refl
breaks-blanks run p (above name e b below) h = refl

pub content-inside : (s : Stack) → is_bottom s ≡ false → content_rule s ≡ None
content-inside s h = rw h refl

pub breaks-text_inside : (run : Text) (p : Text) (s : Stack) → is_bottom s ≡ false → breaks (record { pending = p; stack = s }) (text run) ≡ None
breaks-text_inside run p (bottom b found) h = cc
breaks-text_inside run p (above name e b below) h = refl

pub add_text-outside : (more : Text) (s : State) → is_bottom s.stack ≡ true → s ≡ add_text more s
add_text-outside more s h = rw h refl

pub add_text-inside : (more : Text) (s : State) → is_bottom s.stack ≡ false → record s { pending = s.pending ++ more } ≡ add_text more s
add_text-inside more s h = rw h refl

pub content-rooted : (s : Stack) → is_bottom s ≡ true → is_rooted s ≡ true → content_rule s ≡ Some after_root
content-rooted s b r = rw (b, r) refl

pub content-unrooted : (s : Stack) → is_bottom s ≡ true → is_rooted s ≡ false → content_rule s ≡ Some root_missing
content-unrooted s b r = rw (b, r) refl

-- ---- end tags

pub breaks-end : (name p : Text) (s : Stack) (r : Bool) → r ≡ is_innermost name (opened_in s) → r ≡ true → breaks (record { pending = p; stack = s }) (end name) ≡ None
breaks-end name p (bottom b found) r e h = cc
breaks-end name p (above mine f b below) r e h = let same_name = sym e ∙ h in rw same_name refl

pub breaks-other_end : (name p : Text) (s : Stack) (r : Bool) → r ≡ is_innermost name (opened_in s) → r ≡ false → breaks (record { pending = p; stack = s }) (end name) ≡ Some unbalanced
breaks-other_end name p (bottom b found) r e h = refl
breaks-other_end name p (above mine f b below) r e h = let other_name = sym e ∙ h in rw other_name refl

-- ---- start tags

tag_cases : (deep twice again unbound has_unbound is_bottom is_rooted : Bool) →
    or_else (cond deep (Some too_deep) (cond (twice || again) (Some repeated_attribute) (cond (unbound || has_unbound) (Some unbound_prefix) None)))
    (cond is_bottom (cond is_rooted (Some after_root) None) None)
    ≡ tag_rule deep twice again unbound has_unbound (is_bottom && is_rooted)
tag_cases true c d e f g h = refl
tag_cases false true d e f g h = refl
tag_cases false false true e f g h = refl
tag_cases false false false true f g h = refl
tag_cases false false false false true g h = refl
tag_cases false false false false false true true = refl
tag_cases false false false false false true false = refl
tag_cases false false false false false false h = refl

late_rule : (s : Stack) (name : Text) (given : List Spelled) (is_empty : Bool) →
    cond (is_none_open (opened_in s)) (outside_rule (is_rooted s) (start name given is_empty)) None ≡ cond (is_bottom s) (cond (is_rooted s) (Some after_root) None) None
late_rule (bottom b []) name given is_empty = refl
late_rule (bottom b (n ∷ found)) name given is_empty = refl
late_rule (above mine e b below) name given is_empty = refl

pub breaks-start : (p : Text) (s : Stack) (name : Text) (given : List Spelled) (is_empty : Bool) (b : Bindings) → IsTidy p s → declare given (bindings_at s) ≡ b →
    breaks (record { pending = p; stack = s }) (start name given is_empty) ≡ start_breaks b s name given
breaks-start p s name given is_empty b t h =
    ap (λ o. or_else (start_rule (opened_in s) name given) o) (late_rule s name given is_empty)
    ∙ ap (λ x. or_else (cond (nat_le max_depth (length (opened_in s))) (Some too_deep) (cond (repeats x given) (Some repeated_attribute)
    (cond (names_unbound x name given) (Some unbound_prefix) None))) (cond (is_bottom s) (cond (is_rooted s) (Some after_root) None) None))
    (ap (declare given) (bindings-opened p s t) ∙ h)
    ∙ tag_cases (nat_le max_depth (length (opened_in s))) (has_pair same_spelled given) (has_pair same_named (named_attributes b given))
    (not (is_bound b (prefix_of name))) (unbound_in b given) (is_bottom s) (is_rooted s)

module _ (b : Bindings) (s : Stack) (name : Text) (given : List Spelled) where
  pub start-deep : nat_le max_depth (length (opened_in s)) ≡ true → start_breaks b s name given ≡ Some too_deep
  start-deep e = rw e refl

  module _ (not_deep : nat_le max_depth (length (opened_in s)) ≡ false) where
    pub start-spelled : has_pair same_spelled given ≡ true → start_breaks b s name given ≡ Some repeated_attribute
    start-spelled e = rw (not_deep, e) refl

    module _ (not_spelled : has_pair same_spelled given ≡ false) where
      pub start-named : has_pair same_named (named_attributes b given) ≡ true → start_breaks b s name given ≡ Some repeated_attribute
      start-named e = rw (not_deep, not_spelled, e) refl

      module _ (not_named : has_pair same_named (named_attributes b given) ≡ false) where
        pub start-unbound : not (is_bound b (prefix_of name)) ≡ true → start_breaks b s name given ≡ Some unbound_prefix
        start-unbound e = rw (not_deep, not_spelled, not_named, e) refl

        module _ (is_fine : not (is_bound b (prefix_of name)) ≡ false) where
          pub start-attribute : unbound_in b given ≡ true → start_breaks b s name given ≡ Some unbound_prefix
          start-attribute e = rw (not_deep, not_spelled, not_named, is_fine, e) refl

          module _ (are_fine : unbound_in b given ≡ false) where
            pub start-late : is_bottom s && is_rooted s ≡ true → start_breaks b s name given ≡ Some after_root
            start-late e = rw (not_deep, not_spelled, not_named, is_fine, are_fine, e) refl

            pub start-good : is_bottom s && is_rooted s ≡ false → start_breaks b s name given ≡ None
            start-good e = rw (not_deep, not_spelled, not_named, is_fine, are_fine, e) refl

-- ---- what is found outside

some_rooted : (b : Bindings) (found : List Node) → (found ≡ [] → ⊥) → is_rooted (bottom b found) ≡ true
some_rooted b [] h = absurd (h refl)
some_rooted b (n ∷ found) h = refl

pub stack-rooted : (level : Level) (parents : List Level) → is_bottom (stack_from level parents) ≡ true → (level.element.children ≡ [] → ⊥) → is_rooted (stack_from level parents) ≡ true
stack-rooted level [] b h = some_rooted (own_bindings level) level.element.children h
stack-rooted level (parent ∷ parents) b h = refl

pub stack-unrooted : (level : Level) (parents : List Level) → is_bottom (stack_from level parents) ≡ true → level.element.children ≡ [] → is_rooted (stack_from level parents) ≡ false
stack-unrooted level [] b h = rw h refl
stack-unrooted level (parent ∷ parents) b h = cc

pub root_found : (level : Level) (parents : List Level) (r : Bool) → is_bottom (stack_from level parents) ≡ true → (IsTrue r ↔ (level.element.children ≡ [])) →
    not r ≡ is_rooted (stack_from level parents)
root_found level parents true b h = sym (stack-unrooted level parents b (h.0 refl))
root_found level parents false b h = sym (stack-rooted level parents b (λ e. let t : false ≡ true = h.1 e in cc))

pub closes_innermost : (level : Level) (parents : List Level) (name : Text) → is_bottom (stack_from level parents) ≡ false →
    same level.name.now name ≡ is_innermost name (opened_in (stack_from level parents))
closes_innermost level [] name h = cc
closes_innermost level (parent ∷ parents) name h = refl

-- ---- the end

-- what stands outside at the end
pub data IsEnd : List Node → Bool → Type 0 where
  no_root : IsEnd [] false
  one_root : (e : Element) → IsEnd (tree.Element e ∷ []) true

end_of_bottom : (p : Text) (b : Bindings) (found : List Node) → IsTidy p (bottom b found) → IsEnd found (is_rooted (bottom b found))
end_of_bottom p b found outside = no_root
end_of_bottom p b found (ended e) = one_root e

pub end_of : (p : Text) (level : Level) (parents : List Level) → IsTidy p (stack_from level parents) → is_bottom (stack_from level parents) ≡ true →
    IsEnd level.element.children (is_rooted (stack_from level parents))
end_of p level [] t b = end_of_bottom p (own_bindings level) level.element.children t
end_of p level (parent ∷ parents) t b = absurd (let bad : ⊥ = cc in bad)

last_same : (front : List Node) (last other : Node) → front ++ last ∷ [] ≡ other ∷ [] → (front ≡ []) × (last ≡ other)
last_same [] last other h = (refl, (let one : last ≡ other = cc in one))
last_same (x ∷ []) last other h = absurd (let bad : ⊥ = cc in bad)
last_same (x ∷ y ∷ front) last other h = absurd (let bad : ⊥ = cc in bad)

nothing_last : (front : List Node) (last : Node) → [] ≡ front ++ last ∷ [] → ⊥
nothing_last [] last h = cc
nothing_last (x ∷ front) last h = cc

-- the last node found at the end
ended_by : (found front : List Node) (n : Node) (r : Bool) → IsEnd found r → found ≡ front ++ n ∷ [] → (e : Element) × (n ≡ tree.Element e) × (r ≡ true) × (found ≡ tree.Element e ∷ [])
ended_by found front n r no_root h = absurd (nothing_last front n h)
ended_by found front n r (one_root e) h = let parts = last_same front n (tree.Element e) (sym h) in (e, parts.1, refl, refl)

pub no_root_end : (found : List Node) (r : Bool) → IsEnd found r → found ≡ [] → r ≡ false
no_root_end found r no_root h = refl
no_root_end found r (one_root e) h = cc

pub result-bottom : (level : Level) (parents : List Level) (p : Text) → is_bottom (stack_from level parents) ≡ true →
    result_of (record { pending = p; stack = stack_from level parents }) [] ≡ Some level.element.children
result-bottom level [] p b = ap Some (append-nil level.element.children)
result-bottom level (parent ∷ parents) p b = cc

end-open : (s : Stack) → is_bottom s ≡ false → end_rule (opened_in s) (is_rooted s) ≡ Some unbalanced
end-open (bottom b found) h = cc
end-open (above name e b below) h = refl

end-outside : (s : Stack) (r : Bool) → is_bottom s ≡ true → is_rooted s ≡ r → end_rule (opened_in s) (is_rooted s) ≡ cond r None (Some root_missing)
end-outside (bottom b found) r h e = rw e refl
end-outside (above name e b below) r h f = cc

pub is_open_end : (level : Level) (parents : List Level) → is_bottom (stack_from level parents) ≡ false →
    end_rule (opened_in (stack_from level parents)) (is_rooted (stack_from level parents)) ≡ Some unbalanced
is_open_end level parents h = end-open (stack_from level parents) h

module _ (p : Text) (level : Level) (parents : List Level) (t : IsTidy p (stack_from level parents)) (b : is_bottom (stack_from level parents) ≡ true) where
  found_is : (front : List Node) (n : Node) → level.element.children ≡ front ++ n ∷ [] →
      (e : Element) × (n ≡ tree.Element e) × (is_rooted (stack_from level parents) ≡ true) × (level.element.children ≡ tree.Element e ∷ [])
  found_is front n h = ended_by level.element.children front n (is_rooted (stack_from level parents)) (end_of p level parents t b) h

  pub finds_root : (front : List Node) (n : Node) (root : Element) → level.element.children ≡ front ++ n ∷ [] → Some root ≡ element_in n →
      (result_of (record { pending = p; stack = stack_from level parents }) [] ≡ Some (tree.Element root ∷ []))
      × (end_rule (opened_in (stack_from level parents)) (is_rooted (stack_from level parents)) ≡ None)
  finds_root front n root h k =
      let one = found_is front n h in
      let both : Some root ≡ Some one.0 = k ∙ ap element_in one.1 ∙ element_in-element one.0 in
      let same_root : root ≡ one.0 = cc in
      (result-bottom level parents p b ∙ ap Some (one.3 ∙ ap (λ (e : Element). tree.Element e ∷ []) (sym same_root)), end-outside (stack_from level parents) true b one.2)

  pub finds_other : (front : List Node) (n : Node) → level.element.children ≡ front ++ n ∷ [] → None ≡ element_in n → ⊥
  finds_other front n h k =
      let one = found_is front n h in
      let bad : None ≡ Some one.0 = k ∙ ap element_in one.1 ∙ element_in-element one.0 in
      cc

  pub finds_none : level.element.children ≡ [] → end_rule (opened_in (stack_from level parents)) (is_rooted (stack_from level parents)) ≡ Some root_missing
  finds_none h = end-outside (stack_from level parents) false b (no_root_end level.element.children (is_rooted (stack_from level parents)) (end_of p level parents t b) h)
