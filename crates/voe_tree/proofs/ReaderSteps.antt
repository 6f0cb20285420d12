-- A stack that is kept from the front gives what the fold from the back builds: one law for each token.
use Rattle.std.proofs.Common.{◌≡◌, ℕ, Bool, true, false, cond, List, [], ◌∷◌, ◌++◌, Option, Some, None, refl, sym, ◌∙◌, ap, append_assoc, append-nil}
use Rattle.std.specs.Prelude.{◌+◌, ◌||◌, ◌&&◌, option_and_then, option_map}
use Rattle.std.specs.Char.{encode_utf8}
use Rattle.xml_lexer.specs.Characters.{Text}
use Rattle.xml_lexer.specs.Token.{Token, declaration, instruction, comment, cdata, start, end, text, reference, Spelled}
use Rattle.xml_lexer.specs.Spelling.{same}
use Rattle.voe_tree.specs.Build.{Nodes, none, node, element, characters, Levels, outermost, inside, put_text, put, close, levels_of, with_line_feeds}
use Rattle.voe_tree.specs.Names.{Bindings, declare, named, named_all, element_with}
use Rattle.voe_tree.specs.Reader.{Stack, State, bottom, above, bindings_at, is_bottom, push, push_text, pop, with_children, add_text, after, named_elements, finish, result_of, breaks, opened_in, is_rooted, IsOpen, none_open, within, IsTidy, outside, ended, in_element}
use Rattle.voe_tree.specs.Rules.{Rule, Open, or_else, broken_rule, unbalanced, refusal_from, after_token, is_start, without_innermost, bindings_in, start_rule, after_root}
use Rattle.voe_tree.specs.declared.element.Element.{Element}
use Rattle.voe_tree.specs.declared.element.Node.{Node as TreeNode}
use Rattle.voe_tree.specs.declared.element.Node.TheVariants as tree

put_text-append : (a b : Text) (ns : Nodes) → put_text (a ++ b) ns ≡ put_text a (put_text b ns)
put_text-append [] b ns = refl
put_text-append (x ∷ a) [] (node (characters t) ns) = ap (λ u. node (characters (x ∷ u)) ns) (ap (λ v. v ++ t) (append-nil a))
put_text-append (x ∷ a) [] (node (element n g k) ns) = ap (λ u. node (characters (x ∷ u)) (node (element n g k) ns)) (append-nil a)
put_text-append (x ∷ a) [] none = ap (λ u. node (characters (x ∷ u)) none) (append-nil a)
put_text-append (x ∷ a) (y ∷ b) (node (characters t) ns) = ap (λ u. node (characters (x ∷ u)) ns) (append_assoc a (y ∷ b) t)
put_text-append (x ∷ a) (y ∷ b) (node (element n g k) ns) = refl
put_text-append (x ∷ a) (y ∷ b) none = refl

-- texts are no elements
named_elements-put_text : (t : Text) (b : Bindings) (ns : Nodes) → named_elements b (put_text t ns) ≡ named_elements b ns
named_elements-put_text [] b ns = refl
named_elements-put_text (x ∷ t) b none = refl
named_elements-put_text (x ∷ t) b (node (characters u) ns) = refl
named_elements-put_text (x ∷ t) b (node (element n g k) ns) = refl

-- ---- one law for each token, over the levels that the tokens ahead build

-- text is added to what is pending, or stands outside
finish-text : (more pending : Text) (s : Stack) (levels : Levels) →
    finish pending s (put (put_text more) levels) ≡ finish (cond (is_bottom s) pending (pending ++ more)) s levels
finish-text more pending (bottom bs found) (outermost ns) = ap (λ l. Some (found ++ l)) (named_elements-put_text more bs ns)
finish-text more pending (bottom bs found) (inside name ns levels) = refl
finish-text more pending (above name e bindings below) (outermost ns) = refl
finish-text more pending (above name e bindings below) (inside other ns levels) = rw put_text-append refl

-- an element closes a pending text and goes behind it
finish-element : (name : Text) (given : List Spelled) (kids : Nodes) (pending : Text) (s : Stack) (levels : Levels) → IsTidy pending s →
    finish pending s (put (node (element name given kids)) levels) ≡ finish [] (push (named (bindings_at s) (element name given kids)) (push_text pending s)) levels
finish-element name given kids [] (bottom bs found) (outermost ns) h = simp append_assoc
finish-element name given kids (x ∷ p) (bottom bs found) levels h = elim h [ ]
finish-element name given kids [] (bottom bs found) (inside other ns levels) h = refl
finish-element name given kids [] (above mine own bindings below) (outermost ns) h = refl
finish-element name given kids (x ∷ p) (above mine own bindings below) (outermost ns) h = refl
finish-element name given kids [] (above mine own bindings below) (inside other ns levels) h = simp append_assoc
finish-element name given kids (x ∷ p) (above mine own bindings below) (inside other ns levels) h = simp append_assoc

-- a start tag opens an element
finish-start : (name : Text) (given : List Spelled) (pending : Text) (s : Stack) (levels : Levels) → IsTidy pending s →
    option_and_then (finish pending s) (close name given levels)
    ≡ finish [] (above name (element_with (declare given (bindings_at s)) name given []) (declare given (bindings_at s)) (push_text pending s)) levels
finish-start name given pending s (outermost ns) h = refl
finish-start name given pending s (inside other ns levels) h =
    elim (same name other) as (λ b. option_and_then (finish pending s) (cond b (Some (put (node (element name given ns)) levels)) None)
    ≡ cond b (finish [] (push (tree.Element (element_with (declare given (bindings_at s)) name given (named_all (declare given (bindings_at s)) ns))) (push_text pending s)) levels) None)
    [ true ↦ finish-element name given ns pending s levels h | false ↦ refl ]

-- ---- the same of what all tokens ahead give

through : {A B C : Type 0} (f : A → Option B) (g : B → Option C) (r : Option A) → option_and_then g (option_and_then f r) ≡ option_and_then (λ x. option_and_then g (f x)) r
through f g None = refl
through f g (Some x) = refl

alike : {A B : Type 0} (f g : A → Option B) → ((x : A) → f x ≡ g x) → (r : Option A) → option_and_then f r ≡ option_and_then g r
alike f g h None = refl
alike f g h (Some x) = h x

nothing : {A B : Type 0} (f : A → Option B) → ((x : A) → f x ≡ None) → (r : Option A) → option_and_then f r ≡ None
nothing f h None = refl
nothing f h (Some x) = h x

finish-add_text : (more : Text) (s : State) (levels : Levels) → finish s.pending s.stack (put (put_text more) levels) ≡ finish (add_text more s).pending (add_text more s).stack levels
finish-add_text more s levels =
    finish-text more s.pending s.stack levels
    ∙ (elim (is_bottom s.stack) as (λ b. finish (cond b s.pending (s.pending ++ more)) s.stack levels
    ≡ finish (cond b s (record s { pending = s.pending ++ more })).pending (cond b s (record s { pending = s.pending ++ more })).stack levels)
    [ true ↦ refl | false ↦ refl ])

-- an end tag closes the innermost element, whose children are then complete
finish-end : (name : Text) (pending : Text) (mine : Text) (e : Element) (b : Bindings) (below : Stack) (levels : Levels) → same mine name ≡ true →
    finish pending (above mine e b below) (inside name none levels) ≡ finish [] (pop (push_text pending (above mine e b below))) levels
finish-end name [] mine e b below levels h = rw h (ap (λ l. finish [] (push (tree.Element (record e { children = l })) below) levels) (append-nil e.children))
finish-end name (x ∷ p) mine e b below levels h = rw h refl

innermost : (name : Text) (rooted : Bool) (mine : Text) (b : Bindings) (opened : Open) → broken_rule ((mine, b) ∷ opened) rooted (end name) ≡ None → same mine name ≡ true
innermost name rooted mine b opened h =
    elim (same mine name) as (λ t. or_else (cond t None (Some unbalanced)) None ≡ None → t ≡ true) [ true ↦ λ _. refl | false ↦ λ e. cc ] h

closes : (name : Text) (pending : Text) (s : Stack) (ks : List Token) → broken_rule (opened_in s) (is_rooted s) (end name) ≡ None →
    result_of (record { pending = pending; stack = s }) (end name ∷ ks) ≡ result_of (record { pending = []; stack = pop (push_text pending s) }) ks
closes name pending (bottom b found) ks h = cc
closes name pending (above mine e b below) ks h =
    through _ _ (levels_of ks) ∙ alike _ _ (λ l. finish-end name pending mine e b below l (innermost name true mine b (opened_in below) h)) (levels_of ks)

-- Where a token breaks no rule, the state behind it gives with the rest what the state before it gives with all.
pub result_of-after : (k : Token) (s : State) (ks : List Token) → IsTidy s.pending s.stack → breaks s k ≡ None → result_of s (k ∷ ks) ≡ result_of (after k s) ks
result_of-after (text run) s ks t h = through _ _ (levels_of ks) ∙ alike _ _ (finish-add_text (with_line_feeds run) s) (levels_of ks)
result_of-after (cdata run) s ks t h = through _ _ (levels_of ks) ∙ alike _ _ (finish-add_text (with_line_feeds run) s) (levels_of ks)
result_of-after (reference c) s ks t h = through _ _ (levels_of ks) ∙ alike _ _ (finish-add_text (encode_utf8 c) s) (levels_of ks)
result_of-after (declaration e) s ks t h = through _ _ (levels_of ks) ∙ alike _ _ (λ l. refl) (levels_of ks)
result_of-after instruction s ks t h = through _ _ (levels_of ks) ∙ alike _ _ (λ l. refl) (levels_of ks)
result_of-after comment s ks t h = through _ _ (levels_of ks) ∙ alike _ _ (λ l. refl) (levels_of ks)
result_of-after (start name given true) s ks t h =
    through _ _ (levels_of ks) ∙ alike _ _ (λ l. finish-element name given none s.pending s.stack l t) (levels_of ks)
result_of-after (start name given false) s ks t h =
    through _ _ (levels_of ks) ∙ alike _ _ (λ l. finish-start name given s.pending s.stack l t) (levels_of ks)
result_of-after (end name) s ks t h = closes name s.pending s.stack ks h

-- ---- what a step keeps

open-push : (n : TreeNode) (name : Text) (e : Element) (b : Bindings) (s : Stack) → IsOpen (above name e b s) → IsOpen (push n (above name e b s))
open-push n name e b s (within m f c t h) = within name (with_children e (n ∷ [])) b s h

-- an element is complete
tidy-push : (e : Element) (s : Stack) → IsOpen s → IsTidy [] (push (tree.Element e) s)
tidy-push e (bottom b found) none_open = ended e
tidy-push e (above name f b below) (within n g c t h) = in_element [] name (with_children f (tree.Element e ∷ [])) b below h

pub open-push_text : (p : Text) (s : Stack) → IsTidy p s → is_bottom s && is_rooted s ≡ false → IsOpen (push_text p s)
open-push_text [] (bottom b found) outside h = none_open
open-push_text [] (bottom b found) (ended e) h = cc
open-push_text (x ∷ p) (bottom b found) t h = elim t [ ]
open-push_text [] (above name e b below) (in_element q n f c s t) h = within name e b below t
open-push_text (x ∷ p) (above name e b below) (in_element q n f c s t) h = within name (with_children e (tree.Text (x ∷ p) ∷ [])) b below t

tidy-pop : (p : Text) (s : Stack) → IsTidy p s → IsTidy [] (pop (push_text p s))
tidy-pop [] (bottom b found) h = h
tidy-pop (x ∷ p) (bottom b found) h = elim h [ ]
tidy-pop [] (above name e b below) (in_element q n f c s t) = tidy-push e below t
tidy-pop (x ∷ p) (above name e b below) (in_element q n f c s t) = tidy-push (with_children e (tree.Text (x ∷ p) ∷ [])) below t

tidy-add_text : (more p : Text) (s : Stack) → IsTidy p s →
    IsTidy (add_text more (record { pending = p; stack = s })).pending (add_text more (record { pending = p; stack = s })).stack
tidy-add_text more p (bottom b found) h = h
tidy-add_text more p (above name e b below) (in_element q n f c s t) = in_element (p ++ more) name e b below t

-- a start tag that breaks no rule does not stand behind the root
pub not_behind : (s : Stack) (name : Text) (given : List Spelled) (is_empty : Bool) → broken_rule (opened_in s) (is_rooted s) (start name given is_empty) ≡ None →
    is_bottom s && is_rooted s ≡ false
not_behind (above mine e b below) name given is_empty h = refl
not_behind (bottom b []) name given is_empty h = refl
not_behind (bottom b (n ∷ found)) name given is_empty h =
    elim (start_rule [] name given) as (λ r. or_else r (Some after_root) ≡ None → true ≡ false) [ None ↦ λ e. cc | Some x ↦ λ e. cc ] h

pub tidy-after : (k : Token) (s : State) → IsTidy s.pending s.stack → breaks s k ≡ None → IsTidy (after k s).pending (after k s).stack
tidy-after (text run) s h n = tidy-add_text (with_line_feeds run) s.pending s.stack h
tidy-after (cdata run) s h n = tidy-add_text (with_line_feeds run) s.pending s.stack h
tidy-after (reference c) s h n = tidy-add_text (encode_utf8 c) s.pending s.stack h
tidy-after (declaration e) s h n = h
tidy-after instruction s h n = h
tidy-after comment s h n = h
tidy-after (start name given true) s h n = tidy-push _ _ (open-push_text s.pending s.stack h (not_behind s.stack name given true n))
tidy-after (start name given false) s h n =
    in_element [] name _ _ (push_text s.pending s.stack) (open-push_text s.pending s.stack h (not_behind s.stack name given false n))
tidy-after (end name) s h n = tidy-pop s.pending s.stack h

opened-push : (n : TreeNode) (s : Stack) → opened_in (push n s) ≡ opened_in s
opened-push n (bottom b found) = refl
opened-push n (above name e b below) = refl

pub opened-push_text : (p : Text) (s : Stack) → opened_in (push_text p s) ≡ opened_in s
opened-push_text [] s = refl
opened-push_text (x ∷ p) s = opened-push (tree.Text (x ∷ p)) s

opened-pop : (s : Stack) → opened_in (pop s) ≡ without_innermost (opened_in s)
opened-pop (bottom b found) = refl
opened-pop (above name e b below) = opened-push (tree.Element e) below

opened-add_text : (more : Text) (s : State) → opened_in (add_text more s).stack ≡ opened_in s.stack
opened-add_text more s =
    elim (is_bottom s.stack) as (λ b. opened_in (cond b s (record s { pending = s.pending ++ more })).stack ≡ opened_in s.stack) [ true ↦ refl | false ↦ refl ]

pub bindings-opened : (p : Text) (s : Stack) → IsTidy p s → bindings_in (opened_in s) ≡ bindings_at s
bindings-opened p (bottom b found) outside = refl
bindings-opened p (bottom b found) (ended e) = refl
bindings-opened p (above name e b below) h = refl

opened-after : (k : Token) (s : State) → IsTidy s.pending s.stack → opened_in (after k s).stack ≡ after_token (opened_in s.stack) k
opened-after (text run) s h = opened-add_text (with_line_feeds run) s
opened-after (cdata run) s h = opened-add_text (with_line_feeds run) s
opened-after (reference c) s h = opened-add_text (encode_utf8 c) s
opened-after (declaration e) s h = refl
opened-after instruction s h = refl
opened-after comment s h = refl
opened-after (start name given true) s h = opened-push _ (push_text s.pending s.stack) ∙ opened-push_text s.pending s.stack
opened-after (start name given false) s h =
    rw (bindings-opened s.pending s.stack h) (ap (λ o. (name, declare given (bindings_at s.stack)) ∷ o) (opened-push_text s.pending s.stack))
opened-after (end name) s h = opened-pop (push_text s.pending s.stack) ∙ ap without_innermost (opened-push_text s.pending s.stack)

rooted-found : (b : Bindings) (found : List TreeNode) (n : TreeNode) → is_rooted (bottom b (found ++ n ∷ [])) ≡ true
rooted-found b [] n = refl
rooted-found b (m ∷ found) n = refl

rooted-push : (n : TreeNode) (s : Stack) → is_rooted (push n s) ≡ true
rooted-push n (bottom b found) = rooted-found b found n
rooted-push n (above name e b below) = refl

rooted-add_text : (more : Text) (s : State) → is_rooted (add_text more s).stack ≡ is_rooted s.stack
rooted-add_text more s =
    elim (is_bottom s.stack) as (λ b. is_rooted (cond b s (record s { pending = s.pending ++ more })).stack ≡ is_rooted s.stack) [ true ↦ refl | false ↦ refl ]

or_true : (b : Bool) → (b || true) ≡ true
or_true true = refl
or_true false = refl

or_false : (b : Bool) → (b || false) ≡ b
or_false true = refl
or_false false = refl

rooted-end : (p name : Text) (s : Stack) → broken_rule (opened_in s) (is_rooted s) (end name) ≡ None → is_rooted (pop (push_text p s)) ≡ is_rooted s
rooted-end p name (bottom b found) h = cc
rooted-end [] name (above mine e b below) h = rooted-push (tree.Element e) below
rooted-end (x ∷ p) name (above mine e b below) h = rooted-push _ below

rooted-after : (k : Token) (s : State) → breaks s k ≡ None → is_rooted (after k s).stack ≡ (is_rooted s.stack || is_start k)
rooted-after (text run) s h = rooted-add_text (with_line_feeds run) s ∙ sym (or_false (is_rooted s.stack))
rooted-after (cdata run) s h = rooted-add_text (with_line_feeds run) s ∙ sym (or_false (is_rooted s.stack))
rooted-after (reference c) s h = rooted-add_text (encode_utf8 c) s ∙ sym (or_false (is_rooted s.stack))
rooted-after (declaration e) s h = sym (or_false (is_rooted s.stack))
rooted-after instruction s h = sym (or_false (is_rooted s.stack))
rooted-after comment s h = sym (or_false (is_rooted s.stack))
rooted-after (start name given true) s h = rooted-push _ (push_text s.pending s.stack) ∙ sym (or_true (is_rooted s.stack))
rooted-after (start name given false) s h = sym (or_true (is_rooted s.stack))
rooted-after (end name) s h = rooted-end s.pending name s.stack h ∙ sym (or_false (is_rooted s.stack))

-- the refusal of the tokens ahead, where those before break no rule
abbrev pub refusal_at : State → ℕ → List Token → Option (Rule × ℕ)
refusal_at s place ks = refusal_from (opened_in s.stack) (is_rooted s.stack) place ks

pub refusal_at-after : (k : Token) (s : State) (place : ℕ) (ks : List Token) → IsTidy s.pending s.stack → breaks s k ≡ None →
    refusal_at s place (k ∷ ks) ≡ refusal_at (after k s) (place + 1) ks
refusal_at-after k s place ks t h =
    ap (λ o. or_else (option_map (λ rule. (rule, place)) o) (refusal_from (after_token (opened_in s.stack) k) (is_rooted s.stack || is_start k) (place + 1) ks)) h
    ∙ ap (λ o. refusal_from o (is_rooted s.stack || is_start k) (place + 1) ks) (sym (opened-after k s t))
    ∙ ap (λ r. refusal_from (opened_in (after k s).stack) r (place + 1) ks) (sym (rooted-after k s h))

pub refusal_at-broken : (k : Token) (s : State) (place : ℕ) (ks : List Token) (rule : Rule) → breaks s k ≡ Some rule → refusal_at s place (k ∷ ks) ≡ Some (rule, place)
refusal_at-broken k s place ks rule h =
    ap (λ o. or_else (option_map (λ r. (r, place)) o) (refusal_from (after_token (opened_in s.stack) k) (is_rooted s.stack || is_start k) (place + 1) ks)) h

pub unbroken-first : (k : Token) (s : State) (place : ℕ) (ks : List Token) → refusal_at s place (k ∷ ks) ≡ None → breaks s k ≡ None
unbroken-first k s place ks h =
    elim (breaks s k) as (λ o. or_else (option_map (λ (r : Rule). (r, place)) o) (refusal_from (after_token (opened_in s.stack) k) (is_rooted s.stack || is_start k) (place + 1) ks) ≡ None → o ≡ None)
    [ None ↦ λ _. refl | Some r ↦ λ e. cc ] h
