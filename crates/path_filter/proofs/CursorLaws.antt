-- A cursor over the pieces of a string value, one step at a time.
use Rattle.std.proofs.Common.{◌≡◌, ℕ, zero, suc, ◌+◌, ◌≤◌, ◌<◌, List, [], ◌∷◌, ◌++◌, map, Some, None, length, get_or, set, refl, sym, ◌∙◌, ap, subst, arith, append_assoc}
use denote.Ref.{Bor}
use Rattle.voe_tree.specs.Shape.{depth, greatest, height}
use Rattle.voe_tree.specs.declared.element.Element.{Element, fold_out-Element}
use Rattle.voe_tree.specs.declared.element.Node.{Node}
use Rattle.voe_tree.specs.declared.element.Node.TheOpen.{Node-F}
use Rattle.voe_tree.specs.declared.element.Node.TheFolds.{fold-roll-Node}
use Rattle.voe_tree.specs.declared.element.Node.TheVariants as tree
use Rattle.filter_text.specs.Filter.{Text}
use Rattle.path_filter.specs.Cursors.{Levels, nodes_at, texts_of, levels_text, LevelsFit, total, node_steps, element_steps, steps_in, levels_steps}
use Rattle.path_filter.proofs.SearchSteps.{read}
use Rattle.path_filter.proofs.Texts.{text_out, of-element, of-text}
use Rattle.path_filter.proofs.Ranks.{depth_out, height-element}

steps-element : (e : Element) → steps_in (tree.Element e) ≡ total (map steps_in e.children) + 1 + 1
steps-element e =
    ap steps_in (sym (tree.rolls-Element e)) ∙ fold-roll-Node ℕ ℕ node_steps element_steps (Node-F.Element e) ∙ ap (λ n. n + 1) (fold_out-Element ℕ ℕ node_steps element_steps e)

steps-text : (t : Text) → steps_in (tree.Text t) ≡ 1
steps-text t = ap steps_in (sym (tree.rolls-Text t)) ∙ fold-roll-Node ℕ ℕ node_steps element_steps (Node-F.Text t)

steps-more : (n : Node) (ns : List Node) → total (map steps_in (n ∷ ns)) ≡ steps_in n + total (map steps_in ns)
steps-more n ns = refl

set-same : (ls : Levels) (k : ℕ) (v : Bor (List Node)) → k < length ls → nodes_at k (set ls k v) ≡ v.now
set-same [] k v lt = absurd (omega (arith, lt))
set-same (l ∷ ls) zero v lt = refl
set-same (l ∷ ls) (suc k) v lt = set-same ls k v (omega (arith, lt))

set-other : (ls : Levels) (k j : ℕ) (v : Bor (List Node)) → j < k → nodes_at j (set ls k v) ≡ nodes_at j ls
set-other [] k j v lt = refl
set-other (l ∷ ls) zero j v lt = absurd (omega (arith, lt))
set-other (l ∷ ls) (suc k) zero v lt = refl
set-other (l ∷ ls) (suc k) (suc j) v lt = set-other ls k j v (omega (arith, lt))

text-set : (n k : ℕ) (ls : Levels) (v : Bor (List Node)) → n ≤ k → levels_text n (set ls k v) ≡ levels_text n ls
text-set zero k ls v le = refl
text-set (suc n) k ls v le = ap (λ ns. texts_of ns ++ levels_text n (set ls k v)) (set-other ls k n v (omega (arith, le))) ∙ ap (λ t. texts_of (nodes_at n ls) ++ t) (text-set n k ls v (omega (arith, le)))

fit-set : (n k : ℕ) (ls : Levels) (v : Bor (List Node)) → n ≤ k → LevelsFit n ls → LevelsFit n (set ls k v)
fit-set zero k ls v le fit = tt
fit-set (suc n) k ls v le (here, below) = (subst (λ ns. greatest (map height ns) + n ≤ 63) (sym (set-other ls k n v (omega (arith, le)))) here, fit-set n k ls v (omega (arith, le)) below)

steps-set : (n k : ℕ) (ls : Levels) (v : Bor (List Node)) → n ≤ k → levels_steps n (set ls k v) ≡ levels_steps n ls
steps-set zero k ls v le = refl
steps-set (suc n) k ls v le = ap (λ ns. total (map steps_in ns) + 1 + levels_steps n (set ls k v)) (set-other ls k n v (omega (arith, le))) ∙ ap (λ t. total (map steps_in (nodes_at n ls)) + 1 + t) (steps-set n k ls v (omega (arith, le)))

at-level : (ls : Levels) (m : ℕ) (b : Bor (List Node)) → m < length ls → b ≡ get_or ls m b → nodes_at m ls ≡ b.now
at-level ls m b lt is = ap (λ o. elim o as (λ _. List Node) [ Some x ↦ x.now | None ↦ [] ]) (read ls m b lt is)

pub top : (o : ℕ) (ls : Levels) → LevelsFit o ls → 0 < o → o ≤ 64
top zero ls fit lt = absurd (omega (arith, lt))
top (suc n) ls (here, below) lt = omega (arith, here)

-- ---- a level that has no more nodes is closed

pub record Closed (m o : ℕ) (ls : Levels) : Type 0 where
  pub text : levels_text m ls ≡ levels_text o ls
  pub fits : LevelsFit m ls
  pub less : levels_steps m ls < levels_steps o ls

pub closed : (m o : ℕ) (ls : Levels) (b : Bor (List Node)) → suc m ≡ o → m < length ls → LevelsFit o ls → b ≡ get_or ls m b → length b.now ≡ 0 → Closed m o ls
closed m o ls b is lt fit at none = subst (λ n. Closed m n ls) is (by (subst (λ n. LevelsFit n ls) (sym is) fit) (at-level ls m b lt at ∙ nothing b.now none))
  where
    nothing : (ns : List Node) → length ns ≡ 0 → ns ≡ []
    nothing [] e = refl
    nothing (x ∷ ns) e = absurd (omega (arith, e))

    by : LevelsFit (suc m) ls → nodes_at m ls ≡ [] → Closed m (suc m) ls
    by fits empty = record { text = sym (ap (λ ns. texts_of ns ++ levels_text m ls) empty); fits = fits.1; less = omega arith }

-- ---- a text is the next piece

pub record Piece (o : ℕ) (ls after : Levels) (t : Text) : Type 0 where
  pub text : t ++ levels_text o after ≡ levels_text o ls
  pub fits : LevelsFit o after
  pub less : levels_steps o after < levels_steps o ls

pub piece : (m o : ℕ) (ls : Levels) (b rest : Bor (List Node)) (t : Text) → suc m ≡ o → m < length ls → LevelsFit o ls → b ≡ get_or ls m b → b.now ≡ tree.Text t ∷ rest.now
    → Piece o ls (set ls m rest) t
piece m o ls b rest t is lt fit at first = subst (λ n. Piece n ls (set ls m rest) t) is (by (subst (λ n. LevelsFit n ls) (sym is) fit))
  where
    old : nodes_at m ls ≡ tree.Text t ∷ rest.now
    old = at-level ls m b lt at ∙ first

    new : nodes_at m (set ls m rest) ≡ rest.now
    new = set-same ls m rest lt

    by : LevelsFit (suc m) ls → Piece (suc m) ls (set ls m rest) t
    by (here, below) =
        let was = subst (λ ns. greatest (map height ns) + m ≤ 63) old here in
        let steps = ap (λ ns. total (map steps_in ns)) old in
        let steps_new = ap (λ ns. total (map steps_in ns)) new in
        record {
          text =
              ap (λ x. t ++ x) (ap (λ ns. texts_of ns ++ levels_text m (set ls m rest)) new ∙ ap (λ x. texts_of rest.now ++ x) (text-set m m ls rest (omega arith)))
              ∙ sym (append_assoc t (texts_of rest.now) (levels_text m ls))
              ∙ sym (ap (λ ns. texts_of ns ++ levels_text m ls) old ∙ ap (λ x. (x ++ texts_of rest.now) ++ levels_text m ls) (of-text t));
          fits = (subst (λ ns. greatest (map height ns) + m ≤ 63) (sym new) (omega (arith, was)), fit-set m m ls rest (omega arith) below);
          less = omega (arith, steps ∙ steps-more (tree.Text t) rest.now, steps_new, steps-text t, steps-set m m ls rest (omega arith));
        }

-- ---- an element's nodes come next

pub record Entered (o : ℕ) (ls after : Levels) : Type 0 where
  pub room : o < 64
  pub text : levels_text (o + 1) after ≡ levels_text o ls
  pub fits : LevelsFit (o + 1) after
  pub less : levels_steps (o + 1) after < levels_steps o ls

pub entered : (m o : ℕ) (ls : Levels) (b rest inside : Bor (List Node)) (e : Element) → suc m ≡ o → length ls ≡ 64 → m < length ls → LevelsFit o ls → b ≡ get_or ls m b → b.now ≡ tree.Element e ∷ rest.now → inside.now ≡ e.children
    → length (set ls m rest) ≡ 64
    → Entered o ls (set (set ls m rest) o inside)
entered m o ls b rest inside e is size lt fit at first within size_set = subst (λ n. Entered n ls (set (set ls m rest) n inside)) is (by (subst (λ n. LevelsFit n ls) (sym is) fit))
  where
    old : nodes_at m ls ≡ tree.Element e ∷ rest.now
    old = at-level ls m b lt at ∙ first

    next : suc m + 1 ≡ suc (suc m)
    next = omega arith

    two : Levels
    two = set (set ls m rest) (suc m) inside

    below_new : nodes_at m two ≡ rest.now
    below_new = set-other (set ls m rest) (suc m) m inside (omega arith) ∙ set-same ls m rest lt

    text_below : levels_text m two ≡ levels_text m ls
    text_below = text-set m (suc m) (set ls m rest) inside (omega arith) ∙ text-set m m ls rest (omega arith)

    steps_below : levels_steps m two ≡ levels_steps m ls
    steps_below = steps-set m (suc m) (set ls m rest) inside (omega arith) ∙ steps-set m m ls rest (omega arith)

    by : LevelsFit (suc m) ls → Entered (suc m) ls two
    by (here, below) =
        let was = subst (λ ns. greatest (map height ns) + m ≤ 63) old here in
        let deep = depth_out e in
        let room : suc m < 64 = omega (arith, shallow_depth was, deep) in
        let top : nodes_at (suc m) two ≡ e.children = set-same (set ls m rest) (suc m) inside (omega (arith, room, size_set)) ∙ within in
        let steps = ap (λ ns. total (map steps_in ns)) old in
        let steps_top = ap (λ ns. total (map steps_in ns)) top in
        let steps_next = ap (λ ns. total (map steps_in ns)) below_new in
        record {
          room = room;
          text =
              ap (λ n. levels_text n two) next
              ∙ ap (λ ns. texts_of ns ++ (texts_of (nodes_at m two) ++ levels_text m two)) top
              ∙ ap (λ ns. texts_of e.children ++ (texts_of ns ++ levels_text m two)) below_new
              ∙ ap (λ x. texts_of e.children ++ (texts_of rest.now ++ x)) text_below
              ∙ sym (append_assoc (texts_of e.children) (texts_of rest.now) (levels_text m ls))
              ∙ ap (λ x. (x ++ texts_of rest.now) ++ levels_text m ls) (sym (of-element e ∙ text_out e))
              ∙ ap (λ ns. texts_of ns ++ levels_text m ls) (sym old);
          fits =
              subst (λ n. LevelsFit n two) (sym next) (
                subst (λ ns. greatest (map height ns) + suc m ≤ 63) (sym top) (omega (arith, shallow_depth was, deep)),
                (
                  subst (λ ns. greatest (map height ns) + m ≤ 63) (sym below_new) (omega (arith, was)),
                  fit-set m (suc m) (set ls m rest) inside (omega arith) (fit-set m m ls rest (omega arith) below),
                ),
              );
          less = subst (λ n. levels_steps n two < levels_steps (suc m) ls) (sym next) (omega (arith, steps ∙ steps-more (tree.Element e) rest.now, steps_top, steps_next, steps-element e, steps_below));
        }
      where
        shallow_depth : greatest (map height (tree.Element e ∷ rest.now)) + m ≤ 63 → depth e + m ≤ 63
        shallow_depth le = omega (arith, le, height-element e)
