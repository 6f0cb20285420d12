-- What the positions of a plan find, one stage at a time.
use Rattle.std.proofs.Common.{◌≡◌, ◌<◌, ◌+◌, ◌⊎◌, ◌↔◌, inl, inr, ℕ, zero, suc, Bool, true, false, List, [], ◌∷◌, ◌++◌, Some, length, refl, sym, ◌∙◌, ap, subst, arith, eqb-true, eq-eqb, if◌then◌else◌}
use Rattle.std.specs.Bool.{MatchBool, ◌==◌}
use Rattle.std.specs.List.{slice_get}
use Rattle.voe_tree.specs.Contents.{elements_in}
use Rattle.voe_tree.specs.declared.element.Element.{Element}
use Rattle.filter_text.specs.Filter.{Axis, child, descendant, element}
use Rattle.filter_text.specs.View.{axis_of, part_of, test_of}
use Rattle.path_filter.specs.Meaning.{MeetsName}
use Rattle.path_filter.specs.Places.{document, element_below}
use Rattle.path_filter.specs.Plan.{Check, Checks, any_of, all_of, not_so, here, anywhere, compared, no_more, more, CheckHolds, EachHolds, OneHolds, GoesOn, Arrives, Owns, Walks, Holds, StageFinds, At, newest, newest_onto, stage_at, IsOfDocument, CheckRefers, ChecksRefer, NextRefers, StageRefers, IsMade, FromChild, stage_checks, CheckAsks, ChecksAsk, NextAsks, Asks, Knows}
use Rattle.path_filter.specs.Search.{OneOf}
use Rattle.path_filter.specs.declared.plan.Next.{Next}
use Rattle.path_filter.specs.declared.plan.Next.TheVariants as next
use Rattle.path_filter.specs.declared.plan.Stage.{Stage}
use Rattle.path_filter.proofs.SearchLaws.{one-at, one-found, first, under}

-- ---- a walk: to a child, or from a child on

pub walks-in : (axis : Axis) (P : Element → Type 0) (e : Element) → Walks axis P e → OneOf (λ c. P c ⊎ ((axis ≡ descendant) × Walks axis P c)) (elements_in e.children)
walks-in child P e (ks, (k, one), c, at, p) =
    let there = subst (λ n. element_below e n ≡ Some c) one at in
    let d = first e c k [] there in
    let same : d.0 ≡ c = cc in
    one-at _ _ k d.0 d.1 (inl (subst P (sym same) p))
walks-in descendant P e (ks, (k, rest, one), c, at, p) =
    let there = subst (λ n. element_below e n ≡ Some c) one at in
    let d = first e c k rest there in
    one-at _ _ k d.0 d.1 (below d.0 rest d.2)
  where
    below : (d : Element) (rest : List ℕ) → element_below d rest ≡ Some c → P d ⊎ ((descendant ≡ descendant) × Walks descendant P d)
    below d [] at = inl (let same : d ≡ c = cc in subst P (sym same) p)
    below d (j ∷ others) at = inr (refl, (j ∷ others, (j, others, refl), c, at, p))

walks-child : (axis : Axis) (P : Element → Type 0) (e : Element) (k : ℕ) (d : Element) → slice_get (elements_in e.children) k ≡ Some d → P d ⊎ ((axis ≡ descendant) × Walks axis P d) → Walks axis P e
walks-child child P e k d there_is (inl p) = (k ∷ [], (k, refl), d, under e d d k [] there_is refl, p)
walks-child descendant P e k d there_is (inl p) = (k ∷ [], (k, [], refl), d, under e d d k [] there_is refl, p)
walks-child child P e k d there_is (inr (is, w)) = absurd (let bad : ⊥ = cc in bad)
walks-child descendant P e k d there_is (inr (is, (ks, (j, rest, one), c, at, p))) = (k ∷ ks, (k, ks, refl), c, under e d c k ks there_is at, p)

pub walks-out : (axis : Axis) (P : Element → Type 0) (e : Element) → OneOf (λ c. P c ⊎ ((axis ≡ descendant) × Walks axis P c)) (elements_in e.children) → Walks axis P e
walks-out axis P e one = let b = one-found _ _ one in walks-child axis P e b.0 b.1 b.2 b.3

-- ---- what is held: at the element, or from a child on

pub holds-in : (axis : Axis) (P : Element → Type 0) (e : Element) → Holds axis P e → P e ⊎ OneOf (λ c. (axis ≡ descendant) × Holds axis P c) (elements_in e.children)
holds-in child P e (ks, none, c, at, p) =
    inl (let there = subst (λ n. element_below e n ≡ Some c) none at in
    let same : e ≡ c = cc in
    subst P (sym same) p)
holds-in descendant P e ([], any, c, at, p) = inl (let same : e ≡ c = cc in subst P (sym same) p)
holds-in descendant P e (k ∷ rest, any, c, at, p) =
    let d = first e c k rest at in
    inr (one-at _ _ k d.0 d.1 (refl, (rest, tt, c, d.2, p)))

pub holds-here : (axis : Axis) (P : Element → Type 0) (e : Element) → P e → Holds axis P e
holds-here child P e p = ([], refl, e, refl, p)
holds-here descendant P e p = ([], tt, e, refl, p)

holds-child : (axis : Axis) (P : Element → Type 0) (e : Element) (k : ℕ) (d : Element) → slice_get (elements_in e.children) k ≡ Some d → (axis ≡ descendant) × Holds axis P d → Holds axis P e
holds-child child P e k d there_is (is, h) = absurd (let bad : ⊥ = cc in bad)
holds-child descendant P e k d there_is (is, (ks, any, c, at, p)) = (k ∷ ks, tt, c, under e d c k ks there_is at, p)

pub holds-out : (axis : Axis) (P : Element → Type 0) (e : Element) → OneOf (λ c. (axis ≡ descendant) × Holds axis P c) (elements_in e.children) → Holds axis P e
holds-out axis P e one = let b = one-found _ _ one in holds-child axis P e b.0 b.1 b.2 b.3

-- ---- stages before others find the same

not_same : (i n : ℕ) → i < n → (i == n) ≡ false
not_same i n lt = differs (i == n) refl
  where
    differs : (b : Bool) → (i == n) ≡ b → (i == n) ≡ false
    differs true e = absurd (omega (arith, eqb-true i n e, lt))
    differs false e = e

same_as_itself : (n : ℕ) → (n == n) ≡ true
same_as_itself n = eq-eqb n n refl

pub at_older : (x : Stage) (earlier : List Stage) (root : Element) (i : ℕ) (e : Element) → i < length earlier → At (x ∷ earlier) root i e ≡ At earlier root i e
at_older x earlier root i e lt = ap (λ b. MatchBool b (StageFinds (At earlier root) root x e) (At earlier root i e)) (not_same i (length earlier) lt)

pub at_self : (x : Stage) (earlier : List Stage) (root e : Element) → At (x ∷ earlier) root (length earlier) e ≡ StageFinds (At earlier root) root x e
at_self x earlier root e = ap (λ b. MatchBool b (StageFinds (At earlier root) root x e) (At earlier root (length earlier) e)) (same_as_itself (length earlier))

pub at_onto : (ys before : List Stage) (root : Element) (i : ℕ) (e : Element) → i < length before → At (newest_onto before ys) root i e ≡ At before root i e
at_onto [] before root i e lt = refl
at_onto (y ∷ ys) before root i e lt = at_onto ys (y ∷ before) root i e (omega (arith, lt)) ∙ at_older y before root i e lt

stage_older : (x : Stage) (earlier : List Stage) (i : ℕ) → i < length earlier → stage_at (x ∷ earlier) i ≡ stage_at earlier i
stage_older x earlier i lt = ap (λ b. if b then Some x else stage_at earlier i) (not_same i (length earlier) lt)

pub stage_self : (x : Stage) (earlier : List Stage) → stage_at (x ∷ earlier) (length earlier) ≡ Some x
stage_self x earlier = ap (λ b. if b then Some x else stage_at earlier (length earlier)) (same_as_itself (length earlier))

pub stage_onto : (ys before : List Stage) (i : ℕ) → i < length before → stage_at (newest_onto before ys) i ≡ stage_at before i
stage_onto [] before i lt = refl
stage_onto (y ∷ ys) before i lt = stage_onto ys (y ∷ before) i (omega (arith, lt)) ∙ stage_older y before i lt

stage_get_onto : (xs before : List Stage) (i : ℕ) (x : Stage) → slice_get xs i ≡ Some x → stage_at (newest_onto before xs) (length before + i) ≡ Some x
stage_get_onto [] before i x at = absurd (let bad : ⊥ = cc in bad)
stage_get_onto (y ∷ xs) before zero x at =
    let same : y ≡ x = cc in
    let none : length before + 0 ≡ length before = omega arith in
    ap (stage_at (newest_onto (y ∷ before) xs)) none ∙ stage_onto xs (y ∷ before) (length before) (omega arith) ∙ stage_self y before ∙ ap Some same
stage_get_onto (y ∷ xs) before (suc i) x at =
    let next : length before + suc i ≡ length (y ∷ before) + i = omega arith in
    ap (stage_at (newest_onto (y ∷ before) xs)) next ∙ stage_get_onto xs (y ∷ before) i x at

pub stage_get : (plan : List Stage) (i : ℕ) (x : Stage) → slice_get plan i ≡ Some x → stage_at (newest plan) i ≡ Some x
stage_get plan i x at = (let none : i ≡ 0 + i = omega arith in ap (stage_at (newest plan)) none) ∙ stage_get_onto plan [] i x at

pub newest_length : (ys before : List Stage) → length (newest_onto before ys) ≡ length before + length ys
newest_length [] before = omega arith
newest_length (y ∷ ys) before = newest_length ys (y ∷ before) ∙ (omega arith)

pub newest_more : (xs ys before : List Stage) → newest_onto before (xs ++ ys) ≡ newest_onto (newest_onto before xs) ys
newest_more [] ys before = refl
newest_more (x ∷ xs) ys before = newest_more xs ys (x ∷ before)

stage_within : (plan : List Stage) (i : ℕ) (x : Stage) → stage_at plan i ≡ Some x → i < length plan
stage_within [] i x at = absurd (let bad : ⊥ = cc in bad)
stage_within (y ∷ earlier) i x at = by (i == length earlier) refl (stage_within earlier i x) at
  where
    by : (b : Bool) → (i == length earlier) ≡ b → (stage_at earlier i ≡ Some x → i < length earlier) → (if b then Some y else stage_at earlier i) ≡ Some x → i < suc (length earlier)
    by true is older h = omega (arith, eqb-true i (length earlier) is)
    by false is older h = omega (arith, older h)

pub document_within : (plan : List Stage) (i : ℕ) → IsOfDocument plan i → i < length plan
document_within plan i (x, at, is) = stage_within plan i x at

-- ---- what holds by what is found at the positions that it asks

abbrev mutual
  pub CheckSees : (ℕ → Type 0) → Check → Type 0
  CheckSees Seen (any_of ks) = ChecksSee Seen ks
  CheckSees Seen (all_of ks) = ChecksSee Seen ks
  CheckSees Seen (not_so k) = CheckSees Seen k
  CheckSees Seen (here i) = Unit {0}
  CheckSees Seen (anywhere i) = Seen i
  CheckSees Seen (compared a how b) = Unit {0}

  pub ChecksSee : (ℕ → Type 0) → Checks → Type 0
  ChecksSee Seen no_more = Unit {0}
  ChecksSee Seen (more k ks) = CheckSees Seen k × ChecksSee Seen ks

mutual
  pub check_same : (H G T U : ℕ → Type 0) (root e : Element) (k : Check) → CheckAsks (λ j. H j ↔ G j) k → CheckSees (λ j. T j ↔ U j) k → CheckHolds H T root e k ↔ CheckHolds G U root e k
  check_same H G T U root e (any_of ks) asks sees = one_same H G T U root e ks asks sees
  check_same H G T U root e (all_of ks) asks sees = each_same H G T U root e ks asks sees
  check_same H G T U root e (not_so k) asks sees = let both = check_same H G T U root e k asks sees in ((λ n h. n (both.1 h)), (λ n h. n (both.0 h)))
  check_same H G T U root e (here i) asks sees = asks
  check_same H G T U root e (anywhere i) asks sees = sees
  check_same H G T U root e (compared a how b) asks sees = ((λ h. h), (λ h. h))

  pub each_same : (H G T U : ℕ → Type 0) (root e : Element) (ks : Checks) → ChecksAsk (λ j. H j ↔ G j) ks → ChecksSee (λ j. T j ↔ U j) ks → EachHolds H T root e ks ↔ EachHolds G U root e ks
  each_same H G T U root e no_more asks sees = ((λ h. h), (λ h. h))
  each_same H G T U root e (more k ks) asks sees =
      let one = check_same H G T U root e k asks.0 sees.0 in
      let others = each_same H G T U root e ks asks.1 sees.1 in
      ((λ h. (one.0 h.0, others.0 h.1)), (λ h. (one.1 h.0, others.1 h.1)))

  one_same : (H G T U : ℕ → Type 0) (root e : Element) (ks : Checks) → ChecksAsk (λ j. H j ↔ G j) ks → ChecksSee (λ j. T j ↔ U j) ks → OneHolds H T root e ks ↔ OneHolds G U root e ks
  one_same H G T U root e no_more asks sees = ((λ h. h), (λ h. h))
  one_same H G T U root e (more k ks) asks sees =
      let one = check_same H G T U root e k asks.0 sees.0 in
      let others = one_same H G T U root e ks asks.1 sees.1 in
      ((λ h. elim h [ inl a ↦ inl (one.0 a) | inr b ↦ inr (others.0 b) ]), (λ h. elim h [ inl a ↦ inl (one.1 a) | inr b ↦ inr (others.1 b) ]))

goes_on_same : (H G : ℕ → Type 0) (e : Element) (x : Next) → NextAsks (λ j. H j ↔ G j) x → GoesOn H e x ↔ GoesOn G e x
goes_on_same H G e (next.On i) asks = asks
goes_on_same H G e (next.Ends w) asks = ((λ h. h), (λ h. h))

-- what a step arrives at, where what is asked by it agrees
pub arrives_same : (H G T U : ℕ → Type 0) (root e : Element) (x : Stage)
    → ((part_of x.part ≡ element) → MeetsName (test_of x.test) e.space e.local → ChecksAsk (λ j. H j ↔ G j) (stage_checks x) × NextAsks (λ j. H j ↔ G j) x.next)
    → ChecksSee (λ j. T j ↔ U j) (stage_checks x)
    → Arrives H T root e x ↔ Arrives G U root e x
arrives_same H G T U root e x asks sees = (
  (λ (part, meets, each, goes). let both = asks part meets in (part, meets, (each_same H G T U root e (stage_checks x) both.0 sees).0 each, (goes_on_same H G e x.next both.1).0 goes)),
  (λ (part, meets, each, goes). let both = asks part meets in (part, meets, (each_same H G T U root e (stage_checks x) both.0 sees).1 each, (goes_on_same H G e x.next both.1).1 goes)),
)

-- ---- what a stage refers to

mutual
  pub refers_asks : (P : ℕ → Type 0) (earlier : List Stage) → ((j : ℕ) → j < length earlier → P j) → (k : Check) → CheckRefers earlier k → CheckAsks P k
  refers_asks P earlier each (any_of ks) refers = refer_asks P earlier each ks refers
  refers_asks P earlier each (all_of ks) refers = refer_asks P earlier each ks refers
  refers_asks P earlier each (not_so k) refers = refers_asks P earlier each k refers
  refers_asks P earlier each (here i) refers = each i refers
  refers_asks P earlier each (anywhere i) refers = tt
  refers_asks P earlier each (compared a how b) refers = tt

  pub refer_asks : (P : ℕ → Type 0) (earlier : List Stage) → ((j : ℕ) → j < length earlier → P j) → (ks : Checks) → ChecksRefer earlier ks → ChecksAsk P ks
  refer_asks P earlier each no_more refers = tt
  refer_asks P earlier each (more k ks) refers = (refers_asks P earlier each k refers.0, refer_asks P earlier each ks refers.1)

mutual
  pub refers_sees : (P : ℕ → Type 0) (earlier : List Stage) → ((j : ℕ) → j < length earlier → IsOfDocument earlier j → P j) → (k : Check) → CheckRefers earlier k → CheckSees P k
  refers_sees P earlier each (any_of ks) refers = refer_sees P earlier each ks refers
  refers_sees P earlier each (all_of ks) refers = refer_sees P earlier each ks refers
  refers_sees P earlier each (not_so k) refers = refers_sees P earlier each k refers
  refers_sees P earlier each (here i) refers = tt
  refers_sees P earlier each (anywhere i) refers = each i refers.0 refers.1
  refers_sees P earlier each (compared a how b) refers = tt

  pub refer_sees : (P : ℕ → Type 0) (earlier : List Stage) → ((j : ℕ) → j < length earlier → IsOfDocument earlier j → P j) → (ks : Checks) → ChecksRefer earlier ks → ChecksSee P ks
  refer_sees P earlier each no_more refers = tt
  refer_sees P earlier each (more k ks) refers = (refers_sees P earlier each k refers.0, refer_sees P earlier each ks refers.1)

next_refers_asks : (P : ℕ → Type 0) (earlier : List Stage) → ((j : ℕ) → j < length earlier → P j) → (x : Next) → NextRefers earlier x → NextAsks P x
next_refers_asks P earlier each (next.On i) refers = each i refers
next_refers_asks P earlier each (next.Ends w) refers = tt

-- ---- the stages find the same, where the earlier ones do

stage_forth : (F G : ℕ → Element → Type 0) (root e : Element) (x : Stage) (earlier : List Stage) → StageRefers earlier x → ((j : ℕ) (c : Element) → j < length earlier → F j c ↔ G j c) → StageFinds F root x e → StageFinds G root x e
stage_forth F G root e x earlier refers same (inr owned) = inr owned
stage_forth F G root e x earlier refers same (inl (ks, leads, c, at, arrives)) =
    inl (
      ks,
      leads,
      c,
      at,
      (arrives_same (λ j. F j c) (λ j. G j c) (λ j. F j (document root)) (λ j. G j (document root)) root c x
          (λ _ _. (refer_asks _ earlier (λ j lt. same j c lt) (stage_checks x) refers.0, next_refers_asks _ earlier (λ j lt. same j c lt) x.next refers.1))
          (refer_sees _ earlier (λ j lt _. same j (document root) lt) (stage_checks x) refers.0)).0 arrives,
    )

swapped : (F G : ℕ → Element → Type 0) (n : ℕ) → ((j : ℕ) (c : Element) → j < n → F j c ↔ G j c) → (j : ℕ) (c : Element) → j < n → G j c ↔ F j c
swapped F G n same j c lt = let both = same j c lt in (both.1, both.0)

pub by_path : (A B : Type 0) → A ≡ B → A ↔ B
by_path A B is = ((λ a. subst (λ X. X) is a), (λ b. subst (λ X. X) (sym is) b))

-- the stages before the one at a position
pub record Before (plan : List Stage) (i : ℕ) (x : Stage) : Type 0 where
  pub earlier : List Stage
  pub refers : StageRefers earlier x
  pub count : length earlier ≡ i
  pub documents : (j : ℕ) → IsOfDocument earlier j → IsOfDocument plan j
  pub same : (root : Element) (j : ℕ) (c : Element) → j < length earlier → At plan root j c ↔ At earlier root j c
  pub finds : (root e : Element) → At plan root i e ↔ StageFinds (At earlier root) root x e

pub document_older : (y : Stage) (earlier : List Stage) (j : ℕ) → IsOfDocument earlier j → IsOfDocument (y ∷ earlier) j
document_older y earlier j (x, at, is) = (x, stage_older y earlier j (stage_within earlier j x at) ∙ at, is)

pub before : (plan : List Stage) (i : ℕ) (x : Stage) → IsMade plan → stage_at plan i ≡ Some x → Before plan i x
before [] i x made at = absurd (let bad : ⊥ = cc in bad)
before (y ∷ earlier) i x made at = by (i == length earlier) refl (before earlier i x made.1) at
  where
    by : (b : Bool) → (i == length earlier) ≡ b → (stage_at earlier i ≡ Some x → Before earlier i x) → (if b then Some y else stage_at earlier i) ≡ Some x → Before (y ∷ earlier) i x
    by true is older h =
        let same : y ≡ x = cc in
        let place = eqb-true i (length earlier) is in
        record {
          earlier = earlier;
          refers = subst (StageRefers earlier) same made.0;
          count = sym place;
          documents = λ j d. document_older y earlier j d;
          same = λ root j c lt. by_path _ _ (at_older y earlier root j c lt);
          finds = λ root e. subst (λ n. At (y ∷ earlier) root n e ↔ StageFinds (At earlier root) root x e) (sym place) (subst (λ z. At (y ∷ earlier) root (length earlier) e ↔ StageFinds (At earlier root) root z e) same (by_path _ _ (at_self y earlier root e)));
        }
    by false is older h =
        let below = older h in
        let small = stage_within earlier i x h in
        record {
          earlier = below.earlier;
          refers = below.refers;
          count = below.count;
          documents = λ j d. document_older y earlier j (below.documents j d);
          same = λ root j c lt.
              let older = by_path _ _ (at_older y earlier root j c (omega (arith, lt, below.count, small))) in
              let both = below.same root j c lt in
              ((λ h. both.0 (older.0 h)), (λ h. older.1 (both.1 h)));
          finds = λ root e.
              let older = by_path _ _ (at_older y earlier root i e small) in
              let both = below.finds root e in
              ((λ h. both.0 (older.0 h)), (λ h. older.1 (both.1 h)));
        }

-- a position finds what its stage finds
pub unfolded : (plan : List Stage) (i : ℕ) (x : Stage) (root e : Element) → Before plan i x → At plan root i e ↔ StageFinds (At plan root) root x e
unfolded plan i x root e b =
    let finds = b.finds root e in (
      (λ h. stage_forth (At b.earlier root) (At plan root) root e x b.earlier b.refers (swapped (At plan root) (At b.earlier root) (length b.earlier) (b.same root)) (finds.0 h)),
      (λ h. finds.1 (stage_forth (At plan root) (At b.earlier root) root e x b.earlier b.refers (b.same root) h)),
    )

-- ---- what is found: at an attribute of the element, or from a child

abbrev pub FromChildAt : List Stage → Element → ℕ → Stage → Element → Type 0
FromChildAt plan root i x c = FromChild (λ j. At plan root j c) (λ j. At plan root j (document root)) root c i x

pub found_in : (plan : List Stage) (i : ℕ) (x : Stage) (root e : Element) → Before plan i x → At plan root i e → Owns e x ⊎ OneOf (FromChildAt plan root i x) (elements_in e.children)
found_in plan i x root e b h = by ((unfolded plan i x root e b).0 h)
  where
    deeper : (c : Element) → StageFinds (At plan root) root x c → At plan root i c
    deeper c = (unfolded plan i x root c b).1

    by : StageFinds (At plan root) root x e → Owns e x ⊎ OneOf (FromChildAt plan root i x) (elements_in e.children)
    by (inl walks) =
        let o = one-found _ _ (walks-in (axis_of x.axis) _ e walks) in
        inr (one-at _ _ o.0 o.1 o.2 (elim o.3 [ inl arrives ↦ inl arrives | inr on ↦ inr (on.0, deeper o.1 (inl on.1)) ]))
    by (inr held) = elim (holds-in (axis_of x.axis) _ e held) [
      | inl owns ↦ inl owns
      | inr below ↦ (let o = one-found _ _ below in inr (one-at _ _ o.0 o.1 o.2 (inr (o.3.0, deeper o.1 (inr o.3.1)))))
    ]

pub found_own : (plan : List Stage) (i : ℕ) (x : Stage) (root e : Element) → Before plan i x → Owns e x → At plan root i e
found_own plan i x root e b owns = (unfolded plan i x root e b).1 (inr (holds-here (axis_of x.axis) (λ c. Owns c x) e owns))

pub found_child : (plan : List Stage) (i : ℕ) (x : Stage) (root e : Element) → Before plan i x → OneOf (FromChildAt plan root i x) (elements_in e.children) → At plan root i e
found_child plan i x root e b one = (unfolded plan i x root e b).1 (by one-of.3)
  where
    one-of : (k : ℕ) × (c : Element) × (slice_get (elements_in e.children) k ≡ Some c) × FromChildAt plan root i x c
    one-of = one-found _ _ one

    walked : (axis_of x.axis ≡ descendant) → Walks (axis_of x.axis) (λ d. Arrives (λ j. At plan root j d) (λ j. At plan root j (document root)) root d x) one-of.1 → StageFinds (At plan root) root x e
    walked is w = inl (walks-out (axis_of x.axis) _ e (one-at _ _ one-of.0 one-of.1 one-of.2 (inr (is, w))))

    held : (axis_of x.axis ≡ descendant) → Holds (axis_of x.axis) (λ d. Owns d x) one-of.1 → StageFinds (At plan root) root x e
    held is h = inr (holds-out (axis_of x.axis) _ e (one-at _ _ one-of.0 one-of.1 one-of.2 (is, h)))

    by : FromChildAt plan root i x one-of.1 → StageFinds (At plan root) root x e
    by (inl arrives) = inl (walks-out (axis_of x.axis) _ e (one-at _ _ one-of.0 one-of.1 one-of.2 (inl arrives)))
    by (inr (is, at)) = elim ((unfolded plan i x root one-of.1 b).0 at) [ inl w ↦ walked is w | inr h ↦ held is h ]

-- ---- bits in place of what is found

mutual
  pub both_asks : (A P : ℕ → Type 0) (earlier : List Stage) → ((j : ℕ) → j < length earlier → A j → P j) → (k : Check) → CheckAsks A k → CheckRefers earlier k → CheckAsks P k
  both_asks A P earlier each (any_of ks) asks refers = both_ask A P earlier each ks asks refers
  both_asks A P earlier each (all_of ks) asks refers = both_ask A P earlier each ks asks refers
  both_asks A P earlier each (not_so k) asks refers = both_asks A P earlier each k asks refers
  both_asks A P earlier each (here i) asks refers = each i refers asks
  both_asks A P earlier each (anywhere i) asks refers = tt
  both_asks A P earlier each (compared a how b) asks refers = tt

  both_ask : (A P : ℕ → Type 0) (earlier : List Stage) → ((j : ℕ) → j < length earlier → A j → P j) → (ks : Checks) → ChecksAsk A ks → ChecksRefer earlier ks → ChecksAsk P ks
  both_ask A P earlier each no_more asks refers = tt
  both_ask A P earlier each (more k ks) asks refers = (both_asks A P earlier each k asks.0 refers.0, both_ask A P earlier each ks asks.1 refers.1)

both_next : (A P : ℕ → Type 0) (earlier : List Stage) → ((j : ℕ) → j < length earlier → A j → P j) → (x : Next) → NextAsks A x → NextRefers earlier x → NextAsks P x
both_next A P earlier each (next.On i) asks refers = each i refers asks
both_next A P earlier each (next.Ends w) asks refers = tt

pub get : {X : Type 0} (xs : List X) (i : ℕ) → i < length xs → (x : X) × (slice_get xs i ≡ Some x)
get [] i lt = absurd (omega (arith, lt))
get (x ∷ xs) zero lt = (x, refl)
get (x ∷ xs) (suc i) lt = get xs i (omega (arith, lt))

-- What was asked of a child decides whether a position finds something from it.
pub child_same : (plan : List Stage) (Asked Below Known : ℕ → Type 0) (root c : Element) (i : ℕ) (x : Stage)
    → IsMade (newest plan) → slice_get plan i ≡ Some x → i < length plan → Asks Asked c i x
    → ((j : ℕ) (y : Stage) → slice_get plan j ≡ Some y → Asked j → Below j ↔ At (newest plan) root j c)
    → Knows Known (newest plan) root
    → FromChild Below Known root c i x ↔ FromChildAt (newest plan) root i x c
child_same plan Asked Below Known root c i x made at lt asks found knows =
    let arrives = arrives_same Below (λ j. At (newest plan) root j c) Known (λ j. At (newest plan) root j (document root)) root c x
    (λ part meets. let both = asks.1 part meets in (both_ask Asked _ b.earlier agrees (stage_checks x) both.0 b.refers.0, both_next Asked _ b.earlier agrees x.next both.1 b.refers.1))
    (refer_sees _ b.earlier (λ j small document_too. knows j (omega (arith, small, b.count, lt, newest_length plan [])) (b.documents j document_too)) (stage_checks x) b.refers.0) in (
      (λ h. elim h [ inl a ↦ inl (arrives.0 a) | inr d ↦ inr (d.0, (found i x at (asks.0 d.0)).0 d.1) ]),
      (λ h. elim h [ inl a ↦ inl (arrives.1 a) | inr d ↦ inr (d.0, (found i x at (asks.0 d.0)).1 d.1) ]),
    )
  where
    b : Before (newest plan) i x
    b = before (newest plan) i x made (stage_get plan i x at)

    agrees : (j : ℕ) → j < length b.earlier → Asked j → Below j ↔ At (newest plan) root j c
    agrees j small asked = let y = get plan j (omega (arith, small, b.count, lt)) in found j y.0 y.1 asked
