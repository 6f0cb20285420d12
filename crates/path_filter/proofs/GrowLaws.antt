-- A plan that grows keeps what it means.
use Rattle.std.proofs.Common.{◌≡◌, ◌<◌, ◌≤◌, ◌+◌, ◌↔◌, inl, inr, ℕ, zero, suc, Bool, true, false, Option, None, ◌-◌, List, [], ◌∷◌, ◌++◌, Some, length, map, take, drop, get_or, refl, sym, ◌∙◌, ap, subst, arith, append_assoc}
use Rattle.std.proofs.Math.Seq.{take-length}
use Rattle.std.specs.Bool.{◌==◌}
use Rattle.std.specs.Option.{MatchOption}
use Rattle.std.specs.List.{slice_get}
use Rattle.voe_tree.specs.Contents.{string_of}
use Rattle.voe_tree.specs.declared.element.Element.{Element}
use Rattle.filter_text.specs.Filter.{Text, Path, path, Steps, arrived, step, Axis, Part, element, attribute, Test, Comparison, equal, differs, Condition, any_of, all_of, not_so, alone, compare, Conditions, Operand, found, literal, local_name}
use Rattle.filter_text.specs.Filter as filter
use Rattle.filter_text.specs.Size.{size_of_condition, size_of_conditions, steps_in_condition, steps_in_conditions, steps_in_operand, steps_in_steps}
use Rattle.filter_text.specs.View.{axis_of, comparison_of, condition_of, conditions_of, front_of, operand_of, part_of, path_of, steps_of, test_of}
use Rattle.filter_text.specs.declared.filter.Condition.{Condition as CodeCondition}
use Rattle.filter_text.specs.declared.filter.Condition.TheVariants as conditions
use Rattle.filter_text.specs.declared.filter.Comparison.{Comparison as CodeComparison}
use Rattle.filter_text.specs.declared.filter.Comparison.TheVariants as comparisons
use Rattle.filter_text.specs.declared.filter.Operand.{Operand as CodeOperand}
use Rattle.filter_text.specs.declared.filter.Operand.TheVariants as operands
use Rattle.filter_text.specs.declared.filter.Path.{Path as CodePath, out-Path}
use Rattle.filter_text.specs.declared.filter.Step.{Step as CodeStep}
use Rattle.path_filter.specs.Meaning.{Passes, Related}
use Rattle.path_filter.specs.Places.{document}
use Rattle.path_filter.specs.Places as place
use Rattle.path_filter.specs.Plan.{Check, Checks, here, anywhere, compared, side, no_more, more, CheckHolds, EachHolds, OneHolds, GoesOn, Arrives, Owns, EndsAt, StageFinds, At, newest, stage_at, IsOfDocument, AreGuards, CheckRefers, ChecksRefer, way_of, NextRefers, StageRefers, IsMade, FindsSought, Suited, stage_checks, check_of, checks_of, guards_of}
use Rattle.path_filter.specs.Plan as plans
use Rattle.path_filter.specs.Planned.{Grows, Means, AllMean, Looks, Starts, IsFromDocument, IsLast, IsText, Follows, Stands, PlanPasses, LastOfDocument, IsPlanOf, inner_steps, inner_steps_in}
use Rattle.path_filter.specs.Search.{Each, Is, One}
use Rattle.path_filter.specs.declared.plan.Check.{Check as CodeCheck}
use Rattle.path_filter.specs.declared.plan.Check.TheVariants as checks
use Rattle.path_filter.specs.declared.plan.Side.{Side as CodeSide}
use Rattle.path_filter.specs.declared.plan.Next.{Next}
use Rattle.path_filter.specs.declared.plan.Next.TheVariants as next
use Rattle.path_filter.specs.declared.plan.Sought.{Sought}
use Rattle.path_filter.specs.declared.plan.Sought.TheVariants as sought
use Rattle.path_filter.specs.declared.plan.Stage.{Stage}
use Rattle.path_filter.proofs.PlaceLaws.{passes-forth, passes-back}
use Rattle.path_filter.proofs.PlanLaws.{at_older, at_self, by_path, check_same, document_older, refers_asks, refers_sees, newest_length, newest_more, stage_self}
use Rattle.path_filter.proofs.SearchLaws.{one-at, one-found}
use Rattle.path_filter.proofs.CheckViews.{any-out, all-out, compared-out}
use Rattle.path_filter.proofs.Views.{any_of-out, all_of-out, path-out, front-out, literal-out}

-- ---- more stages

at_more : (added old : List Stage) (root : Element) (i : ℕ) (e : Element) → i < length old → At (added ++ old) root i e ≡ At old root i e
at_more [] old root i e lt = refl
at_more (x ∷ added) old root i e lt = at_older x (added ++ old) root i e (omega (arith, lt, longer added old)) ∙ at_more added old root i e lt
  where
    longer : (xs ys : List Stage) → length ys ≤ length (xs ++ ys)
    longer [] ys = omega arith
    longer (x ∷ xs) ys = omega (arith, longer xs ys)

longer : (xs ys : List Stage) → length ys ≤ length (xs ++ ys)
longer [] ys = omega arith
longer (x ∷ xs) ys = omega (arith, longer xs ys)

document_more : (added old : List Stage) (j : ℕ) → IsOfDocument old j → IsOfDocument (added ++ old) j
document_more [] old j d = d
document_more (x ∷ added) old j d = document_older x (added ++ old) j (document_more added old j d)

-- what the check stands for holds as before
stands_more : (added old : List Stage) (k : Check) (Holds : Element → Element → Type 0) → CheckRefers old k
    → ((root e : Element) → CheckHolds (λ j. At old root j e) (λ j. At old root j (document root)) root e k ↔ Holds root e)
    → (root e : Element) → CheckHolds (λ j. At (added ++ old) root j e) (λ j. At (added ++ old) root j (document root)) root e k ↔ Holds root e
stands_more added old k Holds refers stands root e =
    let same = check_same (λ j. At (added ++ old) root j e) (λ j. At old root j e) (λ j. At (added ++ old) root j (document root)) (λ j. At old root j (document root)) root e k
    (refers_asks _ old (λ j lt. by_path _ _ (at_more added old root j e lt)) k refers)
    (refers_sees _ old (λ j lt _. by_path _ _ (at_more added old root j (document root) lt)) k refers) in
    let means = stands root e in
    ((λ h. means.0 (same.0 h)), (λ h. same.1 (means.1 h)))

mutual
  refers_more : (added old : List Stage) (k : Check) → CheckRefers old k → CheckRefers (added ++ old) k
  refers_more added old (plans.any_of ks) r = refer_more added old ks r
  refers_more added old (plans.all_of ks) r = refer_more added old ks r
  refers_more added old (plans.not_so k) r = refers_more added old k r
  refers_more added old (here i) r = omega (arith, r, longer added old)
  refers_more added old (anywhere i) r = (omega (arith, r.0, longer added old), document_more added old i r.1)
  refers_more added old (compared (side a gs) how (side b hs)) r = (guards_more added old (way_of a) gs r.0, guards_more added old (way_of b) hs r.1, r.2)

  refer_more : (added old : List Stage) (ks : Checks) → ChecksRefer old ks → ChecksRefer (added ++ old) ks
  refer_more added old no_more r = tt
  refer_more added old (more k ks) r = (refers_more added old k r.0, refer_more added old ks r.1)

  guards_more : (added old : List Stage) (ss : Steps) (gs : Checks) → AreGuards old ss gs → AreGuards (added ++ old) ss gs
  guards_more added old arrived no_more g = tt
  guards_more added old arrived (more k ks) g = absurd g
  guards_more added old (step axis part test cs ss) no_more g = absurd g
  guards_more added old (step axis part test cs ss) (more k ks) g = (refers_more added old k g.0, (λ root e. stands_more added old k (λ x f. Each cs x f) g.0 g.1 root e), guards_more added old ss ks g.2)

means_more : (added old : List Stage) (k : Check) (c : Condition) → Means old k c → Means (added ++ old) k c
means_more added old k c m = record { refers = refers_more added old k m.refers; holds = stands_more added old k (λ root e. Is c root e) m.refers m.holds }

pub guards_grown : (old new : List Stage) (n : ℕ) (ss : Steps) (gs : Checks) → Grows old new n → AreGuards old ss gs → AreGuards new ss gs
guards_grown old new n ss gs g guards = subst (λ p. AreGuards p ss gs) (sym g.extends) (guards_more g.added old ss gs guards)

all_mean_more : (added old : List Stage) (ks : Checks) (cs : Conditions) → AllMean old ks cs → AllMean (added ++ old) ks cs
all_mean_more added old no_more filter.no_more m = tt
all_mean_more added old no_more (filter.more c cs) m = m
all_mean_more added old (more k ks) filter.no_more m = m
all_mean_more added old (more k ks) (filter.more c cs) m = (means_more added old k c m.0, all_mean_more added old ks cs m.1)

pub all_mean_grown : (old new : List Stage) (n : ℕ) (ks : Checks) (cs : Conditions) → Grows old new n → AllMean old ks cs → AllMean new ks cs
all_mean_grown old new n ks cs g m = subst (λ p. AllMean p ks cs) (sym g.extends) (all_mean_more g.added old ks cs m)

next_more : (added old : List Stage) (x : Next) → NextRefers old x → NextRefers (added ++ old) x
next_more added old (next.On i) r = omega (arith, r, longer added old)
next_more added old (next.Ends w) r = tt

goes_more : (added old : List Stage) (root e : Element) (x : Next) → NextRefers old x → GoesOn (λ j. At (added ++ old) root j e) e x ↔ GoesOn (λ j. At old root j e) e x
goes_more added old root e (next.On i) r = by_path _ _ (at_more added old root i e r)
goes_more added old root e (next.Ends w) r = ((λ h. h), (λ h. h))

follows_more : (added old : List Stage) (x : Next) (part : Part) (ss : Steps) (w : Sought) → Follows old x part ss w → Follows (added ++ old) x part ss w
follows_more added old x part ss w f = record {
  refers = next_more added old x f.refers;
  goes = λ is root e.
      let same = goes_more added old root e x f.refers in
      let goes = f.goes is root e in
      ((λ h. goes.0 (same.0 h)), (λ h. same.1 (goes.1 h)));
  ends = f.ends;
}

pub follows_grown : (old new : List Stage) (n : ℕ) (x : Next) (part : Part) (ss : Steps) (w : Sought) → Grows old new n → Follows old x part ss w → Follows new x part ss w
follows_grown old new n x part ss w g f = subst (λ p. Follows p x part ss w) (sym g.extends) (follows_more g.added old x part ss w f)

-- ---- growing

pub grows_then : (a b c : List Stage) (n m : ℕ) → Grows a b n → Grows b c m → Grows a c (n + m)
grows_then a b c n m g h = record {
  added = h.added ++ g.added;
  extends = h.extends ∙ ap (λ p. h.added ++ p) g.extends ∙ sym (append_assoc h.added g.added a);
  made = h.made;
  few = omega (arith, g.few, h.few);
}

pub grows_le : (a b : List Stage) (n m : ℕ) → n ≤ m → Grows a b n → Grows a b m
grows_le a b n m le g = record { added = g.added; extends = g.extends; made = g.made; few = omega (arith, g.few, le) }

pub grows_push : (old : List Stage) (x : Stage) → IsMade old → StageRefers old x → Grows old (x ∷ old) 1
grows_push old x made refers = record { added = x ∷ []; extends = refl; made = (refers, made); few = omega arith }

pub newest_push : (plan : List Stage) (x : Stage) → newest (plan ++ x ∷ []) ≡ x ∷ newest plan
newest_push plan x = newest_more plan (x ∷ []) []

-- ---- conditions

each_means : (plan : List Stage) (root e : Element) (ks : Checks) (cs : Conditions) → AllMean plan ks cs → EachHolds (λ j. At plan root j e) (λ j. At plan root j (document root)) root e ks ↔ Each cs root e
each_means plan root e no_more filter.no_more m = ((λ h. h), (λ h. h))
each_means plan root e no_more (filter.more c cs) m = absurd m
each_means plan root e (more k ks) filter.no_more m = absurd m
each_means plan root e (more k ks) (filter.more c cs) m =
    let one = m.0.holds root e in
    let others = each_means plan root e ks cs m.1 in
    ((λ h. (one.0 h.0, others.0 h.1)), (λ h. (one.1 h.0, others.1 h.1)))

one_means : (plan : List Stage) (root e : Element) (ks : Checks) (cs : Conditions) → AllMean plan ks cs → OneHolds (λ j. At plan root j e) (λ j. At plan root j (document root)) root e ks ↔ One cs root e
one_means plan root e no_more filter.no_more m = ((λ h. h), (λ h. h))
one_means plan root e no_more (filter.more c cs) m = absurd m
one_means plan root e (more k ks) filter.no_more m = absurd m
one_means plan root e (more k ks) (filter.more c cs) m =
    let one = m.0.holds root e in
    let others = one_means plan root e ks cs m.1 in
    ((λ h. elim h [ inl a ↦ inl (one.0 a) | inr b ↦ inr (others.0 b) ]), (λ h. elim h [ inl a ↦ inl (one.1 a) | inr b ↦ inr (others.1 b) ]))

all_refer : (plan : List Stage) (ks : Checks) (cs : Conditions) → AllMean plan ks cs → ChecksRefer plan ks
all_refer plan no_more filter.no_more m = tt
all_refer plan no_more (filter.more c cs) m = absurd m
all_refer plan (more k ks) filter.no_more m = absurd m
all_refer plan (more k ks) (filter.more c cs) m = (m.0.refers, all_refer plan ks cs m.1)

pub any_means : (plan : List Stage) (ks : Checks) (cs : Conditions) → AllMean plan ks cs → Means plan (plans.any_of ks) (any_of cs)
any_means plan ks cs m = record { refers = all_refer plan ks cs m; holds = λ root e. one_means plan root e ks cs m }

pub all_means : (plan : List Stage) (ks : Checks) (cs : Conditions) → AllMean plan ks cs → Means plan (plans.all_of ks) (all_of cs)
all_means plan ks cs m = record { refers = all_refer plan ks cs m; holds = λ root e. each_means plan root e ks cs m }

pub not_means : (plan : List Stage) (k : Check) (c : Condition) → Means plan k c → Means plan (plans.not_so k) (not_so c)
not_means plan k c m = record { refers = m.refers; holds = λ root e. let both = m.holds root e in ((λ n h. n (both.1 h)), (λ n h. n (both.0 h))) }

pub all_mean_snoc : (plan : List Stage) (ks : List Check) (cs : List Condition) (k : Check) (c : Condition) → AllMean plan (checks_of ks) (conditions_of cs) → Means plan k c → AllMean plan (checks_of (ks ++ k ∷ [])) (conditions_of (cs ++ c ∷ []))
all_mean_snoc plan [] [] k c m one = (one, tt)
all_mean_snoc plan [] (d ∷ cs) k c m one = absurd m
all_mean_snoc plan (j ∷ ks) [] k c m one = absurd m
all_mean_snoc plan (j ∷ ks) (d ∷ cs) k c m one = (m.0, all_mean_snoc plan ks cs k c m.1 one)

pub steps_snoc : (cs : List Condition) (c : Condition) → steps_in_conditions (conditions_of (cs ++ c ∷ [])) ≡ steps_in_conditions (conditions_of cs) + steps_in_condition c
steps_snoc [] c = omega arith
steps_snoc (d ∷ cs) c = omega (arith, steps_snoc cs c)

pub map_snoc : {X Y : Type 0} (f : X → Y) (xs : List X) (y : X) → map f (xs ++ y ∷ []) ≡ map f xs ++ f y ∷ []
map_snoc f [] y = refl
map_snoc f (x ∷ xs) y = ap (λ ys. f x ∷ ys) (map_snoc f xs y)

pub condition_sizes : (cs : List CodeCondition) (i : ℕ) (c : CodeCondition) → slice_get cs i ≡ Some c
    → (size_of_condition (condition_of c) < size_of_conditions (conditions_of (map condition_of cs))) × (steps_in_condition (condition_of c) ≤ steps_in_conditions (conditions_of (map condition_of cs)))
condition_sizes [] i c at = absurd (let bad : ⊥ = cc in bad)
condition_sizes (d ∷ cs) zero c at =
    let same : d ≡ c = cc in
    let size = ap (λ x. size_of_condition (condition_of x)) same in
    let steps = ap (λ x. steps_in_condition (condition_of x)) same in
    (omega (arith, size), omega (arith, steps))
condition_sizes (d ∷ cs) (suc i) c at = let below = condition_sizes cs i c at in (omega (arith, below.0), omega (arith, below.1))

-- ---- operands

pub alone_means : (plan : List Stage) (k : Check) (p : Path) → Looks plan k p sought.Anything → Means plan k (alone (found p))
alone_means plan k p l = record {
  refers = l.refers;
  holds = λ root e. let both = l.holds root e in ((λ h. let s = both.0 h in (s.0, s.1)), (λ h. both.1 (h.0, h.1, tt)));
}

turned : (how : Comparison) (s t : Text) → Related how s t → Related how t s
turned equal s t r = sym r
turned differs s t r = λ is. r (sym is)

pub compare_means : (plan : List Stage) (k : Check) (p : Path) (how : CodeComparison) (t : Text) → Looks plan k p (sought.Related how t) → Means plan k (compare (found p) (comparison_of how) (literal t))
compare_means plan k p how t l = record {
  refers = l.refers;
  holds = λ root e. let both = l.holds root e in (
    (λ h. let s = both.0 h in (s.0, t, s.1, refl, s.2)),
    (λ (s, u, finds, is, related). both.1 (s, finds, subst (λ z. Related (comparison_of how) s z) is related)),
  );
}

pub compare_turned : (plan : List Stage) (k : Check) (p : Path) (how : CodeComparison) (t : Text) → Looks plan k p (sought.Related how t) → Means plan k (compare (literal t) (comparison_of how) (found p))
compare_turned plan k p how t l = record {
  refers = l.refers;
  holds = λ root e. let both = l.holds root e in (
    (λ h. let s = both.0 h in (t, s.0, refl, s.1, turned (comparison_of how) s.0 t s.2)),
    (λ (u, s, is, finds, related). both.1 (s, finds, turned (comparison_of how) t s (subst (λ z. Related (comparison_of how) z s) is related))),
  );
}

pub compared_means : (plan : List Stage) (a : CodeSide) (how : CodeComparison) (b : CodeSide) → AreGuards plan (way_of (operand_of a.operand)) (guards_of a) → AreGuards plan (way_of (operand_of b.operand)) (guards_of b)
    → steps_in_operand (operand_of a.operand) + steps_in_operand (operand_of b.operand) ≤ 512 → Means plan (check_of (checks.Compare a how b)) (compare (operand_of a.operand) (comparison_of how) (operand_of b.operand))
compared_means plan a how b one other few =
    subst (λ k. Means plan k (compare (operand_of a.operand) (comparison_of how) (operand_of b.operand))) (sym (compared-out a how b)) record { refers = (one, other, few); holds = λ root e. ((λ h. h), (λ h. h)) }

pub not_empty_means : (plan : List Stage) (o : Operand) → IsText o → Means plan (compared (side o no_more) differs (side (literal []) no_more)) (alone o)
not_empty_means plan (found way) text = absurd text
not_empty_means plan (literal t) text = record {
  refers = (tt, tt, omega arith);
  holds = λ root e. ((λ (s, u, one, none, other) is. other (one ∙ is ∙ sym none)), (λ some. (t, [], refl, refl, some)));
}
not_empty_means plan local_name text = record {
  refers = (tt, tt, omega arith);
  holds = λ root e. ((λ (s, u, one, none, other) is. other (one ∙ is ∙ sym none)), (λ some. (e.local, [], refl, refl, some)));
}

pub not_empty_out : (plan : List Stage) (o : CodeOperand) (gs hs : List CodeCheck) (t : Text) → gs ≡ [] → hs ≡ [] → t ≡ [] → IsText (operand_of o)
    → Means plan (check_of (checks.Compare record { operand = o; guards = gs } comparisons.Differs record { operand = operands.Literal t; guards = hs })) (alone (operand_of o))
not_empty_out plan o gs hs t none nothing empty text =
    let right : CodeSide = record { operand = operands.Literal t; guards = hs } in
    let opened : check_of (checks.Compare record { operand = o; guards = gs } comparisons.Differs right) ≡ compared (side (operand_of o) no_more) differs (side (literal []) no_more) =
    compared-out record { operand = o; guards = gs } comparisons.Differs right
    ∙ ap (λ g. compared (side (operand_of o) (checks_of (map check_of g))) differs (side (operand_of (operands.Literal t)) (checks_of (map check_of hs)))) none
    ∙ ap (λ h. compared (side (operand_of o) no_more) differs (side (operand_of (operands.Literal t)) (checks_of (map check_of h)))) nothing
    ∙ ap (λ x. compared (side (operand_of o) no_more) differs (side x no_more)) (literal-out t ∙ ap literal empty) in
    subst (λ k. Means plan k (alone (operand_of o))) (sym opened) (not_empty_means plan (operand_of o) text)

pub comparison_means : (middle new : List Stage) (n : ℕ) (a b : CodeSide) (left right : CodeOperand) (how : CodeComparison) → a.operand ≡ left → b.operand ≡ right
    → AreGuards middle (way_of (operand_of left)) (guards_of a) → Grows middle new n → AreGuards new (way_of (operand_of right)) (guards_of b) → steps_in_operand (operand_of left) + steps_in_operand (operand_of right) ≤ 512
    → Means new (check_of (checks.Compare a how b)) (compare (operand_of left) (comparison_of how) (operand_of right))
comparison_means middle new n a b left right how one other guarded grows others few =
    let k = check_of (checks.Compare a how b) in
    let first = subst (λ l. AreGuards new (way_of (operand_of l)) (guards_of a)) (sym one) (guards_grown middle new n (way_of (operand_of left)) (guards_of a) grows guarded) in
    let second = subst (λ l. AreGuards new (way_of (operand_of l)) (guards_of b)) (sym other) others in
    let steps = ap (λ l. steps_in_operand (operand_of l)) one in
    let other_steps = ap (λ l. steps_in_operand (operand_of l)) other in
    subst (λ l. Means new k (compare (operand_of l) (comparison_of how) (operand_of right))) one
    (subst (λ r. Means new k (compare (operand_of a.operand) (comparison_of how) (operand_of r))) other
    (compared_means new a how b first second (omega (arith, few, steps, other_steps))))

-- a path without steps names where it starts
pub start_means : (plan : List Stage) (p : CodePath) → steps_of (out-Path p).steps ≡ arrived → Means plan (plans.all_of no_more) (alone (found (path_of p)))
start_means plan p none = subst (λ q. Means plan (plans.all_of no_more) (alone (found q))) (sym (path-out p ∙ ap (path (out-Path p).is_absolute) none)) (by (out-Path p).is_absolute)
  where
    by : (absolute : Bool) → Means plan (plans.all_of no_more) (alone (found (path absolute arrived)))
    by true = record { refers = tt; holds = λ root e. ((λ _. (string_of (document root), refl)), (λ _. tt)) }
    by false = record { refers = tt; holds = λ root e. ((λ _. (string_of e, refl)), (λ _. tt)) }

-- ---- growth

inner_le : (ss : Steps) → inner_steps ss ≤ steps_in_steps ss
inner_le arrived = omega arith
inner_le (step axis part test cs ss) = omega (arith, inner_le ss)

pub inner_operand_le : (o : Operand) → inner_steps_in o ≤ steps_in_operand o
inner_operand_le (found (path absolute ss)) = inner_le ss
inner_operand_le (literal text) = omega arith
inner_operand_le local_name = omega arith

inner_less : (ss : Steps) → 0 < steps_in_steps ss → inner_steps ss < steps_in_steps ss
inner_less arrived some = absurd (omega (arith, some))
inner_less (step axis part test cs ss) some = omega (arith, inner_le ss)

pub inner_operand_less : (o : Operand) → IsFromDocument o → inner_steps_in o < steps_in_operand o
inner_operand_less (found (path true ss)) some = inner_less ss some
inner_operand_less (found (path false ss)) some = absurd some
inner_operand_less (literal text) some = absurd some
inner_operand_less local_name some = absurd some

pub inner_snoc : (ss : List CodeStep) (x : CodeStep) → inner_steps (steps_of (ss ++ x ∷ [])) ≡ inner_steps (steps_of ss) + steps_in_conditions (conditions_of (map condition_of x.conditions))
inner_snoc [] x = ap (λ f. inner_steps (f arrived)) (front-out x) ∙ (omega arith)
inner_snoc (y ∷ ss) x =
    let whole = ap (λ f. inner_steps (f (steps_of (ss ++ x ∷ [])))) (front-out y) in
    let front = ap (λ f. inner_steps (f (steps_of ss))) (front-out y) in
    omega (arith, whole, front, inner_snoc ss x)

-- ---- steps

pub starts_last : (plan : List Stage) (x : Stage) (ss : Steps) (w : Sought) → Stands plan x ss w → Starts (x ∷ plan) (length plan) ss w
starts_last plan x ss w s = record {
  within = omega arith;
  finds = λ root e.
      let self = by_path _ _ (at_self x plan root e) in
      let finds = s.finds root e in
      ((λ h. finds.0 (self.0 h)), (λ h. self.1 (finds.1 h)));
}

pub last_of_document : (plan : List Stage) (x : Stage) → x.of_document ≡ true → IsOfDocument (x ∷ plan) (length plan)
last_of_document plan x is = (x, stage_self x plan, is)

pub follows_on : (plan : List Stage) (i : ℕ) (part : Part) (ss : Steps) (w : Sought) → (part ≡ attribute → ⊥) → Starts plan i ss w → Follows plan (next.On i) part ss w
follows_on plan i part ss w never s = record { refers = s.within; goes = λ _. s.finds; ends = λ is. absurd (never is) }

pub stands : (plan : List Stage) (x : Stage) (cs : Conditions) (ss : Steps) (w : Sought) → AllMean plan (stage_checks x) cs → Follows plan x.next (part_of x.part) ss w
    → Stands plan x (step (axis_of x.axis) (part_of x.part) (test_of x.test) cs ss) w
stands plan x cs ss w means follows = record {
  refers = (all_refer plan (stage_checks x) cs means, follows.refers);
  finds = λ root e. by root e (part_of x.part) refl;
}
  where
    named : (part : Part) → Element → Element → Type 0
    named part root e = FindsSought (step (axis_of x.axis) part (test_of x.test) cs ss) w root e

    by : (root e : Element) (part : Part) → part_of x.part ≡ part → StageFinds (At plan root) root x e ↔ FindsSought (step (axis_of x.axis) part (test_of x.test) cs ss) w root e
    by root e element is = (
      (λ h. elim h [
        | inl walks ↦
            (let arrives = walks.4 in
            let goes = (follows.goes is root walks.2).0 arrives.3 in
            (goes.0, (walks.0, walks.1, walks.2, walks.3, arrives.1, (each_means plan root walks.2 (stage_checks x) cs means).0 arrives.2, goes.1), goes.2))
        | inr held ↦ absurd (let bad : element ≡ attribute = sym is ∙ held.4.0 in let absurdity : ⊥ = cc in absurdity)
      ]),
      (λ (s, (ks, leads, c, at, meets, each, finds), suited). inl (ks, leads, c, at, (is, meets, (each_means plan root c (stage_checks x) cs means).1 each, (follows.goes is root c).1 (s, finds, suited)))),
    )
    by root e attribute is = (
      (λ h. elim h [
        | inl walks ↦ absurd (let bad : attribute ≡ element = sym is ∙ walks.4.0 in let absurdity : ⊥ = cc in absurdity)
        | inr held ↦
            (let o = one-found _ _ held.4.1 in
            (o.1.value, (held.0, held.1, held.2, held.3, one-at _ _ o.0 o.1 o.2 (o.3.0, refl)), (follows.ends is o.1.value).0 o.3.1))
      ]),
      (λ (s, (ks, holder, c, at, one), suited).
          let o = one-found _ _ one in
          inr (ks, holder, c, at, (is, one-at _ _ o.0 o.1 o.2 (o.3.0, (follows.ends is o.1.value).1 (subst (Suited w) o.3.1 suited))))),
    )

-- a stage that was put at the end
pub pushed : (old new : List Stage) (i : ℕ) (x : Stage) (ss : Steps) (w : Sought) → (i ≡ length old) × (newest new ≡ x ∷ newest old) → Stands (newest old) x ss w → Starts (newest new) i ss w
pushed old new i x ss w e s =
    let count : i ≡ length (newest old) = e.0 ∙ (let n = newest_length old [] in omega (arith, n)) in
    subst (λ p. Starts p i ss w) (sym e.1) (subst (λ n. Starts (x ∷ newest old) n ss w) (sym count) (starts_last (newest old) x ss w s))

pub pushed_document : (old new : List Stage) (i : ℕ) (x : Stage) → (i ≡ length old) × (newest new ≡ x ∷ newest old) → x.of_document ≡ true → IsOfDocument (newest new) i
pushed_document old new i x e is =
    let count : i ≡ length (newest old) = e.0 ∙ (let n = newest_length old [] in omega (arith, n)) in
    subst (λ p. IsOfDocument p i) (sym e.1) (subst (IsOfDocument (x ∷ newest old)) (sym count) (last_of_document (newest old) x is))

pub pushed_last : (old new : List Stage) (i : ℕ) (x : Stage) → (i ≡ length old) × (newest new ≡ x ∷ newest old) → suc i ≡ length (newest new)
pushed_last old new i x e = (let n = newest_length old [] in let l = ap length e.1 in omega (arith, n, l, e.0))

pub pushed_grows : (a : List Stage) (old new : List Stage) (i : ℕ) (x : Stage) (n : ℕ) → (i ≡ length old) × (newest new ≡ x ∷ newest old) → StageRefers (newest old) x → Grows a (newest old) n → Grows a (newest new) (n + 1)
pushed_grows a old new i x n e refers g = subst (λ p. Grows a p (n + 1)) (sym e.1) (grows_then a (newest old) (x ∷ newest old) n 1 g (grows_push (newest old) x g.made refers))

-- steps by the first one and the others
pub steps_open : (ss : List CodeStep) (x : CodeStep) → 0 < length ss → x ≡ get_or ss 0 x → steps_of ss ≡ step (axis_of x.axis) (part_of x.part) (test_of x.test) (conditions_of (map condition_of x.conditions)) (steps_of (take (length ss - 1) (drop 1 ss)))
steps_open [] x some is = absurd (omega (arith, some))
steps_open (y ∷ ss) x some is =
    let same : y ≡ x = sym is in
    let len : suc (length ss) - 1 ≡ length ss = omega arith in
    ap (λ z. front_of z (steps_of ss)) same ∙ ap (λ f. f (steps_of ss)) (front-out x)
    ∙ ap (λ xs. step (axis_of x.axis) (part_of x.part) (test_of x.test) (conditions_of (map condition_of x.conditions)) (steps_of xs)) (sym (ap (λ n. take n ss) len ∙ take-length ss))

pub non_empty : (n : ℕ) → (n == 0) ≡ false → 0 < n
non_empty zero e = absurd (let bad : true ≡ false = e in let absurdity : ⊥ = cc in absurdity)
non_empty (suc n) e = omega arith

pub any_out_means : (plan : List Stage) (ks : List CodeCheck) (cs : List CodeCondition) → AllMean plan (checks_of (map check_of ks)) (conditions_of (map condition_of cs)) → Means plan (check_of (checks.AnyOf ks)) (condition_of (conditions.AnyOf cs))
any_out_means plan ks cs m =
    subst (λ k. Means plan k (condition_of (conditions.AnyOf cs))) (sym (any-out ks))
    (subst (λ d. Means plan (plans.any_of (checks_of (map check_of ks))) d) (sym (any_of-out cs)) (any_means plan (checks_of (map check_of ks)) (conditions_of (map condition_of cs)) m))

pub all_out_means : (plan : List Stage) (ks : List CodeCheck) (cs : List CodeCondition) → AllMean plan (checks_of (map check_of ks)) (conditions_of (map condition_of cs)) → Means plan (check_of (checks.AllOf ks)) (condition_of (conditions.AllOf cs))
all_out_means plan ks cs m =
    subst (λ k. Means plan k (condition_of (conditions.AllOf cs))) (sym (all-out ks))
    (subst (λ d. Means plan (plans.all_of (checks_of (map check_of ks))) d) (sym (all_of-out cs)) (all_means plan (checks_of (map check_of ks)) (conditions_of (map condition_of cs)) m))

-- ---- the plan of a filter

pub passes_last : (plan : List Stage) (i : ℕ) (root : Element) → suc i ≡ length plan → PlanPasses plan root ≡ At plan root i (document root)
passes_last [] i root is = absurd (omega (arith, is))
passes_last (x ∷ plan) i root is = (let same : length plan ≡ i = omega (arith, is) in ap (λ n. At (x ∷ plan) root n (document root)) same)

document_last : (plan : List Stage) (i : ℕ) → suc i ≡ length plan → IsOfDocument plan i → LastOfDocument plan
document_last [] i is d = tt
document_last (x ∷ plan) i is d = (let same : i ≡ length plan = omega (arith, is) in subst (IsOfDocument (x ∷ plan)) same d)

pub plan_of : (plan : List Stage) (i : ℕ) (p : CodePath) → (out-Path p).is_absolute ≡ true → Grows [] plan 512 → IsLast plan i p sought.Anything → IsPlanOf plan (path_of p)
plan_of plan i p absolute g l = record {
  made = g.made;
  few = g.few;
  last = document_last plan i l.last (l.document absolute);
  decides = λ root.
      let ss = steps_of (out-Path p).steps in
      let opened : path_of p ≡ path true ss = path-out p ∙ ap (λ b. path b ss) absolute in
      let passes = by_path _ _ (passes_last plan i root l.last) in
      let finds = l.starts.finds root (document root) in (
        (λ h. let f = finds.0 (passes.0 h) in subst (λ q. Passes q root) (sym opened) (passes-back ss root (f.0, f.1))),
        (λ h. let f = passes-forth ss root (subst (λ q. Passes q root) opened h) in passes.1 (finds.1 (f.0, f.1, tt))),
      );
}

pub empty_plan : (plan : List Stage) (p : CodePath) → (out-Path p).is_absolute ≡ true → plan ≡ [] → steps_of (out-Path p).steps ≡ arrived → IsPlanOf plan (path_of p)
empty_plan plan p absolute none ends = subst (λ ps. IsPlanOf ps (path_of p)) (sym none) record {
  made = tt;
  few = omega arith;
  last = tt;
  decides = λ root.
      let opened : path_of p ≡ path true arrived = path-out p ∙ ap (λ b. path b (steps_of (out-Path p).steps)) absolute ∙ ap (path true) ends in
      ((λ _. subst (λ q. Passes q root) (sym opened) (place.element [], refl)), (λ _. tt));
}

pub plan_or_none : (o : Option ℕ) (old new : List Stage) (n : ℕ) (p : CodePath) → (out-Path p).is_absolute ≡ true → old ≡ [] → Grows old new n → n ≤ 512
    → MatchOption o ((new ≡ old) × (steps_of (out-Path p).steps ≡ arrived)) (λ i. IsLast new i p sought.Anything) → IsPlanOf new (path_of p)
plan_or_none None old new n p absolute none g le m = empty_plan new p absolute (m.0 ∙ none) m.1
plan_or_none (Some i) old new n p absolute none g le m = plan_of new i p absolute (subst (λ x. Grows x new 512) none (grows_le old new n 512 le g)) m
