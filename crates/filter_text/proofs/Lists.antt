-- Lists of conditions and steps, end to end.
use Rattle.std.proofs.Common.{◌≡◌, refl, ap, Option, Some, None}
use Rattle.filter_text.specs.Filter.{Condition, any_of, all_of, Conditions, no_more, more, Steps, arrived, step}
use Rattle.filter_text.specs.Grammar.{joined, either, both, either_list, both_list}
use Rattle.filter_text.specs.Machine.{before, or_none, either_all, both_all}

pub joined-nil : (cs : Conditions) → joined cs no_more ≡ cs
joined-nil no_more = refl
joined-nil (more c cs) = ap (more c) (joined-nil cs)

pub joined-assoc : (xs ys zs : Conditions) → joined (joined xs ys) zs ≡ joined xs (joined ys zs)
joined-assoc no_more ys zs = refl
joined-assoc (more a xs) ys zs = ap (more a) (joined-assoc xs ys zs)

pub before-assoc : (xs ys zs : Steps) → before (before xs ys) zs ≡ before xs (before ys zs)
before-assoc arrived ys zs = refl
before-assoc (step axis part test ds xs) ys zs = ap (step axis part test ds) (before-assoc xs ys zs)

-- one more conjunct in front of a last one
pub either_all-more : (ors : Option Conditions) (d e : Condition) → either_all (Some (joined (or_none ors) (either_list d))) e ≡ either_all ors (either d e)
either_all-more None d e = refl
either_all-more (Some cs) d e = ap any_of (joined-assoc cs (either_list d) (either_list e))

pub both_all-more : (ands : Option Conditions) (d e : Condition) → both_all (Some (joined (or_none ands) (both_list d))) e ≡ both_all ands (both d e)
both_all-more None d e = refl
both_all-more (Some cs) d e = ap all_of (joined-assoc cs (both_list d) (both_list e))
