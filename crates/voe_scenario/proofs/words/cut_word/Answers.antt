-- The words are those of the cut at the first blank.
use Rattle.std.proofs.Common.{◌≡◌, ℕ, ◌==◌, true, arith, lit<}
use Rattle.std.proofs.lemmas.Bool.Decides.{nat_tests}
use Rattle.std.proofs.lemmas.List.Splits.{slice_split_first}
use Rattle.std.proofs.lemmas.Str.Pattern.{split_once_first, split_parts}
use Rattle.voe_scenario.proofs.Pieces.{split_none}
use Rattle.voe_scenario.proofs.words.cut_word.Goals as goal

pub returns-in-Some-clause-first : goal.returns-in-Some-clause-first
returns-in-Some-clause-first c =
    let once = rw c.in-Some.is at (split_once_first 32 c.args.text.now c.split_once.result c.split_once.ensures.cases (lit< tt)) in
    rw (once.1, once.2) (slice_split_first (λ b. b == 32) c.args.text.now 0 once.0)

pub returns-in-None-clause-last : goal.returns-in-None-clause-last
returns-in-None-clause-last c =
    let none = rw c.in-None.is at (split_parts 32 c.args.text.now c.split_once.result c.split_once.ensures.cases (lit< tt)) in
    split_none 32 c.args.text.now (λ k within is. none k within (is_blank _ is))
  where
    is_blank : (b : ℕ) → (b == 32) ≡ true → b ≡ 32
    is_blank b is = grind (arith, nat_tests)
