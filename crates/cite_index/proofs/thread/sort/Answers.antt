use Rattle.std.proofs.Common.{ℕ, List, rules}
use Rattle.std.specs.Ordering.{is_lt, nat_cmp}
use Rattle.std.specs.Cmp.Lexicographic.{slice_cmp}
use Rattle.std.proofs.lemmas.Cmp.{nat_list_cmp_total}
use Rattle.std.proofs.lemmas.List.MinMax.{ranks_by}
use Rattle.std.proofs.lemmas.List.Sorted.{answers_always}
use Rattle.cite_index.proofs.thread.sort.Goals as goal

pub returns-in-Ok-clause-sorted : goal.returns-in-Ok-clause-sorted
returns-in-Ok-clause-sorted c =
    c.in-Ok.ensures.sorted (λ (a b : List ℕ). is_lt (slice_cmp nat_cmp a b)) (ranks_by nat_list_cmp_total (λ (a : List ℕ). a)) (answers_always _ _ _ (λ f a r g h. search rules))
