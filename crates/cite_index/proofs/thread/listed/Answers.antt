use Rattle.std.proofs.Common.{◌≡◌, ◌∙◌, ◌++◌, ap, subst, ℕ, ◌-◌, Bool, List, length, take, drop, rules}
use Rattle.std.specs.List.Sorted.{IsPermutation}
use Rattle.cite_index.specs.Threads.{picked}
use Rattle.cite_index.proofs.Listings.{rest_whole}
use Rattle.cite_index.proofs.Picks.{ascends, at_most_once, drop_distinct, still_once}
use Rattle.cite_index.proofs.thread.listed.Goals as goal

pub returns : goal.returns
returns c =
    let names = c.args.names.now in
    let marks = c.args.marks.now in
    let n = c.args.count in
    let others = c.sort.new.identifiers.items in
    let first : c.in_ok-listed.listed.items ≡ picked (take n names) (take n marks) = c.in_ok-listed.ensures in
    let rest : c.in_ok-others.others.items ≡ picked (drop n names) (drop n marks) =
    c.in_ok-others.ensures ∙ (ap (λ (l : List (List ℕ)). picked l (take (length marks - n) (drop n marks))) (rest_whole n names) ∙ ap (λ (l : List Bool). picked (drop n names) l) (rest_whole n marks)) in
    let appended : c.append.new.self.items ≡ c.in_ok-listed.listed.items ++ others = search rules in
    let moved : IsPermutation (picked (drop n names) (drop n marks)) others = subst (λ (l : List (List ℕ)). IsPermutation l others) rest c.in_ok-sort.ensures.permutation in (
      others,
      c.from_vec.ensures ∙ (appended ∙ ap (λ (l : List (List ℕ)). l ++ others) first),
      moved,
      ascends others c.in_ok-sort.ensures.sorted (still_once (picked (drop n names) (drop n marks)) others moved (at_most_once (drop n names) (drop n marks) (drop_distinct n names c.requires.distinct))),
    )
