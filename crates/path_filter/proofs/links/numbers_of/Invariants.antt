use Rattle.std.proofs.Common.{◌≡◌, ◌++◌, drop}
use Rattle.path_filter.specs.Links.{numbers_of}
use Rattle.path_filter.proofs.links.numbers_of.Given as goal

abbrev pub invariant-loop-number : goal.invariant-loop-number
invariant-loop-number l = l.numbers ++ numbers_of l.number (drop l.number l.bits) ≡ numbers_of 0 l.bits
