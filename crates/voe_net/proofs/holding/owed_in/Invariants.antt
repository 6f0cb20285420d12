use Rattle.std.proofs.Common.{◌≡◌, ◌≤◌, ◌*◌, ◌-◌, ◌^◌}
use Rattle.net_machine.specs.Owed.{owing}
use Rattle.voe_net.proofs.holding.owed_in.Given as goal

abbrev pub invariant-loop-link : goal.invariant-loop-link
invariant-loop-link g l = record { sum_is : l.sum ≡ owing l.book.notes l.link; small : l.sum ≤ l.link * (2 ^ 64 - 1) }
