use Rattle.std.proofs.Common.{◌≡◌, length}
use Rattle.voe_net.specs.Starting.{NoneArmed}
use Rattle.voevent_cli.specs.Lending.{AreLent}
use Rattle.voevent_cli.specs.Racks.{disks}
use Rattle.voevent_cli.proofs.lending.lend_first.Given as goal

-- so many are lent
abbrev pub invariant-loop-k : goal.invariant-loop-k
invariant-loop-k g l = record {
  count : length l.first ≡ l.k;
  lent : AreLent l.first (disks (λ k. g.R.Rack.trial l.initial.rack k) (g.R.Rack.real l.initial.rack)) (disks (λ k. g.R.Rack.trial l.rack k) (g.R.Rack.real l.rack));
  unarmed : NoneArmed g.R.Trial.Disk l.first;
}
