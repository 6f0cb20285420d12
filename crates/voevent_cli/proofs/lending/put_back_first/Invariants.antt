use Rattle.std.proofs.Common.{◌≡◌, ℕ, ◌<◌, ◌≤◌, length, slice_get, None}
use Rattle.voe_net.specs.Starting.{NoneArmed}
use Rattle.voevent_cli.proofs.lending.put_back_first.Given as goal

-- the last ones stand in their places
abbrev pub invariant-loop-disk : goal.invariant-loop-disk
invariant-loop-disk g l = record {
  count : length l.first ≡ l.left;
  fewer : length l.first ≤ length l.initial.first;
  few : length l.initial.first ≤ 64;
  lent : (k : ℕ) → k < length l.first → g.R.Rack.trial l.rack k ≡ None;
  unarmed : NoneArmed g.R.Trial.Disk l.first;
  front : (k : ℕ) → k < length l.first → slice_get l.first k ≡ slice_get l.initial.first k;
  back : (k : ℕ) → length l.first ≤ k → k < length l.initial.first → g.R.Rack.trial l.rack k ≡ slice_get l.initial.first k;
  others : (k : ℕ) → length l.initial.first ≤ k → g.R.Rack.trial l.rack k ≡ g.R.Rack.trial l.initial.rack k;
  real : g.R.Rack.real l.rack ≡ g.R.Rack.real l.initial.rack;
}

abbrev pub decreases-loop-disk : goal.decreases-loop-disk
decreases-loop-disk g l = length l.first
