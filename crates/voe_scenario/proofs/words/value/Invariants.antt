-- What the digits so far say.
use Rattle.std.proofs.Common.{◌≡◌, ◌<◌, ◌^◌, take}
use Rattle.voe_scenario.specs.Words.{value_of}
use Rattle.voe_scenario.proofs.words.value.Given as goal

abbrev pub invariant-loop-digit : goal.invariant-loop-digit
invariant-loop-digit l = record {
  same : l.value ≡ value_of (take l.digit-index l.digits);
  small : l.value < 10 ^ l.digit-index;
}
