use Rattle.std.proofs.Common.{◌≡◌, ◌++◌, drop, map}
use Rattle.vtp_server.specs.Speech.{filter_param}
use Rattle.vtp_server.proofs.spelling.filter_params.Given as goal

abbrev pub invariant-loop-filter : goal.invariant-loop-filter
invariant-loop-filter l = l.params ++ map filter_param (drop l.filter-index l.filters) ≡ map filter_param l.filters
