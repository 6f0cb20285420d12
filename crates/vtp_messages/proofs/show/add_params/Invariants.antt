use Rattle.std.proofs.Common.{◌≡◌, ◌++◌, drop, map}
use Rattle.std.specs.List.{concat}
use Rattle.voe_packet.specs.Params.{param_line}
use Rattle.vtp_messages.proofs.show.add_params.Given as goal

abbrev pub invariant-loop-param : goal.invariant-loop-param
invariant-loop-param l = l.out ++ concat (map param_line (drop l.param-index l.params)) ≡ l.initial.out ++ concat (map param_line l.params)
