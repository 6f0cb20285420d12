-- Of short packets each is one.
use Rattle.std.proofs.Common.{ℕ, List, [], ◌∷◌, inl, inr, sym, subst, arith, suc}
use Rattle.std.specs.List.{All}
use Rattle.net_machine.specs.Ends.{AllPackets}
use Rattle.net_model.specs.Laws.{IsIn}
use Rattle.voe_scenario.specs.Sound.{IsShort}

short_in : (packets : List (List ℕ)) (packet : List ℕ) → All IsShort packets → IsIn packet packets → IsShort packet
short_in [] packet all is = absurd is
short_in (first ∷ more) packet all (inl same) = subst IsShort (sym same) (all 0 first (omega arith))
short_in (first ∷ more) packet all (inr later) = short_in more packet (λ k d lt. all (suc k) d (omega arith)) later

pub all_packets : (packets : List (List ℕ)) → All IsShort packets → AllPackets packets
all_packets packets short packet is =
    let own = short_in packets packet short is in
    (omega (arith, own.0), omega (arith, own.1))
