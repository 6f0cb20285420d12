use Rattle.std.proofs.Common.{◌≡◌, ℕ, List, Result, Ok, Err, sym, subst}
use Rattle.std.specs.Prelude.{IfOk}
use Rattle.voe_outside.specs.declared.stream.Source.{Ghosts as SourceGhosts}
use Rattle.net_model.specs.declared.step.Judged.TheVariants.{Good}
use Rattle.voe_validity.specs.Judging.{IsJudged}
use Rattle.voevent_online.specs.Packets.{GaveAll, IsGiven}
use Rattle.voevent_online.proofs.submit_packet.read_packet.Goals as goal

given : {So P E : Type 0} (source : SourceGhosts So) (identifier_of bytes_of : P → List ℕ) (r : Result P E) (bytes : List ℕ) (old new : So) → GaveAll source bytes old new
    → IfOk r (λ p. (bytes_of p ≡ bytes) × IsJudged bytes (Good (identifier_of p))) → IfOk r (λ p. IsGiven source (identifier_of p) (bytes_of p) old new)
given source identifier_of bytes_of (Ok p) bytes old new gave h = record {
  gave = subst (λ (b : List ℕ). GaveAll source b old new) (sym h.0) gave;
  good = subst (λ (b : List ℕ). IsJudged b (Good (identifier_of p))) (sym h.0) h.1;
}
given source identifier_of bytes_of (Err e) bytes old new gave h = tt

pub returns-in-Ok-clause-ok : goal.returns-in-Ok-clause-ok
returns-in-Ok-clause-ok g c =
    given g.W.So.Source (λ packet. packet.identifier) (λ packet. packet.bytes) c.judge_packet.result c.in-Ok.bytes
    (g.W.World.parts c.args.world.now).source (g.W.World.parts c.read_source.new.world).source
    (record { reads = c.in-Ok.ensures.bytes; faults = c.in-Ok.ensures.faults }) c.judge_packet.ensures.ok
