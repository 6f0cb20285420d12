use Rattle.std.proofs.Common.{◌≡◌, ◌<◌, ◌/◌, ◌^◌, ◌+ℤ◌, ◌*ℤ◌, arith, w64, pos, to_z, ◌∙◌}
use Rattle.std.proofs.lemmas.Int.{to_z_pos}
use Rattle.jiff.specs.Words.{civil_nanos}
use Rattle.jiff.proofs.SpanFacts.{signed_arith}
use Rattle.voe_time.proofs.stamp.Goals as goal

pub returns : goal.returns
returns c =
    let small : c.args.moment / 1000 < 2 ^ 63 = omega (arith, c.requires) in
    let plain : to_z w64 (c.args.moment / 1000) ≡ pos (c.args.moment / 1000) = to_z_pos w64 (c.args.moment / 1000) small in
    let instant : c.in-Ok.instant.nanosecond ≡ pos (c.args.moment / 1000) *ℤ pos 1_000_000_000 = rw plain at c.in-Ok.ensures.value in
    let shown : civil_nanos c.to_datetime-civil.result ≡ c.in-Ok.instant.nanosecond +ℤ pos 0 = c.to_datetime-civil.ensures in
    record {
      civil = c.to_datetime-civil.result;
      second = omega (arith, signed_arith, instant, shown);
      written = c.from_string.ensures ∙ c.in_ok-text.ensures.ok;
    }
