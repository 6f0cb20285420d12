-- Lines of printable bytes.
use Rattle.std.proofs.Common.{◌≡◌, ℕ, ◌<◌, ◌&&◌, Bool, true, false, List, [], ◌∷◌, refl, arith, nat_le}
use Rattle.std.proofs.lemmas.Bool.{false≢true, leb-true}
use Rattle.std.proofs.lemmas.Str.Ascii.{IsAscii-nil, IsAscii-cons}
use Rattle.std.specs.List.{list_all}
use Rattle.std.specs.Str.{IsAscii}
use Rattle.voe_scenario.specs.Words.{is_printable}

-- both of two tests hold
pub both : (a b : Bool) → (a && b) ≡ true → (a ≡ true) × (b ≡ true)
both true true is = (refl, refl)
both true false is = absurd (false≢true is)
both false b is = absurd (false≢true is)

pub printable_ascii : (line : List ℕ) → list_all is_printable line ≡ true → IsAscii line
printable_ascii [] is = IsAscii-nil
printable_ascii (b ∷ line) is =
    let parts = both (is_printable b) (list_all is_printable line) is in
    let small : b < 128 = omega (arith, leb-true b 126 (both (nat_le 32 b) (nat_le b 126) parts.0).1) in
    IsAscii-cons b line small (printable_ascii line parts.1)
