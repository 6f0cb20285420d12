-- Numbers that no character has.
use Rattle.std.proofs.Common.{◌≡◌, ◌<◌, ℕ, None, arith}
use Rattle.std.proofs.lemmas.Bool.Decides.{nat_tests}
use Rattle.xml_lexer.specs.Spelling.{character}

pub character-large : (n : ℕ) → 0x10FFFF < n → character n ≡ None
character-large n h = grind (arith, nat_tests)
