-- A spelled name by its first colon.
use Rattle.std.proofs.Common.{◌≡◌, ◌+◌, ◌&&◌, ℕ, take, drop, Some, None, refl}
use Rattle.std.specs.List.{position}
use Rattle.xml_lexer.specs.Characters.{Text, is_colon, is_name, is_spelled_name}
use Rattle.xml_lexer.proofs.Options.{position-none, position-some}

pub is_spelled_name-plain : (s : Text) → position is_colon s ≡ None → is_spelled_name s ≡ is_name s
is_spelled_name-plain s e = rw (position-none is_colon s e) refl

pub is_spelled_name-colon : (s : Text) (at : ℕ) → position is_colon s ≡ Some at → is_spelled_name s ≡ (is_name (take at s) && is_name (drop (at + 1) s))
is_spelled_name-colon s at e =
    let t = position-some is_colon s at e in
    rw (t.0, t.1) refl
