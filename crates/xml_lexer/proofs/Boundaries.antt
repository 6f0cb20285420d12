-- Where a text may be cut.
use Rattle.std.proofs.Common.{◌≡◌, ℕ, ◌+◌, ◌<◌, ◌≤◌, true, length, take, arith, subst, sym, IsUtf8}
use Rattle.std.specs.Prelude.{slice_index, nat_eq}
use Rattle.std.specs.List.{starts_with}
use Rattle.std.specs.Cmp.Lexicographic.{bytes_decides}
use Rattle.std.specs.Str.{IsCharBoundary}
use Rattle.std.proofs.lemmas.Str.{IsCharBoundary-after_ascii, IsCharBoundary-from_take, IsCharBoundary-start}
use Rattle.std.proofs.lemmas.Bool.Decides.{nat_tests}
use Rattle.xml_lexer.specs.Characters.{Text, is_blank}

pub blank-ascii : (b : ℕ) → is_blank b ≡ true → b < 128
blank-ascii b h = grind (arith, nat_tests)

pub behind_first : (s : Text) → IsUtf8 s → 0 < length s → slice_index s 0 < 128 → IsCharBoundary s 1
behind_first s u some low = IsCharBoundary-after_ascii s 0 u some low

pub behind_front : (s front : Text) → IsUtf8 s → IsUtf8 front → length front ≤ length s → take (length front) s ≡ front → IsCharBoundary s (length front)
behind_front s front u v le e = IsCharBoundary-from_take s (length front) u le (subst IsUtf8 (sym e) v)

pub behind_ascii : (s : Text) (i : ℕ) → IsUtf8 s → i < length s → slice_index s i < 128 → IsCharBoundary s (i + 1)
behind_ascii s i u lt low = IsCharBoundary-after_ascii s i u lt low

pub behind_literal : (s front : Text) → IsUtf8 s → IsUtf8 front → length front ≤ length s → starts_with nat_eq s front ≡ true → IsCharBoundary s (length front)
behind_literal s front u v le h = behind_front s front u v le (sym ((bytes_decides front (take (length front) s)).0 h))

pub start_of : (s : Text) → IsUtf8 s → IsCharBoundary s 0
start_of s u = IsCharBoundary-start s u
