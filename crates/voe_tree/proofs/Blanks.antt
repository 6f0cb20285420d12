-- Where texts are cut at blanks.
use Rattle.std.proofs.Common.{◌≡◌, ◌+◌, ◌<◌, ◌≤◌, ℕ, zero, suc, true, List, length, get_or, arith, add-one}
use Rattle.std.specs.Str.{IsUtf8, IsCharBoundary}
use Rattle.std.specs.List.{prefix_len}
use Rattle.std.proofs.lemmas.Bool.Decides.{nat_tests}
use Rattle.std.proofs.lemmas.List.Sums.{prefix_len_passes, prefix_len-le-length}
use Rattle.std.proofs.lemmas.Str.{IsCharBoundary-start, IsCharBoundary-after_ascii}
use Rattle.xml_lexer.specs.Characters.{is_blank}

blank_is_small : (b : ℕ) → is_blank b ≡ true → b < 128
blank_is_small b h = grind (arith, nat_tests)

boundary_at : (text : List ℕ) (n : ℕ) → IsUtf8 text → n ≤ length text → ((k : ℕ) → k + 1 ≡ n → is_blank (get_or text k 0) ≡ true) → IsCharBoundary text n
boundary_at text zero utf8 within blanks = IsCharBoundary-start text utf8
boundary_at text (suc k) utf8 within blanks =
    let before = blank_is_small (get_or text k 0) (blanks k (add-one k)) in
    rw (← add-one k) (IsCharBoundary-after_ascii text k utf8 (omega arith) before)

-- a text may be cut behind its first blanks
pub boundary_behind_blanks : (text bytes : List ℕ) (n : ℕ) → IsUtf8 text → bytes ≡ text → n ≡ prefix_len is_blank bytes → IsCharBoundary text n
boundary_behind_blanks text bytes n utf8 same is =
    let counted : n ≡ prefix_len is_blank text = rw (← same) is in
    boundary_at text n utf8 (omega (arith, counted, prefix_len-le-length is_blank text))
    (λ k e. prefix_len_passes is_blank text k 0 (omega (arith, counted, e)))
