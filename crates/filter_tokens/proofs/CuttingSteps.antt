-- One step of cutting, where tokens were read before.
use Rattle.std.proofs.Common.{◌≡◌, ◌++◌, ◌-◌, ℕ, zero, suc, List, [], ◌∷◌, length, Some, None, refl, sym, ◌∙◌, ap, append_assoc, append-nil}
use Rattle.xml_lexer.specs.Scan.{skip_blanks}
use Rattle.xml_lexer.specs.Characters.{Text}
use Rattle.filter_tokens.specs.Token.{Token, Placed}
use Rattle.filter_tokens.specs.Scan.{token_at, placed_before, tokens_at, behind_tokens}

at_stop : (n size : ℕ) (s : Text) → token_at s ≡ None → ◌≡◌ {A = List Placed × Text} (tokens_at n size s) ([], s)
unfolding tokens_at
at_stop zero size s h = refl
at_stop (suc n) size s h = ap (λ o. placed_before size s o (tokens_at n size)) h

pub behind-stop : (front : List Placed) (n size : ℕ) (s : Text) (whole : List Placed × Text) → token_at s ≡ None → behind_tokens front (tokens_at n size s) ≡ whole → ◌≡◌ {A = List Placed × Text} (front, s) whole
behind-stop front n size s whole h e =
    let start : ◌≡◌ {A = List Placed × Text} (front, s) (front ++ [], s) = ap (λ l. (l, s)) (sym (append-nil front)) in
    start ∙ ap (behind_tokens front) (sym (at_stop n size s h)) ∙ e

pub behind-end : (front : List Placed) (n size : ℕ) (s : Text) (whole : List Placed × Text) → n ≡ 0 → behind_tokens front (tokens_at n size s) ≡ whole → ◌≡◌ {A = List Placed × Text} (front, s) whole
unfolding tokens_at
behind-end front n size s whole zero_left e =
    let start : ◌≡◌ {A = List Placed × Text} (front, s) (front ++ [], s) = ap (λ l. (l, s)) (sym (append-nil front)) in
    start ∙ ap (λ k. behind_tokens front (tokens_at k size s)) (sym zero_left) ∙ e

pub behind-more : (front : List Placed) (n m size : ℕ) (s : Text) (k : Token) (rest : Text) (whole : List Placed × Text) → m ≡ suc n → token_at s ≡ Some (k, rest) →
    behind_tokens front (tokens_at m size s) ≡ whole → behind_tokens (front ++ record { token = k; place = size - length s } ∷ []) (tokens_at n size (skip_blanks rest)) ≡ whole
unfolding tokens_at
behind-more front n m size s k rest whole less h e =
    let one : Placed = record { token = k; place = size - length s } in
    let others = tokens_at n size (skip_blanks rest) in
    let regroup : ◌≡◌ {A = List Placed × Text} ((front ++ one ∷ []) ++ others.0, others.1) (front ++ (one ∷ others.0), others.1) = ap (λ l. (l, others.1)) (append_assoc front (one ∷ []) others.0) in
    regroup ∙ ap (λ o. behind_tokens front (placed_before size s o (tokens_at n size))) (sym h) ∙ ap (λ j. behind_tokens front (tokens_at j size s)) (sym less) ∙ e
