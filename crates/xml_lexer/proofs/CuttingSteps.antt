-- One step of cutting, where tokens were read before.
use Rattle.std.proofs.Common.{◌≡◌, ◌++◌, ℕ, zero, suc, List, [], ◌∷◌, Some, None, refl, sym, ◌∙◌, ap, append_assoc, append-nil}
use Rattle.xml_lexer.specs.Characters.{Text}
use Rattle.xml_lexer.specs.Token.{Token}
use Rattle.xml_lexer.specs.Cutting.{token_at, before_more, tokens_at, behind}

at_stop : (n : ℕ) (s : Text) → token_at s ≡ None → ◌≡◌ {A = List Token × Text} (tokens_at n s) ([], s)
unfolding tokens_at
at_stop zero s h = refl
at_stop (suc n) s h = ap (λ o. before_more o s (tokens_at n)) h

pub behind-stop : (front : List Token) (n : ℕ) (s : Text) (whole : List Token × Text) → token_at s ≡ None → behind front (tokens_at n s) ≡ whole → ◌≡◌ {A = List Token × Text} (front, s) whole
behind-stop front n s whole h e =
    let start : ◌≡◌ {A = List Token × Text} (front, s) (front ++ [], s) = ap (λ l. (l, s)) (sym (append-nil front)) in
    start ∙ ap (behind front) (sym (at_stop n s h)) ∙ e

pub behind-end : (front : List Token) (n : ℕ) (s : Text) (whole : List Token × Text) → n ≡ 0 → behind front (tokens_at n s) ≡ whole → ◌≡◌ {A = List Token × Text} (front, s) whole
unfolding tokens_at
behind-end front n s whole size e =
    let start : ◌≡◌ {A = List Token × Text} (front, s) (front ++ [], s) = ap (λ l. (l, s)) (sym (append-nil front)) in
    start ∙ ap (λ k. behind front (tokens_at k s)) (sym size) ∙ e

pub behind-more : (front : List Token) (n m : ℕ) (s : Text) (k : Token) (rest : Text) (whole : List Token × Text) → m ≡ suc n → token_at s ≡ Some (k, rest) →
    behind front (tokens_at m s) ≡ whole → behind (front ++ k ∷ []) (tokens_at n rest) ≡ whole
unfolding tokens_at
behind-more front n m s k rest whole size h e =
    let regroup : ◌≡◌ {A = List Token × Text} ((front ++ k ∷ []) ++ (tokens_at n rest).0, (tokens_at n rest).1) (front ++ (k ∷ (tokens_at n rest).0), (tokens_at n rest).1) =
    ap (λ l. (l, (tokens_at n rest).1)) (append_assoc front (k ∷ []) (tokens_at n rest).0) in
    regroup ∙ ap (λ o. behind front (before_more o s (tokens_at n))) (sym h) ∙ ap (λ j. behind front (tokens_at j s)) (sym size) ∙ e
