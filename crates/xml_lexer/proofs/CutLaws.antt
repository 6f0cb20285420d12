-- Where a reader finds each token that a text begins with, cutting by the reader gives the longest list of tokens.
use Rattle.std.proofs.Common.{◌≡◌, ◌≤◌, Bool, true, false, List, [], ◌∷◌, length, Option, Some, None, refl, sym, ◌∙◌, ap, subst, arith}
use Rattle.xml_lexer.specs.Characters.{Text}
use Rattle.xml_lexer.specs.Token.{Token}
use Rattle.xml_lexer.specs.Cut.{Begins, Follow, IsCut}
use Rattle.xml_lexer.proofs.Runs.{same_pair}

module _ (token_at : Bool → Text → Option (Token × Text)) (finds : (first : Bool) (bytes : Text) (k : Token) (rest : Text) → Begins first bytes k rest → token_at first bytes ≡ Some (k, rest)) where
  -- the reader finds no token behind these
  abbrev pub Stops : Bool → List Token → Text → Type 0
  Stops first [] after = token_at first after ≡ None
  Stops first (k ∷ ks) after = Stops false ks after

  pub same_token : (first : Bool) (bytes : Text) (k l : Token) (rest more : Text) → Begins first bytes k rest → Begins first bytes l more → (k ≡ l) × (rest ≡ more)
  same_token first bytes k l rest more a b = same_pair k l rest more (sym (finds first bytes k rest a) ∙ finds first bytes l more b)

  pub longest : (first : Bool) (bytes : Text) (ks others : List Token) (after rest : Text) → Follow first bytes ks after → Stops first ks after → Follow first bytes others rest → length others ≤ length ks
  longest first bytes ks [] after rest follow stops other = omega arith
  longest first bytes [] (k ∷ others) after rest follow stops other =
      absurd (let found = finds first bytes k other.0 other.1 in
      let none : token_at first bytes ≡ None = ap (token_at first) follow ∙ stops in
      let bad : Some (k, other.0) ≡ None = sym found ∙ none in cc)
  longest first bytes (l ∷ ks) (k ∷ others) after rest follow stops other =
      let same = same_token first bytes k l other.0 follow.0 other.1 follow.1 in
      let P : Text → Type 0 = λ t. Follow false t others rest in
      let shorter = longest false follow.0 ks others after rest follow.2 stops (subst P same.1 other.2) in
      omega (arith, shorter)

  pub cut : (bytes : Text) (ks : List Token) (after : Text) → Follow true bytes ks after → Stops true ks after → IsCut bytes ks after
  cut bytes ks after follow stops = (follow, λ others rest other. longest true bytes ks others after rest follow stops other)

  -- there is only one such list
  pub same_follow : (first : Bool) (bytes : Text) (ks others : List Token) → Follow first bytes ks [] → Follow first bytes others [] → length ks ≡ length others → ks ≡ others
  same_follow first bytes [] [] a b e = refl
  same_follow first bytes [] (k ∷ others) a b e = absurd (omega (arith, e))
  same_follow first bytes (l ∷ ks) [] a b e = absurd (omega (arith, e))
  same_follow first bytes (l ∷ ks) (k ∷ others) a b e =
      let same = same_token first bytes l k a.0 b.0 a.1 b.1 in
      let P : Text → Type 0 = λ t. Follow false t ks [] in
      let rest = same_follow false b.0 ks others (subst P same.1 a.2) b.2 (omega (arith, e)) in
      cc
