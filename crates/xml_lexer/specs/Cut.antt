-- A text as tokens.
use Rattle.std.specs.Prelude.{◌≡◌, ◌≤◌, Bool, true, false, List, [], ◌∷◌, ◌++◌, length}
use Rattle.xml_lexer.specs.Characters.{Text}
use Rattle.xml_lexer.specs.Token.{Token, declaration, text}
use Rattle.xml_lexer.specs.Spelling.{IsSpelled, is_text_byte}

-- A declaration comes only first, and a text goes on as far as it can.
abbrev pub MayStand : Bool → Token → Text → Type 0
MayStand first (declaration encoding) after = first ≡ true
MayStand first (text run) [] = Unit {0}
MayStand first (text run) (b ∷ after) = is_text_byte b ≡ false
MayStand first _ after = Unit {0}

-- the text begins with the token, and goes on with `after`
pub record Begins (first : Bool) (bytes : Text) (token : Token) (after : Text) : Type 0 where
  pub spelled : Text
  pub is_spelled : IsSpelled token spelled
  pub is_front : bytes ≡ spelled ++ after
  pub may_stand : MayStand first token after

-- the tokens follow one another from the front of the text, which goes on with `after`
abbrev pub Follow : Bool → Text → List Token → Text → Type 0
Follow first bytes [] after = bytes ≡ after
Follow first bytes (k ∷ ks) after = (next : Text) × Begins first bytes k next × Follow false next ks after

-- the longest list of tokens
abbrev pub IsCut : Text → List Token → Text → Type 0
IsCut bytes ks after =
    Follow true bytes ks after × ((others : List Token) (rest : Text) → Follow true bytes others rest → length others ≤ length ks)
