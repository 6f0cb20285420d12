-- The tokens of a document.
use Rattle.std.specs.Prelude.{ℕ, Bool, List, Option}
use Rattle.xml_lexer.specs.Characters.{Text}

-- An attribute as it stands in a tag: its name, and its value without the quotes, not yet read.
pub record Spelled : Type 0 where
  pub name : Text
  pub value : Text

pub data Token : Type 0 where
  -- the encoding that it names
  declaration : Option Text → Token
  instruction : Token
  comment : Token
  cdata : Text → Token
  -- `true` where it ends in `/>`
  start : Text → List Spelled → Bool → Token
  end : Text → Token
  -- a character
  reference : ℕ → Token
  text : Text → Token
