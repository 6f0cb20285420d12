-- What the parts of the writer add to its text.
use Rattle.std.specs.Prelude.{◌≡◌, ℕ, ◌+◌, ◌&&◌, Bool, false, not, nat_le, List, [], ◌∷◌, length, map}
use Rattle.std.specs.Borrow.{Bor}
use Rattle.std.specs.List.{concat, list_all}
use Rattle.xml_lexer.specs.Characters.{Text}
use Rattle.xml_lexer.specs.Token.{Token, text, Spelled}
use Rattle.xml_lexer.specs.Spelling.{max_attributes}
use Rattle.xml_lexer.specs.Phases.{max_tokens}
use Rattle.voe_tree.specs.Canonical.{all_written, is_escaped, is_escaped_in_value, is_narrow, is_short, is_writable, max_bytes, written_spelled}
use Rattle.voe_tree.specs.declared.element.Element.{Element}
use Rattle.voe_tree.specs.declared.write.WriteFault.{WriteFault}
use Rattle.voe_tree.specs.declared.write.WriteFault.TheVariants.{TooLarge, NoMemory}

-- A tree is too large exactly where it is not writable. Want of memory says nothing.
abbrev pub RefusesWriting : Element → WriteFault → Type 0
RefusesWriting root TooLarge = is_writable root ≡ false
RefusesWriting root NoMemory = Unit {0}

-- so many bytes and tokens can be read
abbrev pub are_few : ℕ → ℕ → Bool
are_few bytes tokens = nat_le bytes max_bytes && nat_le tokens max_tokens

-- Tokens are too large exactly where their text could not be read. Want of memory says nothing.
abbrev pub RefusesWritten : List Token → WriteFault → Type 0
RefusesWritten ks TooLarge = is_short (length (all_written ks)) ks ≡ false
RefusesWritten ks NoMemory = Unit {0}

-- a run of text that is not escaped, which is no token where it is empty
abbrev pub run_tokens : Text → List Token
run_tokens [] = []
run_tokens (b ∷ bs) = text (b ∷ bs) ∷ []

abbrev pub texts : List (Bor Text) → List Text
texts spaces = map (λ s. s.now) spaces

abbrev pub all_spelled : List Spelled → Text
all_spelled given = concat (map written_spelled given)

-- the tokens are short enough behind so many bytes and tokens
abbrev pub fits : ℕ → ℕ → List Token → Bool
fits bytes tokens ks = nat_le (bytes + length (all_written ks)) max_bytes && nat_le (tokens + length ks) max_tokens && list_all is_narrow ks

-- the tokens are too large behind so many bytes and tokens
abbrev pub Exceeds : WriteFault → ℕ → ℕ → List Token → Type 0
Exceeds TooLarge bytes tokens ks = fits bytes tokens ks ≡ false
Exceeds NoMemory bytes tokens ks = Unit {0}

-- the tag has too many attributes
abbrev pub IsWide : WriteFault → List Spelled → Type 0
IsWide TooLarge given = nat_le (length given) max_attributes ≡ false
IsWide NoMemory given = Unit {0}

-- a byte that stands as it is in a text, and in a value
abbrev pub is_run_byte : ℕ → Bool
is_run_byte b = not (is_escaped b)

abbrev pub is_value_run_byte : ℕ → Bool
is_value_run_byte b = not (is_escaped_in_value b)
