-- Cutting a text into tokens.
use Rattle.std.specs.Prelude.{ℕ, zero, suc, Bool, true, false, List, [], ◌∷◌, ◌++◌, Option, Some, None, option_map, codes}
use Rattle.xml_lexer.specs.Characters.{Text}
use Rattle.xml_lexer.specs.Token.{Token, declaration, instruction, comment, cdata, start, end, reference, text}
use Rattle.xml_lexer.specs.Spelling.{max_attributes}
use Rattle.xml_lexer.specs.Scan.{◌>>=◌, name_at, byte_at, literal_at, attributes_at, end_tag_at, reference_at, text_at, up_to_at, instruction_at, declaration_at}

-- what is made of a value, or else the other
abbrev pub when : {A B : Type 0} → Option A → (A → B) → B → B
when None f other = other
when (Some a) f other = f a

-- behind `<`
unfoldable pub start_tag_at : Text → Option (Token × Text)
start_tag_at s = do
  name ← name_at s
  found ← attributes_at max_attributes name.1
  Some (start name.0 found.0.0 found.0.1, found.1)

-- behind `<!--`
abbrev pub comment_at : Text → Option (Token × Text)
comment_at s = option_map (λ x. (comment, x.1)) (up_to_at (codes "-->") s)

-- behind `<![CDATA[`
abbrev pub character_data_at : Text → Option (Token × Text)
character_data_at s = option_map (λ x. (cdata x.0, x.1)) (up_to_at (codes "]]>") s)

-- behind `</`
abbrev pub end_at : Text → Option (Token × Text)
end_at s = option_map (λ x. (end x.0, x.1)) (end_tag_at s)

-- behind `<?`
abbrev pub instruction_token_at : Text → Option (Token × Text)
instruction_token_at s = option_map (λ x. (instruction, x)) (instruction_at s)

-- behind `&`
abbrev pub reference_token_at : Text → Option (Token × Text)
reference_token_at s = option_map (λ x. (reference x.0, x.1)) (reference_at s)

unfoldable pub text_token_at : Text → Token × Text
text_token_at s = let r = text_at s in (text r.0, r.1)

-- behind `<`, where neither `/` nor `?` comes
unfoldable pub section_at : Text → Option (Token × Text)
section_at s = when (literal_at (codes "!--") s) comment_at (when (literal_at (codes "![CDATA[") s) character_data_at (start_tag_at s))

-- behind `<`
unfoldable pub markup_at : Text → Option (Token × Text)
markup_at s = when (byte_at 47 s) end_at (when (byte_at 63 s) instruction_token_at (section_at s))

-- any token but a declaration
unfoldable pub token_at : Text → Option (Token × Text)
token_at [] = None
token_at (b ∷ s) = when (byte_at 60 (b ∷ s)) markup_at (when (byte_at 38 (b ∷ s)) reference_token_at (Some (text_token_at (b ∷ s))))

-- a declaration comes only first
unfoldable pub first_at : Bool → Text → Option (Token × Text)
first_at true s = when (declaration_at s) (λ x. Some (declaration x.0, x.1)) (token_at s)
first_at false s = token_at s

abbrev pub before_more : Option (Token × Text) → Text → (Text → List Token × Text) → List Token × Text
before_more None s more = ([], s)
before_more (Some x) s more = (x.0 ∷ (more x.1).0, (more x.1).1)

-- at most `count` tokens, and what follows
unfoldable pub tokens_at : ℕ → Text → List Token × Text
tokens_at zero s = ([], s)
tokens_at (suc count) s = before_more (token_at s) s (tokens_at count)

-- behind tokens that were read before
abbrev pub behind : List Token → List Token × Text → List Token × Text
behind front x = (front ++ x.0, x.1)
