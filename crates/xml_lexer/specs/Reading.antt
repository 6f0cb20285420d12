-- Reading a text as tokens: what is left, and what that says.
use Rattle.std.specs.Prelude.{◌≡◌, ℕ, ◌+◌, ◌<◌, ◌≤◌, true, false, nat_eq, nat_lt, if◌then◌else◌, List, [], ◌∷◌, length, take, drop, position, Option, Some, None, codes}
use Rattle.std.specs.List.{starts_with}
use Rattle.std.specs.Str.{str_eq_ignore_ascii_case}
use Rattle.xml_lexer.specs.Characters.{Text}
use Rattle.xml_lexer.specs.Token.{Token, declaration}
use Rattle.xml_lexer.specs.Phases.{IsText, IsNoTextAt, StopsAt, Covers, max_tokens}
use Rattle.xml_lexer.specs.Scan.{declaration_at, front_len}
use Rattle.xml_lexer.specs.Cutting.{when, tokens_at, behind}
use Rattle.xml_lexer.specs.declared.fault.TokenFault.{TokenFault}
use Rattle.xml_lexer.specs.declared.fault.TokenFault.TheVariants.{NotText, BadToken, Doctype, TooManyTokens, NoMemory}

-- the first byte above 127, where the encoding is not UTF-8
abbrev pub foreign_in : Option Text → Text → Option ℕ
foreign_in None s = None
foreign_in (Some encoding) s = if str_eq_ignore_ascii_case encoding (codes "UTF-8") then None else position (nat_lt 127) s

-- the same for the encoding that the text's declaration names
unfoldable pub foreign_at : Text → Option ℕ
foreign_at s = when (declaration_at s) (λ x. foreign_in x.0 s) None

abbrev pub front_at : Text → Text
front_at s = take (front_len s) s

-- the tokens behind these, and how many bytes are left
unfoldable pub cut_behind : List Token → Text → List Token × ℕ
cut_behind before s =
    let cut = behind before (tokens_at (length (front_at s)) (front_at s)) in
    (cut.0, length (drop (front_len s) s) + length cut.1)

-- the tokens of the text, and how many bytes are left
unfoldable pub cut_at : Text → List Token × ℕ
cut_at s = when (declaration_at s) (λ x. cut_behind (declaration x.0 ∷ []) x.1) (cut_behind [] s)

-- why a text of which bytes are left is refused
abbrev pub stop_at : ℕ → Text → ℕ → TokenFault
stop_at mark s at = if starts_with nat_eq (drop at s) (codes "<!DOCTYPE") then Doctype (mark + at) else BadToken (mark + at)

-- the text behind the mark is one of these tokens
abbrev pub AreTokensOf : List Token → Text → Type 0
AreTokensOf ks s = IsText s × Covers s ks × (length ks ≤ max_tokens)

-- what each fault says of the text behind the mark
abbrev pub RefusesBehind : ℕ → Text → TokenFault → Type 0
RefusesBehind mark s (NotText place) = (at : ℕ) × IsNoTextAt s at × (place ≡ mark + at)
RefusesBehind mark s (BadToken place) = IsText s × (at : ℕ) × StopsAt s at false × (place ≡ mark + at)
RefusesBehind mark s (Doctype place) = IsText s × (at : ℕ) × StopsAt s at true × (place ≡ mark + at)
RefusesBehind mark s TooManyTokens = IsText s × (ks : List Token) × Covers s ks × (max_tokens < length ks)
RefusesBehind mark s NoMemory = Unit {0}
