-- Reading a filter's text: which filter it is, or which phase refuses it, at which place.
use Rattle.std.specs.Prelude.{◌≡◌, ◌≢◌, ◌⊎◌, ℕ, ◌+◌, ◌-◌, ◌≤◌, ◌<◌, ◌||◌, nat_lt, if◌then◌else◌, Bool, true, false, not, List, [], ◌∷◌, ◌++◌, length, take, slice_get, Option, Some, None, codes}
use Rattle.std.specs.Str.{bytes_eq}
use Rattle.filter_text.specs.Filter.{Text, Path, path, Condition}
use Rattle.filter_tokens.specs.Token.{Token, opening_bracket, closing_bracket, opening_parenthesis, closing_parenthesis, name, foreign, Placed, IsCut}
use Rattle.filter_text.specs.Grammar.{Symbol, plain, not_function, local_name_function, IsPath, IsCondition}

abbrev pub max_length : ℕ
max_length = 1024

abbrev pub max_nesting : ℕ
max_nesting = 16

abbrev pub next_token : List Placed → Option Token
next_token [] = None
next_token (k ∷ ks) = Some k.token

abbrev pub is_opening : Option Token → Bool
is_opening (Some opening_parenthesis) = true
is_opening _ = false

-- the name of a function or an operator
abbrev pub is_keyword : Text → Bool
is_keyword n = bytes_eq n (codes "and") || bytes_eq n (codes "or") || bytes_eq n (codes "not") || bytes_eq n (codes "local-name")

-- a token of no filter, or another name before a parenthesis
abbrev pub is_outside : Token → Option Token → Bool
is_outside foreign next = true
is_outside (name n) next = if is_opening next then not (is_keyword n) else false
is_outside t next = false

-- the place of the first such token
abbrev pub first_outside : List Placed → Option ℕ
first_outside [] = None
first_outside (k ∷ ks) = if is_outside k.token (next_token ks) then Some k.place else first_outside ks

-- `not` and `local-name` are functions before a parenthesis.
abbrev pub named_function : Text → Symbol
named_function n = if bytes_eq n (codes "not") then not_function else (if bytes_eq n (codes "local-name") then local_name_function else plain (name n))

abbrev pub symbol_of : Token → Option Token → Symbol
symbol_of (name n) next = if is_opening next then named_function n else plain (name n)
symbol_of t next = plain t

abbrev pub symbols_of : List Placed → List Symbol
symbols_of [] = []
symbols_of (k ∷ ks) = symbol_of k.token (next_token ks) ∷ symbols_of ks

-- A path is a condition too.
abbrev pub IsSentence : List Symbol → Type 0
IsSentence ts = (c : Condition) × IsCondition ts c

abbrev pub GoesOn : List Symbol → Type 0
GoesOn ts = (rest : List Symbol) × IsSentence (ts ++ rest)

-- the place of a token, or the end of the text
abbrev pub place_of : List Placed → ℕ → ℕ → ℕ
place_of ks i end = elim (slice_get ks i) [ Some k ↦ k.place | None ↦ end ]

-- how many brackets of both kinds are open behind a token
abbrev pub open_behind : Token → ℕ → ℕ
open_behind opening_bracket opened = opened + 1
open_behind opening_parenthesis opened = opened + 1
open_behind closing_bracket opened = opened - 1
open_behind closing_parenthesis opened = opened - 1
open_behind t opened = opened

-- the place of the first bracket that opens too many
abbrev pub first_too_deep : ℕ → List Placed → Option ℕ
first_too_deep opened [] = None
first_too_deep opened (k ∷ ks) = if nat_lt max_nesting (open_behind k.token opened) then Some k.place else first_too_deep (open_behind k.token opened) ks

-- the text as tokens
pub record IsTokenized (s : Text) (ks : List Placed) (end : ℕ) (rest : Text) : Type 0 where
  pub some : 0 < length s
  pub few : length s ≤ max_length
  pub cut : IsCut 0 s ks end rest

-- the text as tokens of filters alone
pub record IsOfFilters (s : Text) (ks : List Placed) : Type 0 where
  pub end : ℕ
  pub tokenized : IsTokenized s ks end []
  pub inside : first_outside ks ≡ None

-- The outermost path starts at the document, also where it has no beginning.
abbrev pub at_document : Path → Path
at_document (path absolute ss) = path true ss

-- The text is read as this filter.
pub record Reads (f : Path) (s : Text) : Type 0 where
  pub tokens : List Placed
  pub of_filters : IsOfFilters s tokens
  pub spelled : Path
  pub is_path : IsPath (symbols_of tokens) spelled
  pub shallow : first_too_deep 0 tokens ≡ None
  pub is_filter : f ≡ at_document spelled

-- The refusals, each with its place: the first phase that fails decides.
abbrev pub HasLength : Text → ℕ → Type 0
HasLength s place = ((length s ≡ 0) × (place ≡ 0)) ⊎ ((max_length < length s) × (place ≡ max_length))

pub record HasBadToken (s : Text) (place : ℕ) : Type 0 where
  pub tokens : List Placed
  pub rest : Text
  pub tokenized : IsTokenized s tokens place rest
  pub goes_on : rest ≢ []

pub record IsOutOfProfile (s : Text) (place : ℕ) : Type 0 where
  pub tokens : List Placed
  pub end : ℕ
  pub tokenized : IsTokenized s tokens end []
  pub outside : first_outside tokens ≡ Some place

-- The first token with which no filter or condition goes on, or the end of the text.
pub record IsStop (ks : List Placed) (end place : ℕ) : Type 0 where
  pub no_sentence : IsSentence (symbols_of ks) → ⊥
  pub at : ℕ
  pub within : at ≤ length ks
  pub front : GoesOn (take at (symbols_of ks))
  pub stops : at < length ks → GoesOn (take (at + 1) (symbols_of ks)) → ⊥
  pub is_place : place ≡ place_of ks at end

pub record HasBadSyntax (s : Text) (place : ℕ) : Type 0 where
  pub tokens : List Placed
  pub of_filters : IsOfFilters s tokens
  pub stop : IsStop tokens (length s) place

pub record IsTooDeep (s : Text) (place : ℕ) : Type 0 where
  pub tokens : List Placed
  pub of_filters : IsOfFilters s tokens
  pub sentence : IsSentence (symbols_of tokens)
  pub deep : first_too_deep 0 tokens ≡ Some place

pub record IsNoPath (s : Text) (place : ℕ) : Type 0 where
  pub tokens : List Placed
  pub of_filters : IsOfFilters s tokens
  pub sentence : IsSentence (symbols_of tokens)
  pub shallow : first_too_deep 0 tokens ≡ None
  pub no_path : (p : Path) → IsPath (symbols_of tokens) p → ⊥
  pub is_place : place ≡ 0
