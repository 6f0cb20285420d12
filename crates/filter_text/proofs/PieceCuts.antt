-- The canonical text of a good filter is cut into its symbols.
use Rattle.std.proofs.Common.{◌≡◌, ◌≢◌, inl, inr, ℕ, ◌+◌, Bool, true, false, cond, not, ◌==◌, List, [], ◌∷◌, ◌++◌, length, Option, Some, None, refl, sym, ◌∙◌, ap, subst, append_assoc, length-append, eq-eqb, arith}
use Rattle.std.specs.Prelude.{codes, nat_lt}
use Rattle.std.specs.List.{list_all, prefix_len}
use Rattle.std.specs.Str.{chars}
use Rattle.std.proofs.lemmas.Bool.Decides.{nat_tests}
use Rattle.std.proofs.lemmas.List.Folds.{list_all-append}
use Rattle.xml_lexer.specs.Characters.{is_name, is_name_byte, is_blank, starts_name, is_xml_character}
use Rattle.xml_lexer.specs.Scan.{byte_at}
use Rattle.xml_lexer.proofs.Runs.{both as both-true, take-run, drop-run, byte_at-cons}
use Rattle.filter_tokens.specs.Token.{Token, slash, double_slash, opening_bracket, closing_bracket, opening_parenthesis, closing_parenthesis, at_sign, star, equals, differs, name, literal, foreign, Placed, IsQuote, is_other_than, IsSpelled, IsLongest, AreBlanks, IsCut}
use Rattle.filter_tokens.specs.Scan.{token_at, name_at, mark_at, literal_at, or_longer}
use Rattle.filter_tokens.proofs.TokenLaws.{Found, finds}
use Rattle.filter_text.specs.Filter.{Text, Axis, child, descendant, Part, element, attribute, Test, any, Comparison, equal, Path, path, Steps, arrived, step, Condition, any_of, all_of, not_so, alone, compare, Conditions, no_more, more, Operand, found, local_name}
use Rattle.filter_text.specs.Filter as filter
use Rattle.filter_text.specs.Grammar.{Symbol, plain, not_function, local_name_function, and_word, or_word}
use Rattle.filter_text.specs.Reading.{next_token, is_opening, is_keyword, is_outside, first_outside, named_function, symbol_of, symbols_of, open_behind, first_too_deep}
use Rattle.filter_text.proofs.Pieces.{Piece, tight, word, symbol_in, symbols, token_of, spelled_of, text_of, next_of, test_symbol, comparison_symbol, separated, signed, path_pieces, steps_pieces, bracketed_pieces, condition_pieces, listed_pieces, others_pieces, operand_pieces}
use Rattle.filter_text.proofs.Normal.{GoodLiteral, GoodTest, GoodPath, GoodSteps, EachGood, Good, Alternatives, Conjunctions, GoodOperand}

-- ---- what may stand side by side

abbrev pub EndsName : List Piece → Type 0
EndsName ps = (prefix_len is_name_byte (text_of ps) ≡ 0) × (is_opening (next_of ps) ≡ false)

abbrev pub OpensGroup : List Piece → Type 0
OpensGroup ps = (next_of ps ≡ Some opening_parenthesis) × (prefix_len is_name_byte (text_of ps) ≡ 0)

abbrev pub SymbolOk : Symbol → List Piece → Type 0
SymbolOk (plain slash) ps = byte_at 47 (text_of ps) ≡ None
SymbolOk (plain (name n)) ps = (is_name n ≡ true) × EndsName ps
SymbolOk (plain (literal v)) ps = GoodLiteral v
SymbolOk (plain foreign) ps = ⊥
SymbolOk not_function ps = OpensGroup ps
SymbolOk local_name_function ps = OpensGroup ps
SymbolOk s ps = Unit {0}

pub data IsWord : Symbol → Type 0 where
  by_and : IsWord and_word
  by_or : IsWord or_word

abbrev pub PieceOk : Piece → List Piece → Type 0
PieceOk (tight s) ps = SymbolOk s ps
PieceOk (word s) ps = IsWord s

abbrev pub Chain : List Piece → Type 0
Chain [] = Unit {0}
Chain (p ∷ ps) = PieceOk p ps × Chain ps

ends-steps : (ss : Steps) (rest : List Piece) → EndsName rest → EndsName (steps_pieces true ss rest)
ends-steps arrived rest h = h
ends-steps (step child part test cs ss) rest h = (refl, refl)
ends-steps (step descendant part test cs ss) rest h = (refl, refl)

ends-brackets : (cs : Conditions) (rest : List Piece) → EndsName rest → EndsName (bracketed_pieces cs rest)
ends-brackets no_more rest h = h
ends-brackets (more c cs) rest h = (refl, refl)

ends-word : (w : Symbol) (rest : List Piece) → IsWord w → EndsName (word w ∷ rest)
ends-word w rest by_and = (refl, refl)
ends-word w rest by_or = (refl, refl)

ends-others : (w : Symbol) (in_and : Bool) (cs : Conditions) (rest : List Piece) → IsWord w → EndsName rest → EndsName (others_pieces w in_and cs rest)
ends-others w in_and no_more rest is h = h
ends-others w in_and (more c cs) rest is h = ends-word w (condition_pieces in_and c (others_pieces w in_and cs rest)) is

ends-comparison : (how : Comparison) (rest : List Piece) → EndsName (tight (comparison_symbol how) ∷ rest)
ends-comparison equal rest = (refl, refl)
ends-comparison filter.differs rest = (refl, refl)

comparison-ok : (how : Comparison) (rest : List Piece) → SymbolOk (comparison_symbol how) rest
comparison-ok equal rest = tt
comparison-ok filter.differs rest = tt

test-chain : (test : Test) (rest : List Piece) → GoodTest test → EndsName rest → Chain rest → Chain (tight (test_symbol test) ∷ rest)
test-chain any rest g e h = (tt, h)
test-chain (filter.name n) rest g e h = ((g, e), h)

no-slash : (b : ℕ) → starts_name b ≡ true → (b == 47) ≡ false
no-slash b h = grind (arith, nat_tests)

name-no_slash : (n s : Text) → is_name n ≡ true → byte_at 47 (n ++ s) ≡ None
name-no_slash [] s h = absurd (let bad : ⊥ = cc in bad)
name-no_slash (b ∷ n) s h = let t = no-slash b (both-true (starts_name b) (list_all is_name_byte (b ∷ n)) h).0 in rw t refl

begins-step : (part : Part) (test : Test) (rest : List Piece) → GoodTest test → byte_at 47 (text_of (signed part (tight (test_symbol test) ∷ rest))) ≡ None
begins-step attribute test rest g = refl
begins-step element any rest g = refl
begins-step element (filter.name n) rest g = name-no_slash n (text_of rest) g

separated-chain : (sep : Bool) (axis : Axis) (rest : List Piece) → byte_at 47 (text_of rest) ≡ None → Chain rest → Chain (separated sep axis rest)
separated-chain true child rest b h = (b, h)
separated-chain true descendant rest b h = (tt, h)
separated-chain false axis rest b h = h

signed-chain : (part : Part) (rest : List Piece) → Chain rest → Chain (signed part rest)
signed-chain element rest h = h
signed-chain attribute rest h = (tt, h)

step-chain : (sep : Bool) (axis : Axis) (part : Part) (test : Test) (rest : List Piece) → GoodTest test → EndsName rest → Chain rest → Chain (separated sep axis (signed part (tight (test_symbol test) ∷ rest)))
step-chain sep axis part test rest g e h =
    separated-chain sep axis (signed part (tight (test_symbol test) ∷ rest)) (begins-step part test rest g) (signed-chain part (tight (test_symbol test) ∷ rest) (test-chain test rest g e h))

mutual
  pub path-chain : (p : Path) (rest : List Piece) → GoodPath p → EndsName rest → Chain rest → Chain (path_pieces p rest)
  path-chain (path absolute ss) rest g e h = steps-chain absolute ss rest g.1 e h

  steps-chain : (sep : Bool) (ss : Steps) (rest : List Piece) → GoodSteps ss → EndsName rest → Chain rest → Chain (steps_pieces sep ss rest)
  steps-chain sep arrived rest g e h = h
  steps-chain sep (step axis element test cs ss) rest g e h =
      step-chain sep axis element test (bracketed_pieces cs (steps_pieces true ss rest)) g.0 (ends-brackets cs (steps_pieces true ss rest) (ends-steps ss rest e))
      (brackets-chain cs (steps_pieces true ss rest) g.1 (ends-steps ss rest e) (steps-chain true ss rest g.2 e h))
  steps-chain sep (step axis attribute test no_more arrived) rest g e h = step-chain sep axis attribute test rest g e h
  steps-chain sep (step axis attribute test no_more (step next part name_test ds ss)) rest g e h = absurd g
  steps-chain sep (step axis attribute test (more c cs) arrived) rest g e h = absurd g
  steps-chain sep (step axis attribute test (more c cs) (step next part name_test ds ss)) rest g e h = absurd g

  brackets-chain : (cs : Conditions) (rest : List Piece) → EachGood cs → EndsName rest → Chain rest → Chain (bracketed_pieces cs rest)
  brackets-chain no_more rest g e h = h
  brackets-chain (more c cs) rest g e h =
      (tt, condition-chain false c (tight (plain closing_bracket) ∷ bracketed_pieces cs rest) g.0 (refl, refl) (tt, brackets-chain cs rest g.1 e h))

  condition-chain : (in_and : Bool) (c : Condition) (rest : List Piece) → Good c → EndsName rest → Chain rest → Chain (condition_pieces in_and c rest)
  condition-chain true (any_of cs) rest g e h = (tt, alternatives-chain cs (tight (plain closing_parenthesis) ∷ rest) g.1 (refl, refl) (tt, h))
  condition-chain false (any_of cs) rest g e h = alternatives-chain cs rest g.1 e h
  condition-chain true (all_of cs) rest g e h = conjunctions-chain cs rest g.1 e h
  condition-chain false (all_of cs) rest g e h = conjunctions-chain cs rest g.1 e h
  condition-chain true (not_so c) rest g e h = ((refl, refl), (tt, condition-chain false c (tight (plain closing_parenthesis) ∷ rest) g (refl, refl) (tt, h)))
  condition-chain false (not_so c) rest g e h = ((refl, refl), (tt, condition-chain false c (tight (plain closing_parenthesis) ∷ rest) g (refl, refl) (tt, h)))
  condition-chain true (alone o) rest g e h = operand-chain o rest g e h
  condition-chain false (alone o) rest g e h = operand-chain o rest g e h
  condition-chain true (compare a how b) rest g e h =
      operand-chain a (tight (comparison_symbol how) ∷ operand_pieces b rest) g.0 (ends-comparison how (operand_pieces b rest)) (comparison-ok how (operand_pieces b rest), operand-chain b rest g.1 e h)
  condition-chain false (compare a how b) rest g e h =
      operand-chain a (tight (comparison_symbol how) ∷ operand_pieces b rest) g.0 (ends-comparison how (operand_pieces b rest)) (comparison-ok how (operand_pieces b rest), operand-chain b rest g.1 e h)

  alternatives-chain : (cs : Conditions) (rest : List Piece) → Alternatives cs → EndsName rest → Chain rest → Chain (listed_pieces or_word false cs rest)
  alternatives-chain no_more rest g e h = h
  alternatives-chain (more c cs) rest g e h =
      condition-chain false c (others_pieces or_word false cs rest) g.1 (ends-others or_word false cs rest by_or e) (other-alternatives-chain cs rest g.2 e h)

  other-alternatives-chain : (cs : Conditions) (rest : List Piece) → Alternatives cs → EndsName rest → Chain rest → Chain (others_pieces or_word false cs rest)
  other-alternatives-chain no_more rest g e h = h
  other-alternatives-chain (more c cs) rest g e h =
      (by_or, condition-chain false c (others_pieces or_word false cs rest) g.1 (ends-others or_word false cs rest by_or e) (other-alternatives-chain cs rest g.2 e h))

  conjunctions-chain : (cs : Conditions) (rest : List Piece) → Conjunctions cs → EndsName rest → Chain rest → Chain (listed_pieces and_word true cs rest)
  conjunctions-chain no_more rest g e h = h
  conjunctions-chain (more c cs) rest g e h =
      condition-chain true c (others_pieces and_word true cs rest) g.1 (ends-others and_word true cs rest by_and e) (other-conjunctions-chain cs rest g.2 e h)

  other-conjunctions-chain : (cs : Conditions) (rest : List Piece) → Conjunctions cs → EndsName rest → Chain rest → Chain (others_pieces and_word true cs rest)
  other-conjunctions-chain no_more rest g e h = h
  other-conjunctions-chain (more c cs) rest g e h =
      (by_and, condition-chain true c (others_pieces and_word true cs rest) g.1 (ends-others and_word true cs rest by_and e) (other-conjunctions-chain cs rest g.2 e h))

  operand-chain : (o : Operand) (rest : List Piece) → GoodOperand o → EndsName rest → Chain rest → Chain (operand_pieces o rest)
  operand-chain (found p) rest g e h = path-chain p rest g e h
  operand-chain (filter.literal v) rest g e h = (g, h)
  operand-chain local_name rest g e h = ((refl, refl), (tt, (tt, h)))

-- ---- each symbol is the token at its place

record AtSymbol (s : Symbol) (behind : Text) (next : Option Token) : Type 0 where
  spelled : IsSpelled (token_of s) (spelled_of (token_of s))
  at : token_at (spelled_of (token_of s) ++ behind) ≡ Some (token_of s, behind)
  is_symbol : symbol_of (token_of s) next ≡ s
  inside : is_outside (token_of s) next ≡ false

name-exact : (n s : Text) → is_name n ≡ true → prefix_len is_name_byte s ≡ 0 → token_at (n ++ s) ≡ Some (name n, s)
unfolding token_at name_at
name-exact [] s h stop = absurd (let bad : ⊥ = cc in bad)
name-exact (b ∷ n) s h stop =
    let t = both-true (starts_name b) (list_all is_name_byte (b ∷ n)) h in
    let front = take-run is_name_byte (b ∷ n) s t.1 stop in
    let back = drop-run is_name_byte (b ∷ n) s t.1 stop in
    rw (t.0, front, back) refl

literal-exact : (quote : ℕ) (v s : Text) → list_all (is_other_than quote) v ≡ true → list_all is_xml_character (chars v) ≡ true → literal_at quote (v ++ (quote ∷ s)) ≡ Some (literal v, s)
unfolding literal_at
literal-exact quote v s all xml =
    let stop : prefix_len (is_other_than quote) (quote ∷ s) ≡ 0 = rw (eq-eqb quote quote refl) refl in
    rw (take-run (is_other_than quote) v (quote ∷ s) all stop, drop-run (is_other_than quote) v (quote ∷ s) all stop, byte_at-cons quote s, xml) refl

quoted-exact : (quote : ℕ) (v s : Text) → IsQuote quote → list_all (is_other_than quote) v ≡ true → list_all is_xml_character (chars v) ≡ true → token_at (quote ∷ (v ++ (quote ∷ s))) ≡ Some (literal v, s)
unfolding token_at mark_at
quoted-exact quote v s (inl e) all xml = subst (λ (q : ℕ). list_all (is_other_than q) v ≡ true → token_at (q ∷ (v ++ (q ∷ s))) ≡ Some (literal v, s)) (sym e) (λ h. literal-exact 34 v s h xml) all
quoted-exact quote v s (inr e) all xml = subst (λ (q : ℕ). list_all (is_other_than q) v ≡ true → token_at (q ∷ (v ++ (q ∷ s))) ≡ Some (literal v, s)) (sym e) (λ h. literal-exact 39 v s h xml) all

at-symbol : (s : Symbol) (ps : List Piece) → SymbolOk s ps → AtSymbol s (text_of ps) (next_of ps)
unfolding token_at mark_at
at-symbol (plain slash) ps h = record { spelled = refl; at = ap (λ o. or_longer o double_slash slash (text_of ps)) h; is_symbol = refl; inside = refl }
at-symbol (plain (name n)) ps h =
    record { spelled = (refl, h.0); at = name-exact n (text_of ps) h.0 h.1.0; is_symbol = ap (λ b. cond b (named_function n) (plain (name n))) h.1.1; inside = ap (λ b. cond b (not (is_keyword n)) false) h.1.1 }
at-symbol (plain (literal v)) ps (quote, q, is, all, xml) =
    record {
      spelled = (quote, q, is, all, xml);
      at = ap (λ x. token_at (x ++ text_of ps)) is ∙ ap (λ x. token_at (quote ∷ x)) (append_assoc v (quote ∷ []) (text_of ps)) ∙ quoted-exact quote v (text_of ps) q all xml;
      is_symbol = refl;
      inside = refl;
    }
at-symbol (plain foreign) ps h = absurd h
at-symbol not_function ps h =
    record { spelled = (refl, refl); at = name-exact (codes "not") (text_of ps) refl h.1; is_symbol = ap (symbol_of (name (codes "not"))) h.0; inside = ap (is_outside (name (codes "not"))) h.0 }
at-symbol local_name_function ps h =
    record { spelled = (refl, refl); at = name-exact (codes "local-name") (text_of ps) refl h.1; is_symbol = ap (symbol_of (name (codes "local-name"))) h.0; inside = ap (is_outside (name (codes "local-name"))) h.0 }
at-symbol (plain double_slash) ps h = record { spelled = refl; at = refl; is_symbol = refl; inside = refl }
at-symbol (plain opening_bracket) ps h = record { spelled = refl; at = refl; is_symbol = refl; inside = refl }
at-symbol (plain closing_bracket) ps h = record { spelled = refl; at = refl; is_symbol = refl; inside = refl }
at-symbol (plain opening_parenthesis) ps h = record { spelled = refl; at = refl; is_symbol = refl; inside = refl }
at-symbol (plain closing_parenthesis) ps h = record { spelled = refl; at = refl; is_symbol = refl; inside = refl }
at-symbol (plain at_sign) ps h = record { spelled = refl; at = refl; is_symbol = refl; inside = refl }
at-symbol (plain star) ps h = record { spelled = refl; at = refl; is_symbol = refl; inside = refl }
at-symbol (plain equals) ps h = record { spelled = refl; at = refl; is_symbol = refl; inside = refl }
at-symbol (plain differs) ps h = record { spelled = refl; at = refl; is_symbol = refl; inside = refl }

at-word : (w : Symbol) (behind : Text) (next : Option Token) → IsWord w → AtSymbol w (32 ∷ behind) next
at-word w behind next by_and =
    record { spelled = (refl, refl); at = name-exact (codes "and") (32 ∷ behind) refl refl; is_symbol = same (is_opening next); inside = within (is_opening next) }
  where
    same : (b : Bool) → cond b (named_function (codes "and")) and_word ≡ and_word
    same true = refl
    same false = refl

    within : (b : Bool) → cond b (not (is_keyword (codes "and"))) false ≡ false
    within true = refl
    within false = refl
at-word w behind next by_or =
    record { spelled = (refl, refl); at = name-exact (codes "or") (32 ∷ behind) refl refl; is_symbol = same (is_opening next); inside = within (is_opening next) }
  where
    same : (b : Bool) → cond b (named_function (codes "or")) or_word ≡ or_word
    same true = refl
    same false = refl

    within : (b : Bool) → cond b (not (is_keyword (codes "or"))) false ≡ false
    within true = refl
    within false = refl

-- ---- the cut

-- whether some bracket opens too many
abbrev pub deeper : ℕ → List Symbol → Bool
deeper n [] = false
deeper n (s ∷ ss) = cond (nat_lt 16 (open_behind (token_of s) n)) true (deeper (open_behind (token_of s) n) ss)

pub record PiecesCut (from : ℕ) (s : Text) (ps : List Piece) : Type 0 where
  pub ks : List Placed
  pub end : ℕ
  pub cut : IsCut from s ks end []
  pub next : next_token ks ≡ next_of ps
  pub same : symbols_of ks ≡ symbols ps
  pub inside : first_outside ks ≡ None
  pub shallow : (n : ℕ) → deeper n (symbols ps) ≡ false → first_too_deep n ks ≡ None

no-token : token_at [] ≡ None
unfolding token_at
no-token = refl

nothing-left : (t : Token) (spelled behind : Text) → IsSpelled t spelled → [] ≢ spelled ++ behind
nothing-left t spelled behind is f =
    let P : Option (Token × Text) → Type 0 = λ o. Found t behind o in
    subst P (ap token_at (sym f) ∙ no-token) (finds t spelled behind is)

longest-at : (spelled behind : Text) (t : Token) → token_at (spelled ++ behind) ≡ Some (t, behind) → IsLongest spelled behind
longest-at spelled behind t at other longer rest is f =
    let P : Option (Token × Text) → Type 0 = λ o. Found other rest o in
    let got = subst P (ap token_at (sym f) ∙ at) (finds other longer rest is) in
    let short = got.0.short in
    let sizes : length spelled + length behind ≡ length longer + length rest = sym (length-append spelled behind) ∙ ap length f ∙ length-append longer rest in
    omega arith

shallow-more : (b : Bool) (m place : ℕ) (ks : List Placed) (ss : List Symbol) → (deeper m ss ≡ false → first_too_deep m ks ≡ None) → cond b true (deeper m ss) ≡ false → cond b (Some place) (first_too_deep m ks) ≡ None
shallow-more true m place ks ss f h = cc
shallow-more false m place ks ss f h = f h

add : (from : ℕ) (gap s behind : Text) (w : Symbol) (p : Piece) (ps : List Piece) → symbol_in p ≡ w → AreBlanks gap → s ≡ gap ++ (spelled_of (token_of w) ++ behind) → AtSymbol w behind (next_of ps) →
    PiecesCut (from + length gap + length (spelled_of (token_of w))) behind ps → PiecesCut from s (p ∷ ps)
add from gap s behind w p ps is blanks e at r =
    let t = token_of w in
    let k : Placed = record { token = t; place = from + length gap } in
    record {
      ks = k ∷ r.ks;
      end = r.end;
      cut = (gap, spelled_of t, behind, blanks, e ∙ sym (append_assoc gap (spelled_of t) behind), refl, at.spelled, longest-at (spelled_of t) behind t at.at, r.cut);
      next = ap (λ x. Some (token_of x)) (sym is);
      same = ap (λ x. symbol_of t x ∷ symbols_of r.ks) r.next ∙ ap (λ x. x ∷ symbols_of r.ks) (at.is_symbol ∙ sym is) ∙ ap (λ x. symbol_in p ∷ x) r.same;
      inside = ap (λ x. cond (is_outside t x) (Some k.place) (first_outside r.ks)) r.next ∙ ap (λ b. cond b (Some k.place) (first_outside r.ks)) at.inside ∙ r.inside;
      shallow = λ n h. shallow-more (nat_lt 16 (open_behind t n)) (open_behind t n) k.place r.ks (symbols ps) (r.shallow (open_behind t n))
          (subst (λ (x : Symbol). cond (nat_lt 16 (open_behind (token_of x) n)) true (deeper (open_behind (token_of x) n) (symbols ps)) ≡ false) is h);
    }

pub pieces-cut : (ps : List Piece) (from : ℕ) (gap : Text) → Chain ps → AreBlanks gap → PiecesCut from (gap ++ text_of ps) ps
pieces-cut [] from gap c blanks =
    record { ks = []; end = from + length gap; cut = (gap, blanks, refl, refl, refl, nothing-left); next = refl; same = refl; inside = refl; shallow = λ n h. refl }
pieces-cut (tight s ∷ ps) from gap c blanks =
    add from gap _ (text_of ps) s (tight s) ps refl blanks refl (at-symbol s ps c.0) (pieces-cut ps (from + length gap + length (spelled_of (token_of s))) [] c.1 refl)
pieces-cut (word s ∷ ps) from gap c blanks =
    let wide = gap ++ 32 ∷ [] in
    let sp = spelled_of (token_of s) in
    let still : AreBlanks wide = (let both = list_all-append is_blank gap (32 ∷ []) in rw (both, blanks) refl) in
    let e : gap ++ ((32 ∷ (sp ++ 32 ∷ [])) ++ text_of ps) ≡ wide ++ (sp ++ (32 ∷ text_of ps)) = ap (λ x. gap ++ (32 ∷ x)) (append_assoc sp (32 ∷ []) (text_of ps)) ∙ sym (append_assoc gap (32 ∷ []) (sp ++ (32 ∷ text_of ps))) in
    add from wide _ (32 ∷ text_of ps) s (word s) ps refl still e (at-word s (text_of ps) (next_of ps) c.0) (pieces-cut ps (from + length wide + length sp) (32 ∷ []) c.1 refl)
