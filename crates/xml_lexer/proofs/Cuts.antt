-- Cutting by the reader gives the longest list of tokens, and there is only one.
use Rattle.std.proofs.Common.{◌≡◌, ◌+◌, ◌≤◌, ◌<◌, ℕ, zero, suc, Bool, true, false, List, [], ◌∷◌, ◌++◌, length, Option, Some, None, refl, sym, ◌∙◌, ap, subst, arith, append_assoc, length-append}
use Rattle.std.specs.Prelude.{codes}
use Rattle.xml_lexer.specs.Characters.{Text, is_blank}
use Rattle.xml_lexer.specs.Token.{Token, declaration, instruction, comment, cdata, start, end, reference, text}
use Rattle.xml_lexer.specs.Spelling.{IsSpelled, IsDeclaration, IsPart, IsOptionalPart}
use Rattle.xml_lexer.specs.Cut.{MayStand, Begins, Follow, IsCut}
use Rattle.xml_lexer.specs.Scan.{instruction_at, declaration_at}
use Rattle.xml_lexer.specs.Cutting.{when, markup_at, token_at, first_at, before_more, tokens_at}
use Rattle.xml_lexer.proofs.MarkupLaws.{blank_not_name}
use Rattle.xml_lexer.proofs.DeclarationLaws.{declaration_at-complete, declaration_at-sound}
use Rattle.xml_lexer.proofs.TokenLaws.{IsPlain, token_at-complete, Reads, token_at-sound}
use Rattle.xml_lexer.proofs.CutLaws as laws

-- ---- a declaration begins no other token

record BeginsBlank (s : Text) : Type 0 where
  first : ℕ
  others : Text
  is : s ≡ first ∷ others
  blank : is_blank first ≡ true

part_begins : (name value s more : Text) → IsPart name value s → BeginsBlank (s ++ more)
part_begins name value s more (first, gap, before, after, quote, is_first, b0, b1, b2, q, all, is) =
    record { first = first; others = (gap ++ name ++ before ++ 61 ∷ after ++ quote ∷ value ++ quote ∷ []) ++ more; is = ap (λ t. t ++ more) is; blank = is_first }

parts_begin : (version encoding standalone : Option Text) (one two three more : Text) → IsOptionalPart (codes "version") version one → IsOptionalPart (codes "encoding") encoding two →
    IsOptionalPart (codes "standalone") standalone three → 0 < length (one ++ two ++ three) → BeginsBlank (one ++ (two ++ (three ++ more)))
parts_begin None None None one two three more a b c some = absurd (let sizes : length (one ++ two ++ three) ≡ 0 = rw (a, b, c) refl in omega arith)
parts_begin None None (Some z) one two three more a b c some = rw (a, b) (part_begins (codes "standalone") z three more c)
parts_begin None (Some y) standalone one two three more a b c some = rw a (part_begins (codes "encoding") y two (three ++ more) b)
parts_begin (Some x) encoding standalone one two three more a b c some = part_begins (codes "version") x one (two ++ (three ++ more)) a

xml_no_token : (b : ℕ) (s : Text) → is_blank b ≡ true → token_at (codes "<?xml" ++ (b ∷ s)) ≡ None
unfolding token_at markup_at instruction_at
xml_no_token b s h = let ends = blank_not_name b h in rw ends refl

declared_no_token : (encoding : Option Text) (s rest : Text) → IsDeclaration encoding s → token_at (s ++ rest) ≡ None
declared_no_token encoding s rest (version, standalone, one, two, three, gap, p1, p2, p3, some, blanks, is) =
    let more = gap ++ (codes "?>" ++ rest) in
    let whole : s ++ rest ≡ codes "<?xml" ++ (one ++ (two ++ (three ++ more))) = ap (λ t. t ++ rest) is ∙ simp append_assoc in
    let begins = parts_begin version encoding standalone one two three more p1 p2 p3 some in
    ap token_at (whole ∙ ap (λ t. codes "<?xml" ++ t) begins.is) ∙ xml_no_token begins.first begins.others begins.blank

pub not_both : (s : Text) (x : Option Text × Text) (y : Token × Text) → declaration_at s ≡ Some x → token_at s ≡ Some y → ⊥
not_both s x y d t =
    let found = declaration_at-sound s x.0 x.1 d in
    let none : token_at s ≡ None = ap token_at found.split ∙ declared_no_token x.0 found.declared x.1 found.is_declaration in
    let bad : None ≡ Some y = sym none ∙ t in
    cc

-- ---- the reader finds each token that a text begins with

first_plain : (first : Bool) (bytes : Text) (y : Token × Text) → token_at bytes ≡ Some y → first_at first bytes ≡ Some y
unfolding first_at
first_plain false bytes y h = h
first_plain true bytes y h = by_declaration (declaration_at bytes) refl
  where
    by_declaration : (o : Option (Option Text × Text)) → declaration_at bytes ≡ o → when o (λ x. Some (declaration x.0, x.1)) (token_at bytes) ≡ Some y
    by_declaration None e = h
    by_declaration (Some x) e = absurd (not_both bytes x y e h)

first_declared : (bytes : Text) (x : Option Text × Text) → declaration_at bytes ≡ Some x → first_at true bytes ≡ Some (declaration x.0, x.1)
unfolding first_at
first_declared bytes x h = rw h refl

first_neither : (first : Bool) (bytes : Text) → declaration_at bytes ≡ None → token_at bytes ≡ None → first_at first bytes ≡ None
unfolding first_at
first_neither false bytes d t = t
first_neither true bytes d t = rw d t

first_false : (bytes : Text) → first_at false bytes ≡ token_at bytes
unfolding first_at
first_false bytes = refl

pub finds : (first : Bool) (bytes : Text) (k : Token) (rest : Text) → Begins first bytes k rest → first_at first bytes ≡ Some (k, rest)
finds first bytes (declaration encoding) rest begins =
    let found : declaration_at bytes ≡ Some (encoding, rest) = ap declaration_at begins.is_front ∙ declaration_at-complete encoding begins.spelled rest begins.is_spelled in
    ap (λ f. first_at f bytes) begins.may_stand ∙ first_declared bytes (encoding, rest) found
finds first bytes instruction rest begins = first_plain first bytes (instruction, rest) (token_at-complete first bytes instruction rest tt begins)
finds first bytes comment rest begins = first_plain first bytes (comment, rest) (token_at-complete first bytes comment rest tt begins)
finds first bytes (cdata run) rest begins = first_plain first bytes (cdata run, rest) (token_at-complete first bytes (cdata run) rest tt begins)
finds first bytes (start name given e) rest begins = first_plain first bytes (start name given e, rest) (token_at-complete first bytes (start name given e) rest tt begins)
finds first bytes (end name) rest begins = first_plain first bytes (end name, rest) (token_at-complete first bytes (end name) rest tt begins)
finds first bytes (reference c) rest begins = first_plain first bytes (reference c, rest) (token_at-complete first bytes (reference c) rest tt begins)
finds first bytes (text run) rest begins = first_plain first bytes (text run, rest) (token_at-complete first bytes (text run) rest tt begins)

-- ---- the list that the reader makes

spelled_len : (k : Token) (s : Text) → IsPlain k → IsSpelled k s → 0 < length s
spelled_len (declaration encoding) s plain is = absurd plain
spelled_len instruction s plain (target, body, rest, named, other, is, up, begins) = rw is (omega arith)
spelled_len comment s plain (body, rest, is, up) = rw is (omega arith)
spelled_len (cdata run) s plain (rest, is, up) = rw is (omega arith)
spelled_len (start name given e) s plain (attributes, gap, spelled, all, fits, blanks, is) = rw is (omega arith)
spelled_len (end name) s plain (gap, spelled, blanks, is) = rw is (omega arith)
spelled_len (reference c) s plain (body, named, is) = rw is (omega arith)
spelled_len (text run) s plain (some, all, is) = rw is some

shorter : (bytes : Text) (k : Token) (rest : Text) → Reads bytes k rest → length rest < length bytes
shorter bytes k rest reads =
    let size : length bytes ≡ length reads.begins.spelled + length rest = ap length reads.begins.is_front ∙ length-append reads.begins.spelled rest in
    omega (arith, spelled_len k reads.begins.spelled reads.plain reads.begins.is_spelled, size)

pub record Cuts (s : Text) (x : List Token × Text) : Type 0 where
  pub follow : Follow false s x.0 x.1
  pub stops : token_at x.1 ≡ None

no_token : token_at [] ≡ None
unfolding token_at
no_token = refl

pub tokens_at-cuts : (n : ℕ) (s : Text) → length s ≤ n → Cuts s (tokens_at n s)
unfolding tokens_at
tokens_at-cuts zero [] le = record { follow = refl; stops = no_token }
tokens_at-cuts zero (b ∷ s) le = absurd (omega arith)
tokens_at-cuts (suc n) s le = by_token (token_at s) refl (λ t fits. tokens_at-cuts n t fits)
  where
    by_token : (o : Option (Token × Text)) → token_at s ≡ o → ((t : Text) → length t ≤ n → Cuts t (tokens_at n t)) → Cuts s (before_more o s (tokens_at n))
    by_token None e others = record { follow = refl; stops = e }
    by_token (Some x) e others =
        let reads = token_at-sound s x.0 x.1 e in
        let less = shorter s x.0 x.1 reads in
        let more = others x.1 (omega arith) in
        record { follow = (x.1, reads.begins, more.follow); stops = more.stops }

pub stops_behind : (ks : List Token) (after : Text) → token_at after ≡ None → laws.Stops first_at finds false ks after
stops_behind [] after h = first_false after ∙ h
stops_behind (k ∷ ks) after h = stops_behind ks after h

may_begin : (k : Token) (after : Text) → MayStand false k after → MayStand true k after
may_begin (declaration encoding) after stand = refl
may_begin instruction after stand = tt
may_begin comment after stand = tt
may_begin (cdata run) after stand = tt
may_begin (start name given e) after stand = tt
may_begin (end name) after stand = tt
may_begin (reference c) after stand = tt
may_begin (text run) [] stand = tt
may_begin (text run) (b ∷ after) stand = stand

follow_first : (s : Text) (ks : List Token) (after : Text) → Follow false s ks after → Follow true s ks after
follow_first s [] after follow = follow
follow_first s (k ∷ ks) after (next, begins, more) =
    (next, record { spelled = begins.spelled; is_spelled = begins.is_spelled; is_front = begins.is_front; may_stand = may_begin k next begins.may_stand }, more)

stops_first : (ks : List Token) (s after : Text) → Follow true s ks after → declaration_at s ≡ None → token_at after ≡ None → laws.Stops first_at finds true ks after
stops_first [] s after follow d h = first_neither true after (ap declaration_at (sym follow) ∙ d) h
stops_first (k ∷ ks) s after follow d h = stops_behind ks after h

-- the cut of a text without a declaration
pub plain_cut : (n : ℕ) (s : Text) → length s ≤ n → declaration_at s ≡ None → IsCut s (tokens_at n s).0 (tokens_at n s).1
plain_cut n s le d =
    let cuts = tokens_at-cuts n s le in
    let follow = follow_first s (tokens_at n s).0 (tokens_at n s).1 cuts.follow in
    laws.cut first_at finds s (tokens_at n s).0 (tokens_at n s).1 follow (stops_first (tokens_at n s).0 s (tokens_at n s).1 follow d cuts.stops)

-- the cut of a text with one
pub declared_cut : (n : ℕ) (encoding : Option Text) (declared s : Text) → length s ≤ n → IsDeclaration encoding declared →
    IsCut (declared ++ s) (declaration encoding ∷ (tokens_at n s).0) (tokens_at n s).1
declared_cut n encoding declared s le is =
    let cuts = tokens_at-cuts n s le in
    let follow : Follow true (declared ++ s) (declaration encoding ∷ (tokens_at n s).0) (tokens_at n s).1 =
    (s, record { spelled = declared; is_spelled = is; is_front = refl; may_stand = refl }, cuts.follow) in
    laws.cut first_at finds (declared ++ s) (declaration encoding ∷ (tokens_at n s).0) (tokens_at n s).1 follow (stops_behind (tokens_at n s).0 (tokens_at n s).1 cuts.stops)

-- ---- there is only one

no_declaration : declaration_at [] ≡ None
unfolding declaration_at
no_declaration = refl

nothing_first : (first : Bool) → first_at first [] ≡ None
nothing_first first = first_neither first [] no_declaration no_token

stops_end : (first : Bool) (ks : List Token) → laws.Stops first_at finds first ks []
stops_end first [] = nothing_first first
stops_end first (k ∷ ks) = stops_end false ks

pub covering_longest : (bytes : Text) (ks others : List Token) (rest : Text) → Follow true bytes ks [] → Follow true bytes others rest → length others ≤ length ks
covering_longest bytes ks others rest a b = laws.longest first_at finds true bytes ks others [] rest a (stops_end true ks) b

pub same_follow : (first : Bool) (bytes : Text) (ks others : List Token) (after rest : Text) → Follow first bytes ks after → Follow first bytes others rest → length ks ≡ length others → (ks ≡ others) × (after ≡ rest)
same_follow first bytes [] [] after rest a b e = (refl, sym a ∙ b)
same_follow first bytes [] (k ∷ others) after rest a b e = absurd (omega (arith, e))
same_follow first bytes (l ∷ ks) [] after rest a b e = absurd (omega (arith, e))
same_follow first bytes (l ∷ ks) (k ∷ others) after rest a b e =
    let same = laws.same_token first_at finds first bytes l k a.0 b.0 a.1 b.1 in
    let P : Text → Type 0 = λ t. Follow false t ks after in
    let more = same_follow false b.0 ks others after rest (subst P same.1 a.2) b.2 (omega (arith, e)) in
    (let head = same.0 in let tail = more.0 in cc, more.1)

pub same_tokens : (bytes : Text) (ks others : List Token) → Follow true bytes ks [] → Follow true bytes others [] → ks ≡ others
same_tokens bytes ks others a b =
    let le = covering_longest bytes ks others [] a b in
    let ge = covering_longest bytes others ks [] b a in
    (same_follow true bytes ks others [] [] a b (omega (arith, le, ge))).0

pub same_cut : (bytes : Text) (ks others : List Token) (after rest : Text) → IsCut bytes ks after → IsCut bytes others rest → (ks ≡ others) × (after ≡ rest)
same_cut bytes ks others after rest a b = same_follow true bytes ks others after rest a.0 b.0 (let le = a.1 others rest b.0 in let ge = b.1 ks after a.0 in omega (arith, le, ge))
