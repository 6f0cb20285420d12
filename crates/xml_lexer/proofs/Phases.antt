-- What is left of a text, and what that says of it.
use Rattle.std.proofs.Common.{◌≡◌, ◌+◌, ◌-◌, ◌≤◌, ◌<◌, inl, inr, ℕ, suc, Bool, true, false, cond, List, [], ◌∷◌, ◌++◌, length, drop, Option, Some, None, refl, sym, ◌∙◌, ap, subst, arith, append_assoc, append-nil, length-append, IsUtf8}
use Rattle.std.specs.Prelude.{slice_index, nat_eq, nat_lt, Any, position, codes, Result, Ok, Err, MatchResult}
use Rattle.std.specs.List.{starts_with, position_or_len}
use Rattle.std.specs.Str.{str_eq_ignore_ascii_case}
use Rattle.std.proofs.lemmas.Str.{IsUtf8-drop, IsCharBoundary-after_ascii}
use Rattle.std.proofs.lemmas.List.{take-append-drop}
use Rattle.std.proofs.lemmas.List.Sums.{passes_at_first, fails_before_first}
use Rattle.std.proofs.lemmas.Bool.Decides.{nat_tests}
use Rattle.xml_lexer.specs.Characters.{Text}
use Rattle.xml_lexer.specs.Token.{Token, declaration}
use Rattle.xml_lexer.specs.Spelling.{IsDeclaration}
use Rattle.xml_lexer.specs.Cut.{Follow, IsCut}
use Rattle.xml_lexer.specs.Phases.{mark_len, without_mark, BeginsDeclared, KeepsEncoding, IsText, IsNoTextAt, IsFrontOf, Covers, StopsAt, IsTokensOf}
use Rattle.xml_lexer.specs.Scan.{declaration_at, front_len}
use Rattle.xml_lexer.specs.Cutting.{when, tokens_at}
use Rattle.xml_lexer.specs.Reading.{foreign_in, foreign_at, front_at, cut_behind, cut_at, stop_at, AreTokensOf, RefusesBehind}
use Rattle.xml_lexer.specs.Refusal.{Refuses}
use Rattle.xml_lexer.specs.declared.fault.TokenFault.{TokenFault}
use Rattle.xml_lexer.specs.declared.fault.TokenFault.TheVariants.{NotText, BadToken, Doctype, TooManyTokens, NoMemory}
use Rattle.std.proofs.lemmas.List.{get_or_default}
use Rattle.std.proofs.Math.Seq.{drop-append-add}
use Rattle.xml_lexer.proofs.Runs.{same_pair}
use Rattle.xml_lexer.proofs.Options.{position-none, position-some}
use Rattle.xml_lexer.proofs.ReferenceLaws.{chosen}
use Rattle.xml_lexer.proofs.DeclarationLaws.{declaration_at-complete, ReadsDeclaration, declaration_at-sound}
use Rattle.xml_lexer.proofs.Cuts.{tokens_at-cuts, plain_cut, declared_cut}
use Rattle.xml_lexer.proofs.Fronts.{front-taken}

-- ---- the declaration of a text

pub declared-read : (s : Text) (encoding : Option Text) (declared rest : Text) → BeginsDeclared s encoding declared rest → declaration_at s ≡ Some (encoding, rest)
declared-read s encoding declared rest (is, split) = ap declaration_at split ∙ declaration_at-complete encoding declared rest is

undeclared : (s : Text) → declaration_at s ≡ None → (encoding : Option Text) (declared rest : Text) → BeginsDeclared s encoding declared rest → ⊥
undeclared s none encoding declared rest begins = let bad : ◌≡◌ {A = Option (Option Text × Text)} (Some (encoding, rest)) None = sym (declared-read s encoding declared rest begins) ∙ none in cc

-- a part of the text has no declaration where the text has none
front_undeclared : (s front more : Text) → s ≡ front ++ more → declaration_at s ≡ None → declaration_at front ≡ None
front_undeclared s front more split none = by_read (declaration_at front) refl
  where
    by_read : (o : Option (Option Text × Text)) → declaration_at front ≡ o → o ≡ None
    by_read None e = refl
    by_read (Some x) e =
        let found = declaration_at-sound front x.0 x.1 e in
        absurd (undeclared s none x.0 found.declared (x.1 ++ more) (found.is_declaration, split ∙ ap (λ t. t ++ more) found.split ∙ append_assoc found.declared x.1 more))

-- ---- the encoding

keeps_undeclared : (s : Text) → declaration_at s ≡ None → KeepsEncoding s
keeps_undeclared s none encoding declared rest begins some = absurd (undeclared s none (Some encoding) declared rest begins)

same_encoding : (s : Text) (o : Option Text) (r : Text) → declaration_at s ≡ Some (o, r) → (encoding declared rest : Text) → BeginsDeclared s (Some encoding) declared rest → o ≡ Some encoding
same_encoding s o r read encoding declared rest begins =
    (same_pair o (Some encoding) r rest (sym read ∙ declared-read s (Some encoding) declared rest begins)).0

some_injective : {A : Type 0} (x y : A) → Some x ≡ Some y → x ≡ y
some_injective x y h = cc

none_above : (s : Text) → position (nat_lt 127) s ≡ None → Any (λ b. 127 < b) s → ⊥
none_above s h (k, x, lt, is, big) =
    let long : length s ≤ position_or_len (nat_lt 127) s = at_least _ _ (position-none (nat_lt 127) s h) in
    let fails = fails_before_first (nat_lt 127) s k x (omega arith) in
    not_above x (sym (ap (nat_lt 127) is) ∙ fails) big
  where
    at_least : (n m : ℕ) → nat_lt n m ≡ false → m ≤ n
    at_least n m e = grind (arith, nat_tests)

    not_above : (x : ℕ) → nat_lt 127 x ≡ false → 127 < x → ⊥
    not_above x e h = grind (arith, nat_tests)

pub keeps : (s : Text) → foreign_at s ≡ None → KeepsEncoding s
unfolding foreign_at
keeps s h = by_read (declaration_at s) refl h
  where
    by_encoding : (o : Option Text) (r : Text) → declaration_at s ≡ Some (o, r) → foreign_in o s ≡ None → KeepsEncoding s
    by_encoding None r read h encoding declared rest begins some =
        absurd (let bad : None ≡ Some encoding = same_encoding s None r read encoding declared rest begins in let no_way : ⊥ = cc in no_way)
    by_encoding (Some e) r read h encoding declared rest begins some =
        let same : e ≡ encoding = some_injective e encoding (same_encoding s (Some e) r read encoding declared rest begins) in
        ap (λ x. str_eq_ignore_ascii_case x (codes "UTF-8")) (sym same) ∙ by_test (str_eq_ignore_ascii_case e (codes "UTF-8")) h some
      where
        by_test : (b : Bool) → cond b None (position (nat_lt 127) s) ≡ None → Any (λ b. 127 < b) s → b ≡ true
        by_test true h some = refl
        by_test false h some = absurd (none_above s h some)

    by_read : (o : Option (Option Text × Text)) → declaration_at s ≡ o → when o (λ x. foreign_in x.0 s) None ≡ None → KeepsEncoding s
    by_read None read h = keeps_undeclared s read
    by_read (Some x) read h = by_encoding x.0 x.1 read h

record Above (s : Text) (at : ℕ) : Type 0 where
  here : 127 < slice_index s at
  before : (i : ℕ) → i < at → slice_index s i ≤ 127
  some : Any (λ b. 127 < b) s

above : (s : Text) (at : ℕ) → position (nat_lt 127) s ≡ Some at → Above s at
above s at h =
    let t = position-some (nat_lt 127) s at h in
    let lt : position_or_len (nat_lt 127) s < length s = below _ _ t.0 in
    let here : 127 < slice_index s at = (let p = passes_at_first (nat_lt 127) s 0 lt in is_above _ (sym (ap (λ i. nat_lt 127 (slice_index s i)) t.1) ∙ p)) in
    record {
      here = here;
      before = λ i l. not_above _ (fails_before_first (nat_lt 127) s i 0 (omega (arith, t.1)));
      some = (at, slice_index s at, omega (arith, t.1), get_or_default s at (slice_index s at) 0 (omega (arith, t.1)), here);
    }
  where
    below : (n m : ℕ) → nat_lt n m ≡ true → n < m
    below n m e = grind (arith, nat_tests)

    is_above : (x : ℕ) → nat_lt 127 x ≡ true → 127 < x
    is_above x e = grind (arith, nat_tests)

    not_above : (x : ℕ) → nat_lt 127 x ≡ false → x ≤ 127
    not_above x e = grind (arith, nat_tests)

pub foreign : (s : Text) (at : ℕ) → IsUtf8 s → foreign_at s ≡ Some at → IsNoTextAt s at
unfolding foreign_at
foreign s at u h = by_read (declaration_at s) refl h
  where
    by_encoding : (o : Option Text) (r : Text) → declaration_at s ≡ Some (o, r) → foreign_in o s ≡ Some at → IsNoTextAt s at
    by_encoding None r read h = absurd (let bad : ⊥ = cc in bad)
    by_encoding (Some e) r read h = elim (chosen (str_eq_ignore_ascii_case e (codes "UTF-8")) _ _ _ h) [
      | inl t ↦ absurd (let bad = t.1 in let no_way : ⊥ = cc in no_way)
      | inr t ↦
          let a = above s at t.1 in
          let found = declaration_at-sound s (Some e) r read in
          inr (
            u,
            λ keeps. (let yes = keeps e found.declared r (found.is_declaration, found.split) a.some in
                let bad : true ≡ false = sym yes ∙ t.0 in cc),
            a.here,
            a.before,
          )
    ]

    by_read : (o : Option (Option Text × Text)) → declaration_at s ≡ o → when o (λ x. foreign_in x.0 s) None ≡ Some at → IsNoTextAt s at
    by_read None read h = absurd (let bad : ⊥ = cc in bad)
    by_read (Some x) read h = by_encoding x.0 x.1 read h

-- ---- what is left

-- the cut of the front, with where it ends
record Ends (s : Text) (ks : List Token) (left : ℕ) : Type 0 where
  front : Text
  after : Text
  is_front : IsFrontOf front s
  is_cut : IsCut front ks after
  ends : length s + length after ≡ length front + left
  within : length after ≤ length front
  is_taken : (more : Text) × (s ≡ front ++ more)

follow_within : (first : Bool) (s : Text) (ks : List Token) (after : Text) → Follow first s ks after → length after ≤ length s
follow_within first s [] after e = (let size = ap length e in omega (arith, size))
follow_within first s (k ∷ ks) after (next, begins, more) =
    let less = follow_within false next ks after more in
    let size : length s ≡ length begins.spelled + length next = ap length begins.is_front ∙ length-append begins.spelled next in
    omega (arith, less, size)

pub tokens_at-within : (s : Text) → length (tokens_at (length s) s).1 ≤ length s
tokens_at-within s = follow_within false s _ _ (tokens_at-cuts (length s) s (omega arith)).follow

sizes : (s : Text) → length s ≡ length (front_at s) + length (drop (front_len s) s)
sizes s = ap length (sym (take-append-drop (front_len s) s)) ∙ length-append (front_at s) (drop (front_len s) s)

plain_ends : (s : Text) → IsUtf8 s → declaration_at s ≡ None → Ends s (cut_behind [] s).0 (cut_behind [] s).1
unfolding cut_behind
plain_ends s u none =
    let front = front_at s in
    let split = sym (take-append-drop (front_len s) s) in
    let cut = plain_cut (length front) front (omega arith) (front_undeclared s front (drop (front_len s) s) split none) in
    record {
      front = front;
      after = (tokens_at (length front) front).1;
      is_front = inr (undeclared s none, front-taken s u);
      is_cut = cut;
      ends = (let size = sizes s in omega (arith, size));
      within = tokens_at-within front;
      is_taken = (drop (front_len s) s, split);
    }

declared_ends : (s : Text) (encoding : Option Text) (rest : Text) → IsUtf8 rest → ReadsDeclaration s encoding rest →
    Ends s (cut_behind (declaration encoding ∷ []) rest).0 (cut_behind (declaration encoding ∷ []) rest).1
unfolding cut_behind
declared_ends s encoding rest u found =
    let tail = front_at rest in
    let front = found.declared ++ tail in
    let whole : length s ≡ length found.declared + length rest = ap length found.split ∙ length-append found.declared rest in
    let fronts : length front ≡ length found.declared + length tail = length-append found.declared tail in
    let size = sizes rest in
    let less = tokens_at-within tail in
    record {
      front = front;
      after = (tokens_at (length tail) tail).1;
      is_front = inl (encoding, found.declared, rest, (found.is_declaration, found.split), ap (λ t. found.declared ++ t) (front-taken rest u));
      is_cut = declared_cut (length tail) encoding found.declared tail (omega arith) found.is_declaration;
      ends = omega (arith, whole, fronts, size);
      within = omega (arith, fronts, less);
      is_taken = (drop (front_len rest) rest, found.split ∙ ap (λ t. found.declared ++ t) (sym (take-append-drop (front_len rest) rest)) ∙ sym (append_assoc found.declared tail (drop (front_len rest) rest)));
    }

utf8_past : (front : Text) (b : ℕ) (rest s : Text) → s ≡ front ++ (b ∷ rest) → b < 128 → IsUtf8 s → IsUtf8 rest
utf8_past front b rest s split low u =
    let size : length s ≡ length front + suc (length rest) = ap length split ∙ length-append front (b ∷ rest) in
    let here : slice_index s (length front) ≡ b = ap (λ t. slice_index t (length front)) split ∙ at_seam front in
    let bound = IsCharBoundary-after_ascii s (length front) u (omega (arith, size)) (omega (arith, here)) in
    let behind : drop (length front + 1) s ≡ rest = ap (drop (length front + 1)) split ∙ drop-append-add front (b ∷ rest) 1 in
    subst IsUtf8 behind (IsUtf8-drop s (length front + 1) u bound)
  where
    at_seam : (a : Text) → slice_index (a ++ (b ∷ rest)) (length a) ≡ b
    at_seam [] = refl
    at_seam (x ∷ a) = at_seam a

-- a declaration is ASCII at its end
utf8_behind : (s : Text) (encoding : Option Text) (rest : Text) → IsUtf8 s → ReadsDeclaration s encoding rest → IsUtf8 rest
utf8_behind s encoding rest u found = behind_end found.declared found.is_declaration found.split
  where
    behind_end : (declared : Text) → IsDeclaration encoding declared → s ≡ declared ++ rest → IsUtf8 rest
    behind_end declared (version, standalone, one, two, three, gap, p1, p2, p3, some, blanks, is) split =
        utf8_past (codes "<?xml" ++ (one ++ (two ++ (three ++ (gap ++ 63 ∷ []))))) 62 rest s (split ∙ ap (λ t. t ++ rest) is ∙ simp append_assoc) (omega arith) u

ends_at : (s : Text) → IsUtf8 s → Ends s (cut_at s).0 (cut_at s).1
unfolding cut_at
ends_at s u = by_read (declaration_at s) refl
  where
    by_read : (o : Option (Option Text × Text)) → declaration_at s ≡ o →
        (let cut : List Token × ℕ = when o (λ x. cut_behind (declaration x.0 ∷ []) x.1) (cut_behind [] s) in Ends s cut.0 cut.1)
    by_read None e = plain_ends s u e
    by_read (Some x) e = let found = declaration_at-sound s x.0 x.1 e in declared_ends s x.0 x.1 (utf8_behind s x.0 x.1 u found) found

pub stops : (s : Text) (ks : List Token) (left : ℕ) → IsUtf8 s → ◌≡◌ {A = List Token × ℕ} (ks, left) (cut_at s) → 0 < left →
    (left ≤ length s) × StopsAt s (length s - left) (starts_with nat_eq (drop (length s - left) s) (codes "<!DOCTYPE"))
stops s ks left u e some =
    let P : List Token × ℕ → Type 0 = λ x. Ends s x.0 x.1 in
    let ends = subst P (sym e) (ends_at s u) in
    let taken : length s ≡ length ends.front + length ends.is_taken.0 = ap length ends.is_taken.1 ∙ length-append ends.front ends.is_taken.0 in
    let total = ends.ends in
    let within = ends.within in
    let fits : left ≤ length s = omega (arith, taken, total, within) in
    (fits, (ends.front, ends.is_front, ks, ends.after, ends.is_cut, omega (arith, taken, total, within, fits), omega (arith, fits), refl))

no_bytes : (s : Text) → length s ≡ 0 → s ≡ []
no_bytes [] e = refl
no_bytes (b ∷ s) e = absurd (omega arith)

pub covers : (s : Text) (ks : List Token) (left : ℕ) → IsUtf8 s → ◌≡◌ {A = List Token × ℕ} (ks, left) (cut_at s) → left ≡ 0 → Covers s ks
covers s ks left u e none =
    let P : List Token × ℕ → Type 0 = λ x. Ends s x.0 x.1 in
    let ends = subst P (sym e) (ends_at s u) in
    let taken : length s ≡ length ends.front + length ends.is_taken.0 = ap length ends.is_taken.1 ∙ length-append ends.front ends.is_taken.0 in
    let total = ends.ends in
    let nothing : ends.after ≡ [] = no_bytes ends.after (omega (arith, taken, total, none)) in
    let all : ends.is_taken.0 ≡ [] = no_bytes ends.is_taken.0 (omega (arith, taken, total, none)) in
    let whole : ends.front ≡ s = sym (ends.is_taken.1 ∙ ap (λ t. ends.front ++ t) all ∙ append-nil ends.front) in
    let F : Text → Type 0 = λ t. IsFrontOf t s in
    let G : Text → Type 0 = λ t. Follow true t ks [] in
    let H : Text → Type 0 = λ t. Follow true ends.front ks t in
    (subst F whole ends.is_front, subst G whole (subst H nothing ends.is_cut.0))

-- ---- what is answered

no_value : {A : Type 0} (o : Option A) → ((x : A) → o ≡ Some x → ⊥) → o ≡ None
no_value None h = refl
no_value (Some x) h = absurd (h x refl)

pub is_text : (s : Text) (o : Option ℕ) → IsUtf8 s → o ≡ foreign_at s → ((at : ℕ) → o ≡ Some at → ⊥) → IsText s
is_text s o u e h = (u, keeps s (sym e ∙ no_value o h))

pub stopped : (mark : ℕ) (s : Text) (at : ℕ) → IsText s → StopsAt s at (starts_with nat_eq (drop at s) (codes "<!DOCTYPE")) → RefusesBehind mark s (stop_at mark s at)
stopped mark s at is stop = by_test (starts_with nat_eq (drop at s) (codes "<!DOCTYPE")) stop
  where
    by_test : (b : Bool) → StopsAt s at b → RefusesBehind mark s (cond b (Doctype (mark + at)) (BadToken (mark + at)))
    by_test true h = (is, at, h, refl)
    by_test false h = (is, at, h, refl)

refused : (bytes : Text) (fault : TokenFault) → RefusesBehind (mark_len bytes) (without_mark bytes) fault → Refuses bytes fault
refused bytes (NotText place) h = h
refused bytes (BadToken place) h = h
refused bytes (Doctype place) h = h
refused bytes TooManyTokens h = h
refused bytes NoMemory h = h

pub answered : {X : Type 0} (view : X → List Token) (bytes : Text) (mark : ℕ) (s : Text) (r : Result X TokenFault) → mark ≡ mark_len bytes → s ≡ drop mark bytes →
    MatchResult r (λ ks. AreTokensOf (view ks) s) (λ fault. RefusesBehind mark s fault) → MatchResult r (λ ks. IsTokensOf (view ks) bytes) (λ fault. Refuses bytes fault)
answered {X = X} view bytes mark s r e split h = by_result r (by_mark h)
  where
    whole : s ≡ without_mark bytes
    whole = split ∙ ap (λ n. drop n bytes) e

    by_mark : MatchResult r (λ ks. AreTokensOf (view ks) s) (λ fault. RefusesBehind mark s fault) →
        MatchResult r (λ ks. AreTokensOf (view ks) (without_mark bytes)) (λ fault. RefusesBehind (mark_len bytes) (without_mark bytes) fault)
    by_mark h = subst (λ m. MatchResult r (λ ks. AreTokensOf (view ks) (without_mark bytes)) (λ fault. RefusesBehind m (without_mark bytes) fault)) e (subst (λ t. MatchResult r (λ ks. AreTokensOf (view ks) t) (λ fault. RefusesBehind mark t fault)) whole h)

    by_result : (r : Result X TokenFault) → MatchResult r (λ ks. AreTokensOf (view ks) (without_mark bytes)) (λ fault. RefusesBehind (mark_len bytes) (without_mark bytes) fault) →
        MatchResult r (λ ks. IsTokensOf (view ks) bytes) (λ fault. Refuses bytes fault)
    by_result (Ok ks) h = h
    by_result (Err fault) h = refused bytes fault h
