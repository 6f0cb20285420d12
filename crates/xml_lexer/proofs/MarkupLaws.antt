-- Comments, instructions and CDATA sections are read exactly where they are spelled.
use Rattle.std.proofs.Common.{◌≡◌, ◌+◌, ◌<◌, ◌≤◌, ◌&&◌, ◌||◌, ◌==◌, ◌⊎◌, inl, inr, ℕ, zero, suc, Bool, true, false, [], ◌∷◌, ◌++◌, length, take, drop, Some, refl, sym, ◌∙◌, ap, arith, append_assoc, length-append, length-take-le}
use Rattle.std.specs.Prelude.{not, nat_eq, slice_index, codes}
use Rattle.std.specs.List.{list_all, prefix_len, starts_with}
use Rattle.std.specs.Cmp.Lexicographic.{bytes_decides, pointwise}
use Rattle.std.specs.Str.{str_eq_ignore_ascii_case}
use Rattle.std.proofs.Math.Seq.{take-append_seam, drop-append_seam}
use Rattle.std.proofs.lemmas.List.{take-append-le, drop-append-le, take-append-drop}
use Rattle.std.proofs.lemmas.Bool.{cases_lt}
use Rattle.std.proofs.lemmas.Bool.Decides.{nat_tests}
use Rattle.xml_lexer.proofs.NameLaws.{blank_cases}
use Rattle.xml_lexer.specs.Characters.{Text, is_blank, is_name, is_name_byte}
use Rattle.xml_lexer.specs.Spelling.{IsFirst, IsUpTo}
use Rattle.xml_lexer.specs.Scan.{literal_at, find_at, up_to_at, instruction_at}
use Rattle.xml_lexer.proofs.Runs.{both, bind-then, same_pair, guard-some, take-run, drop-run}
use Rattle.xml_lexer.proofs.ReferenceLaws.{chosen}
use Rattle.xml_lexer.proofs.ValueLaws.{mapped}
use Rattle.xml_lexer.proofs.FirstPlaces.{stands, find_at-some, occurs-stands}

-- ---- literals

pub starts-self : (front rest : Text) → starts_with nat_eq (front ++ rest) front ≡ true
starts-self front rest = (bytes_decides front (take (length front) (front ++ rest))).1 (sym (take-append_seam front rest))

pub literal_at-complete : (front rest : Text) → literal_at front (front ++ rest) ≡ Some rest
literal_at-complete front rest = rw (starts-self front rest, drop-append_seam front rest) refl

pub literal_at-sound : (front s rest : Text) → literal_at front s ≡ Some rest → s ≡ front ++ rest
literal_at-sound front s rest h =
    let t = guard-some (starts_with nat_eq s front) _ rest h in
    let begin : front ≡ take (length front) s = (bytes_decides front (take (length front) s)).0 t.0 in
    sym (take-append-drop (length front) s) ∙ ap (λ u. u ++ drop (length front) s) (sym begin) ∙ ap (λ u. front ++ u) t.1

-- ---- up to the first place of some bytes

-- what stands in the front of a text stands in the text
stands-within : (ending s after : Text) (j : ℕ) → j + length ending ≤ length s → stands ending (s ++ after) j ≡ stands ending s j
stands-within ending s after j fits =
    let front : drop j (s ++ after) ≡ drop j s ++ after = drop-append-le j s after (omega arith) in
    let size : length ending ≤ length (drop j s) = left j s (length ending) fits in
    let same : take (length ending) (drop j s ++ after) ≡ take (length ending) (drop j s) = take-append-le (length ending) (drop j s) after size in
    ap (λ t. starts_with nat_eq t ending) front ∙ ap (λ t. pointwise nat_eq ending t) same
  where
    left : (j : ℕ) (s : Text) (n : ℕ) → j + n ≤ length s → n ≤ length (drop j s)
    left zero s n h = omega arith
    left (suc j) [] n h = omega arith
    left (suc j) (b ∷ s) n h = left j s n (omega arith)

abbrev pub NotBefore : Text → Text → ℕ → Type 0
NotBefore ending s n = (j : ℕ) → j < n → stands ending s j ≡ false

pub find_at-first : (ending s : Text) (n : ℕ) → find_at ending s ≡ Some n → NotBefore ending s n
find_at-first ending [] n h j lt =
    let t = guard-some (starts_with nat_eq [] ending) 0 n h in absurd (omega (arith, t.1))
find_at-first ending (b ∷ s) n h j lt = elim (chosen (starts_with nat_eq (b ∷ s) ending) _ _ _ h) [
  | inl t ↦ (let same : 0 ≡ n = (let e = t.1 in cc) in absurd (omega (arith, same)))
  | inr t ↦ (let m = mapped suc (find_at ending s) n t.1 in at j (m.0) m.2 (find_at-first ending s m.0 m.1) t.0 lt)
]
  where
    at : (j m : ℕ) → suc m ≡ n → NotBefore ending s m → starts_with nat_eq (b ∷ s) ending ≡ false → j < n → stands ending (b ∷ s) j ≡ false
    at zero m e before here l = here
    at (suc j) m e before here l = before j (omega arith)

not_true : (b : Bool) → (b ≡ true → ⊥) → b ≡ false
not_true true h = absurd (h refl)
not_true false h = refl

pub up_to_at-complete : (ending body after : Text) → 0 < length ending → IsFirst ending (body ++ ending) → up_to_at ending (body ++ (ending ++ after)) ≡ Some (body, after)
unfolding up_to_at
up_to_at-complete ending body after some first =
    let s = body ++ (ending ++ after) in
    let here : stands ending s (length body) ≡ true = ap (λ t. starts_with nat_eq t ending) (drop-append_seam body (ending ++ after)) ∙ starts-self ending after in
    let whole : (body ++ ending) ++ after ≡ s = append_assoc body ending after in
    let size : length (body ++ ending) ≡ length body + length ending = length-append body ending in
    let total : length s ≡ length body + length (ending ++ after) = length-append body (ending ++ after) in
    let before : NotBefore ending s (length body) = λ j lt. not_true (stands ending s j) (λ e.
    (let within : stands ending (body ++ ending) j ≡ true = sym (stands-within ending (body ++ ending) after j (omega arith)) ∙ ap (λ t. stands ending t j) whole ∙ e in
    let last = first j within in
    omega (arith, last, size))) in
    let found : find_at ending s ≡ Some (length body) = find_at-some ending s (length body) (omega arith) here before in
    rw (found, take-append_seam body (ending ++ after), drop-append_seam body (ending ++ after), literal_at-complete ending after) refl

past_end : (ending s : Text) (j : ℕ) → 0 < length ending → length s ≤ j → stands ending s j ≡ true → ⊥
past_end [] s j some le h = omega arith
past_end (e ∷ ending) [] zero some le h = cc
past_end (e ∷ ending) [] (suc j) some le h = cc
past_end (e ∷ ending) (b ∷ s) zero some le h = omega arith
past_end (e ∷ ending) (b ∷ s) (suc j) some le h = past_end (e ∷ ending) s j some (omega arith) h

find_at-within : (ending s : Text) (n : ℕ) → find_at ending s ≡ Some n → n ≤ length s
find_at-within ending [] n h = let t = guard-some (starts_with nat_eq [] ending) 0 n h in omega (arith, t.1)
find_at-within ending (b ∷ s) n h = elim (chosen (starts_with nat_eq (b ∷ s) ending) _ _ _ h) [
  | inl t ↦ (let same : 0 ≡ n = (let e = t.1 in cc) in omega (arith, same))
  | inr t ↦ (let m = mapped suc (find_at ending s) n t.1 in omega (arith, m.2, find_at-within ending s m.0 m.1))
]

pub record ReadsUpTo (ending s body rest : Text) : Type 0 where
  pub is_up_to : IsUpTo ending body (body ++ ending)
  pub split : s ≡ body ++ (ending ++ rest)

pub up_to_at-sound : (ending s body rest : Text) → 0 < length ending → up_to_at ending s ≡ Some (body, rest) → ReadsUpTo ending s body rest
unfolding up_to_at
up_to_at-sound ending s body rest some h =
    bind-then (find_at ending s) _ _ h (λ n found h1.
    bind-then (literal_at ending (drop n s)) _ _ h1 (λ r ended h2.
    joined n r found (literal_at-sound ending (drop n s) r ended) (same_pair (take n s) body r rest h2)))
  where
    length_taken : (n : ℕ) (s body : Text) → n ≤ length s → take n s ≡ body → n ≡ length body
    length_taken n s body le e = sym (length-take-le n s le) ∙ ap length e

    last : (i : ℕ) → stands ending (body ++ ending) i ≡ true → (n : ℕ) → n ≡ length body → 0 < length ending → (body ++ ending) ++ rest ≡ s →
        length (body ++ ending) ≡ length body + length ending → find_at ending s ≡ Some n → i + length ending ≡ length (body ++ ending)
    last i h n size more whole sizes found = elim (cases_lt i (length (body ++ ending))) [
      | inr past ↦ absurd (past_end ending (body ++ ending) i some past h)
      | inl inside ↦
          let fits = (occurs-stands (body ++ ending) ending i (omega arith) h).fits in
          elim (cases_lt i n) [
            | inr from ↦ omega (arith, fits, sizes, size)
            | inl before ↦ absurd (
                let there : stands ending s i ≡ true = ap (λ t. stands ending t i) (sym whole) ∙ stands-within ending (body ++ ending) rest i fits ∙ h in
                let none : stands ending s i ≡ false = find_at-first ending s n found i before in
                let bad : true ≡ false = sym there ∙ none in cc)
          ]
    ]

    joined : (n : ℕ) (r : Text) → find_at ending s ≡ Some n → drop n s ≡ ending ++ r → (take n s ≡ body) × (r ≡ rest) → ReadsUpTo ending s body rest
    joined n r found ended same =
        let split : s ≡ body ++ (ending ++ rest) =
        sym (take-append-drop n s) ∙ ap (λ t. t ++ drop n s) same.0 ∙ ap (λ t. body ++ t) (ended ∙ ap (λ t. ending ++ t) same.1) in
        let size : n ≡ length body = length_taken n s body (find_at-within ending s n found) same.0 in
        let whole : (body ++ ending) ++ rest ≡ s = append_assoc body ending rest ∙ sym split in
        let sizes : length (body ++ ending) ≡ length body + length ending = length-append body ending in
        record {
          is_up_to = (refl, λ i h. last i h n size (omega arith) whole sizes found);
          split = split;
        }

-- ---- instructions

pub blank_not_name : (b : ℕ) → is_blank b ≡ true → is_name_byte b ≡ false
blank_not_name b h = elim (blank_cases b h) [
  | inl l ↦ elim l [ inl e ↦ rw e refl | inr e ↦ rw e refl ]
  | inr r ↦ elim r [ inl e ↦ rw e refl | inr e ↦ rw e refl ]
]

body_stops : (body after : Text) → (body ≡ []) ⊎ (is_blank (slice_index body 0) ≡ true) → prefix_len is_name_byte (body ++ (codes "?>" ++ after)) ≡ 0
body_stops [] after h = refl
body_stops (b ∷ body) after (inl e) = absurd (let bad : ⊥ = cc in bad)
body_stops (b ∷ body) after (inr e) = rw (blank_not_name b e) refl

body_fits : (body : Text) → (body ≡ []) ⊎ (is_blank (slice_index body 0) ≡ true) → (length body == 0 || is_blank (slice_index body 0)) ≡ true
body_fits [] h = refl
body_fits (b ∷ body) (inl e) = absurd (let bad : ⊥ = cc in bad)
body_fits (b ∷ body) (inr e) = rw e (or_true (length (b ∷ body) == 0))
  where
    or_true : (x : Bool) → (x || true) ≡ true
    or_true true = refl
    or_true false = refl

fits_body : (body : Text) → (length body == 0 || is_blank (slice_index body 0)) ≡ true → (body ≡ []) ⊎ (is_blank (slice_index body 0) ≡ true)
fits_body [] h = inl refl
fits_body (b ∷ body) h = inr (no_or (length (b ∷ body) == 0) (is_blank b) (some_zero (length body)) h)
  where
    some_zero : (n : ℕ) → (suc n == 0) ≡ false
    some_zero n = grind (arith, nat_tests)

    no_or : (x y : Bool) → x ≡ false → (x || y) ≡ true → y ≡ true
    no_or true y e h = cc
    no_or false y e h = h

pub instruction_at-complete : (target body after : Text) → is_name target ≡ true → str_eq_ignore_ascii_case target (codes "xml") ≡ false →
    IsFirst (codes "?>") (body ++ codes "?>") → (body ≡ []) ⊎ (is_blank (slice_index body 0) ≡ true) → instruction_at (target ++ (body ++ (codes "?>" ++ after))) ≡ Some after
unfolding instruction_at
instruction_at-complete target body after named other first begins =
    let all : list_all is_name_byte target ≡ true = (both _ (list_all is_name_byte target) named).1 in
    let stops = body_stops body after begins in
    let tail = body ++ (codes "?>" ++ after) in
    rw (take-run is_name_byte target tail all stops, drop-run is_name_byte target tail all stops, named, other)
    (rw (up_to_at-complete (codes "?>") body after (omega arith) first) (rw (body_fits body begins) refl))

pub record ReadsInstruction (s rest : Text) : Type 0 where
  pub target : Text
  pub body : Text
  pub named : is_name target ≡ true
  pub other : str_eq_ignore_ascii_case target (codes "xml") ≡ false
  pub is_up_to : IsUpTo (codes "?>") body (body ++ codes "?>")
  pub begins : (body ≡ []) ⊎ (is_blank (slice_index body 0) ≡ true)
  pub split : s ≡ target ++ (body ++ (codes "?>" ++ rest))

not_not : (b : Bool) → not b ≡ true → b ≡ false
not_not true h = cc
not_not false h = refl

pub instruction_at-sound : (s rest : Text) → instruction_at s ≡ Some rest → ReadsInstruction s rest
unfolding instruction_at
instruction_at-sound s rest h =
    let n = prefix_len is_name_byte s in
    elim (chosen (is_name (take n s) && not (str_eq_ignore_ascii_case (take n s) (codes "xml"))) _ _ _ h) [
      | inr t ↦ absurd (let e = t.1 in let bad : ⊥ = cc in bad)
      | inl t ↦ (let parts = both (is_name (take n s)) _ t.0 in
          bind-then (up_to_at (codes "?>") (drop n s)) _ _ t.1 (λ x read h1.
          (let g = guard-some (length x.0 == 0 || is_blank (slice_index x.0 0)) x.1 rest h1 in
          joined n x.0 x.1 parts.0 (not_not _ parts.1) (up_to_at-sound (codes "?>") (drop n s) x.0 x.1 (omega arith) read) (fits_body x.0 g.0) g.1)))
    ]
  where
    joined : (n : ℕ) (body r : Text) → is_name (take n s) ≡ true → str_eq_ignore_ascii_case (take n s) (codes "xml") ≡ false → ReadsUpTo (codes "?>") (drop n s) body r →
        (body ≡ []) ⊎ (is_blank (slice_index body 0) ≡ true) → r ≡ rest → ReadsInstruction s rest
    joined n body r named other read begins e = record {
      target = take n s;
      body = body;
      named = named;
      other = other;
      is_up_to = read.is_up_to;
      begins = begins;
      split = sym (take-append-drop n s) ∙ ap (λ t. take n s ++ t) (read.split ∙ ap (λ t. body ++ (codes "?>" ++ t)) e);
    }
