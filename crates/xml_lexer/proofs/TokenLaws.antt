-- A token is read exactly where a text begins with it.
use Rattle.std.proofs.Common.{◌≡◌, ◌+◌, ◌≤◌, ◌<◌, ◌==◌, ◌⊎◌, inl, inr, ℕ, suc, Bool, true, false, cond, List, [], ◌∷◌, ◌++◌, length, take, drop, Option, Some, None, refl, sym, ◌∙◌, ap, subst, arith, append_assoc}
use Rattle.std.specs.Prelude.{option_map, slice_index, codes}
use Rattle.std.specs.List.{list_all, prefix_len}
use Rattle.std.specs.Str.{str_eq_ignore_ascii_case}
use Rattle.std.proofs.lemmas.Bool.Decides.{nat_tests}
use Rattle.std.proofs.lemmas.List.{take-append-drop}
use Rattle.xml_lexer.specs.Characters.{Text, is_blank, is_name, is_spelled_name}
use Rattle.xml_lexer.specs.Token.{Token, declaration, instruction, comment, cdata, start, end, reference, text, Spelled}
use Rattle.xml_lexer.specs.Spelling.{AreBlanks, AreAttributes, tag_end, max_attributes, is_text_byte, IsSpelled, IsFirst, named_character}
use Rattle.xml_lexer.specs.Cut.{Begins, MayStand}
use Rattle.xml_lexer.specs.Scan.{in_name, name_at, byte_at, literal_at, attributes_at, end_tag_at, reference_at, text_at, up_to_at, instruction_at}
use Rattle.xml_lexer.specs.Cutting.{when, start_tag_at, comment_at, character_data_at, end_at, instruction_token_at, reference_token_at, text_token_at, section_at, markup_at, token_at}
use Rattle.xml_lexer.proofs.Runs.{both, bind-then, same_pair, take-run, drop-run, list_all-run, prefix_len-behind, byte_at-some}
use Rattle.xml_lexer.proofs.NameLaws.{name-stops, name_at-complete, name_at-sound, in_name-blank}
use Rattle.xml_lexer.proofs.TagLaws.{end_tag_at-complete, end_tag_at-sound}
use Rattle.xml_lexer.proofs.ReferenceLaws.{reference_at-complete, reference_at-sound}
use Rattle.xml_lexer.proofs.StartTagLaws.{begins_name, attributes_at-complete}
use Rattle.xml_lexer.proofs.SoundLaws.{ReadsAttributes, attributes_at-sound}
use Rattle.xml_lexer.proofs.MarkupLaws.{literal_at-sound, up_to_at-complete, up_to_at-sound, instruction_at-complete, instruction_at-sound}

-- ---- a token that a text begins with is read

finds_end : (name gap after : Text) → is_spelled_name name ≡ true → AreBlanks gap → token_at (60 ∷ (47 ∷ (name ++ (gap ++ (62 ∷ after))))) ≡ Some (end name, after)
unfolding token_at markup_at
finds_end name gap after spelled blanks = rw (end_tag_at-complete name gap after spelled blanks) refl

finds_reference : (body after : Text) (c : ℕ) → named_character body ≡ Some c → token_at (38 ∷ (body ++ (59 ∷ after))) ≡ Some (reference c, after)
unfolding token_at
finds_reference body after c named = rw (reference_at-complete body after c named) refl

finds_comment : (body after : Text) → IsFirst (codes "-->") (body ++ codes "-->") → token_at (codes "<!--" ++ (body ++ (codes "-->" ++ after))) ≡ Some (comment, after)
unfolding token_at markup_at section_at
finds_comment body after first = rw (up_to_at-complete (codes "-->") body after (omega arith) first) refl

finds_cdata : (body after : Text) → IsFirst (codes "]]>") (body ++ codes "]]>") → token_at (codes "<![CDATA[" ++ (body ++ (codes "]]>" ++ after))) ≡ Some (cdata body, after)
unfolding token_at markup_at section_at
finds_cdata body after first = rw (up_to_at-complete (codes "]]>") body after (omega arith) first) refl

finds_instruction : (target body after : Text) → is_name target ≡ true → str_eq_ignore_ascii_case target (codes "xml") ≡ false → IsFirst (codes "?>") (body ++ codes "?>") →
    (body ≡ []) ⊎ (is_blank (slice_index body 0) ≡ true) → token_at (codes "<?" ++ (target ++ (body ++ (codes "?>" ++ after)))) ≡ Some (instruction, after)
unfolding token_at markup_at
finds_instruction target body after named other first begins = rw (instruction_at-complete target body after named other first begins) refl

finds_text : (run after : Text) → 0 < length run → list_all is_text_byte run ≡ true → prefix_len is_text_byte after ≡ 0 → token_at (run ++ after) ≡ Some (text run, after)
unfolding token_at text_token_at
finds_text [] after some all stops = absurd (omega arith)
finds_text (b ∷ run) after some all stops =
    let t = both (is_text_byte b) (list_all is_text_byte run) all in
    let less : (b == 60) ≡ false = not_less b t.0 in
    let amp : (b == 38) ≡ false = not_amp b t.0 in
    let front = take-run is_text_byte (b ∷ run) after all stops in
    let back = drop-run is_text_byte (b ∷ run) after all stops in
    neither (b == 60) (b == 38) _ _ _ less amp ∙ ap Some (pair front back)
  where
    neither : {A : Type 0} (x y : Bool) (f g : Text → Option A) (r : Option A) → x ≡ false → y ≡ false →
        when (cond x (Some (run ++ after)) None) f (when (cond y (Some (run ++ after)) None) g r) ≡ r
    neither x y f g r e h = rw (e, h) refl

    not_less : (b : ℕ) → is_text_byte b ≡ true → (b == 60) ≡ false
    not_less b h = grind (arith, nat_tests)

    not_amp : (b : ℕ) → is_text_byte b ≡ true → (b == 38) ≡ false
    not_amp b h = grind (arith, nat_tests)

    pair : {x y u v : Text} → x ≡ u → y ≡ v → ◌≡◌ {A = Token × Text} (text x, y) (text u, v)
    pair p q = cc

-- what follows a name in a start tag is no part of it
attributes_stop : (given : List Spelled) (attributes gap : Text) (e : Bool) (after : Text) → AreAttributes given attributes → AreBlanks gap →
    prefix_len in_name (attributes ++ (gap ++ (tag_end e ++ after))) ≡ 0
attributes_stop [] attributes gap true after none blanks = rw none (name-stops gap 47 (62 ∷ after) blanks refl)
attributes_stop [] attributes gap false after none blanks = rw none (name-stops gap 62 after blanks refl)
attributes_stop (a ∷ given) attributes gap e after (front, others, (first, inner, before, more, quote, is_first, b0, spelled, b1, b2, q, val, is_front), all, split) blanks =
    let no_name = in_name-blank first is_first in
    rw (split, is_front) (rw no_name refl)

not_slash : (b : ℕ) → in_name b ≡ true → (b == 47) ≡ false
not_slash b h = grind (arith, nat_tests)

not_question : (b : ℕ) → in_name b ≡ true → (b == 63) ≡ false
not_question b h = grind (arith, nat_tests)

not_bang : (b : ℕ) → in_name b ≡ true → (33 == b) ≡ false
not_bang b h = grind (arith, nat_tests)

-- a name begins a start tag
markup-name : (b : ℕ) (s : Text) → in_name b ≡ true → markup_at (b ∷ s) ≡ start_tag_at (b ∷ s)
unfolding markup_at section_at
markup-name b s h = rw (not_slash b h, not_question b h, not_bang b h) refl

finds_start : (name : Text) (given : List Spelled) (e : Bool) (attributes gap after : Text) → is_spelled_name name ≡ true → AreAttributes given attributes → length given ≤ max_attributes → AreBlanks gap →
    token_at (60 ∷ (name ++ (attributes ++ (gap ++ (tag_end e ++ after))))) ≡ Some (start name given e, after)
unfolding token_at start_tag_at
finds_start name given e attributes gap after spelled all fits blanks =
    let tail = attributes ++ (gap ++ (tag_end e ++ after)) in
    let named = name_at-complete name tail spelled (attributes_stop given attributes gap e after all blanks) in
    let found = attributes_at-complete given max_attributes attributes gap e after all blanks fits in
    let b = begins_name name spelled in
    let whole : name ++ tail ≡ b.first ∷ (b.others ++ tail) = ap (λ t. t ++ tail) b.is in
    let tag : markup_at (name ++ tail) ≡ start_tag_at (name ++ tail) = ap markup_at whole ∙ markup-name b.first (b.others ++ tail) b.fits ∙ ap start_tag_at (sym whole) in
    tag ∙ rw (named, found) refl

-- the declaration apart
abbrev pub IsPlain : Token → Type 0
IsPlain (declaration encoding) = ⊥
IsPlain _ = Unit {0}

abbrev Finds : Text → Token → Text → Type 0
Finds bytes k after = token_at bytes ≡ Some (k, after)

spelled_found : (first : Bool) (k : Token) (s bytes after : Text) → IsPlain k → IsSpelled k s → bytes ≡ s ++ after → MayStand first k after → Finds bytes k after
spelled_found first (declaration encoding) s bytes after plain is front stand = absurd plain
spelled_found first instruction s bytes after plain (target, body, rest, named, other, is, (ends, is_first), begins) front stand =
    let whole : bytes ≡ codes "<?" ++ (target ++ (body ++ (codes "?>" ++ after))) =
    front ∙ ap (λ t. t ++ after) (is ∙ ap (λ t. codes "<?" ++ target ++ t) ends) ∙ simp append_assoc in
    let P : Text → Type 0 = λ t. IsFirst (codes "?>") t in
    ap token_at whole ∙ finds_instruction target body after named other (subst P ends is_first) begins
spelled_found first comment s bytes after plain (body, rest, is, (ends, is_first)) front stand =
    let whole : bytes ≡ codes "<!--" ++ (body ++ (codes "-->" ++ after)) = front ∙ ap (λ t. t ++ after) (is ∙ ap (λ t. codes "<!--" ++ t) ends) ∙ simp append_assoc in
    let P : Text → Type 0 = λ t. IsFirst (codes "-->") t in
    ap token_at whole ∙ finds_comment body after (subst P ends is_first)
spelled_found first (cdata body) s bytes after plain (rest, is, (ends, is_first)) front stand =
    let whole : bytes ≡ codes "<![CDATA[" ++ (body ++ (codes "]]>" ++ after)) = front ∙ ap (λ t. t ++ after) (is ∙ ap (λ t. codes "<![CDATA[" ++ t) ends) ∙ simp append_assoc in
    let P : Text → Type 0 = λ t. IsFirst (codes "]]>") t in
    ap token_at whole ∙ finds_cdata body after (subst P ends is_first)
spelled_found first (start name given e) s bytes after plain (attributes, gap, spelled, all, fits, blanks, is) front stand =
    let whole : bytes ≡ 60 ∷ (name ++ (attributes ++ (gap ++ (tag_end e ++ after)))) = front ∙ ap (λ t. t ++ after) is ∙ simp append_assoc in
    ap token_at whole ∙ finds_start name given e attributes gap after spelled all fits blanks
spelled_found first (end name) s bytes after plain (gap, spelled, blanks, is) front stand =
    let whole : bytes ≡ 60 ∷ (47 ∷ (name ++ (gap ++ (62 ∷ after)))) = front ∙ ap (λ t. t ++ after) is ∙ simp append_assoc in
    ap token_at whole ∙ finds_end name gap after spelled blanks
spelled_found first (reference c) s bytes after plain (body, named, is) front stand =
    let whole : bytes ≡ 38 ∷ (body ++ (59 ∷ after)) = front ∙ ap (λ t. t ++ after) is ∙ simp append_assoc in
    ap token_at whole ∙ finds_reference body after c named
spelled_found first (text run) s bytes after plain (some, all, is) front stand =
    ap token_at (front ∙ ap (λ t. t ++ after) is) ∙ finds_text run after some all (stops after stand)
  where
    stops : (after : Text) → MayStand first (text run) after → prefix_len is_text_byte after ≡ 0
    stops [] stand = refl
    stops (b ∷ after) stand = rw stand refl

pub token_at-complete : (first : Bool) (bytes : Text) (k : Token) (after : Text) → IsPlain k → Begins first bytes k after → token_at bytes ≡ Some (k, after)
token_at-complete first bytes k after plain begins = spelled_found first k begins.spelled bytes after plain begins.is_spelled begins.is_front begins.may_stand

-- ---- what is read is spelled so

-- a token that is no declaration, and the text behind it
pub record Reads (bytes : Text) (k : Token) (after : Text) : Type 0 where
  pub plain : IsPlain k
  pub begins : Begins false bytes k after

reads_end : (s rest name : Text) → end_tag_at s ≡ Some (name, rest) → Reads (60 ∷ (47 ∷ s)) (end name) rest
reads_end s rest name h =
    let found = end_tag_at-sound s name rest h in
    record {
      plain = tt;
      begins = record {
        spelled = 60 ∷ (47 ∷ (name ++ (found.0 ++ (62 ∷ []))));
        is_spelled = (found.0, found.1, found.2, sym (simp append_assoc));
        is_front = ap (λ t. 60 ∷ (47 ∷ t)) (found.3 ∙ sym (simp append_assoc));
        may_stand = tt;
      };
    }

start_of : (s name behind rest : Text) (given : List Spelled) (e : Bool) → (is_spelled_name name ≡ true) × (s ≡ name ++ behind) × (prefix_len in_name behind ≡ 0) →
    ReadsAttributes behind given e rest max_attributes → Begins false (60 ∷ s) (start name given e) rest
start_of s name behind rest given e named found = record {
  spelled = 60 ∷ (name ++ (found.attributes ++ (found.gap ++ tag_end e)));
  is_spelled = (found.attributes, found.gap, named.0, found.are, found.fit, found.blanks, sym (simp append_assoc));
  is_front = ap (λ t. 60 ∷ t) (named.1 ∙ ap (λ t. name ++ t) found.split ∙ sym (simp append_assoc));
  may_stand = tt;
}

reads_start : (s rest : Text) (k : Token) → start_tag_at s ≡ Some (k, rest) → Reads (60 ∷ s) k rest
unfolding start_tag_at
reads_start s rest k h =
    bind-then (name_at s) _ _ h (λ n named h1.
    bind-then (attributes_at max_attributes n.1) _ _ h1 (λ found read h2.
    (let parts = same_pair {A = Token} (start n.0 found.0.0 found.0.1) k found.1 rest h2 in
    let whole = start_of s n.0 n.1 found.1 found.0.0 found.0.1 (name_at-sound s n.0 n.1 named) (attributes_at-sound max_attributes n.1 found.0.0 found.0.1 found.1 read) in
    subst (λ x. Reads (60 ∷ s) k x) parts.1 (subst (λ x. Reads (60 ∷ s) x found.1) parts.0 (record { plain = tt; begins = whole })))))

comment_of : (s rest : Text) → (x : Text × Text) → up_to_at (codes "-->") s ≡ Some x → x.1 ≡ rest → Reads (codes "<!--" ++ s) comment rest
comment_of s rest x h e =
    let found = up_to_at-sound (codes "-->") s x.0 x.1 (omega arith) h in
    record {
      plain = tt;
      begins = record {
        spelled = codes "<!--" ++ (x.0 ++ codes "-->");
        is_spelled = (x.0, x.0 ++ codes "-->", refl, found.is_up_to);
        is_front = ap (λ t. codes "<!--" ++ t) (found.split ∙ ap (λ t. x.0 ++ (codes "-->" ++ t)) e) ∙ sym (simp append_assoc);
        may_stand = tt;
      };
    }

cdata_of : (s run rest : Text) → (x : Text × Text) → up_to_at (codes "]]>") s ≡ Some x → x.0 ≡ run → x.1 ≡ rest → Reads (codes "<![CDATA[" ++ s) (cdata run) rest
cdata_of s run rest x h e f =
    let found = up_to_at-sound (codes "]]>") s x.0 x.1 (omega arith) h in
    subst (λ r. Reads (codes "<![CDATA[" ++ s) (cdata r) rest) e (record {
      plain = tt;
      begins = record {
        spelled = codes "<![CDATA[" ++ (x.0 ++ codes "]]>");
        is_spelled = (x.0 ++ codes "]]>", refl, found.is_up_to);
        is_front = ap (λ t. codes "<![CDATA[" ++ t) (found.split ∙ ap (λ t. x.0 ++ (codes "]]>" ++ t)) f) ∙ sym (simp append_assoc);
        may_stand = tt;
      };
    })

instruction_of : (s rest : Text) → instruction_at s ≡ Some rest → Reads (codes "<?" ++ s) instruction rest
instruction_of s rest h =
    let found = instruction_at-sound s rest h in
    record {
      plain = tt;
      begins = record {
        spelled = codes "<?" ++ (found.target ++ (found.body ++ codes "?>"));
        is_spelled = (found.target, found.body, found.body ++ codes "?>", found.named, found.other, sym (simp append_assoc), found.is_up_to, found.begins);
        is_front = ap (λ t. codes "<?" ++ t) found.split ∙ sym (simp append_assoc);
        may_stand = tt;
      };
    }

reference_of : (s rest : Text) (c : ℕ) → reference_at s ≡ Some (c, rest) → Reads (38 ∷ s) (reference c) rest
reference_of s rest c h =
    let found = reference_at-sound s rest c h in
    record {
      plain = tt;
      begins = record {
        spelled = 38 ∷ (found.0 ++ (59 ∷ []));
        is_spelled = (found.0, found.1, refl);
        is_front = ap (λ t. 38 ∷ t) (found.2 ∙ sym (simp append_assoc));
        may_stand = tt;
      };
    }

text_of : (b : ℕ) (s : Text) → is_text_byte b ≡ true → Reads (b ∷ s) (text (text_at (b ∷ s)).0) (text_at (b ∷ s)).1
text_of b s h =
    let n = prefix_len is_text_byte (b ∷ s) in
    record {
      plain = tt;
      begins = record {
        spelled = take n (b ∷ s);
        is_spelled = (some h, list_all-run is_text_byte (b ∷ s), refl);
        is_front = sym (take-append-drop n (b ∷ s));
        may_stand = stands (drop n (b ∷ s)) (prefix_len-behind is_text_byte (b ∷ s));
      };
    }
  where
    some : is_text_byte b ≡ true → 0 < length (take (prefix_len is_text_byte (b ∷ s)) (b ∷ s))
    some h = let one : 1 + prefix_len is_text_byte s ≡ suc (prefix_len is_text_byte s) = omega arith in rw (h, one) (omega arith)

    stop : (x : Bool) (n : ℕ) → cond x (1 + n) 0 ≡ 0 → x ≡ false
    stop true n e = absurd (omega arith)
    stop false n e = refl

    stands : (after : Text) → prefix_len is_text_byte after ≡ 0 → MayStand false (text (take (prefix_len is_text_byte (b ∷ s)) (b ∷ s))) after
    stands [] e = tt
    stands (a ∷ after) e = stop (is_text_byte a) (prefix_len is_text_byte after) e

-- what is made of a value, or else the other
pub chosen_when : {A B : Type 0} (o : Option A) (f : A → Option B) (other : Option B) (y : B) → when o f other ≡ Some y → ((a : A) × (o ≡ Some a) × (f a ≡ Some y)) ⊎ ((o ≡ None) × (other ≡ Some y))
chosen_when None f other y h = inr (refl, h)
chosen_when (Some a) f other y h = inl (a, refl, h)

-- what a token reader behind a prefix reads
behind_of : {A : Type 0} (o : Option A) (token : A → Token) (rest : A → Text) (k : Token) (after : Text) → ◌≡◌ {A = Option (Token × Text)} (option_map (λ x. (token x, rest x)) o) (Some (k, after)) →
    (x : A) × (o ≡ Some x) × (token x ≡ k) × (rest x ≡ after)
behind_of None token rest k after h = absurd (let bad : ⊥ = cc in bad)
behind_of (Some x) token rest k after h = let same = same_pair {A = Token} (token x) k (rest x) after h in (x, refl, same.0, same.1)

section-sound : (s : Text) (k : Token) (after : Text) → section_at s ≡ Some (k, after) → Reads (60 ∷ s) k after
unfolding section_at
section-sound s k after h = elim (chosen_when (literal_at (codes "!--") s) comment_at _ (k, after) h) [
  | inl t ↦
      let found = behind_of (up_to_at (codes "-->") t.0) (λ x. comment) (λ x. x.1) k after t.2 in
      let whole : codes "<!--" ++ t.0 ≡ 60 ∷ s = ap (λ u. 60 ∷ u) (sym (literal_at-sound (codes "!--") s t.0 t.1)) in
      subst (λ u. Reads u k after) whole (subst (λ x. Reads (codes "<!--" ++ t.0) x after) found.2 (comment_of t.0 after found.0 found.1 found.3))
  | inr t ↦ elim (chosen_when (literal_at (codes "![CDATA[") s) character_data_at _ (k, after) t.1) [
    | inl u ↦
        let found = behind_of (up_to_at (codes "]]>") u.0) (λ x. cdata x.0) (λ x. x.1) k after u.2 in
        let whole : codes "<![CDATA[" ++ u.0 ≡ 60 ∷ s = ap (λ v. 60 ∷ v) (sym (literal_at-sound (codes "![CDATA[") s u.0 u.1)) in
        subst (λ v. Reads v k after) whole (subst (λ x. Reads (codes "<![CDATA[" ++ u.0) x after) found.2 (cdata_of u.0 found.0.0 after found.0 found.1 refl found.3))
    | inr u ↦ reads_start s after k u.1
  ]
]

markup-sound : (s : Text) (k : Token) (after : Text) → markup_at s ≡ Some (k, after) → Reads (60 ∷ s) k after
unfolding markup_at
markup-sound s k after h = elim (chosen_when (byte_at 47 s) end_at _ (k, after) h) [
  | inl t ↦
      let found = behind_of (end_tag_at t.0) (λ x. end x.0) (λ x. x.1) k after t.2 in
      let whole : 60 ∷ (47 ∷ t.0) ≡ 60 ∷ s = ap (λ u. 60 ∷ u) (sym (byte_at-some 47 s t.0 t.1)) in
      subst (λ u. Reads u k after) whole (subst (λ x. Reads (60 ∷ (47 ∷ t.0)) x after) found.2 (subst (λ r. Reads (60 ∷ (47 ∷ t.0)) (end found.0.0) r) found.3 (reads_end t.0 found.0.1 found.0.0 found.1)))
  | inr t ↦ elim (chosen_when (byte_at 63 s) instruction_token_at _ (k, after) t.1) [
    | inl u ↦
        let found = behind_of (instruction_at u.0) (λ x. instruction) (λ x. x) k after u.2 in
        let whole : codes "<?" ++ u.0 ≡ 60 ∷ s = ap (λ v. 60 ∷ v) (sym (byte_at-some 63 s u.0 u.1)) in
        subst (λ v. Reads v k after) whole (subst (λ x. Reads (codes "<?" ++ u.0) x after) found.2 (subst (λ r. Reads (codes "<?" ++ u.0) instruction r) found.3 (instruction_of u.0 found.0 found.1)))
    | inr u ↦ section-sound s k after u.1
  ]
]

none_byte : (wanted b : ℕ) (s : Text) → byte_at wanted (b ∷ s) ≡ None → (b == wanted) ≡ false
none_byte wanted b s h = cases (b == wanted) h
  where
    cases : (x : Bool) → cond x (Some s) None ≡ None → x ≡ false
    cases true e = cc
    cases false e = refl

pub token_at-sound : (bytes : Text) (k : Token) (after : Text) → token_at bytes ≡ Some (k, after) → Reads bytes k after
unfolding token_at text_token_at
token_at-sound [] k after h = absurd (let bad : ⊥ = cc in bad)
token_at-sound (b ∷ s) k after h = elim (chosen_when (byte_at 60 (b ∷ s)) markup_at _ (k, after) h) [
  | inl t ↦ subst (λ u. Reads u k after) (sym (byte_at-some 60 (b ∷ s) t.0 t.1)) (markup-sound t.0 k after t.2)
  | inr t ↦ elim (chosen_when (byte_at 38 (b ∷ s)) reference_token_at _ (k, after) t.1) [
    | inl u ↦
        let found = behind_of (reference_at u.0) (λ x. reference x.0) (λ x. x.1) k after u.2 in
        subst (λ v. Reads v k after) (sym (byte_at-some 38 (b ∷ s) u.0 u.1))
        (subst (λ x. Reads (38 ∷ u.0) x after) found.2 (subst (λ r. Reads (38 ∷ u.0) (reference found.0.0) r) found.3 (reference_of u.0 found.0.1 found.0.0 found.1)))
    | inr u ↦
        let less = none_byte 60 b s t.0 in
        let amp = none_byte 38 b s u.0 in
        let plain : is_text_byte b ≡ true = rw (less, amp) refl in
        let same = same_pair {A = Token} (text (text_at (b ∷ s)).0) k (text_at (b ∷ s)).1 after u.1 in
        subst (λ r. Reads (b ∷ s) k r) same.1 (subst (λ x. Reads (b ∷ s) x (text_at (b ∷ s)).1) same.0 (text_of b s plain))
  ]
]
