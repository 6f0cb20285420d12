-- The tokens of a document are made of XML characters.
use Rattle.std.proofs.Common.{◌≡◌, ◌<◌, ℕ, Bool, true, false, List, [], ◌∷◌, ◌++◌, Option, Some, suc, take, one-add, refl, sym, ◌∙◌, ap, subst, arith, inl, inr, lit<, append-nil, append_assoc}
use Rattle.std.specs.Prelude.{codes, unwrap_or}
use Rattle.std.specs.List.{list_all, take_while, prefix_len}
use Rattle.std.specs.Char.{encode_utf8}
use Rattle.std.specs.Str.{IsUtf8, chars}
use Rattle.std.proofs.lemmas.Bool.Decides.{nat_tests}
use Rattle.std.proofs.lemmas.List.{append_cancel_left}
use Rattle.std.proofs.lemmas.Str.{scalars-chars, chars-encodes}
use lib.Utf8.{scalar, scalars}
use Rattle.xml_lexer.specs.Characters.{Text, is_xml_character, xml_front, is_blank}
use Rattle.xml_lexer.specs.Token.{Token, declaration, instruction, comment, cdata, start, end, reference, text, Spelled}
use Rattle.xml_lexer.specs.Spelling.{AreBlanks, IsQuote, IsAttribute, AreAttributes, IsDeclaration, IsSpelled, is_text_byte, tag_end}
use Rattle.xml_lexer.specs.Cut.{MayStand, Begins, Follow}
use Rattle.xml_lexer.specs.Phases.{without_mark, IsFrontOf, IsTokensOf}
use Rattle.xml_lexer.proofs.Cuts.{finds}
use Rattle.voe_tree.specs.Texts.{is_xml_text}
use Rattle.voe_tree.proofs.XmlTexts.{xml-nil, and_left, and_right, and_both, make_xml, xml-around, xml-behind, xml-encode, named_xml, utf8-behind}
use Rattle.voe_tree.proofs.XmlTokens.{IsXmlSpelled, AreXmlSpelled, IsXmlToken, AreXmlTokens}

blank_small : (b : ℕ) → is_blank b ≡ true → b < 128
blank_small b h = grind (arith, nat_tests)

quote_small : (q : ℕ) → IsQuote q → q < 128
quote_small q (inl h) = rw h (lit< tt)
quote_small q (inr h) = rw h (lit< tt)

text_stops_small : (b : ℕ) → is_text_byte b ≡ false → b < 128
text_stops_small b h = grind (arith, nat_tests)

-- a text goes on with an ASCII byte
pub record GoesOn (s : Text) : Type 0 where
  pub first : ℕ
  pub rest : Text
  pub small : first < 128
  pub split : s ≡ first ∷ rest

goes_on : (c : ℕ) (r : Text) → c < 128 → GoesOn (c ∷ r)
goes_on c r h = record { first = c; rest = r; small = h; split = refl }

blanks_go_on : (gap r : Text) → AreBlanks gap → GoesOn r → GoesOn (gap ++ r)
blanks_go_on [] r h g = g
blanks_go_on (b ∷ gap) r h g = goes_on b (gap ++ r) (blank_small b (and_left (is_blank b) (list_all is_blank gap) h))

before : (a r : Text) → GoesOn r → is_xml_text (a ++ r) ≡ true → (is_xml_text a ≡ true) × (is_xml_text r ≡ true)
before a r g h =
    let parts = xml-around a g.first g.rest g.small (ap (λ t. is_xml_text (a ++ t)) (sym g.split) ∙ h) in
    (parts.0, ap is_xml_text g.split ∙ parts.2)

behind_blanks : (gap r : Text) → AreBlanks gap → is_xml_text (gap ++ r) ≡ true → is_xml_text r ≡ true
behind_blanks [] r b h = h
behind_blanks (x ∷ gap) r b h =
    behind_blanks gap r (and_right (is_blank x) (list_all is_blank gap) b) (xml-behind x (gap ++ r) (blank_small x (and_left (is_blank x) (list_all is_blank gap) b)) h)

-- what follows a spelling that ends in an ASCII byte
behind_end : (front : Text) (c : ℕ) (s after : Text) → c < 128 → s ≡ front ++ c ∷ [] → is_xml_text (s ++ after) ≡ true → is_xml_text after ≡ true
behind_end front c s after small e h =
    (xml-around front c after small (ap is_xml_text (sym (append_assoc front (c ∷ []) after) ∙ ap (λ t. t ++ after) (sym e)) ∙ h)).1

attribute_xml : (a : Spelled) (s r : Text) → IsAttribute a s → is_xml_text (s ++ r) ≡ true → IsXmlSpelled a × (is_xml_text r ≡ true)
attribute_xml a s r (first, gap, earlier, later, quote, is_first, is_gap, is_name, is_earlier, is_later, is_quote, is_value, e) h =
    let q = quote_small quote is_quote in
    let value_on = a.value ++ (quote ∷ r) in
    let equal_on = 61 ∷ (later ++ (quote ∷ value_on)) in
    let whole : s ++ r ≡ first ∷ (gap ++ (a.name ++ (earlier ++ equal_on))) = rw e (simp append_assoc) in
    let one = xml-behind first (gap ++ (a.name ++ (earlier ++ equal_on))) (blank_small first is_first) (ap is_xml_text (sym whole) ∙ h) in
    let two = behind_blanks gap (a.name ++ (earlier ++ equal_on)) is_gap one in
    let three = before a.name (earlier ++ equal_on) (blanks_go_on earlier equal_on is_earlier (goes_on 61 (later ++ (quote ∷ value_on)) (lit< tt))) two in
    let four = behind_blanks earlier equal_on is_earlier three.1 in
    let five = behind_blanks later (quote ∷ value_on) is_later (xml-behind 61 (later ++ (quote ∷ value_on)) (lit< tt) four) in
    let six = xml-around a.value quote r q (xml-behind quote value_on q five) in
    ((is_name, three.0, six.0), six.1)

attributes_xml : (given : List Spelled) (s r : Text) → AreAttributes given s → is_xml_text (s ++ r) ≡ true → AreXmlSpelled given × (is_xml_text r ≡ true)
attributes_xml [] s r e h = (tt, ap (λ t. is_xml_text (t ++ r)) (sym e) ∙ h)
attributes_xml (a ∷ given) s r (front, others, is, more, e) h =
    let one = attribute_xml a front (others ++ r) is (ap is_xml_text (sym (append_assoc front others r) ∙ ap (λ t. t ++ r) (sym e)) ∙ h) in
    let rest = attributes_xml given others r more one.1 in
    ((one.0, rest.0), rest.1)

attributes_go_on : (given : List Spelled) (s r : Text) → AreAttributes given s → GoesOn r → GoesOn (s ++ r)
attributes_go_on [] s r e g = rw e g
attributes_go_on (a ∷ given) s r (front, others, (first, gap, earlier, later, quote, is_first, is_gap, is_name, is_earlier, is_later, is_quote, is_value, f), more, e) g =
    record {
      first = first;
      rest = gap ++ a.name ++ earlier ++ 61 ∷ later ++ quote ∷ a.value ++ quote ∷ [] ++ others ++ r;
      small = blank_small first is_first;
      split = rw (e, f) refl;
    }

tag_end_on : (e : Bool) (r : Text) → GoesOn (tag_end e ++ r)
tag_end_on true r = goes_on 47 (62 ∷ r) (lit< tt)
tag_end_on false r = goes_on 62 r (lit< tt)

behind_tag_end : (e : Bool) (r : Text) → is_xml_text (tag_end e ++ r) ≡ true → is_xml_text r ≡ true
behind_tag_end true r h = xml-behind 62 r (lit< tt) (xml-behind 47 (62 ∷ r) (lit< tt) h)
behind_tag_end false r h = xml-behind 62 r (lit< tt) h

start_xml : (name : Text) (given : List Spelled) (e : Bool) (s r : Text) → IsSpelled (start name given e) s → is_xml_text (s ++ r) ≡ true → IsXmlToken (start name given e) × (is_xml_text r ≡ true)
start_xml name given e s r (attributes, gap, is_name, are, few, blanks, f) h =
    let ending = gap ++ (tag_end e ++ r) in
    let whole : s ++ r ≡ 60 ∷ (name ++ (attributes ++ ending)) = rw f (simp append_assoc) in
    let on = blanks_go_on gap (tag_end e ++ r) blanks (tag_end_on e r) in
    let one = before name (attributes ++ ending) (attributes_go_on given attributes ending are on) (xml-behind 60 (name ++ (attributes ++ ending)) (lit< tt) (ap is_xml_text (sym whole) ∙ h)) in
    let two = attributes_xml given attributes ending are one.1 in
    ((is_name, one.0, two.0), behind_tag_end e r (behind_blanks gap (tag_end e ++ r) blanks two.1))

cdata_xml : (run s r : Text) → IsSpelled (cdata run) s → is_xml_text (s ++ r) ≡ true → (is_xml_text run ≡ true) × (is_xml_text r ≡ true)
cdata_xml run s r (rest, e, upto) h =
    let whole : s ++ r ≡ codes "<![CDATA" ++ (91 ∷ (run ++ (93 ∷ 93 ∷ 62 ∷ r))) = rw (e, upto.0) (simp append_assoc) in
    let one = xml-around (codes "<![CDATA") 91 (run ++ (93 ∷ 93 ∷ 62 ∷ r)) (lit< tt) (ap is_xml_text (sym whole) ∙ h) in
    let two = xml-around run 93 (93 ∷ 62 ∷ r) (lit< tt) one.1 in
    (two.0, xml-behind 62 r (lit< tt) (xml-behind 93 (62 ∷ r) (lit< tt) two.1))

text_xml : (run s r : Text) → IsSpelled (text run) s → MayStand false (text run) r → is_xml_text (s ++ r) ≡ true → (is_xml_text run ≡ true) × (is_xml_text r ≡ true)
text_xml run s [] (some, all, e) m h = (ap is_xml_text (sym (append-nil run) ∙ ap (λ t. t ++ []) (sym e)) ∙ h, xml-nil)
text_xml run s (b ∷ r) (some, all, e) m h =
    let parts = xml-around run b r (text_stops_small b m) (ap (λ t. is_xml_text (t ++ b ∷ r)) (sym e) ∙ h) in (parts.0, parts.2)

reference_xml : (c : ℕ) (s : Text) → IsSpelled (reference c) s → is_xml_text (encode_utf8 c) ≡ true
reference_xml c s (body, named, e) = xml-encode c (ap (λ o. is_xml_character (unwrap_or o 32)) (sym named) ∙ named_xml body)

spelled_xml : (k : Token) (s r : Text) → IsSpelled k s → MayStand false k r → is_xml_text (s ++ r) ≡ true → IsXmlToken k × (is_xml_text r ≡ true)
spelled_xml (declaration e) s r is m h = absurd (let bad : ⊥ = cc in bad)
spelled_xml instruction s r (target, body, rest, is_name, not_xml, e, upto, begins) m h =
    (tt, behind_end (codes "<?" ++ target ++ body ++ 63 ∷ []) 62 s r (lit< tt) (rw (e, upto.0) (simp append_assoc)) h)
spelled_xml comment s r (body, rest, e, upto) m h =
    (tt, behind_end (codes "<!--" ++ body ++ 45 ∷ 45 ∷ []) 62 s r (lit< tt) (rw (e, upto.0) (simp append_assoc)) h)
spelled_xml (cdata run) s r is m h = cdata_xml run s r is h
spelled_xml (start name given e) s r is m h = start_xml name given e s r is h
spelled_xml (end name) s r (gap, is_name, blanks, e) m h =
    (tt, behind_end (60 ∷ 47 ∷ name ++ gap) 62 s r (lit< tt) e h)
spelled_xml (reference c) s r is m h = (reference_xml c s is, behind_end (38 ∷ is.0) 59 s r (lit< tt) is.2 h)
spelled_xml (text run) s r is m h = text_xml run s r is m h

-- ---- all tokens

follow_xml : (ks : List Token) (bytes : Text) → Follow false bytes ks [] → is_xml_text bytes ≡ true → AreXmlTokens ks
follow_xml [] bytes f h = tt
follow_xml (k ∷ ks) bytes (next, begins, more) h =
    let parts = spelled_xml k begins.spelled next begins.is_spelled begins.may_stand (ap is_xml_text (sym begins.is_front) ∙ h) in
    (parts.0, follow_xml ks next more parts.1)

while_yes : (p : ℕ → Bool) (x : ℕ) (xs : List ℕ) → p x ≡ true → take_while p (x ∷ xs) ≡ x ∷ take_while p xs
while_yes p x xs h = let more : prefix_len p (x ∷ xs) ≡ suc (prefix_len p xs) = rw h (one-add (prefix_len p xs)) in ap (λ n. take n (x ∷ xs)) more

while_no : (p : ℕ → Bool) (x : ℕ) (xs : List ℕ) → p x ≡ false → take_while p (x ∷ xs) ≡ []
while_no p x xs h = let none : prefix_len p (x ∷ xs) ≡ 0 = rw h refl in ap (λ n. take n (x ∷ xs)) none

passes_step : (p : ℕ → Bool) (x : ℕ) (xs : List ℕ) (b : Bool) → p x ≡ b → list_all p (take_while p xs) ≡ true → list_all p (take_while p (x ∷ xs)) ≡ true
passes_step p x xs true e h = ap (list_all p) (while_yes p x xs e) ∙ and_both (p x) (list_all p (take_while p xs)) e h
passes_step p x xs false e h = ap (list_all p) (while_no p x xs e)

passes_while : (p : ℕ → Bool) (xs : List ℕ) → list_all p (take_while p xs) ≡ true
passes_while p [] = refl
passes_while p (x ∷ xs) = passes_step p x xs (p x) refl (passes_while p xs)

scalars_step : (p : ℕ → Bool) (x : ℕ) (xs : List ℕ) (b : Bool) → p x ≡ b → scalar x ≡ true → scalars (take_while p xs) ≡ true → scalars (take_while p (x ∷ xs)) ≡ true
scalars_step p x xs true e s h = ap scalars (while_yes p x xs e) ∙ and_both (scalar x) (scalars (take_while p xs)) s h
scalars_step p x xs false e s h = ap scalars (while_no p x xs e)

scalars_while : (p : ℕ → Bool) (xs : List ℕ) → scalars xs ≡ true → scalars (take_while p xs) ≡ true
scalars_while p [] h = refl
scalars_while p (x ∷ xs) h =
    scalars_step p x xs (p x) refl (and_left (scalar x) (scalars xs) h) (scalars_while p xs (and_right (scalar x) (scalars xs) h))

xml-front : (t : Text) → IsUtf8 t → is_xml_text (xml_front t) ≡ true
xml-front t u =
    let cs = take_while is_xml_character (chars t) in
    let are : scalars (take_while is_xml_character (chars t)) ≡ true = scalars_while is_xml_character (chars t) (scalars-chars t u) in
    make_xml (xml_front t) (cs, (are, refl)) (ap (list_all is_xml_character) (chars-encodes cs are) ∙ passes_while is_xml_character (chars t))

plain_may_stand : (k : Token) (r : Text) → MayStand true k r → ((e : Option Text) → k ≡ declaration e → ⊥) → MayStand false k r
plain_may_stand (declaration e) r m n = absurd (n e refl)
plain_may_stand instruction r m n = tt
plain_may_stand comment r m n = tt
plain_may_stand (cdata run) r m n = tt
plain_may_stand (start name given e) r m n = tt
plain_may_stand (end name) r m n = tt
plain_may_stand (reference c) r m n = tt
plain_may_stand (text run) [] m n = tt
plain_may_stand (text run) (b ∷ r) m n = m

declared_utf8 : (encoding : Option Text) (declared behind : Text) → IsDeclaration encoding declared → IsUtf8 (declared ++ behind) → IsUtf8 behind
declared_utf8 encoding declared behind (version, standalone, one, two, three, gap, p, q, r, some, blanks, e) u =
    utf8-behind (codes "<?xml" ++ one ++ two ++ three ++ gap ++ 63 ∷ []) 62 behind (lit< tt)
    (let whole : declared ++ behind ≡ (codes "<?xml" ++ one ++ two ++ three ++ gap ++ 63 ∷ []) ++ 62 ∷ behind = rw e (simp append_assoc) in subst IsUtf8 whole u)

first_xml : (k : Token) (ks : List Token) (bytes next : Text) → IsUtf8 bytes → IsFrontOf bytes bytes → Begins true bytes k next → Follow false next ks [] → IsXmlToken k × AreXmlTokens ks
first_xml k ks bytes next u (inl (encoding, declared, behind, begins_declared, front)) begins more =
    let declared_first : Begins true bytes (declaration encoding) behind = record { spelled = declared; is_spelled = begins_declared.0; is_front = begins_declared.1; may_stand = refl } in
    let both : Some (k, next) ≡ Some (declaration encoding, behind) = sym (finds true bytes k next begins) ∙ finds true bytes (declaration encoding) behind declared_first in
    let same_token : k ≡ declaration encoding = ap (λ (o : Option (Token × Text)). (unwrap_or o (k, next)).0) both in
    let same_next : next ≡ behind = ap (λ (o : Option (Token × Text)). (unwrap_or o (k, next)).1) both in
    let is_own : behind ≡ xml_front behind = append_cancel_left declared behind (xml_front behind) (sym begins_declared.1 ∙ front) in
    let utf8 : IsUtf8 behind = declared_utf8 encoding declared behind begins_declared.0 (subst IsUtf8 begins_declared.1 u) in
    let behind_xml : is_xml_text behind ≡ true = ap is_xml_text is_own ∙ xml-front behind utf8 in
    (subst IsXmlToken (sym same_token) tt, follow_xml ks next more (ap is_xml_text same_next ∙ behind_xml))
first_xml k ks bytes next u (inr (undeclared, front)) begins more =
    let bytes_xml : is_xml_text bytes ≡ true = ap is_xml_text front ∙ xml-front bytes u in
    let not_declared = λ (e : Option Text) (same_token : k ≡ declaration e). undeclared e begins.spelled next (subst (λ (x : Token). IsSpelled x begins.spelled) same_token begins.is_spelled, begins.is_front) in
    let parts = spelled_xml k begins.spelled next begins.is_spelled (plain_may_stand k next begins.may_stand not_declared) (ap is_xml_text (sym begins.is_front) ∙ bytes_xml) in
    (parts.0, follow_xml ks next more parts.1)

-- the tokens of a document
pub tokens_xml : (ks : List Token) (bytes : Text) → IsTokensOf ks bytes → AreXmlTokens ks
tokens_xml [] bytes h = tt
tokens_xml (k ∷ ks) bytes h =
    let follows = h.1.1 in first_xml k ks (without_mark bytes) follows.0 h.0.0 h.1.0 follows.1 follows.2
