-- The text of a draft, by its tokens.
use Rattle.std.proofs.Common.{◌≡◌, ℕ, ◌+◌, ◌<◌, suc, Bool, true, false, List, [], ◌∷◌, ◌++◌, length, map, drop, get_or, refl, sym, ◌∙◌, ap, arith, add-one, append_assoc, append-nil, length-append}
use Rattle.std.specs.Prelude.{◌==◌, ◌&&◌, codes}
use Rattle.std.specs.List.{concat, flat_map, list_all}
use Rattle.std.proofs.lemmas.Bool.{and_from, eqb-true}
use Rattle.std.proofs.Math.Seq.{drop-cons}
use Rattle.std.proofs.lemmas.List.{length-map}
use Rattle.std.proofs.lemmas.List.Concat.{flat_map-cons}
use Rattle.std.proofs.lemmas.List.Folds.{list_all-append}
use Rattle.xml_lexer.specs.Characters.{Text}
use Rattle.xml_lexer.specs.Token.{Token, start, end}
use Rattle.voe_tree.specs.Canonical.{all_in, all_written, end_tag, is_narrow, is_short, text_tokens, tokens_in, written, written_attributes, written_value}
use Rattle.voe_tree.specs.Prefixed.{prefixed}
use Rattle.voe_tree.specs.Writing.{are_few}
use Rattle.voe_tree.specs.declared.element.Element.{Element}
use Rattle.voe_tree.specs.declared.element.Node.TheVariants as tree
use Rattle.voe_tree.proofs.WrittenRepeats.{false_since}
use Rattle.voe_tree.proofs.WrittenRuns.{all_written-append, text_tokens-narrow}
use Rattle.voe_tree.proofs.WrittenTree.{tokens_of-layer, tokens_in-element, tokens_in-text}
use Rattle.voe_values.specs.declared.citation.Cite.{Cite}
use Rattle.voe_values.specs.declared.citation.Cite.TheVariants.{Followup, Supersedes, Retraction}
use Rattle.voe_values.specs.declared.citation.Role.{Role}
use Rattle.voe_values.specs.declared.citation.Role.TheVariants.{Observation, Prediction, Utility, Test}
use Rattle.voe_packet.specs.Words.{cite_word, role_word}
use Rattle.voe_packet.specs.Params.{param_element, param_text, param_token, simple}
use Rattle.voe_packet.specs.Drafts.{citation_element, citation_text, draft_root, fits_packet, has_identifier, packet_text, packet_tokens, section_of, section_text}
use Rattle.voe_packet.specs.DraftTokens.{citation_tokens, cited_tokens, draft_tokens, root_token, section_tokens, what_tokens}
use Rattle.voe_packet.specs.declared.draft.Draft.{Draft}
use Rattle.voe_packet.specs.declared.packet.Citation.{Citation}
use Rattle.voe_packet.specs.declared.param.Param.{Param}

and-true : (b : Bool) → (b && true) ≡ b
and-true true = refl
and-true false = refl

-- ---- pieces

put_two : (old a x eq n q y v c : Text) → ((((((((old ++ (a ++ x)) ++ eq) ++ n) ++ q) ++ y) ++ eq) ++ v) ++ q) ++ c
    ≡ old ++ ((a ++ ((((x ++ eq) ++ n) ++ q) ++ ((((y ++ eq) ++ v) ++ q) ++ []))) ++ c)
put_two old a x eq n q y v c = simp (append_assoc, append-nil)

text_two : (a x eq n q y v c : Text) → (a ++ ((((x ++ eq) ++ n) ++ q) ++ ((((y ++ eq) ++ v) ++ q) ++ []))) ++ c ≡ (((((a ++ x) ++ eq) ++ n) ++ ((q ++ y) ++ eq)) ++ v) ++ (q ++ c)
text_two a x eq n q y v c = simp (append_assoc, append-nil)

put_four : (old a s x eq n q y v t c : Text) → ((((((((old ++ ((a ++ s) ++ x)) ++ eq) ++ n) ++ q) ++ y) ++ eq) ++ v) ++ q) ++ (t ++ c)
    ≡ old ++ ((a ++ (s ++ ((((x ++ eq) ++ n) ++ q) ++ ((((y ++ eq) ++ v) ++ q) ++ (t ++ []))))) ++ c)
put_four old a s x eq n q y v t c = simp (append_assoc, append-nil)

text_four : (a s x eq n q y v t c : Text) → (a ++ (s ++ ((((x ++ eq) ++ n) ++ q) ++ ((((y ++ eq) ++ v) ++ q) ++ (t ++ []))))) ++ c
    ≡ ((((((a ++ s) ++ x) ++ eq) ++ n) ++ ((q ++ y) ++ eq)) ++ v) ++ ((q ++ t) ++ c)
text_four a s x eq n q y v t c = simp (append_assoc, append-nil)

put_one : (old a x eq v q c t e : Text) → ((((((old ++ (a ++ x)) ++ eq) ++ v) ++ q) ++ c) ++ t) ++ e ≡ old ++ (((a ++ ((((x ++ eq) ++ v) ++ q) ++ [])) ++ c) ++ (t ++ (e ++ [])))
put_one old a x eq v q c t e = simp (append_assoc, append-nil)

text_one : (a x eq v q c t e : Text) → ((a ++ ((((x ++ eq) ++ v) ++ q) ++ [])) ++ c) ++ (t ++ (e ++ [])) ≡ (((((a ++ x) ++ eq) ++ v) ++ (q ++ c)) ++ t) ++ e
text_one a x eq v q c t e = simp (append_assoc, append-nil)

text_section : (l n g b m : Text) → (((l ++ n) ++ []) ++ g) ++ (b ++ (((m ++ n) ++ g) ++ [])) ≡ (((((l ++ n) ++ g) ++ b) ++ m) ++ n) ++ g
text_section l n g b m = simp (append_assoc, append-nil)

text_whole : (r w c e : Text) → r ++ ((w ++ c) ++ (e ++ [])) ≡ ((r ++ w) ++ c) ++ e
text_whole r w c e = simp (append_assoc, append-nil)

-- ---- what the writer puts

pub param_put : (p : Param) (old one two three four five name value : Text) → name ≡ p.name → value ≡ p.value → one ≡ old ++ codes "<Param name" →
    two ≡ one ++ codes "=\"" ++ written_value name ++ codes "\"" → three ≡ two ++ codes " value" → four ≡ three ++ codes "=\"" ++ written_value value ++ codes "\"" →
    five ≡ four ++ codes "/>" → five ≡ old ++ written (param_token p)
param_put p old one two three four five name value n v a b c d e =
    rw (e, d, c, b, a, n, v) (put_two old (codes "<Param") (codes " name") (codes "=\"") (written_value p.name) (codes "\"") (codes " value") (written_value p.value) (codes "/>"))

pub root_put : (d : Draft) (old one two three four five name value : Text) → name ≡ d.identifier → value ≡ role_word d.role →
    one ≡ old ++ codes "<voe:VOEvent xmlns:voe=\"http://www.ivoa.net/xml/VOEvent/v2.0\" ivorn" →
    two ≡ one ++ codes "=\"" ++ written_value name ++ codes "\"" → three ≡ two ++ codes " role" → four ≡ three ++ codes "=\"" ++ written_value value ++ codes "\"" →
    five ≡ four ++ codes " version=\"2.0\">" → five ≡ old ++ written (root_token d)
root_put d old one two three four five name value n v a b c e f =
    rw (f, e, c, b, a, n, v) (put_four old (codes "<voe:VOEvent") (codes " xmlns:voe=\"http://www.ivoa.net/xml/VOEvent/v2.0\"") (codes " ivorn") (codes "=\"") (written_value d.identifier) (codes "\"")
    (codes " role") (written_value (role_word d.role)) (codes " version=\"2.0\"") (codes ">"))

citation_pieces : (c : Citation) → all_written (citation_tokens c)
    ≡ ((codes "<EventIVORN" ++ ((((codes " cite" ++ codes "=\"") ++ written_value (cite_word c.kind)) ++ codes "\"") ++ [])) ++ codes ">")
    ++ (all_written (text_tokens c.identifier) ++ (written (end (codes "EventIVORN")) ++ []))
citation_pieces c =
    ap (λ s. ((codes "<EventIVORN" ++ ((((codes " cite" ++ codes "=\"") ++ written_value (cite_word c.kind)) ++ codes "\"") ++ [])) ++ codes ">") ++ s)
    (all_written-append (text_tokens c.identifier) (end (codes "EventIVORN") ∷ []))

pub citation_put : (c : Citation) (old one two three four five value name : Text) → value ≡ cite_word c.kind → name ≡ c.identifier → one ≡ old ++ codes "<EventIVORN cite" →
    two ≡ one ++ codes "=\"" ++ written_value value ++ codes "\"" → three ≡ two ++ codes ">" → four ≡ three ++ all_written (text_tokens name) →
    five ≡ four ++ written (end (codes "EventIVORN")) → five ≡ old ++ all_written (citation_tokens c)
citation_put c old one two three four five value name v n a b e f g =
    rw (g, f, e, b, a, v, n) (put_one old (codes "<EventIVORN") (codes " cite") (codes "=\"") (written_value (cite_word c.kind)) (codes "\"") (codes ">")
    (all_written (text_tokens c.identifier)) (written (end (codes "EventIVORN"))))
    ∙ ap (λ s. old ++ s) (sym (citation_pieces c))

-- ---- sections

pub section_put : (name : Text) (k : Token) (ks : List Token) (old one two three : Text) → one ≡ old ++ written (start name [] false) → two ≡ one ++ all_written (k ∷ ks) →
    three ≡ two ++ written (end name) → three ≡ old ++ all_written (section_tokens name (k ∷ ks))
section_put name k ks old one two three a b c =
    c ∙ ap (λ s. s ++ written (end name)) (b ∙ ap (λ s. s ++ all_written (k ∷ ks)) a)
    ∙ append_assoc (old ++ written (start name [] false)) (all_written (k ∷ ks)) (written (end name))
    ∙ append_assoc old (written (start name [] false)) (all_written (k ∷ ks) ++ written (end name))
    ∙ ap (λ s. old ++ (written (start name [] false) ++ (all_written (k ∷ ks) ++ s))) (sym (append-nil (written (end name))))
    ∙ ap (λ s. old ++ (written (start name [] false) ++ s)) (sym (all_written-append (k ∷ ks) (end name ∷ [])))

-- what comes first of a citation and of others, and what comes behind it
abbrev cite_start : Citation → Token
cite_start c = start (codes "EventIVORN") (record { name = codes "cite"; value = written_value (cite_word c.kind) } ∷ []) false

abbrev cite_rest : Citation → List Citation → List Token
cite_rest c cs = (text_tokens c.identifier ++ end (codes "EventIVORN") ∷ []) ++ flat_map citation_tokens cs

pub what_put : (ps : List Param) (old one two three : Text) → 0 < length ps → one ≡ old ++ codes "<What>" → two ≡ one ++ all_written (map param_token ps) →
    three ≡ two ++ written (end (codes "What")) → three ≡ old ++ all_written (what_tokens ps)
what_put [] old one two three some a b c = absurd (omega arith)
what_put (p ∷ ps) old one two three some a b c = section_put (codes "What") (param_token p) (map param_token ps) old one two three a b c

pub cited_put : (cs : List Citation) (old one two three : Text) → 0 < length cs → one ≡ old ++ codes "<Citations>" → two ≡ one ++ all_written (flat_map citation_tokens cs) →
    three ≡ two ++ written (end (codes "Citations")) → three ≡ old ++ all_written (cited_tokens cs)
cited_put [] old one two three some a b e = absurd (omega arith)
cited_put (c ∷ cs) old one two three some a b e =
    section_put (codes "Citations") (cite_start c) (cite_rest c cs) old one two three a (b ∙ ap (λ ks. one ++ all_written ks) (flat_map-cons citation_tokens c cs)) e
    ∙ ap (λ ks. old ++ all_written (section_tokens (codes "Citations") ks)) (sym (flat_map-cons citation_tokens c cs))

pub section_counts : (name : Text) (k : Token) (ks : List Token) (old one two three : ℕ) → one ≡ old + 1 → two ≡ one + length (k ∷ ks) → three ≡ two + 1 →
    three ≡ old + length (section_tokens name (k ∷ ks))
section_counts name k ks old one two three a b c =
    let whole : length ((k ∷ ks) ++ end name ∷ []) ≡ length (k ∷ ks) + 1 = length-append (k ∷ ks) (end name ∷ []) in omega arith

pub what_counts : (ps : List Param) (old one two three : ℕ) → 0 < length ps → one ≡ old + 1 → two ≡ one + length ps → three ≡ two + 1 → three ≡ old + length (what_tokens ps)
what_counts [] old one two three some a b c = absurd (omega arith)
what_counts (p ∷ ps) old one two three some a b c =
    section_counts (codes "What") (param_token p) (map param_token ps) old one two three a (let all = length-map ps param_token in omega arith) c

pub cited_counts : (cs : List Citation) (old one two three : ℕ) → 0 < length cs → one ≡ old + 1 → two ≡ one + length (flat_map citation_tokens cs) → three ≡ two + 1 →
    three ≡ old + length (cited_tokens cs)
cited_counts [] old one two three some a b e = absurd (omega arith)
cited_counts (c ∷ cs) old one two three some a b e =
    section_counts (codes "Citations") (cite_start c) (cite_rest c cs) old one two three a (b ∙ ap (λ (ks : List Token). one + length ks) (flat_map-cons citation_tokens c cs)) e
    ∙ ap (λ ks. old + length (section_tokens (codes "Citations") ks)) (sym (flat_map-cons citation_tokens c cs))

-- one more citation
pub citation_first : (cs : List Citation) (i : ℕ) (c : Citation) → i < length cs → c ≡ get_or cs i c →
    flat_map citation_tokens (drop i cs) ≡ citation_tokens c ++ flat_map citation_tokens (drop (i + 1) cs)
citation_first cs i c lt is =
    ap (flat_map citation_tokens) (drop-cons cs i c lt ∙ ap (λ x. x ∷ drop (suc i) cs) (sym is)) ∙ flat_map-cons citation_tokens c (drop (suc i) cs)
    ∙ ap (λ n. citation_tokens c ++ flat_map citation_tokens (drop n cs)) (sym (add-one i))

pub citation_bytes : (cs : List Citation) (i : ℕ) (c : Citation) → i < length cs → c ≡ get_or cs i c → (whole before after : Text) →
    before ++ all_written (flat_map citation_tokens (drop i cs)) ≡ whole → after ≡ before ++ all_written (citation_tokens c) → after ++ all_written (flat_map citation_tokens (drop (i + 1) cs)) ≡ whole
citation_bytes cs i c lt is whole before after so_far put =
    ap (λ s. s ++ all_written (flat_map citation_tokens (drop (i + 1) cs))) put
    ∙ append_assoc before (all_written (citation_tokens c)) (all_written (flat_map citation_tokens (drop (i + 1) cs)))
    ∙ ap (λ s. before ++ s) (sym (ap all_written (citation_first cs i c lt is) ∙ all_written-append (citation_tokens c) (flat_map citation_tokens (drop (i + 1) cs))))
    ∙ so_far

pub citation_counts : (cs : List Citation) (i : ℕ) (c : Citation) → i < length cs → c ≡ get_or cs i c → (whole before after : ℕ) →
    before + length (flat_map citation_tokens (drop i cs)) ≡ whole → after ≡ before + length (citation_tokens c) → after + length (flat_map citation_tokens (drop (i + 1) cs)) ≡ whole
citation_counts cs i c lt is whole before after so_far put =
    let one : length (flat_map citation_tokens (drop i cs)) ≡ length (citation_tokens c) + length (flat_map citation_tokens (drop (i + 1) cs)) =
    ap (λ (ks : List Token). length ks) (citation_first cs i c lt is) ∙ length-append (citation_tokens c) (flat_map citation_tokens (drop (i + 1) cs)) in omega arith

pub citation_named : (cs : List Citation) (i : ℕ) (c : Citation) → i < length cs → c ≡ get_or cs i c → has_identifier c ≡ true →
    (list_all has_identifier (drop i cs) ≡ true → list_all has_identifier cs ≡ true) → list_all has_identifier (drop (i + 1) cs) ≡ true → list_all has_identifier cs ≡ true
citation_named cs i c lt is named so_far more =
    so_far (ap (list_all has_identifier) (drop-cons cs i c lt ∙ ap (λ x. x ∷ drop (suc i) cs) (sym is) ∙ ap (λ n. c ∷ drop n cs) (sym (add-one i)))
    ∙ and_from (has_identifier c) (list_all has_identifier (drop (i + 1) cs)) named more)

-- ---- the text

role-plain : (r : Role) → written_value (role_word r) ≡ role_word r
role-plain Observation = refl
role-plain Prediction = refl
role-plain Utility = refl
role-plain Test = refl

cite-plain : (k : Cite) → written_value (cite_word k) ≡ cite_word k
cite-plain Followup = refl
cite-plain Supersedes = refl
cite-plain Retraction = refl

param-written : (p : Param) → written (param_token p) ≡ param_text p
param-written p = text_two (codes "<Param") (codes " name") (codes "=\"") (written_value p.name) (codes "\"") (codes " value") (written_value p.value) (codes "/>")

params-written : (ps : List Param) → all_written (map param_token ps) ≡ concat (map param_text ps)
params-written [] = refl
params-written (p ∷ ps) = ap (λ s. s ++ all_written (map param_token ps)) (param-written p) ∙ ap (λ s. param_text p ++ s) (params-written ps)

citation-written : (c : Citation) → all_written (citation_tokens c) ≡ citation_text c
citation-written c =
    citation_pieces c
    ∙ ap (λ s. ((codes "<EventIVORN" ++ ((((codes " cite" ++ codes "=\"") ++ s) ++ codes "\"") ++ [])) ++ codes ">") ++ (all_written (text_tokens c.identifier) ++ (written (end (codes "EventIVORN")) ++ [])))
    (cite-plain c.kind)
    ∙ text_one (codes "<EventIVORN") (codes " cite") (codes "=\"") (cite_word c.kind) (codes "\"") (codes ">") (all_written (text_tokens c.identifier)) (written (end (codes "EventIVORN")))

citations-written : (cs : List Citation) → all_written (flat_map citation_tokens cs) ≡ concat (map citation_text cs)
citations-written [] = refl
citations-written (c ∷ cs) =
    ap all_written (flat_map-cons citation_tokens c cs) ∙ all_written-append (citation_tokens c) (flat_map citation_tokens cs)
    ∙ ap (λ s. s ++ all_written (flat_map citation_tokens cs)) (citation-written c) ∙ ap (λ s. citation_text c ++ s) (citations-written cs)

section-written : (name : Text) (k : Token) (ks : List Token) (item : Text) (items : List Text) → all_written (k ∷ ks) ≡ concat (item ∷ items) →
    all_written (section_tokens name (k ∷ ks)) ≡ section_text name (item ∷ items)
section-written name k ks item items h =
    ap (λ s. written (start name [] false) ++ s) (all_written-append (k ∷ ks) (end name ∷ []) ∙ ap (λ s. s ++ all_written (end name ∷ [])) h)
    ∙ text_section (codes "<") name (codes ">") (concat (item ∷ items)) (codes "</")

what-written : (ps : List Param) → all_written (what_tokens ps) ≡ section_text (codes "What") (map param_text ps)
what-written [] = refl
what-written (p ∷ ps) = section-written (codes "What") (param_token p) (map param_token ps) (param_text p) (map param_text ps) (params-written (p ∷ ps))

cited-written : (cs : List Citation) → all_written (cited_tokens cs) ≡ section_text (codes "Citations") (map citation_text cs)
cited-written [] = refl
cited-written (c ∷ cs) =
    ap (λ ks. all_written (section_tokens (codes "Citations") ks)) (flat_map-cons citation_tokens c cs)
    ∙ section-written (codes "Citations") (cite_start c) (cite_rest c cs) (citation_text c) (map citation_text cs) (ap all_written (sym (flat_map-cons citation_tokens c cs)) ∙ citations-written (c ∷ cs))

root-written : (d : Draft) → written (root_token d) ≡ codes "<voe:VOEvent xmlns:voe=\"http://www.ivoa.net/xml/VOEvent/v2.0\" ivorn=\"" ++ written_value d.identifier
    ++ codes "\" role=\"" ++ role_word d.role ++ codes "\" version=\"2.0\">"
root-written d =
    text_four (codes "<voe:VOEvent") (codes " xmlns:voe=\"http://www.ivoa.net/xml/VOEvent/v2.0\"") (codes " ivorn") (codes "=\"") (written_value d.identifier) (codes "\"")
    (codes " role") (written_value (role_word d.role)) (codes " version=\"2.0\"") (codes ">")
    ∙ ap (λ s. codes "<voe:VOEvent xmlns:voe=\"http://www.ivoa.net/xml/VOEvent/v2.0\" ivorn=\"" ++ written_value d.identifier ++ codes "\" role=\"" ++ s ++ codes "\" version=\"2.0\">") (role-plain d.role)

pub draft-written : (d : Draft) → all_written (draft_tokens d) ≡ packet_text d
draft-written d =
    ap (λ s. written (root_token d) ++ s)
    (all_written-append (what_tokens d.params ++ cited_tokens d.citations) (end (codes "voe:VOEvent") ∷ [])
    ∙ ap (λ s. s ++ all_written (end (codes "voe:VOEvent") ∷ []))
    (all_written-append (what_tokens d.params) (cited_tokens d.citations) ∙ ap (λ s. s ++ all_written (cited_tokens d.citations)) (what-written d.params)
    ∙ ap (λ s. section_text (codes "What") (map param_text d.params) ++ s) (cited-written d.citations)))
    ∙ ap (λ s. s ++ ((section_text (codes "What") (map param_text d.params) ++ section_text (codes "Citations") (map citation_text d.citations)) ++ all_written (end (codes "voe:VOEvent") ∷ []))) (root-written d)
    ∙ text_whole (codes "<voe:VOEvent xmlns:voe=\"http://www.ivoa.net/xml/VOEvent/v2.0\" ivorn=\"" ++ written_value d.identifier ++ codes "\" role=\"" ++ role_word d.role ++ codes "\" version=\"2.0\">")
    (section_text (codes "What") (map param_text d.params)) (section_text (codes "Citations") (map citation_text d.citations)) (written (end (codes "voe:VOEvent")))

-- ---- the tokens of the tree

abbrev kids : List Element → List Token
kids es = all_in [] (map tokens_in (map (λ e. tree.Element e) es))

kids-append : (xs ys : List Element) → kids (xs ++ ys) ≡ kids xs ++ kids ys
kids-append [] ys = refl
kids-append (x ∷ xs) ys = ap (λ l. tokens_in (tree.Element x) [] ++ l) (kids-append xs ys) ∙ sym (append_assoc (tokens_in (tree.Element x) []) (kids xs) (kids ys))

one_element : (e : Element) → tokens_in (tree.Element e) [] ≡ start e.local (written_attributes [] e.space e.attributes) (length e.children == 0)
    ∷ all_in e.space (map tokens_in e.children) ++ end_tag (length e.children == 0) e.local
one_element e = tokens_in-element e [] ∙ tokens_of-layer e []

param-kids : (ps : List Param) → kids (map param_element ps) ≡ map param_token ps
param-kids [] = refl
param-kids (p ∷ ps) = ap (λ l. l ++ kids (map param_element ps)) (one_element (param_element p)) ∙ ap (λ l. param_token p ∷ l) (param-kids ps)

one_citation : (c : Citation) → tokens_in (tree.Element (citation_element c)) [] ≡ citation_tokens c
one_citation c =
    one_element (citation_element c)
    ∙ ap (λ l. start (codes "EventIVORN") (record { name = codes "cite"; value = written_value (cite_word c.kind) } ∷ []) false ∷ l ++ end (codes "EventIVORN") ∷ [])
    (append-nil (tokens_in (tree.Text c.identifier) []) ∙ tokens_in-text c.identifier [])

citation-kids : (cs : List Citation) → kids (map citation_element cs) ≡ flat_map citation_tokens cs
citation-kids [] = refl
citation-kids (c ∷ cs) =
    ap (λ l. l ++ kids (map citation_element cs)) (one_citation c) ∙ ap (λ l. citation_tokens c ++ l) (citation-kids cs) ∙ sym (flat_map-cons citation_tokens c cs)

some : (n : ℕ) → (suc n == 0) ≡ false
some n = false_since (suc n == 0) (λ e. let none : suc n ≡ 0 = eqb-true (suc n) 0 e in omega arith)

section-kids : (name : Text) (e : Element) (es : List Element) (k : Token) (ks : List Token) → kids (e ∷ es) ≡ k ∷ ks → kids (section_of name (e ∷ es)) ≡ section_tokens name (k ∷ ks)
section-kids name e es k ks h =
    append-nil (tokens_in (tree.Element (simple name [] (map (λ x. tree.Element x) (e ∷ es)))) [])
    ∙ one_element (simple name [] (map (λ x. tree.Element x) (e ∷ es)))
    ∙ ap (λ b. start name [] b ∷ kids (e ∷ es) ++ end_tag b name) (some (length (map (λ x. tree.Element x) es)))
    ∙ ap (λ l. start name [] false ∷ l ++ end name ∷ []) h

what-kids : (ps : List Param) → kids (section_of (codes "What") (map param_element ps)) ≡ what_tokens ps
what-kids [] = refl
what-kids (p ∷ ps) = section-kids (codes "What") (param_element p) (map param_element ps) (param_token p) (map param_token ps) (param-kids (p ∷ ps))

cited-kids : (cs : List Citation) → kids (section_of (codes "Citations") (map citation_element cs)) ≡ cited_tokens cs
cited-kids [] = refl
cited-kids (c ∷ cs) =
    section-kids (codes "Citations") (citation_element c) (map citation_element cs) (cite_start c) (cite_rest c cs) (citation-kids (c ∷ cs) ∙ flat_map-cons citation_tokens c cs)
    ∙ ap (section_tokens (codes "Citations")) (sym (flat_map-cons citation_tokens c cs))

pub tokens-are : (d : Draft) → packet_tokens d ≡ draft_tokens d
tokens-are d =
    ap (λ l. root_token d ∷ l ++ end (codes "voe:VOEvent") ∷ [])
    (kids-append (section_of (codes "What") (map param_element d.params)) (section_of (codes "Citations") (map citation_element d.citations))
    ∙ ap (λ l. l ++ kids (section_of (codes "Citations") (map citation_element d.citations))) (what-kids d.params)
    ∙ ap (λ l. what_tokens d.params ++ l) (cited-kids d.citations))

-- the text of the tree is the packet's
pub packet-prefixed : (d : Draft) → prefixed (codes "voe") (draft_root d) ≡ packet_text d
packet-prefixed d = ap all_written (tokens-are d) ∙ draft-written d

-- ---- bounds

params-narrow : (ps : List Param) → list_all is_narrow (map param_token ps) ≡ true
params-narrow [] = refl
params-narrow (p ∷ ps) = params-narrow ps

citation-narrow : (c : Citation) → list_all is_narrow (citation_tokens c) ≡ true
citation-narrow c =
    list_all-append is_narrow (text_tokens c.identifier) (end (codes "EventIVORN") ∷ [])
    ∙ and_from (list_all is_narrow (text_tokens c.identifier)) true (text_tokens-narrow c.identifier) refl

citations-narrow : (cs : List Citation) → list_all is_narrow (flat_map citation_tokens cs) ≡ true
citations-narrow [] = refl
citations-narrow (c ∷ cs) =
    ap (list_all is_narrow) (flat_map-cons citation_tokens c cs) ∙ list_all-append is_narrow (citation_tokens c) (flat_map citation_tokens cs)
    ∙ and_from (list_all is_narrow (citation_tokens c)) (list_all is_narrow (flat_map citation_tokens cs)) (citation-narrow c) (citations-narrow cs)

section-narrow : (name : Text) (ks : List Token) → list_all is_narrow ks ≡ true → list_all is_narrow (section_tokens name ks) ≡ true
section-narrow name [] h = refl
section-narrow name (k ∷ ks) h = list_all-append is_narrow (k ∷ ks) (end name ∷ []) ∙ and_from (list_all is_narrow (k ∷ ks)) true h refl

draft-narrow : (d : Draft) → list_all is_narrow (draft_tokens d) ≡ true
draft-narrow d =
    list_all-append is_narrow (what_tokens d.params ++ cited_tokens d.citations) (end (codes "voe:VOEvent") ∷ [])
    ∙ and_from (list_all is_narrow (what_tokens d.params ++ cited_tokens d.citations)) true
    (list_all-append is_narrow (what_tokens d.params) (cited_tokens d.citations)
    ∙ and_from (list_all is_narrow (what_tokens d.params)) (list_all is_narrow (cited_tokens d.citations))
    (section-narrow (codes "What") (map param_token d.params) (params-narrow d.params))
    (section-narrow (codes "Citations") (flat_map citation_tokens d.citations) (citations-narrow d.citations)))
    refl

-- no tag of a draft has too many attributes
pub fits-is : (d : Draft) → fits_packet d ≡ are_few (length (packet_text d)) (length (draft_tokens d))
fits-is d =
    ap (is_short (length (packet_text d))) (tokens-are d)
    ∙ ap (λ b. are_few (length (packet_text d)) (length (draft_tokens d)) && b) (draft-narrow d) ∙ and-true (are_few (length (packet_text d)) (length (draft_tokens d)))

-- ---- what the writer ends with

pub written_whole : (d : Draft) (bytes root what cited ended : Text) → bytes ≡ [] → root ≡ bytes ++ written (root_token d) → what ≡ root ++ all_written (what_tokens d.params) →
    cited ≡ what ++ all_written (cited_tokens d.citations) → ended ≡ cited ++ written (end (codes "voe:VOEvent")) → ended ≡ packet_text d
written_whole d bytes root what cited ended z a b c e =
    e ∙ ap (λ s. s ++ written (end (codes "voe:VOEvent"))) (c ∙ ap (λ s. s ++ all_written (cited_tokens d.citations)) (b ∙ ap (λ s. s ++ all_written (what_tokens d.params)) (a ∙ ap (λ s. s ++ written (root_token d)) z)))
    ∙ append_assoc (written (root_token d) ++ all_written (what_tokens d.params)) (all_written (cited_tokens d.citations)) (written (end (codes "voe:VOEvent")))
    ∙ append_assoc (written (root_token d)) (all_written (what_tokens d.params)) (all_written (cited_tokens d.citations) ++ written (end (codes "voe:VOEvent")))
    ∙ ap (λ s. written (root_token d) ++ (all_written (what_tokens d.params) ++ (all_written (cited_tokens d.citations) ++ s))) (sym (append-nil (written (end (codes "voe:VOEvent")))))
    ∙ ap (λ s. written (root_token d) ++ s)
    (sym (append_assoc (all_written (what_tokens d.params)) (all_written (cited_tokens d.citations)) (all_written (end (codes "voe:VOEvent") ∷ [])))
    ∙ ap (λ s. s ++ all_written (end (codes "voe:VOEvent") ∷ [])) (sym (all_written-append (what_tokens d.params) (cited_tokens d.citations)))
    ∙ sym (all_written-append (what_tokens d.params ++ cited_tokens d.citations) (end (codes "voe:VOEvent") ∷ [])))
    ∙ draft-written d

pub counted_whole : (d : Draft) (tokens root what cited ended : ℕ) → tokens ≡ 0 → root ≡ tokens + 1 → what ≡ root + length (what_tokens d.params) →
    cited ≡ what + length (cited_tokens d.citations) → ended ≡ cited + 1 → ended ≡ length (draft_tokens d)
counted_whole d tokens root what cited ended z a b c e =
    let one : length ((what_tokens d.params ++ cited_tokens d.citations) ++ end (codes "voe:VOEvent") ∷ []) ≡ length (what_tokens d.params ++ cited_tokens d.citations) + 1 =
    length-append (what_tokens d.params ++ cited_tokens d.citations) (end (codes "voe:VOEvent") ∷ []) in
    let two : length (what_tokens d.params ++ cited_tokens d.citations) ≡ length (what_tokens d.params) + length (cited_tokens d.citations) =
    length-append (what_tokens d.params) (cited_tokens d.citations) in
    omega arith
