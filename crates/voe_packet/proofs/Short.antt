-- A draft with few short parameters fits.
use Rattle.std.proofs.Common.{◌≡◌, ℕ, ◌+◌, ◌*◌, ◌≤◌, Bool, true, false, List, [], ◌∷◌, ◌++◌, length, map, ◌∙◌, ap, arith, length-append}
use Rattle.std.specs.Prelude.{◌==◌, nat_le, if◌then◌else◌, codes}
use Rattle.std.specs.List.{concat}
use Rattle.std.proofs.lemmas.Bool.{and_from, le-leb}
use Rattle.std.proofs.lemmas.List.{length-map}
use Rattle.xml_lexer.specs.Characters.{Text}
use Rattle.xml_lexer.specs.Token.{end}
use Rattle.xml_lexer.specs.Phases.{max_tokens}
use Rattle.voe_tree.specs.Canonical.{is_escaped_in_value, max_bytes, reference_to, written_value}
use Rattle.voe_values.specs.declared.citation.Role.{Role}
use Rattle.voe_values.specs.declared.citation.Role.TheVariants.{Observation, Prediction, Utility, Test}
use Rattle.voe_packet.specs.Words.{role_word}
use Rattle.voe_packet.specs.Params.{param_text, param_token}
use Rattle.voe_packet.specs.Drafts.{citation_text, fits_packet, packet_text, params_size, section_text}
use Rattle.voe_packet.specs.DraftTokens.{cited_tokens, draft_tokens, what_tokens}
use Rattle.voe_packet.specs.declared.draft.Draft.{Draft}
use Rattle.voe_packet.specs.declared.param.Param.{Param}
use Rattle.voe_packet.proofs.Written.{fits-is}

chosen : (a b c d e f : Bool) →
    length (if a then codes "&amp;" else (if b then codes "&lt;" else (if c then codes "&gt;" else (if d then codes "&quot;" else (if e then codes "&#9;" else (if f then codes "&#10;" else codes "&#13;")))))) ≤ 6
chosen true b c d e f = omega arith
chosen false true c d e f = omega arith
chosen false false true d e f = omega arith
chosen false false false true e f = omega arith
chosen false false false false true f = omega arith
chosen false false false false false true = omega arith
chosen false false false false false false = omega arith

one_byte : (b : ℕ) (t : Bool) → length (if t then reference_to b else b ∷ []) ≤ 6
one_byte b true = chosen (b == 38) (b == 60) (b == 62) (b == 34) (b == 9) (b == 10)
one_byte b false = omega arith

value-length : (s : Text) → length (written_value s) ≤ 6 * length s
value-length [] = omega arith
value-length (b ∷ s) =
    let own = one_byte b (is_escaped_in_value b) in
    let more = value-length s in
    let whole = length-append (if is_escaped_in_value b then reference_to b else b ∷ []) (written_value s) in omega arith

role-length : (r : Role) → length (role_word r) ≤ 11
role-length Observation = omega arith
role-length Prediction = omega arith
role-length Utility = omega arith
role-length Test = omega arith

five : (a b c d e : Text) → length ((((a ++ b) ++ c) ++ d) ++ e) ≡ length a + length b + length c + length d + length e
five a b c d e =
    length-append (((a ++ b) ++ c) ++ d) e
    ∙ ap (λ n. n + length e) (length-append ((a ++ b) ++ c) d ∙ ap (λ n. n + length d) (length-append (a ++ b) c ∙ ap (λ n. n + length c) (length-append a b)))

param-length : (p : Param) → length (param_text p) ≤ 25 + 6 * (length p.name + length p.value)
param-length p =
    let whole = five (codes "<Param name=\"") (written_value p.name) (codes "\" value=\"") (written_value p.value) (codes "\"/>") in
    let name = value-length p.name in
    let value = value-length p.value in omega arith

params-length : (ps : List Param) → length (concat (map param_text ps)) ≤ 25 * length ps + 6 * params_size ps
params-length [] = omega arith
params-length (p ∷ ps) =
    let whole = length-append (param_text p) (concat (map param_text ps)) in
    let own = param-length p in
    let more = params-length ps in omega arith

section-length : (ps : List Param) → length (section_text (codes "What") (map param_text ps)) ≤ 13 + 25 * length ps + 6 * params_size ps
section-length [] = omega arith
section-length (p ∷ ps) =
    let whole = five (codes "<What>") (concat (map param_text (p ∷ ps))) (codes "</") (codes "What") (codes ">") in
    let more = params-length (p ∷ ps) in omega arith

pub text-length : (d : Draft) → d.citations ≡ [] → length (packet_text d) ≤ 131 + 6 * length d.identifier + 25 * length d.params + 6 * params_size d.params
text-length d none =
    let head = five (codes "<voe:VOEvent xmlns:voe=\"http://www.ivoa.net/xml/VOEvent/v2.0\" ivorn=\"") (written_value d.identifier) (codes "\" role=\"") (role_word d.role) (codes "\" version=\"2.0\">") in
    let whole = five (codes "<voe:VOEvent xmlns:voe=\"http://www.ivoa.net/xml/VOEvent/v2.0\" ivorn=\"" ++ written_value d.identifier ++ codes "\" role=\"" ++ role_word d.role ++ codes "\" version=\"2.0\">")
    (section_text (codes "What") (map param_text d.params)) (section_text (codes "Citations") (map citation_text d.citations)) (codes "</voe:VOEvent>") [] in
    let shorter = length-append (packet_text d) [] in
    let cited : length (section_text (codes "Citations") (map citation_text d.citations)) ≡ 0 = ap (λ cs. length (section_text (codes "Citations") (map citation_text cs))) none in
    let identifier = value-length d.identifier in
    let role = role-length d.role in
    let section = section-length d.params in omega arith

what-count : (ps : List Param) → length (what_tokens ps) ≤ 2 + length ps
what-count [] = omega arith
what-count (p ∷ ps) =
    let whole = length-append (map param_token (p ∷ ps)) (end (codes "What") ∷ []) in
    let all = length-map (p ∷ ps) param_token in omega arith

count : (d : Draft) → d.citations ≡ [] → length (draft_tokens d) ≤ 4 + length d.params
count d none =
    let whole = length-append (what_tokens d.params ++ cited_tokens d.citations) (end (codes "voe:VOEvent") ∷ []) in
    let inner = length-append (what_tokens d.params) (cited_tokens d.citations) in
    let cited : length (cited_tokens d.citations) ≡ 0 = ap (λ cs. length (cited_tokens cs)) none in
    let what = what-count d.params in omega arith

pub short-fits : (d : Draft) → length d.identifier + params_size d.params ≤ 4096 → length d.params ≤ 64 → d.citations ≡ [] → fits_packet d ≡ true
short-fits d small few none =
    let bytes = text-length d none in
    let tokens = count d none in
    fits-is d ∙ and_from (nat_le (length (packet_text d)) max_bytes) (nat_le (length (draft_tokens d)) max_tokens)
    (le-leb (length (packet_text d)) 1048576 (omega arith)) (le-leb (length (draft_tokens d)) 65536 (omega arith))
