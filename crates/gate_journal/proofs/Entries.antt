-- Entries, where they stand and what they are.
use Rattle.std.proofs.Common.{◌≡◌, ℕ, zero, suc, ◌+◌, ◌<◌, ◌≤◌, true, List, [], ◌∷◌, ◌++◌, length, get_or, take, drop, refl, sym, ◌∙◌, ap, arith, append_assoc, length-append, length-drop}
use Rattle.std.specs.Prelude.{Bool, ◌&&◌, ◌==◌}
use Rattle.std.specs.List.{flat_map}
use Rattle.std.proofs.lemmas.Bool.{and_parts, and_from}
use Rattle.std.proofs.lemmas.Bool.Decides.{nat_tests}
use Rattle.std.proofs.lemmas.List.{drop-take, take-take, take_at, drop_at, length-take, map-append}
use Rattle.gate_journal.specs.Format.{header, length_bytes, body_of, front}
use Rattle.gate_journal.specs.Entries.{payload_at, payloads_at, are_chained}
use Rattle.gate_journal.specs.declared.entry.Entry.{Entry}
use Rattle.gate_journal.proofs.Split.{length-header}

same_number : (m n : ℕ) → (m == n) ≡ true → m ≡ n
same_number m n is = grind (arith, nat_tests)

is_same : (m n : ℕ) → m ≡ n → (m == n) ≡ true
is_same m n is = grind (arith, nat_tests)

and_left_part : (a b : Bool) → (a && b) ≡ true → a ≡ true
and_left_part a b is = (and_parts a b is).0

and_right_part : (a b : Bool) → (a && b) ≡ true → b ≡ true
and_right_part a b is = (and_parts a b is).1

pub chained_on : (first : ℕ) (entries : List Entry) (last : ℕ) → are_chained first entries last ≡ true → first ≤ last
chained_on first [] last all = omega (arith, same_number first last all)
chained_on first (entry ∷ rest) last all =
    let on = chained_on (first + 5 + entry.count) rest last (and_right_part (entry.gate == first) (are_chained (first + 5 + entry.count) rest last) all) in
    omega (arith, on)

pub chained-push : (first : ℕ) (entries : List Entry) (last : ℕ) (entry : Entry) → are_chained first entries last ≡ true → entry.gate ≡ last
    → are_chained first (entries ++ entry ∷ []) (last + 5 + entry.count) ≡ true
chained-push first [] last entry all at =
    let here : first ≡ last = same_number first last all in
    and_from _ _ (is_same entry.gate first (omega (arith, at, here))) (is_same (first + 5 + entry.count) (last + 5 + entry.count) (omega (arith, here)))
chained-push first (before ∷ rest) last entry all at =
    let parts = and_parts _ _ all in
    and_from _ _ parts.0 (chained-push (first + 5 + before.count) rest last entry parts.1 at)

-- what stands before a place is all that its entries need
pub same_before : (xs ys : List ℕ) (first : ℕ) (entries : List Entry) (last : ℕ) → take last xs ≡ take last ys → are_chained first entries last ≡ true → payloads_at xs entries ≡ payloads_at ys entries
same_before xs ys first [] last same all = refl
same_before xs ys first (entry ∷ rest) last same all =
    let parts = and_parts _ _ all in
    let gate = same_number entry.gate first parts.0 in
    let within : entry.gate + 5 + entry.count ≤ last = omega (arith, gate, chained_on (first + 5 + entry.count) rest last parts.1) in
    let here : payload_at xs entry ≡ payload_at ys entry =
    sym (drop-take (entry.gate + 5) entry.count xs) ∙ ap (drop (entry.gate + 5)) (shorter xs ys (entry.gate + 5 + entry.count) last within same) ∙ drop-take (entry.gate + 5) entry.count ys in
    let others = same_before xs ys (first + 5 + entry.count) rest last same parts.1 in
    λ i. here i ∷ others i
  where
    shorter : (xs ys : List ℕ) (m n : ℕ) → m ≤ n → take n xs ≡ take n ys → take m xs ≡ take m ys
    shorter xs ys m n le same = sym (take-take m n xs le) ∙ ap (take m) same ∙ take-take m n ys le

-- what stands behind an open gate
pub found : (bytes before payload next : List ℕ) (entry : Entry) → bytes ≡ before ++ 1 ∷ (body_of payload ++ next) → entry.gate ≡ length before → entry.count ≡ length payload → payload_at bytes entry ≡ payload
unfolding length_bytes
found bytes before payload next entry is at count =
    let lengths = length_bytes (length payload) in
    let whole : bytes ≡ (before ++ 1 ∷ lengths) ++ (payload ++ next) =
    is ∙ ap (λ (l : List ℕ). before ++ 1 ∷ l) (append_assoc lengths payload next) ∙ sym (append_assoc before (1 ∷ lengths) (payload ++ next)) in
    let front_size : length (before ++ 1 ∷ lengths) ≡ entry.gate + 5 = omega (arith, at, length-append before (1 ∷ lengths)) in
    ap (λ (l : List ℕ). take entry.count (drop (entry.gate + 5) l)) whole
    ∙ ap (take entry.count) (drop_at (before ++ 1 ∷ lengths) (payload ++ next) (entry.gate + 5) front_size) ∙ take_at payload next entry.count (sym count)

-- one entry more
pub payloads-push : (bytes : List ℕ) (entries : List Entry) (entry : Entry) → payloads_at bytes (entries ++ entry ∷ []) ≡ payloads_at bytes entries ++ payload_at bytes entry ∷ []
payloads-push bytes entries entry = map-append (payload_at bytes) entries (entry ∷ [])

-- where each of them stands
abbrev spelled : List (List ℕ) → List ℕ
spelled payloads = flat_map (λ payload. 1 ∷ body_of payload) payloads

spelled_size : (payload : List ℕ) (rest : List ℕ) → length ((1 ∷ body_of payload) ++ rest) ≡ 5 + length payload + length rest
unfolding length_bytes
spelled_size payload rest = omega (arith, length-append (1 ∷ body_of payload) rest, length-append (length_bytes (length payload)) payload)

gate_from : (bytes : List ℕ) (first : ℕ) (entries : List Entry) (last k : ℕ) (any : Entry) → last ≤ length bytes → are_chained first entries last ≡ true → k < length entries
    → (get_or entries k any).gate ≡ first + length (spelled (take k (payloads_at bytes entries)))
gate_from bytes first [] last k any fits all lt = absurd (omega (arith, lt))
gate_from bytes first (entry ∷ rest) last zero any fits all lt =
    let gate = same_number entry.gate first (and_left_part (entry.gate == first) (are_chained (first + 5 + entry.count) rest last) all) in
    omega (arith, gate)
gate_from bytes first (entry ∷ rest) last (suc k) any fits all lt =
    let parts = and_parts _ _ all in
    let gate = same_number entry.gate first parts.0 in
    let within : entry.gate + 5 + entry.count ≤ last = omega (arith, gate, chained_on (first + 5 + entry.count) rest last parts.1) in
    let size : length (payload_at bytes entry) ≡ entry.count = omega (arith, within, fits, length-take entry.count (drop (entry.gate + 5) bytes), length-drop (entry.gate + 5) bytes) in
    let later = gate_from bytes (first + 5 + entry.count) rest last k any fits parts.1 (omega (arith, lt)) in
    omega (arith, later, size, spelled_size (payload_at bytes entry) (spelled (take k (payloads_at bytes rest))))

pub gate_is : (bytes : List ℕ) (entries : List Entry) (last k : ℕ) (any : Entry) → last ≤ length bytes → are_chained 16 entries last ≡ true → k < length entries
    → (get_or entries k any).gate ≡ length (front (take k (payloads_at bytes entries)))
gate_is bytes entries last k any fits all lt =
    omega (arith, gate_from bytes 16 entries last k any fits all lt, length-append header (spelled (take k (payloads_at bytes entries))), length-header)

-- each lies within
pub within_at : (first : ℕ) (entries : List Entry) (last k : ℕ) (any : Entry) → are_chained first entries last ≡ true → k < length entries → (get_or entries k any).gate + 5 + (get_or entries k any).count ≤ last
within_at first [] last k any all lt = absurd (omega (arith, lt))
within_at first (entry ∷ rest) last zero any all lt =
    let parts = and_parts _ _ all in
    let gate = same_number entry.gate first parts.0 in
    let on = chained_on (first + 5 + entry.count) rest last parts.1 in
    omega (arith, gate, on)
within_at first (entry ∷ rest) last (suc k) any all lt =
    within_at (first + 5 + entry.count) rest last k any (and_right_part (entry.gate == first) (are_chained (first + 5 + entry.count) rest last) all) (omega (arith, lt))
