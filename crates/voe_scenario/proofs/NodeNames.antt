-- Names of nodes are names of ends.
use Rattle.std.proofs.Common.{◌≡◌, ℕ, ◌^◌, ◌<◌, ◌≤◌, ◌&&◌, Bool, true, List, [], ◌∷◌, ◌++◌, length, refl, arith, lit<, codes, length-append, nat_lt}
use Rattle.std.proofs.lemmas.Bool.{le-leb}
use Rattle.std.proofs.lemmas.Bool.Decides.{nat_tests}
use Rattle.std.proofs.lemmas.Fmt.{decimal_is_IsNumeral, length-decimal-le}
use Rattle.std.proofs.lemmas.List.Folds.{list_all-append}
use Rattle.std.proofs.lemmas.Str.{IsUtf8-from_ascii, is_utf8-from_IsUtf8, chars-IsAscii}
use Rattle.std.proofs.lemmas.Str.Parse.{digit_from_value}
use Rattle.std.specs.Fmt.{decimal}
use Rattle.std.specs.List.{list_all}
use Rattle.std.specs.Str.Parse.{AllDigits}
use Rattle.voe_values.specs.EndName.{is_end_name, is_name_character}
use Rattle.node_notes.specs.Forms.{is_name}
use Rattle.voe_scenario.specs.Shapes.{node_name}
use Rattle.voe_scenario.specs.Words.{is_printable}
use Rattle.voe_scenario.proofs.Printable.{both, printable_ascii}

-- a byte that is printable and no blank
abbrev is_visible : ℕ → Bool
is_visible b = nat_lt 32 b && nat_lt b 127

visible_printed : (b : ℕ) → is_visible b ≡ true → is_printable b ≡ true
visible_printed b is = grind (arith, nat_tests)

visible_named : (b : ℕ) → is_visible b ≡ true → is_name_character b ≡ true
visible_named b is = grind (arith, nat_tests)

all_printed : (s : List ℕ) → list_all is_visible s ≡ true → list_all is_printable s ≡ true
all_printed [] is = refl
all_printed (b ∷ s) is =
    let parts = both (is_visible b) (list_all is_visible s) is in
    rw (visible_printed b parts.0, all_printed s parts.1) refl

all_named : (s : List ℕ) → list_all is_visible s ≡ true → list_all is_name_character s ≡ true
all_named [] is = refl
all_named (b ∷ s) is =
    let parts = both (is_visible b) (list_all is_visible s) is in
    rw (visible_named b parts.0, all_named s parts.1) refl

visible_digit : (b : ℕ) → 48 ≤ b → b < 58 → is_visible b ≡ true
visible_digit b low high = grind (arith, nat_tests)

visible_digits : (s : List ℕ) → AllDigits 10 s → list_all is_visible s ≡ true
visible_digits [] all = refl
visible_digits (b ∷ s) all =
    let range = digit_from_value b all.0 in
    let low = range.0 in
    let high = range.1 in
    rw (visible_digit b (omega arith) (omega arith), visible_digits s all.1) refl

visible_decimal : (n : ℕ) → n < 2 ^ 64 → list_all is_visible (decimal n) ≡ true
visible_decimal n small = visible_digits (decimal n) (decimal_is_IsNumeral n small).0.1

few_digits : (n : ℕ) → n < 2 ^ 64 → length (decimal n) ≤ 20
few_digits n small = length-decimal-le 20 n (lit< tt) (omega arith) small

-- a text of visible bytes is the name of an end
visible_end : (s : List ℕ) → list_all is_visible s ≡ true → 1 ≤ length s → length s ≤ 512 → is_end_name s ≡ true
unfolding is_end_name
visible_end s is some few =
    let ascii = printable_ascii s (all_printed s is) in
    rw (le-leb 1 (length s) some, le-leb (length s) 512 few, chars-IsAscii s ascii) (all_named s is)

visible_name : (s : List ℕ) → list_all is_visible s ≡ true → is_end_name s ≡ true → is_name s ≡ true
unfolding is_name
visible_name s is named =
    let ascii = printable_ascii s (all_printed s is) in
    rw (is_utf8-from_IsUtf8 s (IsUtf8-from_ascii s ascii)) named

visible_node : (n : ℕ) → n < 2 ^ 64 → list_all is_visible (node_name n) ≡ true
visible_node n small = rw (list_all-append is_visible (codes "ivo://node/") (decimal n), visible_decimal n small) refl

node_length : (n : ℕ) → n < 2 ^ 64 → (11 ≤ length (node_name n)) × (length (node_name n) ≤ 31)
node_length n small =
    let whole = length-append (codes "ivo://node/") (decimal n) in
    let few = few_digits n small in
    (omega arith, omega arith)

-- a node's name with a number behind it
numbered : ℕ → ℕ → List ℕ
numbered n number = node_name n ++ (codes "." ++ decimal number)

visible_numbered : (n number : ℕ) → n < 2 ^ 64 → number < 2 ^ 64 → list_all is_visible (numbered n number) ≡ true
unfolding numbered
visible_numbered n number small low =
    rw (list_all-append is_visible (node_name n) (codes "." ++ decimal number), visible_node n small, visible_decimal number low) refl

pub node_end : (n : ℕ) → n < 2 ^ 64 → is_end_name (node_name n) ≡ true
node_end n small =
    let size = node_length n small in
    let low = size.0 in
    let high = size.1 in
    visible_end (node_name n) (visible_node n small) (omega arith) (omega arith)

pub numbered_end : (n number : ℕ) → n < 2 ^ 64 → number < 2 ^ 64 → is_end_name (node_name n ++ (codes "." ++ decimal number)) ≡ true
unfolding numbered
numbered_end n number small low =
    let size = node_length n small in
    let most = size.1 in
    let least = size.0 in
    let few = few_digits number low in
    let whole = length-append (node_name n) (codes "." ++ decimal number) in
    visible_end (numbered n number) (visible_numbered n number small low) (omega arith) (omega arith)

pub node_named : (n : ℕ) → n < 2 ^ 64 → is_name (node_name n) ≡ true
node_named n small = visible_name (node_name n) (visible_node n small) (node_end n small)

pub numbered_named : (n number : ℕ) → n < 2 ^ 64 → number < 2 ^ 64 → is_name (node_name n ++ (codes "." ++ decimal number)) ≡ true
unfolding numbered
numbered_named n number small low = visible_name (numbered n number) (visible_numbered n number small low) (numbered_end n number small low)
