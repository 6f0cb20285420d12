-- What a line may say.
use Rattle.std.proofs.Common.{◌≡◌, ℕ, zero, suc, ◌+◌, ◌<◌, ◌≤◌, ◌&&◌, Bool, true, false, cond, IsTrue, List, [], ◌∷◌, Option, Some, None, codes, length, map, nat_le, refl, arith, take, drop, ◌==◌, subst}
use Rattle.std.proofs.lemmas.Bool.{leb-true}
use Rattle.std.proofs.lemmas.Bool.Decides.{nat_tests}
use Rattle.std.proofs.lemmas.List.{length-take, length-drop}
use Rattle.std.proofs.lemmas.Str.{IsUtf8-from_ascii, is_utf8-from_IsUtf8, chars-IsAscii}
use Rattle.std.specs.List.{list_all, position_or_len, slice_split, onto_first, before_first, after_first}
use Rattle.std.specs.Str.{bytes_eq}
use Rattle.xml_lexer.specs.Characters.{is_xml_character}
use Rattle.voe_tree.specs.Texts.{is_xml_text}
use Rattle.voe_values.specs.declared.citation.Role.{Role}
use Rattle.net_model.specs.declared.scenario.Event.{Event}
use Rattle.net_model.specs.declared.scenario.Event.TheVariants.{Write, Send, Down, Up, Cut, Connect, Crash, Reopen, Stop, Drain}
use Rattle.net_model.specs.declared.scenario.Inner.{Inner}
use Rattle.voe_packet.specs.Drafts.{has_xml_texts, is_xml_param, params_size}
use Rattle.voe_packet.specs.declared.draft.Draft.{Draft}
use Rattle.voe_scenario.specs.Grammar.{Said, says_node, says_line, says_link, says_filter, says_packet, says_event, alone_said, one_said, pair_said, plain_said, stopped, stop_said, inner_said, is_equals, has_equals, param_in, drafted, packet_words_said, role_said, filter_of, filter_said, split_said, text_said, said_of}
use Rattle.voe_scenario.specs.Words.{behind_word, first_word, is_blank, is_printable, number_of, words_of}
use Rattle.voe_scenario.proofs.ConfigKept.{passing_parts, passing_rest}
use Rattle.voe_scenario.proofs.Printable.{both, printable_ascii}

-- ---- texts of printable bytes

printed_character : (b : ℕ) → is_printable b ≡ true → is_xml_character b ≡ true
printed_character b is = grind (arith, nat_tests)

printed_characters : (s : List ℕ) → list_all is_printable s ≡ true → list_all is_xml_character s ≡ true
printed_characters [] is = refl
printed_characters (b ∷ s) is =
    let parts = both (is_printable b) (list_all is_printable s) is in
    rw (printed_character b parts.0, printed_characters s parts.1) refl

pub printed_xml : (s : List ℕ) → list_all is_printable s ≡ true → is_xml_text s ≡ true
printed_xml s is =
    let ascii = printable_ascii s is in
    rw (is_utf8-from_IsUtf8 s (IsUtf8-from_ascii s ascii), chars-IsAscii s ascii) (printed_characters s is)

passing_front : (q : ℕ → Bool) (n : ℕ) (xs : List ℕ) → list_all q xs ≡ true → list_all q (take n xs) ≡ true
passing_front q zero xs all = refl
passing_front q (suc n) [] all = refl
passing_front q (suc n) (x ∷ xs) all =
    let parts = both (q x) (list_all q xs) all in
    rw (parts.0, passing_front q n xs parts.1) refl

-- ---- how long words are

abbrev pub total : List (List ℕ) → ℕ
total [] = 0
total (word ∷ words) = length word + total words

first_total : (x : ℕ) (parts : List (List ℕ)) → total (onto_first x parts) ≤ total parts + 1
first_total x [] = omega arith
first_total x (part ∷ parts) = omega arith

parts_total : (p : ℕ → Bool) (xs : List ℕ) → total (slice_split p xs) ≤ length xs
parts_total p [] = omega arith
parts_total p (x ∷ xs) =
    let others = parts_total p xs in
    let choose : (b : Bool) → total (cond b ([] ∷ slice_split p xs) (onto_first x (slice_split p xs))) ≤ suc (length xs)
    = λ b. elim b as (λ b. total (cond b ([] ∷ slice_split p xs) (onto_first x (slice_split p xs))) ≤ suc (length xs)) [
      | true ↦ omega arith
      | false ↦ let first = first_total x (slice_split p xs) in omega arith
    ] in
    choose (p x)

param_size : (word : List ℕ) → length (before_first is_equals word) + length (after_first is_equals word) ≤ length word
param_size word =
    let at = position_or_len is_equals word in
    let front = length-take at word in
    let rest = length-drop (at + 1) word in omega arith

params_total : (words : List (List ℕ)) → params_size (map param_in words) ≤ total words
params_total [] = omega arith
params_total (word ∷ words) =
    let own = param_size word in
    let others = params_total words in omega arith

params_xml : (words : List (List ℕ)) → list_all (list_all is_printable) words ≡ true → list_all is_xml_param (map param_in words) ≡ true
params_xml [] printed = refl
params_xml (word ∷ words) printed =
    let parts = both (list_all is_printable word) (list_all (list_all is_printable) words) printed in
    let at = position_or_len is_equals word in
    rw (printed_xml (take at word) (passing_front is_printable at word parts.0), printed_xml (drop (at + 1) word) (passing_rest is_printable (at + 1) word parts.0), params_xml words parts.1) refl

-- ---- what is said

-- a packet may be written, and its texts are no longer than its line
pub record IsSpokenDraft (line : List ℕ) (draft : Draft) : Type 0 where
  pub texts : IsTrue (has_xml_texts draft)
  pub size : length draft.identifier + params_size draft.params ≤ length line
  pub uncited : draft.citations ≡ []

abbrev pub IsSpokenEvent : Event → Type 0
IsSpokenEvent (Write author packet) = Unit {0}
IsSpokenEvent (Send edge) = Unit {0}
IsSpokenEvent (Down edge) = Unit {0}
IsSpokenEvent (Up edge) = Unit {0}
IsSpokenEvent (Cut edge) = Unit {0}
IsSpokenEvent (Connect edge) = Unit {0}
IsSpokenEvent (Crash node) = Unit {0}
IsSpokenEvent (Reopen node) = Unit {0}
IsSpokenEvent (Stop calls fill inner) = (calls ≤ 4) × (fill ≤ 255)
IsSpokenEvent Drain = Unit {0}

abbrev pub IsSpoken : List ℕ → Option Said → Type 0
IsSpoken line None = Unit {0}
IsSpoken line (Some (says_node kind)) = Unit {0}
IsSpoken line (Some (says_line upper lower)) = Unit {0}
IsSpoken line (Some (says_link upper lower)) = Unit {0}
IsSpoken line (Some (says_filter edge text)) = (0 < length text) × (list_all is_printable text ≡ true)
IsSpoken line (Some (says_packet draft)) = IsSpokenDraft line draft
IsSpoken line (Some (says_event event)) = IsSpokenEvent event

module _ (line : List ℕ) where
  spoken_cond : (b : Bool) (p q : Option Said) → IsSpoken line p → IsSpoken line q → IsSpoken line (cond b p q)
  spoken_cond true p q first second = first
  spoken_cond false p q first second = second

  spoken_if : (b : Bool) (p : Option Said) → (b ≡ true → IsSpoken line p) → IsSpoken line (cond b p None)
  spoken_if true p first = first refl
  spoken_if false p first = tt

  spoken_alone : (word : List ℕ) → IsSpoken line (alone_said word)
  spoken_alone word =
      spoken_cond (bytes_eq word (codes "author")) _ _ tt
      (spoken_cond (bytes_eq word (codes "broker")) _ _ tt
      (spoken_cond (bytes_eq word (codes "subscriber")) _ _ tt
      (spoken_cond (bytes_eq word (codes "drain")) (Some (says_event Drain)) None tt tt)))

  spoken_one : (word : List ℕ) (number : Option ℕ) → IsSpoken line (one_said word number)
  spoken_one word None = tt
  spoken_one word (Some number) =
      spoken_cond (bytes_eq word (codes "send")) _ _ tt
      (spoken_cond (bytes_eq word (codes "down")) _ _ tt
      (spoken_cond (bytes_eq word (codes "up")) _ _ tt
      (spoken_cond (bytes_eq word (codes "cut")) _ _ tt
      (spoken_cond (bytes_eq word (codes "connect")) _ _ tt
      (spoken_cond (bytes_eq word (codes "crash")) _ _ tt
      (spoken_cond (bytes_eq word (codes "open")) (Some (says_event (Reopen number))) None tt tt))))))

  spoken_pair : (word : List ℕ) (first second : Option ℕ) → IsSpoken line (pair_said word first second)
  spoken_pair word None second = tt
  spoken_pair word (Some first) None = tt
  spoken_pair word (Some first) (Some second) =
      spoken_cond (bytes_eq word (codes "line")) _ _ tt
      (spoken_cond (bytes_eq word (codes "link")) _ _ tt (spoken_cond (bytes_eq word (codes "write")) (Some (says_event (Write first second))) None tt tt))

  spoken_plain : (word : List ℕ) (others : List (List ℕ)) → IsSpoken line (plain_said word others)
  spoken_plain word [] = spoken_alone word
  spoken_plain word (first ∷ []) = spoken_one word (number_of first)
  spoken_plain word (first ∷ second ∷ []) = spoken_pair word (number_of first) (number_of second)
  spoken_plain word (first ∷ second ∷ third ∷ others) = tt

  spoken_stopped : (calls fill : Option ℕ) (inner : Option Inner) → IsSpoken line (stopped calls fill inner)
  spoken_stopped None fill inner = tt
  spoken_stopped (Some calls) None inner = tt
  spoken_stopped (Some calls) (Some fill) None = tt
  spoken_stopped (Some calls) (Some fill) (Some inner) =
      spoken_if (nat_le calls 4 && nat_le fill 255) (Some (says_event (Stop calls fill inner)))
      (λ is. let parts = both (nat_le calls 4) (nat_le fill 255) is in (leb-true calls 4 parts.0, leb-true fill 255 parts.1))

  spoken_stop : (words : List (List ℕ)) → IsSpoken line (stop_said words)
  spoken_stop [] = tt
  spoken_stop (calls ∷ []) = tt
  spoken_stop (calls ∷ fill ∷ inner) = spoken_stopped (number_of calls) (number_of fill) (inner_said inner)

  spoken_drafted : (identifier : List ℕ) (role : Option Role) (words : List (List ℕ)) → list_all is_printable identifier ≡ true
      → list_all (list_all is_printable) words ≡ true → length identifier + total words ≤ length line → IsSpoken line (drafted identifier role words)
  spoken_drafted identifier None words named printed small = tt
  spoken_drafted identifier (Some role) words named printed small =
      spoken_if (list_all has_equals words) _
      (λ is. record {
        texts = rw (printed_xml identifier named, params_xml words printed) refl;
        size = let params = params_total words in omega arith;
        uncited = refl;
      })

  spoken_packet : (words : List (List ℕ)) → list_all (list_all is_printable) words ≡ true → total words ≤ length line → IsSpoken line (packet_words_said words)
  spoken_packet [] printed small = tt
  spoken_packet (identifier ∷ []) printed small = tt
  spoken_packet ([] ∷ role ∷ words) printed small = tt
  spoken_packet ((byte ∷ bytes) ∷ role ∷ words) printed small =
      let first = both (list_all is_printable (byte ∷ bytes)) (list_all (list_all is_printable) (role ∷ words)) printed in
      let second = both (list_all is_printable role) (list_all (list_all is_printable) words) first.1 in
      spoken_drafted (byte ∷ bytes) (role_said role) words first.0 second.1 (omega arith)

  spoken_words : (words : List (List ℕ)) → list_all (list_all is_printable) words ≡ true → total words ≤ length line → IsSpoken line (split_said words)
  spoken_words [] printed small = tt
  spoken_words (word ∷ others) printed small =
      let parts = both (list_all is_printable word) (list_all (list_all is_printable) others) printed in
      spoken_cond (bytes_eq word (codes "packet")) (packet_words_said others) _ (spoken_packet others parts.1 (omega arith))
      (spoken_cond (bytes_eq word (codes "stop")) (stop_said others) (plain_said word others) (spoken_stop others) (spoken_plain word others))

  spoken_text : (edge : Option ℕ) (text : List ℕ) → list_all is_printable text ≡ true → IsSpoken line (filter_of edge text)
  spoken_text None text printed = tt
  spoken_text (Some edge) [] printed = tt
  spoken_text (Some edge) (byte ∷ bytes) printed = (omega arith, printed)

  spoken_filter : (arguments : List ℕ) → list_all is_printable arguments ≡ true → IsSpoken line (filter_said arguments)
  spoken_filter arguments printed =
      spoken_text (number_of (first_word arguments)) (behind_word arguments) (passing_rest is_printable (position_or_len is_blank arguments + 1) arguments printed)

  spoken_line : IsSpoken line (said_of line)
  unfolding said_of
  spoken_line =
      spoken_if (list_all is_printable line) (text_said line)
      (λ printed. spoken_cond (bytes_eq (first_word line) (codes "filter")) (filter_said (behind_word line)) (split_said (words_of line))
      (spoken_filter (behind_word line) (passing_rest is_printable (position_or_len is_blank line + 1) line printed))
      (spoken_words (words_of line) (passing_parts (λ b. b == 32) is_printable line printed) (parts_total (λ b. b == 32) line)))

  pub spoken : (said : Said) → said_of line ≡ Some said → IsSpoken line (Some said)
  spoken said is = subst (IsSpoken line) is spoken_line
