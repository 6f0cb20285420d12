-- A journal with few short notes has room.
use Rattle.std.proofs.Common.{◌≡◌, ℕ, ◌+◌, ◌*◌, ◌<◌, ◌≤◌, ◌||◌, not, cond, Bool, true, false, List, [], ◌∷◌, length, map, refl, arith, length-append, inl, inr}
use Rattle.std.proofs.lemmas.Bool.{le-leb, lt-ltb}
use Rattle.std.specs.List.{flat_map}
use Rattle.std.proofs.lemmas.List.Recursion.{is_count_by}
use Rattle.net_model.specs.declared.note.Note.{Note}
use Rattle.net_model.specs.declared.note.Note.TheVariants.{Wrote, Acked, Refused, Accept, Done, Enter}
use Rattle.net_model.specs.Laws.{IsIn}
use Rattle.node_notes.specs.declared.config.Config.{Config}
use Rattle.node_notes.specs.Forms.{is_config}
use Rattle.node_notes.specs.Held.{held, is_bringing}
use Rattle.node_notes.specs.Spelling.{accepted, answered, brought, config_payload, note_payload}
use Rattle.node_notes.specs.Tells.{payloads_of}
use Rattle.node_notes.proofs.Shapes.{config_small, length_accepted, length_answered, length_brought}
use Rattle.gate_journal.specs.Format.{body_of, front, header, length_bytes}
use Rattle.node_book.specs.Keeps.{has_room}
use Rattle.voevent_cli.proofs.Counted.{answers_in, packets_in}

-- texts as short as a scenario's
abbrev pub IsShortNote : Note → Type 0
IsShortNote (Wrote identifier packet) = (length identifier ≤ 512) × (length packet ≤ 16383)
IsShortNote (Accept identifier links packet) = (length identifier ≤ 512) × (length packet ≤ 16383) × (length links ≤ 64)
IsShortNote (Enter identifier packet) = (length identifier ≤ 512) × (length packet ≤ 16383)
IsShortNote (Acked line identifier) = length identifier ≤ 512
IsShortNote (Refused line identifier) = length identifier ≤ 512
IsShortNote (Done link identifier) = length identifier ≤ 512

abbrev pub AllShort : List Note → Type 0
AllShort notes = (note : Note) → IsIn note notes → IsShortNote note

abbrev entry : List ℕ → List ℕ
entry payload = 1 ∷ body_of payload

length_entry : (payload : List ℕ) → length (entry payload) ≡ length payload + 5
unfolding length_bytes
length_entry payload = omega arith

brought_few : (identifier packet : List ℕ) → length identifier ≤ 512 → length packet ≤ 16383 → length (brought identifier packet) ≤ 16901
brought_few identifier packet name size = omega (arith, name, size, length_brought identifier packet)

answered_few : (number : ℕ) (identifier : List ℕ) → length identifier ≤ 512 → length (answered number identifier) ≤ 516
answered_few number identifier name = omega (arith, name, length_answered number identifier)

accepted_few : (identifier links packet : List ℕ) → length identifier ≤ 512 → length packet ≤ 16383 → length links ≤ 64 → length (accepted identifier links packet) ≤ 17030
accepted_few identifier links packet name size few = omega (arith, name, size, few, length_accepted identifier links packet)

-- no payload is longer
payload_few : (note : Note) → IsShortNote note → length (note_payload note) ≤ 17031
payload_few (Wrote identifier packet) short = let few = brought_few identifier packet short.0 short.1 in omega arith
payload_few (Accept identifier links packet) short = let few = accepted_few identifier links packet short.0 short.1 short.2 in omega arith
payload_few (Enter identifier packet) short = let few = brought_few identifier packet short.0 short.1 in omega arith
payload_few (Acked line identifier) short = let few = answered_few line identifier short in omega arith
payload_few (Refused line identifier) short = let few = answered_few line identifier short in omega arith
payload_few (Done link identifier) short = let few = answered_few link identifier short in omega arith

answer_few : (number : ℕ) (identifier : List ℕ) (tag : ℕ) → length identifier ≤ 512 → length (tag ∷ answered number identifier) ≤ 517
answer_few number identifier tag short = let few = answered_few number identifier short in omega arith

one_more : (first : List ℕ) (rest : List (List ℕ)) (size most : ℕ) → length first ≤ size → length (flat_map entry rest) ≤ most → length (flat_map entry (first ∷ rest)) ≤ most + size + 5
one_more first rest size most here there = omega (arith, here, there, length-append (entry first) (flat_map entry rest), length_entry first)

entries_few : (notes : List Note) → AllShort notes
    → length (flat_map entry (map note_payload notes)) ≤ 17036 * length (packets_in notes) + 522 * length (answers_in notes)
entries_few [] short = omega arith
entries_few (Wrote identifier packet ∷ notes) short =
    let rest = entries_few notes (λ note in'. short note (inr in')) in
    let more = one_more (note_payload (Wrote identifier packet)) (map note_payload notes) 17031 _ (payload_few (Wrote identifier packet) (short _ (inl refl))) rest in omega arith
entries_few (Accept identifier links packet ∷ notes) short =
    let rest = entries_few notes (λ note in'. short note (inr in')) in
    let more = one_more (note_payload (Accept identifier links packet)) (map note_payload notes) 17031 _ (payload_few (Accept identifier links packet) (short _ (inl refl))) rest in omega arith
entries_few (Enter identifier packet ∷ notes) short =
    let rest = entries_few notes (λ note in'. short note (inr in')) in
    let more = one_more (note_payload (Enter identifier packet)) (map note_payload notes) 17031 _ (payload_few (Enter identifier packet) (short _ (inl refl))) rest in omega arith
entries_few (Acked line identifier ∷ notes) short =
    let rest = entries_few notes (λ note in'. short note (inr in')) in
    let more = one_more (note_payload (Acked line identifier)) (map note_payload notes) 517 _ (answer_few line identifier 2 (short _ (inl refl))) rest in omega arith
entries_few (Refused line identifier ∷ notes) short =
    let rest = entries_few notes (λ note in'. short note (inr in')) in
    let more = one_more (note_payload (Refused line identifier)) (map note_payload notes) 517 _ (answer_few line identifier 3 (short _ (inl refl))) rest in omega arith
entries_few (Done link identifier ∷ notes) short =
    let rest = entries_few notes (λ note in'. short note (inr in')) in
    let more = one_more (note_payload (Done link identifier)) (map note_payload notes) 517 _ (answer_few link identifier 5 (short _ (inl refl))) rest in omega arith

length_header : length header ≡ 16
unfolding header
length_header = refl

front_few : (config : Config) (notes : List Note) → is_config config ≡ true → AllShort notes
    → length (front (payloads_of config notes)) ≤ 1100021 + 17036 * length (packets_in notes) + 522 * length (answers_in notes)
front_few config notes form short =
    let config_few = (config_small config form).few in
    let entries = entries_few notes short in
    let all = one_more (config_payload config) (map note_payload notes) 1100000 _ config_few entries in
    omega (arith, all, length_header, length-append header (flat_map entry (payloads_of config notes)))

abbrev tally : List Note → ℕ
tally notes = length (packets_in notes)

tally_more : (note : Note) (notes : List Note) → tally (note ∷ notes) ≡ cond (is_bringing note) (1 + tally notes) (tally notes)
tally_more (Wrote identifier packet) notes = omega arith
tally_more (Accept identifier links packet) notes = omega arith
tally_more (Enter identifier packet) notes = omega arith
tally_more (Acked line identifier) notes = refl
tally_more (Refused line identifier) notes = refl
tally_more (Done link identifier) notes = refl

held_is : (notes : List Note) → length (packets_in notes) ≡ held notes
held_is notes = is_count_by tally is_bringing refl tally_more notes

pub few_have_room : (config : Config) (notes : List Note) (note : Note) → is_config config ≡ true → AllShort notes → IsShortNote note
    → length (packets_in notes) ≤ 1024 → length (answers_in notes) ≤ 65536 → has_room config notes note ≡ true
unfolding has_room
few_have_room config notes note form short here packets answers =
    let whole = front_few config notes form short in
    let payload = payload_few note here in
    let fits : length (front (payloads_of config notes)) + 6 + length (note_payload note) ≤ 67108864 = omega (arith, whole, payload, packets, answers) in
    let fewer = held_is notes in
    let few : held notes < 65536 = rw (← fewer) (omega (arith, packets)) in
    rw (le-leb (length (front (payloads_of config notes)) + 6 + length (note_payload note)) 67108864 fits, lt-ltb (held notes) 65536 few) (or-true (not (is_bringing note)))
  where
    or-true : (b : Bool) → (b || true) ≡ true
    or-true true = refl
    or-true false = refl
