-- Each list of bytes is frames and a rest, and in one way.
use Rattle.std.proofs.Common.{◌≡◌, ◌⊎◌, ℕ, zero, suc, ◌+◌, ◌≤◌, false, List, [], ◌∷◌, ◌++◌, length, take, drop, All, sym, ap, refl, ◌∙◌, inl, inr, arith, append_assoc}
use Rattle.std.specs.Int.{w32, to_be_bytes, from_be_bytes}
use Rattle.std.proofs.lemmas.List.{append-nil}
use Rattle.std.proofs.lemmas.List.Elements.{All-cons, All-head, All-nil}
use Rattle.std.proofs.lemmas.Bool.{cases_Bool, cases_lt, false≢true}
use Rattle.std.specs.Str.{bytes_eq}
use Rattle.std.proofs.lemmas.Slice.Eq.{bytes_eq-Decides}
use Rattle.vtp_framing.specs.Frames.{BeginsFrame, BeginsNoFrame, Counts, FitsFrame, IsStream, frame, frames}
use Rattle.vtp_framing.specs.Front.{IsWhole}
use Rattle.vtp_framing.proofs.FrameLemmas.{barred_frame, begins_counts, begins_long, counts_same, frame_head, unfinished_frame, whole_begins}
use Rattle.vtp_framing.proofs.StreamLemmas.{Remains, given_front}

-- ---- in one way

nothing_more : (more : List (List ℕ)) (left rest : List ℕ) → All FitsFrame more → left ≡ frames more ++ rest → BeginsNoFrame left → more ≡ []
nothing_more [] left rest fit parts none = refl
nothing_more (m ∷ more) left rest fit parts none =
    absurd (none m (frames more ++ rest) (record { fits = All-head FitsFrame m more fit; parts = parts ∙ append_assoc (frame m) (frames more) rest }))

pub one_cut : (bytes : List ℕ) (ps qs : List (List ℕ)) (rest other : List ℕ) → IsStream bytes ps rest → IsStream bytes qs other → (ps ≡ qs) × (rest ≡ other)
one_cut bytes ps qs rest other a b =
    let m : Remains ps qs rest other = given_front ps qs rest other a.fit b.fit b.ended (sym a.parts ∙ b.parts) in
    let none : m.more ≡ [] = nothing_more m.more rest other m.fit m.parts a.ended in
    (sym (m.all ∙ ap (λ (xs : List (List ℕ)). ps ++ xs) none ∙ append-nil ps), m.parts ∙ ap (λ (xs : List (List ℕ)). frames xs ++ other) none)

-- ---- there is one

-- a frame stands at the front, or none does
abbrev AtFront : List ℕ → Type 0
AtFront bytes = ((count : ℕ) × IsWhole count bytes) ⊎ BeginsNoFrame bytes

-- four bytes that count otherwise than they are written
other_bytes : (count : ℕ) (bytes : List ℕ) → Counts count bytes → bytes_eq (to_be_bytes w32 count) (take 4 bytes) ≡ false → BeginsNoFrame bytes
other_bytes count bytes counts differ payload rest b =
    let same : length payload ≡ count = counts_same (length payload) count bytes (begins_counts payload rest bytes b) counts in
    let stands : to_be_bytes w32 count ≡ take 4 bytes = ap (to_be_bytes w32) (sym same) ∙ sym (frame_head payload rest) ∙ ap (take 4) (sym b.parts) in
    false≢true (sym differ ∙ (bytes_eq-Decides (to_be_bytes w32 count) (take 4 bytes)).1 stands)

long_front : (count : ℕ) (bytes : List ℕ) → Counts count bytes → 1 ≤ count → count ≤ 1048576 → 4 + count ≤ length bytes → AtFront bytes
long_front count bytes counts some within long = elim (cases_Bool (bytes_eq (to_be_bytes w32 count) (take 4 bytes))) [
  | inl same ↦ inl (count, record { some = some; within = within; long = long; stands = (bytes_eq-Decides (to_be_bytes w32 count) (take 4 bytes)).0 same })
  | inr differ ↦ inr (other_bytes count bytes counts differ)
]

counted_front : (count : ℕ) (bytes : List ℕ) → Counts count bytes → 1 ≤ count → count ≤ 1048576 → AtFront bytes
counted_front count bytes counts some within = elim (cases_lt (length bytes) (4 + count)) [
  | inl short ↦ inr (unfinished_frame bytes (inr (record { count = count; counts = counts; some = some; within = within; short = short })))
  | inr long ↦ long_front count bytes counts some within long
]

some_front : (count : ℕ) (bytes : List ℕ) → Counts count bytes → 1 ≤ count → AtFront bytes
some_front count bytes counts some = elim (cases_lt 1048576 count) [
  | inl long ↦ inr (barred_frame count bytes counts (inr long))
  | inr within ↦ counted_front count bytes counts some within
]

any_front : (count : ℕ) (bytes : List ℕ) → Counts count bytes → AtFront bytes
any_front zero bytes counts = inr (barred_frame 0 bytes counts (inl refl))
any_front (suc count) bytes counts = some_front (suc count) bytes counts (omega arith)

front_of : (bytes : List ℕ) → AtFront bytes
front_of bytes = elim (cases_lt (length bytes) 4) [
  | inl short ↦ inr (unfinished_frame bytes (inl short))
  | inr long ↦ any_front (from_be_bytes w32 (take 4 bytes)) bytes (record { long = long; value = refl })
]

abbrev Cut : List ℕ → Type 0
Cut bytes = (payloads : List (List ℕ)) × ((rest : List ℕ) × IsStream bytes payloads rest)

first_cut : (bytes payload rest : List ℕ) → BeginsFrame payload rest bytes → Cut rest → Cut bytes
first_cut bytes payload rest b c = (
  payload ∷ c.0,
  (
    c.1.0,
    record {
      parts = b.parts ∙ ap (λ s. frame payload ++ s) c.1.1.parts ∙ sym (append_assoc (frame payload) (frames c.0) c.1.0);
      fit = All-cons FitsFrame payload c.0 b.fits c.1.1.fit;
      ended = c.1.1.ended;
    },
  ),
)

no_cut : (bytes : List ℕ) → BeginsNoFrame bytes → Cut bytes
no_cut bytes none = ([], (bytes, record { parts = refl; fit = All-nil FitsFrame; ended = none }))

cut_within : (n : ℕ) (bytes : List ℕ) → length bytes ≤ n → Cut bytes
cut_within zero bytes few = no_cut bytes (unfinished_frame bytes (inl (omega arith)))
cut_within (suc n) bytes few = elim (front_of bytes) [
  | inl w ↦
      let b = whole_begins w.0 bytes w.1 in
      let long = begins_long (take w.0 (drop 4 bytes)) (drop (4 + w.0) bytes) bytes b in
      first_cut bytes (take w.0 (drop 4 bytes)) (drop (4 + w.0) bytes) b (cut_within n (drop (4 + w.0) bytes) (omega arith))
  | inr none ↦ no_cut bytes none
]

pub cut : (bytes : List ℕ) → (payloads : List (List ℕ)) × ((rest : List ℕ) × IsStream bytes payloads rest)
cut bytes = cut_within (length bytes) bytes (omega arith)
