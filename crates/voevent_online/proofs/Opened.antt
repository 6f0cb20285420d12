-- What is unanswered on a line, and which answer stands.
use Rattle.std.proofs.Common.{◌≡◌, ◌⊎◌, ℕ, ◌+◌, suc, zero, Bool, true, false, cond, List, [], ◌∷◌, ◌++◌, Some, None, refl, sym, ap, ◌∙◌, subst, inl, inr, ⊎_elim, arith}
use Rattle.std.specs.Prelude.{Option, ◌&&◌, ◌||◌, ◌==◌, not, nat_lt, slice_get, take}
use Rattle.std.specs.List.{list_any}
use Rattle.std.specs.Str.{bytes_eq}
use Rattle.std.proofs.lemmas.Bool.{and_parts, le-ltb}
use Rattle.std.proofs.lemmas.List.Folds.{list_any-append}
use Rattle.voe_values.specs.declared.kind.NodeKind.TheVariants.{Author}
use Rattle.net_model.specs.Notes.{Offer, Placed, brings, first_from, is_answer, is_open, knows, lists, offer, offers, or_later, to_send}
use Rattle.net_model.specs.Steps.{answer_note}
use Rattle.net_model.specs.declared.note.Note.{Note}
use Rattle.net_model.specs.declared.note.Note.TheVariants.{Wrote, Acked, Refused, Accept, Done, Enter}
use lib.Seq.{take-nil}
use Rattle.net_model.proofs.Held.{same_bytes, bytes_eq-same}
use Rattle.node_notes.specs.Forms.{is_broker, is_subscriber, keeps_form, may_follow}
use Rattle.node_notes.specs.Tells.{AreInOrder}
use Rattle.node_notes.specs.declared.config.Config.{Config}
use Rattle.voevent_online.specs.Held.{answer_in, gives_answer, has_answer}

-- ---- truth values

or_none : (a b : Bool) → (a || b) ≡ false → (a ≡ false) × (b ≡ false)
or_none true b e = absurd (cc)
or_none false b e = (refl, e)

or_case : (a b : Bool) → (a || b) ≡ true → (a ≡ true) ⊎ (b ≡ true)
or_case true b e = inl refl
or_case false b e = inr e

or_left : (a b : Bool) → a ≡ true → (a || b) ≡ true
or_left true b e = refl
or_left false b e = absurd (cc)

or_right : (a b : Bool) → b ≡ true → (a || b) ≡ true
or_right true b e = refl
or_right false b e = e

or_false : (b : Bool) → (b || false) ≡ b
or_false true = refl
or_false false = refl

differ : {b : Bool} → b ≡ true → b ≡ false → ⊥
differ is none = let bad : true ≡ false = sym is ∙ none in cc

not_false : (b : Bool) → not b ≡ false → b ≡ true
not_false true e = refl
not_false false e = absurd (cc)

-- ---- one note more

open_parts : (a b c d : Bool) → c ≡ false → ((a || c) && not (b || d)) ≡ ((a && not b) && not d)
open_parts true true c d is = refl
open_parts true false c true is = refl
open_parts true false c false is = refl
open_parts false true c d is = ap (λ (x : Bool). x && false) is
open_parts false false c d is = ap (λ (x : Bool). x && not d) is

open_more : (notes : List Note) (n : Note) (j : List ℕ) → offers 0 j n ≡ false → is_open (notes ++ n ∷ []) 0 j ≡ (is_open notes 0 j && not (is_answer 0 j n))
unfolding is_open
open_more notes n j none =
    let offered = list_any-append (offers 0 j) notes (n ∷ []) in
    let answered = list_any-append (is_answer 0 j) notes (n ∷ []) in
    (λ i. offered i && not (answered i))
    ∙ ap (λ (x : Bool). (list_any (offers 0 j) notes || (offers 0 j n || false)) && not (list_any (is_answer 0 j) notes || x)) (or_false (is_answer 0 j n))
    ∙ open_parts (list_any (offers 0 j) notes) (list_any (is_answer 0 j) notes) (offers 0 j n || false) (is_answer 0 j n) (or_false (offers 0 j n) ∙ none)

offers_none : (ack : Bool) (got wanted : List ℕ) → offers 0 wanted (answer_note ack 0 got) ≡ false
offers_none true got wanted = refl
offers_none false got wanted = refl

answers_only : (ack : Bool) (got wanted : List ℕ) → is_answer 0 wanted (answer_note ack 0 got) ≡ true → got ≡ wanted
answers_only true got wanted e = sym (same_bytes wanted got (and_parts (0 == 0) (bytes_eq wanted got) e).1)
answers_only false got wanted e = sym (same_bytes wanted got (and_parts (0 == 0) (bytes_eq wanted got) e).1)

-- the answer that closes what is unanswered names it
pub closed_by : (notes : List Note) (ack : Bool) (got wanted : List ℕ) → is_open notes 0 wanted ≡ true → is_open (notes ++ answer_note ack 0 got ∷ []) 0 wanted ≡ false → got ≡ wanted
closed_by notes ack got wanted was now =
    let n = answer_note ack 0 got in
    let both : (true && not (is_answer 0 wanted n)) ≡ false = ap (λ (b : Bool). b && not (is_answer 0 wanted n)) (sym was) ∙ (sym (open_more notes n wanted (offers_none ack got wanted)) ∙ now) in
    answers_only ack got wanted (not_false (is_answer 0 wanted n) both)

gives_own : (ack : Bool) (wanted : List ℕ) → gives_answer ack 0 wanted (answer_note ack 0 wanted) ≡ true
gives_own true wanted = ap (λ (b : Bool). (0 == 0) && b) (bytes_eq-same wanted)
gives_own false wanted = ap (λ (b : Bool). (0 == 0) && b) (bytes_eq-same wanted)

-- an answer that was added stands
pub answer_added : (notes : List Note) (ack : Bool) (wanted : List ℕ) → has_answer ack 0 wanted (notes ++ answer_note ack 0 wanted ∷ []) ≡ true
answer_added notes ack wanted =
    list_any-append (gives_answer ack 0 wanted) notes (answer_note ack 0 wanted ∷ [])
    ∙ or_right (list_any (gives_answer ack 0 wanted) notes) (gives_answer ack 0 wanted (answer_note ack 0 wanted) || false) (or_left (gives_answer ack 0 wanted (answer_note ack 0 wanted)) false (gives_own ack wanted))

-- ---- what is unanswered is sent

sends : (all : List Note) (wanted : List ℕ) (note : Note) → is_open all 0 wanted ≡ true → offers 0 wanted note ≡ true → to_send all 0 note ≡ None → ⊥
sends all wanted (Wrote own packet) opened is none =
    let same = same_bytes wanted own is in
    let there : is_open all 0 own ≡ true = subst (λ (k : List ℕ). is_open all 0 k ≡ true) same opened in
    let bad : Some (offer own packet) ≡ None = ap (λ (b : Bool). cond b (Some (offer own packet)) None) (sym there) ∙ none in
    cc
sends all wanted (Accept own links packet) opened is none =
    let parts = and_parts (bytes_eq wanted own) (lists links 0) is in
    let same = same_bytes wanted own parts.0 in
    let there : is_open all 0 own ≡ true = subst (λ (k : List ℕ). is_open all 0 k ≡ true) same opened in
    let both : (lists links 0 && is_open all 0 own) ≡ true = (λ i. parts.1 i && there i) in
    let bad : Some (offer own packet) ≡ None = ap (λ (b : Bool). cond b (Some (offer own packet)) None) (sym both) ∙ none in
    cc
sends all wanted (Enter own packet) opened is none = absurd (cc)
sends all wanted (Acked line own) opened is none = absurd (cc)
sends all wanted (Refused line own) opened is none = absurd (cc)
sends all wanted (Done line own) opened is none = absurd (cc)

none_later : (place : ℕ) (o : Option Offer) (later : Option Placed) → or_later place o later ≡ None → (o ≡ None) × (later ≡ None)
none_later place (Some found) later e = absurd (cc)
none_later place None later e = (refl, e)

never_less : (place : ℕ) → nat_lt place 0 ≡ false
never_less place = le-ltb place 0 (omega arith)

none_given : (b : Bool) (o : Option Offer) → b ≡ false → cond b None o ≡ None → o ≡ None
none_given true o is e = absurd (cc)
none_given false o is e = e

none_sent : (all : List Note) (wanted : List ℕ) (place : ℕ) (notes : List Note) → is_open all 0 wanted ≡ true → list_any (offers 0 wanted) notes ≡ true → first_from (to_send all 0) 0 place notes ≡ None → ⊥
none_sent all wanted place [] opened is none = absurd (cc)
none_sent all wanted place (note ∷ notes) opened is none =
    let parts = none_later place (cond (nat_lt place 0) None (to_send all 0 note)) (first_from (to_send all 0) 0 (place + 1) notes) none in
    ⊎_elim
    (λ (here : offers 0 wanted note ≡ true). sends all wanted note opened here (none_given (nat_lt place 0) (to_send all 0 note) (never_less place) parts.0))
    (λ (later : list_any (offers 0 wanted) notes ≡ true). none_sent all wanted (place + 1) notes opened later parts.1)
    (or_case (offers 0 wanted note) (list_any (offers 0 wanted) notes) is)

pub open_offers : (notes : List Note) (wanted : List ℕ) → is_open notes 0 wanted ≡ true → list_any (offers 0 wanted) notes ≡ true
unfolding is_open
open_offers notes wanted opened = (and_parts (list_any (offers 0 wanted) notes) (not (list_any (is_answer 0 wanted) notes)) opened).0

-- a line on which something is unanswered has a first unanswered packet
pub open_not_none : (notes : List Note) (wanted : List ℕ) → is_open notes 0 wanted ≡ true → first_from (to_send notes 0) 0 0 notes ≡ None → ⊥
open_not_none notes wanted opened none = none_sent notes wanted 0 notes opened (open_offers notes wanted opened) none

-- ---- the answer that stands

module _ (config : Config) (wanted : List ℕ) (author : config.kind ≡ Author) where
  offers_one : (note : Note) → keeps_form config note ≡ true → brings wanted note ≡ true → offers 0 wanted note ≡ true
  unfolding keeps_form
  offers_one (Wrote own packet) form is = is
  offers_one (Accept own links packet) form is =
      absurd (differ {b = is_broker config.kind} (and_parts _ _ (and_parts _ _ (and_parts _ _ form).0).0).0 (ap is_broker author))
  offers_one (Enter own packet) form is =
      absurd (differ {b = is_subscriber config.kind} (and_parts _ _ (and_parts _ _ form).0).0 (ap is_subscriber author))
  offers_one (Acked line own) form is = absurd (cc)
  offers_one (Refused line own) form is = absurd (cc)
  offers_one (Done line own) form is = absurd (cc)

  answers_one : (note : Note) → keeps_form config note ≡ true → is_answer 0 wanted note ≡ true → gives_answer true 0 wanted note ≡ false → gives_answer false 0 wanted note ≡ true
  unfolding keeps_form
  answers_one (Acked line own) form is none = absurd (differ is none)
  answers_one (Refused line own) form is none = is
  answers_one (Done line own) form is none =
      absurd (differ {b = is_broker config.kind} (and_parts _ _ (and_parts _ _ form).0).0 (ap is_broker author))
  answers_one (Wrote own packet) form is none = absurd (cc)
  answers_one (Accept own links packet) form is none = absurd (cc)
  answers_one (Enter own packet) form is none = absurd (cc)

  offers_all : (before notes : List Note) → AreInOrder config before notes → list_any (brings wanted) notes ≡ true → list_any (offers 0 wanted) notes ≡ true
  offers_all before [] order is = absurd (cc)
  offers_all before (note ∷ notes) order is =
      let form = (and_parts (keeps_form config note) (may_follow before note) order.0).0 in
      ⊎_elim
      (λ (here : brings wanted note ≡ true). or_left (offers 0 wanted note) (list_any (offers 0 wanted) notes) (offers_one note form here))
      (λ (later : list_any (brings wanted) notes ≡ true). or_right (offers 0 wanted note) (list_any (offers 0 wanted) notes) (offers_all (before ++ note ∷ []) notes order.1 later))
      (or_case (brings wanted note) (list_any (brings wanted) notes) is)

  answers_all : (before notes : List Note) → AreInOrder config before notes → list_any (is_answer 0 wanted) notes ≡ true → has_answer true 0 wanted notes ≡ false → has_answer false 0 wanted notes ≡ true
  answers_all before [] order is none = absurd (cc)
  answers_all before (note ∷ notes) order is none =
      let form = (and_parts (keeps_form config note) (may_follow before note) order.0).0 in
      let not_acked = or_none (gives_answer true 0 wanted note) (has_answer true 0 wanted notes) none in
      ⊎_elim
      (λ (here : is_answer 0 wanted note ≡ true). or_left (gives_answer false 0 wanted note) (has_answer false 0 wanted notes) (answers_one note form here not_acked.0))
      (λ (later : list_any (is_answer 0 wanted) notes ≡ true). or_right (gives_answer false 0 wanted note) (has_answer false 0 wanted notes) (answers_all (before ++ note ∷ []) notes order.1 later not_acked.1))
      (or_case (is_answer 0 wanted note) (list_any (is_answer 0 wanted) notes) is)

  answered_of : (offered answered : Bool) → offered ≡ true → (offered && not answered) ≡ false → answered ≡ true
  answered_of true answered e none = not_false answered none
  answered_of false answered e none = absurd (cc)

  -- what is known and not unanswered has an answer, and it is a refusal where no acknowledgement stands
  pub refusal_stands : (notes : List Note) → AreInOrder config [] notes → knows notes wanted ≡ true → is_open notes 0 wanted ≡ false → has_answer true 0 wanted notes ≡ false → has_answer false 0 wanted notes ≡ true
  unfolding is_open
  refusal_stands notes order known closed none =
      answers_all [] notes order (answered_of (list_any (offers 0 wanted) notes) (list_any (is_answer 0 wanted) notes) (offers_all [] notes order known) closed) none

  -- so this truth value tells which stands
  pub answer_stands : (notes : List Note) (ack : Bool) → AreInOrder config [] notes → knows notes wanted ≡ true → is_open notes 0 wanted ≡ false → ack ≡ has_answer true 0 wanted notes → has_answer ack 0 wanted notes ≡ true
  answer_stands notes true order known closed is = sym is
  answer_stands notes false order known closed is = refusal_stands notes order known closed (sym is)

-- ---- a search among the notes

module _ (p : Note → Bool) where
  abbrev In : Option Note → Bool
  In None = false
  In (Some note) = p note

  pub any_at : (notes : List Note) (at : ℕ) → In (slice_get notes at) ≡ true → list_any p notes ≡ true
  any_at [] at is = absurd (cc)
  any_at (note ∷ notes) zero is = or_left (p note) (list_any p notes) is
  any_at (note ∷ notes) (suc at) is = or_right (p note) (list_any p notes) (any_at notes at is)

  pub none_at : (notes : List Note) (at : ℕ) → In (slice_get notes at) ≡ false → list_any p (take at notes) ≡ false → list_any p (take (at + 1) notes) ≡ false
  none_at [] at is none = ap (list_any p) (take-nil (at + 1))
  none_at (note ∷ notes) zero is none = or_false (p note) ∙ is
  none_at (note ∷ notes) (suc at) is none =
      let parts = or_none (p note) (list_any p (take at notes)) none in
      let later = none_at notes at is parts.1 in
      let next : suc at + 1 ≡ suc (at + 1) = omega arith in
      ap (λ (k : ℕ). list_any p (take k (note ∷ notes))) next ∙ (λ i. parts.0 i || later i)

module _ (ack : Bool) (wanted : List ℕ) (notes : List Note) where
  in_same : (o : Option Note) → In (gives_answer ack 0 wanted) o ≡ answer_in ack 0 wanted o
  in_same None = refl
  in_same (Some note) = refl

  pub found_at : (at : ℕ) → answer_in ack 0 wanted (slice_get notes at) ≡ true → has_answer ack 0 wanted notes ≡ true
  found_at at is = any_at (gives_answer ack 0 wanted) notes at (in_same (slice_get notes at) ∙ is)

  pub not_found_at : (at : ℕ) → answer_in ack 0 wanted (slice_get notes at) ≡ false → has_answer ack 0 wanted (take at notes) ≡ false → has_answer ack 0 wanted (take (at + 1) notes) ≡ false
  not_found_at at is none = none_at (gives_answer ack 0 wanted) notes at (in_same (slice_get notes at) ∙ is) none
