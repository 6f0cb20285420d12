-- Whether there is room, by the length that the journal would have.
use Rattle.std.proofs.Common.{◌≡◌, ℕ, ◌+◌, ◌<◌, ◌≤◌, Bool, true, false, ◌&&◌, ◌||◌, not, List, length, refl, sym, ap, ◌∙◌, arith}
use Rattle.std.specs.Prelude.{nat_lt}
use Rattle.std.proofs.lemmas.Bool.{leb-true, le-leb, lt-leb, and_parts}
use Rattle.gate_journal.specs.Format.{front}
use Rattle.gate_journal.specs.declared.fault.JournalFault.{JournalFault}
use Rattle.gate_journal.specs.declared.fault.JournalFault.TheVariants as journal
use Rattle.net_model.specs.declared.note.Note.{Note}
use Rattle.node_notes.specs.declared.config.Config.{Config}
use Rattle.node_notes.specs.Held.{is_bringing, held}
use Rattle.node_notes.specs.Spelling.{note_payload}
use Rattle.node_notes.specs.Tells.{payloads_of}
use Rattle.node_book.specs.declared.fault.BookFault.TheVariants.{Full, Stopped}
use Rattle.node_book.specs.Fault.{book_fault}
use Rattle.node_book.specs.Keeps.{has_room}

module _ (config : Config) (notes : List Note) (note : Note) (end size : ℕ) (end_is : end ≡ length (front (payloads_of config notes))) (size_is : size ≡ length (note_payload note)) where
  abbrev needed : ℕ
  needed = length (front (payloads_of config notes)) + 6 + length (note_payload note)

  needs : end + 6 + size ≡ needed
  needs = (λ i. end_is i + 6 + size_is i)

  pub room_fits : (slot : Bool) → end + 6 + size ≤ 67108864 → slot ≡ (not (is_bringing note) || nat_lt (held notes) 65536) → slot ≡ has_room config notes note
  unfolding has_room
  room_fits slot le is =
      let fits : needed ≤ 67108864 = omega (arith, needs, le) in
      is ∙ sym (ap (λ (b : Bool). b && (not (is_bringing note) || nat_lt (held notes) 65536)) (le-leb needed 67108864 fits))

  pub room_lacks : 67108864 < end + 6 + size → has_room config notes note ≡ false
  unfolding has_room
  room_lacks lt =
      let over : 67108864 < needed = omega (arith, needs, lt) in
      ap (λ (b : Bool). b && (not (is_bringing note) || nat_lt (held notes) 65536)) (lt-leb needed 67108864 over)

  -- where there is room, the journal has room for the payload
  pub journal_fits : has_room config notes note ≡ true → 67108864 < end + 6 + size → ⊥
  unfolding has_room
  journal_fits room over =
      let fits = leb-true needed 67108864 (and_parts _ _ room).0 in
      omega (arith, fits, needs, over)

pub was_full : (fault : JournalFault) → book_fault fault ≡ Full → fault ≡ journal.Full
was_full journal.Unmade is = absurd (cc is)
was_full (journal.NotJournal place) is = absurd (cc is)
was_full (journal.Damaged place) is = absurd (cc is)
was_full journal.Full is = refl
was_full journal.AlreadyMade is = absurd (cc is)
was_full journal.DiskFault is = absurd (cc is)
was_full journal.Stopped is = absurd (cc is)
was_full journal.NoMemory is = absurd (cc is)

pub was_stopped : (fault : JournalFault) → book_fault fault ≡ Stopped → fault ≡ journal.Stopped
was_stopped journal.Unmade is = absurd (cc is)
was_stopped (journal.NotJournal place) is = absurd (cc is)
was_stopped (journal.Damaged place) is = absurd (cc is)
was_stopped journal.Full is = absurd (cc is)
was_stopped journal.AlreadyMade is = absurd (cc is)
was_stopped journal.DiskFault is = absurd (cc is)
was_stopped journal.Stopped is = refl
was_stopped journal.NoMemory is = absurd (cc is)
