-- Outcomes of the network's steps at an end, and what becomes of them.
use Rattle.std.proofs.Common.{◌≡◌, ℕ, ◌<◌, ◌≤◌, Bool, true, false, List, length, Some, refl, sym, ◌∙◌, ap}
use Rattle.std.specs.Prelude.{cond, ◌&&◌, is_none, IsUtf8}
use Rattle.std.proofs.lemmas.Bool.{le-leb, lt-ltb}
use Rattle.voe_disk.specs.declared.disk.Disk.{Ghosts}
use Rattle.voe_values.specs.declared.kind.NodeKind.TheVariants.{Author, Broker, Subscriber}
use Rattle.net_model.specs.Notes.{is_open, knows}
use Rattle.net_model.specs.Rules.{NodeRules}
use Rattle.net_model.specs.Steps.{Outcome, adds, known_answer, reply_to, says, settles}
use Rattle.net_model.specs.declared.note.Note.{Note}
use Rattle.net_model.specs.declared.note.Note.TheVariants.{Wrote, Acked, Refused, Accept, Done, Enter}
use Rattle.net_model.specs.declared.state.NakCode.TheVariants.{Full as NoRoom}
use Rattle.net_model.specs.declared.state.Verdict.TheVariants.{Ack, Nak}
use Rattle.voe_values.specs.Identifier.{IsIdentifier}
use Rattle.node_notes.proofs.Texts.{identifier_is}
use Rattle.node_notes.specs.Forms.{are_rising, is_identifier, is_next, is_packet, keeps_form}
use Rattle.node_notes.specs.declared.config.Config.{Config}
use Rattle.node_book.specs.Keeps.{has_room}
use Rattle.node_book.specs.Book.{BookView}
use Rattle.node_book.specs.Ends.{EndView, book_of}
use Rattle.node_book.specs.EndSteps.{HasAnswered, HasFallen, HasRoomOf}

both : (a b : Bool) → a ≡ true → b ≡ true → (a && b) ≡ true
both a b e f = rw (e, f) refl

-- ---- outcomes

-- a good packet that is new is noted where there is room
pub new_reply : (rules : NodeRules) (config : Config) (notes : List Note) (from_line : Bool) (packet identifier : List ℕ) (note : Note)
    → HasRoomOf config rules → knows notes identifier ≡ false
    → reply_to rules notes from_line packet identifier note ≡ adds (has_room config notes note) note (Ack identifier) (Nak (Some identifier) NoRoom)
new_reply rules config notes from_line packet identifier note right new =
    ap (λ (b : Bool). cond b (says (known_answer rules notes from_line packet identifier)) (adds (rules.has_room notes note) note (Ack identifier) (Nak (Some identifier) NoRoom))) new
    ∙ ap (λ (b : Bool). adds b note (Ack identifier) (Nak (Some identifier) NoRoom)) (right notes note)

-- one that is known is answered alone
pub known_reply : (rules : NodeRules) (notes : List Note) (from_line : Bool) (packet identifier : List ℕ) (note : Note) → knows notes identifier ≡ true
    → reply_to rules notes from_line packet identifier note ≡ says (known_answer rules notes from_line packet identifier)
known_reply rules notes from_line packet identifier note known =
    ap (λ (b : Bool). cond b (says (known_answer rules notes from_line packet identifier)) (adds (rules.has_room notes note) note (Ack identifier) (Nak (Some identifier) NoRoom))) known

-- an answer to what is open is noted where there is room
pub open_settles : {A : Type 0} (rules : NodeRules) (config : Config) (notes : List Note) (number : ℕ) (identifier : List ℕ) (note : Note) (noted full passed : A)
    → HasRoomOf config rules → is_open notes number identifier ≡ true
    → settles rules notes number identifier note noted full passed ≡ adds (has_room config notes note) note noted full
open_settles rules config notes number identifier note noted full passed right open_there =
    ap (λ (b : Bool). cond b (adds (rules.has_room notes note) note noted full) (says passed)) open_there
    ∙ ap (λ (b : Bool). adds b note noted full) (right notes note)

pub shut_settles : {A : Type 0} (rules : NodeRules) (notes : List Note) (number : ℕ) (identifier : List ℕ) (note : Note) (noted full passed : A)
    → is_open notes number identifier ≡ false → settles rules notes number identifier note noted full passed ≡ says passed
shut_settles rules notes number identifier note noted full passed shut =
    ap (λ (b : Bool). cond b (adds (rules.has_room notes note) note noted full) (says passed)) shut

-- what a book knows is what its end's notes say
pub known_at : {D : Type 0} (end : EndView D) (book : BookView D) (bytes identifier : List ℕ) (b : Bool) → book ≡ book_of end → bytes ≡ identifier
    → b ≡ knows book.notes bytes → knows end.notes identifier ≡ b
known_at {D} end book bytes identifier b same bytes_are is =
    sym (is ∙ ap (λ (k : BookView D). knows k.notes bytes) same ∙ ap (λ (s : List ℕ). knows end.notes s) bytes_are)

pub open_at : {D : Type 0} (end : EndView D) (book : BookView D) (number : ℕ) (bytes identifier : List ℕ) (b : Bool) → book ≡ book_of end → bytes ≡ identifier
    → b ≡ is_open book.notes number bytes → is_open end.notes number identifier ≡ b
open_at {D} end book number bytes identifier b same bytes_are is =
    sym (is ∙ ap (λ (k : BookView D). is_open k.notes number bytes) same ∙ ap (λ (s : List ℕ). is_open end.notes number s) bytes_are)

-- ---- forms

pub named : (identifier : List ℕ) → IsUtf8 identifier → IsIdentifier identifier → is_identifier identifier ≡ true
named identifier text free = identifier_is identifier text ∙ ap is_none free

pub sized : (packet : List ℕ) → 1 ≤ length packet → length packet ≤ 1048576 → is_packet packet ≡ true
unfolding is_packet
sized packet some few = both _ _ (le-leb 1 (length packet) some) (le-leb (length packet) 1048576 few)

-- ---- notes that may follow

pub enter_next : (config : Config) (notes : List Note) (identifier packet : List ℕ) → config.kind ≡ Subscriber → is_identifier identifier ≡ true → is_packet packet ≡ true
    → knows notes identifier ≡ false → is_next config notes (Enter identifier packet) ≡ true
unfolding keeps_form
enter_next config notes identifier packet kind named sized new = rw (kind, named, sized, new) refl

pub wrote_next : (config : Config) (notes : List Note) (identifier packet : List ℕ) → config.kind ≡ Author → is_identifier identifier ≡ true → is_packet packet ≡ true
    → knows notes identifier ≡ false → is_next config notes (Wrote identifier packet) ≡ true
unfolding keeps_form
wrote_next config notes identifier packet kind named sized new = rw (kind, named, sized, new) refl

pub accept_next : (config : Config) (notes : List Note) (identifier packet links : List ℕ) → config.kind ≡ Broker → is_identifier identifier ≡ true → is_packet packet ≡ true
    → are_rising 0 (length config.links) links ≡ true → knows notes identifier ≡ false → is_next config notes (Accept identifier links packet) ≡ true
unfolding keeps_form
accept_next config notes identifier packet links kind named sized rising new = rw (kind, named, sized, rising, new) refl

pub acked_next : (config : Config) (notes : List Note) (line : ℕ) (identifier : List ℕ) → config.kind ≡ Author → is_identifier identifier ≡ true → line < length config.links
    → is_open notes line identifier ≡ true → is_next config notes (Acked line identifier) ≡ true
unfolding keeps_form
acked_next config notes line identifier kind named low open_there = rw (kind, named, lt-ltb line (length config.links) low, open_there) refl

pub refused_next : (config : Config) (notes : List Note) (line : ℕ) (identifier : List ℕ) → config.kind ≡ Author → is_identifier identifier ≡ true → line < length config.links
    → is_open notes line identifier ≡ true → is_next config notes (Refused line identifier) ≡ true
unfolding keeps_form
refused_next config notes line identifier kind named low open_there = rw (kind, named, lt-ltb line (length config.links) low, open_there) refl

pub done_next : (config : Config) (notes : List Note) (link : ℕ) (identifier : List ℕ) → config.kind ≡ Broker → is_identifier identifier ≡ true → link < length config.links
    → is_open notes link identifier ≡ true → is_next config notes (Done link identifier) ≡ true
unfolding keeps_form
done_next config notes link identifier kind named low open_there = rw (kind, named, lt-ltb link (length config.links) low, open_there) refl

-- ---- what becomes of an outcome that is told in other words

module _ {D : Type 0} (disk : Ghosts D) (old new : EndView D) where
  pub mapped : {A B : Type 0} (f : A → B) (outcome : Outcome A) (answer : A) → HasAnswered disk old new outcome answer
      → HasAnswered disk old new (record { added = outcome.added; answer = f outcome.answer }) (f answer)
  mapped f outcome answer h = record { answer_is = ap f h.answer_is; notes_are = h.notes_are; still_up = h.still_up; moments = h.moments; no_call = h.no_call; enough = h.enough; same_count = h.same_count }

  pub mapped_fall : {A B : Type 0} (f : A → B) (outcome : Outcome A) (faults : ℕ) (stopped : Bool) → HasFallen disk old new outcome faults stopped
      → HasFallen disk old new (record { added = outcome.added; answer = f outcome.answer }) faults stopped
  mapped_fall f outcome faults stopped h = record { adds_note = h.adds_note; notes_are = h.notes_are; fell = h.fell; count_is = h.count_is; cause = h.cause; moments = h.moments; exact = h.exact }
