-- What a broker's turn says of the front on which it acted.
use Rattle.std.specs.Prelude.{◌≡◌, ℕ, true, List, map, Some}
use Rattle.voe_disk.specs.declared.disk.Disk.{Ghosts}
use Rattle.net_model.specs.Notes.{is_open, knows, offer}
use Rattle.node_notes.specs.Spelling.{note_payload}
use Rattle.node_book.specs.Ends.{EndView}
use Rattle.node_book.specs.EndSteps.{offered_at}
use Rattle.broker_end.specs.Turning.{IsKept}

-- A broker that had just these records held the identifier, and what its disk read and whatever a crash left of it had them.
pub record IsSynced {D : Type 0} (disk : Ghosts D) (payloads : List (List ℕ)) (identifier : List ℕ) : Type 0 where
  pub end : EndView D
  pub records : map note_payload end.notes ≡ payloads
  pub known : knows end.notes identifier ≡ true
  pub kept : IsKept disk end

-- In a broker that had just these records this packet stood at the place, and was owed on the link.
pub record IsOwed (D : Type 0) (payloads : List (List ℕ)) (link at : ℕ) (identifier packet : List ℕ) : Type 0 where
  pub end : EndView D
  pub records : map note_payload end.notes ≡ payloads
  pub packet_is : offered_at end.notes at ≡ Some (offer identifier packet)
  pub owed : is_open end.notes link identifier ≡ true
