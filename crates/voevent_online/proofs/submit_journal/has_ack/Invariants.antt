use Rattle.std.proofs.Common.{◌≡◌, false, true, length}
use Rattle.std.specs.Prelude.{take}
use Rattle.std.specs.List.{list_any}
use Rattle.voevent_online.specs.Held.{gives_answer}
use Rattle.voevent_online.proofs.submit_journal.has_ack.Given as goal

abbrev pub invariant-loop-at : goal.invariant-loop-at
invariant-loop-at g l = record {
  none : list_any (gives_answer true 0 l.identifier) (take l.at l.book.notes) ≡ false;
  whole : l.at-end ≡ length l.book.notes;
}
