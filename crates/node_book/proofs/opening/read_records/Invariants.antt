use Rattle.std.proofs.Common.{◌≤◌, take, length}
use Rattle.node_notes.specs.Tells.{Tells}
use Rattle.node_book.specs.Records.{AreKept}
use Rattle.node_book.proofs.opening.read_records.Given as goal

abbrev pub invariant-loop-at : goal.invariant-loop-at
invariant-loop-at g l = record {
  kept : AreKept l.records;
  told : Tells (take l.at l.journal.payloads) l.records.config l.records.notes.items;
  some : 1 ≤ length l.journal.payloads;
}
