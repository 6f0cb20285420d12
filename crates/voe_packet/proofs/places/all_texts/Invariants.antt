use Rattle.std.proofs.Common.{◌≡◌, ◌++◌, drop, map}
use Rattle.voe_tree.specs.Contents.{text_of}
use Rattle.voe_tree.specs.Writing.{texts}
use Rattle.voe_packet.specs.Parts.{all_texts, elements}
use Rattle.voe_packet.proofs.places.all_texts.Given as goal

abbrev pub invariant-loop-place : goal.invariant-loop-place
invariant-loop-place l = l.texts ++ map text_of (elements (drop l.place-index l.place-items)) ≡ all_texts (texts l.path) l.element
