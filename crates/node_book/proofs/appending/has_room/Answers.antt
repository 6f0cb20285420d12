use Rattle.std.proofs.Common.{◌≡◌, ◌∙◌, ◌+◌, ◌<◌, ◌≤◌, false, sym, arith, rules}
use Rattle.std.proofs.lemmas.Bool.{and_parts}
use Rattle.node_notes.specs.Forms.{keeps_form, may_follow}
use Rattle.node_notes.proofs.Shapes.{note_spells}
use Rattle.node_book.proofs.Rooms.{room_fits, room_lacks}
use Rattle.node_book.proofs.appending.has_room.Goals as goal

pub note_len-requires : goal.note_len-requires
note_len-requires g c =
    let parts = and_parts (keeps_form c.args.records.now.config c.args.note.now) (may_follow c.args.records.now.notes.items c.args.note.now) c.requires.next in
    note_spells c.args.records.now.config c.args.note.now c.requires.on_disk.kept.config_fits parts.0

pub returns-then-has_room : goal.returns-then-has_room
returns-then-has_room g c =
    room_fits c.args.records.now.config c.args.records.now.notes.items c.args.note.now c.args.journal.now.end c.note_len.result c.requires.on_disk.has.end c.note_len.ensures
    c.has_identifier.result (c.has_room.ensures.0 c.if-has_room.true) c.has_identifier.ensures

pub returns-else-has_room : goal.returns-else-has_room
returns-else-has_room g c =
    let none : c.has_room.result ≡ false = search rules in
    let lacks : c.args.journal.now.end + 6 + c.note_len.result ≤ 67108864 → ⊥ = λ fits. let both = sym (c.has_room.ensures.1 fits) ∙ none in cc in
    let over : 67108864 < c.args.journal.now.end + 6 + c.note_len.result = omega (arith, lacks) in
    none ∙ sym (room_lacks c.args.records.now.config c.args.records.now.notes.items c.args.note.now c.args.journal.now.end c.note_len.result c.requires.on_disk.has.end c.note_len.ensures over)
