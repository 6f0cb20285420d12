use Rattle.std.proofs.Common.{◌≡◌, false}
use Rattle.node_notes.specs.Forms.{may_follow}
use Rattle.node_book.proofs.Telling.{no_other}
use Rattle.node_book.proofs.records.Records.add_payload.Goals as goal

pub returns-then-not-may_follow-clause-none : goal.returns-then-not-may_follow-clause-none
returns-then-not-may_follow-clause-none c is note next spelled =
    let breaks : may_follow c.args.self.now.notes.items c.in_ok-note.note ≡ false = cc in
    no_other c.args.self.now.config c.args.self.now.notes.items c.in_ok-note.note c.args.payload.now c.requires.config_fits c.in_ok-note.ensures.found.0 c.in_ok-note.ensures.found.1 breaks note next spelled
