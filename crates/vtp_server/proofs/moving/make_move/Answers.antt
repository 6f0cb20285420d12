-- Each arm makes one move, or ends.
use Rattle.std.proofs.Common.{ap, refl, sym, ◌∙◌, Err}
use Rattle.vtp_server.specs.Ends.{course_of}
use Rattle.vtp_server.specs.Talk.{Says}
use Rattle.vtp_server.specs.Reading.{terms_of}
use Rattle.vtp_server.proofs.OneMove.{ends_by_read, ends_failed_line, ends_failed_write, ends_full, ends_full_line, ends_full_read, ends_full_turn, ends_full_write, ends_stopped, fails_line, lacks_line, makes_line, makes_read, makes_turn, makes_write, says_packet, says_speech, waits_more, waits_no_more, whole_line}
use Rattle.vtp_server.proofs.moving.make_move.Goals as goal

pub returns-in-Err-clause-err : goal.returns-in-Err-clause-err
returns-in-Err-clause-err g c =
    ends_by_read g.S.Side.rules (g.T.Turns.acts c.args.turns.now) _ _ c.args.voice.now c.args.session.now c.read.new.session c.args.side.now c.args.next c.args.seat.now _ _ _ c.in-Err.breach c.in-Read.is c.in-Err.ensures.err

pub returns-in-Ok-heard-clause-ok : goal.returns-in-Ok-heard-clause-ok
returns-in-Ok-heard-clause-ok g c =
    makes_read g.S.Side.rules (g.T.Turns.acts c.args.turns.now) c.args.voice.now c.args.session.now c.read.new.session c.args.side.now c.heard.new.self c.args.next c.in-Ok-heard.after c.args.seat.now _ _ _ c.in-Ok.seen c.in-Read.is c.in-Ok.ensures.ok (rw c.waiting.ensures at c.in-Ok-heard.ensures)

pub returns-in-Read-clause-err : goal.returns-in-Read-clause-err
returns-in-Read-clause-err g c =
    ends_full_read g.S.Side.rules (g.T.Turns.acts c.args.turns.now) _ _ c.args.voice.now c.args.session.now c.read.new.session c.args.side.now c.args.next c.args.seat.now _ _ _ c.in-Ok.seen c.in-Read.is c.in-Ok.ensures.ok

pub returns-in-Ok-answered-clause-ok : goal.returns-in-Ok-answered-clause-ok
returns-in-Ok-answered-clause-ok g c =
    makes_turn g.S.Side.rules (g.T.Turns.acts c.args.turns.now) _ c.args.session.now c.args.side.now c.answered.new.self c.args.next c.in-Ok-answered.after c.args.seat.now c.turn-reply.new.seat _ _ c.in-Ask.ask c.turn-reply.result c.turn-reply.ensures.turn.0 c.front-front.result c.in-Ask.is (rw c.front-front.ensures c.turn-reply.ensures.turn.1) (rw c.waiting-in-Ask.ensures at c.in-Ok-answered.ensures)

pub returns-in-Ask-clause-err : goal.returns-in-Ask-clause-err
returns-in-Ask-clause-err g c =
    ends_full_turn g.S.Side.rules (g.T.Turns.acts c.args.turns.now) _ _ _ c.args.session.now c.args.side.now c.args.next c.args.seat.now c.turn-reply.new.seat _ _ c.in-Ask.ask c.turn-reply.result c.turn-reply.ensures.turn.0 _ c.in-Ask.is c.turn-reply.ensures.turn.1

pub returns-in-Err-spell-clause-err : goal.returns-in-Err-spell-clause-err
returns-in-Err-spell-clause-err g c =
    ends_full g.S.Side.rules (g.T.Turns.acts c.args.turns.now) _ _ _ (course_of c.args.side.now c.args.next c.args.session.now) c.args.session.now.left c.args.seat.now _ _ _ _ refl refl

pub returns-in-Err-Failed-clause-err : goal.returns-in-Err-Failed-clause-err
returns-in-Err-Failed-clause-err g c =
    let says : Says (terms_of c.args.voice.now c.args.session.now) c.args.next c.args.session.now.watch.latest c.in-Ok-spell.message = says_speech (terms_of c.args.voice.now c.args.session.now) c.args.next c.in-Say.speech c.last.result _ c.in-Ok-spell.message c.in-Say.is (c.requires.time.latest ∙ sym c.last.ensures.value) c.in-Ok-spell.ensures in
    ends_failed_write g.S.Side.rules (g.T.Turns.acts c.args.turns.now) _ _ _ c.args.session.now c.args.side.now c.args.next c.args.seat.now _ _ _ c.in-Ok-spell.message says (c.in-Err-Failed.ensures.part (ap Err c.in-Err-Failed.field-0-is)) (c.in-Err-Failed.ensures.failed (ap Err c.in-Err-Failed.field-0-is))

pub returns-in-Err-NoMemory-clause-err : goal.returns-in-Err-NoMemory-clause-err
returns-in-Err-NoMemory-clause-err g c =
    ends_full g.S.Side.rules (g.T.Turns.acts c.args.turns.now) _ _ _ (course_of c.args.side.now c.args.next c.args.session.now) c.args.session.now.left c.args.seat.now _ _ _ _ (c.in-Err-NoMemory.ensures.no_memory (ap Err c.in-Err-NoMemory.field-0-is)) refl

pub returns-in-Ok-written-clause-ok : goal.returns-in-Ok-written-clause-ok
returns-in-Ok-written-clause-ok g c =
    let says : Says (terms_of c.args.voice.now c.args.session.now) c.args.next c.args.session.now.watch.latest c.in-Ok-spell.message = says_speech (terms_of c.args.voice.now c.args.session.now) c.args.next c.in-Say.speech c.last.result _ c.in-Ok-spell.message c.in-Say.is (c.requires.time.latest ∙ sym c.last.ensures.value) c.in-Ok-spell.ensures in
    makes_write g.S.Side.rules (g.T.Turns.acts c.args.turns.now) _ c.args.session.now c.args.session.now c.args.side.now c.written.new.self c.args.next c.in-Ok-written.after c.args.seat.now _ _ _ c.in-Ok-spell.message says (waits_no_more c.args.next c.in-Say.speech c.args.session.now c.in-Say.is) c.in-Ok-put_message.ensures.whole (rw c.waiting-in-Say.ensures at c.in-Ok-written.ensures)

pub returns-in-Say-clause-err : goal.returns-in-Say-clause-err
returns-in-Say-clause-err g c =
    let says : Says (terms_of c.args.voice.now c.args.session.now) c.args.next c.args.session.now.watch.latest c.in-Ok-spell.message = says_speech (terms_of c.args.voice.now c.args.session.now) c.args.next c.in-Say.speech c.last.result _ c.in-Ok-spell.message c.in-Say.is (c.requires.time.latest ∙ sym c.last.ensures.value) c.in-Ok-spell.ensures in
    ends_full_write g.S.Side.rules (g.T.Turns.acts c.args.turns.now) _ _ _ c.args.session.now c.args.side.now c.args.next c.args.seat.now _ _ _ c.in-Ok-spell.message says c.in-Ok-put_message.ensures.whole

pub returns-in-Err-Failed-put_message-clause-err : goal.returns-in-Err-Failed-put_message-clause-err
returns-in-Err-Failed-put_message-clause-err g c =
    ends_failed_write g.S.Side.rules (g.T.Turns.acts c.args.turns.now) _ _ _ c.args.session.now c.args.side.now c.args.next c.args.seat.now _ _ _ c.in-Send.packet (says_packet (terms_of c.args.voice.now c.args.session.now) c.args.next c.in-Send.identifier c.in-Send.packet _ c.in-Send.is) (c.in-Err-Failed-put_message.ensures.part (ap Err c.in-Err-Failed-put_message.field-0-is)) (c.in-Err-Failed-put_message.ensures.failed (ap Err c.in-Err-Failed-put_message.field-0-is))

pub returns-in-Err-NoMemory-put_message-clause-err : goal.returns-in-Err-NoMemory-put_message-clause-err
returns-in-Err-NoMemory-put_message-clause-err g c =
    ends_full g.S.Side.rules (g.T.Turns.acts c.args.turns.now) _ _ _ (course_of c.args.side.now c.args.next c.args.session.now) c.args.session.now.left c.args.seat.now _ _ _ _ (c.in-Err-NoMemory-put_message.ensures.no_memory (ap Err c.in-Err-NoMemory-put_message.field-0-is)) refl

pub returns-in-Err-sent-clause-err : goal.returns-in-Err-sent-clause-err
returns-in-Err-sent-clause-err g c =
    ends_full_write g.S.Side.rules (g.T.Turns.acts c.args.turns.now) _ _ _ c.args.session.now c.args.side.now c.args.next c.args.seat.now _ _ _ c.in-Send.packet (says_packet (terms_of c.args.voice.now c.args.session.now) c.args.next c.in-Send.identifier c.in-Send.packet _ c.in-Send.is) c.in-Ok-put_message-2.ensures.whole

pub returns-in-Ok-written-2-clause-ok : goal.returns-in-Ok-written-2-clause-ok
returns-in-Ok-written-2-clause-ok g c =
    makes_write g.S.Side.rules (g.T.Turns.acts c.args.turns.now) _ c.args.session.now c.sent.new.self c.args.side.now c.written-in-Send.new.self c.args.next c.in-Ok-written-2.after c.args.seat.now _ _ _ c.in-Send.packet (says_packet (terms_of c.args.voice.now c.args.session.now) c.args.next c.in-Send.identifier c.in-Send.packet _ c.in-Send.is) (waits_more c.args.next c.in-Send.identifier c.in-Send.packet c.args.session.now c.sent.new.self c.in-Send.is c.in-Ok-sent.ensures.ok) c.in-Ok-put_message-2.ensures.whole (rw c.waiting-in-Send.ensures at c.in-Ok-written-2.ensures)

pub returns-in-Send-clause-err : goal.returns-in-Send-clause-err
returns-in-Send-clause-err g c =
    ends_full_write g.S.Side.rules (g.T.Turns.acts c.args.turns.now) _ _ _ c.args.session.now c.args.side.now c.args.next c.args.seat.now _ _ _ c.in-Send.packet (says_packet (terms_of c.args.voice.now c.args.session.now) c.args.next c.in-Send.identifier c.in-Send.packet _ c.in-Send.is) c.in-Ok-put_message-2.ensures.whole

pub returns-in-Err-Failed-write_all-clause-err : goal.returns-in-Err-Failed-write_all-clause-err
returns-in-Err-Failed-write_all-clause-err g c =
    fails_line g.S.Side.rules (g.T.Turns.acts c.args.turns.now) _ _ _ c.args.session.now c.args.side.now c.args.next c.args.seat.now _ _ _ c.as_slice.result.now c.in-Tell.line c.in-Err-Failed-write_all.field-0 c.in-Tell.is c.in-Err-Failed-write_all.field-0-is c.as_slice.ensures c.in-Err-Failed-write_all.ensures.bytes c.in-Err-Failed-write_all.ensures.faults

pub returns-in-Err-NoMemory-write_all-clause-err : goal.returns-in-Err-NoMemory-write_all-clause-err
returns-in-Err-NoMemory-write_all-clause-err g c =
    lacks_line g.S.Side.rules (g.T.Turns.acts c.args.turns.now) _ _ _ c.args.session.now c.args.side.now c.args.next c.args.seat.now _ _ _ c.as_slice.result.now c.in-Err-NoMemory-write_all.field-0 c.in-Err-NoMemory-write_all.field-0-is c.in-Err-NoMemory-write_all.ensures.bytes

pub returns-in-Ok-told-clause-ok : goal.returns-in-Ok-told-clause-ok
returns-in-Ok-told-clause-ok g c =
    makes_line g.S.Side.rules (g.T.Turns.acts c.args.turns.now) _ c.args.session.now c.args.side.now c.told.new.self c.args.next c.in-Ok-told.after c.args.seat.now _ _ _ c.in-Tell.line c.in-Tell.is (whole_line _ _ c.as_slice.result.now c.in-Tell.line c.as_slice.ensures c.in-Ok-write_all.ensures.bytes) (rw c.waiting-in-Tell.ensures at c.in-Ok-told.ensures)

pub returns-in-Tell-clause-err : goal.returns-in-Tell-clause-err
returns-in-Tell-clause-err g c =
    ends_full_line g.S.Side.rules (g.T.Turns.acts c.args.turns.now) _ _ _ c.args.session.now c.args.side.now c.args.next c.args.seat.now _ _ _ c.in-Tell.line c.in-Tell.is (whole_line _ _ c.as_slice.result.now c.in-Tell.line c.as_slice.ensures c.in-Ok-write_all.ensures.bytes)

pub returns-clause-err : goal.returns-clause-err
returns-clause-err g c =
    ends_stopped g.S.Side.rules (g.T.Turns.acts c.args.turns.now) _ _ _ c.args.session.now c.args.side.now c.args.next c.args.seat.now _ _ c.in-Over.stop c.in-Over.is
