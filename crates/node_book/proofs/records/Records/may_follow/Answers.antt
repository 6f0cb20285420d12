use Rattle.node_book.proofs.Below.{acked_below, refused_below, done_below}
use Rattle.node_book.proofs.records.Records.may_follow.Goals as goal

pub is_open-requires-clause-edge : goal.is_open-requires-clause-edge
is_open-requires-clause-edge c = acked_below c.args.self.now.config c.args.note.now c.in-Acked.line _ c.requires.form c.in-Acked.is

pub is_open-requires-in-Refused-clause-edge : goal.is_open-requires-in-Refused-clause-edge
is_open-requires-in-Refused-clause-edge c = refused_below c.args.self.now.config c.args.note.now c.in-Refused.line _ c.requires.form c.in-Refused.is

pub is_open-requires-in-Done-clause-edge : goal.is_open-requires-in-Done-clause-edge
is_open-requires-in-Done-clause-edge c = done_below c.args.self.now.config c.args.note.now c.in-Done.link _ c.requires.form c.in-Done.is
