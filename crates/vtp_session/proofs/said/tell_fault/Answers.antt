use Rattle.vtp_session.proofs.said.tell_fault.Goals as goal

pub returns-in_default : goal.returns-in_default
returns-in_default c root spelled =
    let lacks = c.spelled_is_not_refused.ensures c.args.payload.now root c.args.fault spelled c.requires in
    absurd (c.in_default.not-NoMemory lacks)
