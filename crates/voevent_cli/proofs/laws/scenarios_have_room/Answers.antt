-- No journal of a scenario gets full.
use Rattle.voevent_cli.proofs.Room.{had_room}
use Rattle.voevent_cli.proofs.laws.scenarios_have_room.Goals as goal

pub returns : goal.returns
returns c = λ text scenario rules events is right. had_room scenario rules events (c.scenarios_are_sound.ensures text scenario is) right
