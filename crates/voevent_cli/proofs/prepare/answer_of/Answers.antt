-- `net` and `init` act the same for all words that ask for it.
use Rattle.voevent_cli.proofs.prepare.answer_of.Goals as goal

pub returns-in-Init-clause-acted : goal.returns-in-Init-clause-acted
returns-in-Init-clause-acted g c = rw c.in-Init.is (c.answer_of_init.ensures.acted c.args.words.now)

pub returns-in-Net-clause-acted : goal.returns-in-Net-clause-acted
returns-in-Net-clause-acted g c = rw c.in-Net.is (c.answer_of_net.ensures.acted c.args.words.now)
