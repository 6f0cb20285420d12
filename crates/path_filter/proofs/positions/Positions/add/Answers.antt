use Rattle.std.proofs.Common.{◌≡◌, length, arith}
use Rattle.path_filter.specs.Positions.{Has}
use Rattle.path_filter.proofs.Bits.{set-bit}
use Rattle.path_filter.proofs.positions.Positions.add.Goals as goal

pub returns : goal.returns
unfolding Has
returns c = let len : length c.args.self.now.words ≡ 9 = omega arith in set-bit c.args.self.now.words c.args.at (omega arith)
