use Rattle.voevent_online.proofs.laws.moments_of.Goals as goal

pub returns : goal.returns
returns g c = record {
  itself = g.met.D.Disk.since_itself;
  earlier = g.met.D.Disk.since_earlier;
  alone = g.met.D.Disk.one_moment;
  splits = g.met.D.Disk.splits;
  last = g.met.D.Disk.last_counts;
}
