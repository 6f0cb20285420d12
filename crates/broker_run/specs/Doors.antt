-- The two doors of a broker.
use Rattle.broker_run.specs.declared.link.Door.{Door}
use Rattle.broker_run.specs.declared.link.Door.TheVariants.{Authors, Subscribers}
use Rattle.vtp_session.specs.declared.side.Side.{Side}
use Rattle.vtp_session.specs.declared.side.Side.TheVariants.{Line, Feed}

-- what the connections of a door are to the broker
abbrev pub side_of : Door → Side
side_of Authors = Line
side_of Subscribers = Feed
