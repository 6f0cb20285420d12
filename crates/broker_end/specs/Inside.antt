-- What is true of every broker.
use Rattle.std.specs.Prelude.{◌≡◌, ℕ, List, length}
use Rattle.voe_values.specs.declared.kind.NodeKind.TheVariants.{Broker}
use Rattle.node_notes.specs.declared.config.Config.{Config}
use Rattle.path_filter.specs.Sets.{Filters}
use Rattle.path_filter.specs.Links.{AreOf}

-- Its configuration is a broker's, its filters are those of the links, and each link has its last session.
pub record IsBroker (sets : List Filters) (config : Config) (sessions : List ℕ) : Type 0 where
  pub kind : config.kind ≡ Broker
  pub filters : AreOf sets config.links
  pub each : length sessions ≡ length config.links
