-- Which rules are those of a node.
use Rattle.std.specs.Prelude.{◌≡◌, ℕ, List}
use Rattle.net_model.specs.Rules.{NodeRules}
use Rattle.net_model.specs.Laws.{IsIn}
use Rattle.net_model.specs.declared.step.Judged.TheVariants.{Good}
use Rattle.node_notes.specs.declared.config.Config.{Config}
use Rattle.voe_validity.specs.Judging.{IsJudged}
use Rattle.path_filter.specs.Links.{PassesLinks}
use Rattle.node_book.specs.EndSteps.{HasRoomOf}
use Rattle.broker_end.specs.Broker.{HasDigests}

-- The rules are those of a node with this configuration, as far as these packets go: they judge each as its bytes are,
-- digests are SHA-1, the journal is the book's, and they pass a good packet over exactly those links whose filters do.
pub record IsRight (config : Config) (packets : List (List ℕ)) (rules : NodeRules) : Type 0 where
  pub judge : (packet : List ℕ) → IsIn packet packets → IsJudged packet (rules.judge packet)
  pub digest_of : HasDigests rules
  pub has_room : HasRoomOf config rules
  pub passes : (packet identifier : List ℕ) → IsIn packet packets → rules.judge packet ≡ Good identifier → PassesLinks config.links packet rules
