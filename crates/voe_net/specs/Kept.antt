-- What a node is made of, as contracts see it.
use Rattle.std.specs.Prelude.{◌≡◌, true, [], Option, Some, None, length}
use Rattle.voe_disk.specs.declared.disk.Disk.{Ghosts}
use Rattle.voe_disk.specs.declared.fail.DiskFail.TheVariants.{Fault}
use Rattle.voe_values.specs.declared.kind.NodeKind.TheVariants.{Author as AnAuthor, Broker as ABroker, Subscriber as ASubscriber}
use Rattle.node_notes.specs.Forms.{is_config}
use Rattle.node_book.specs.Ends.{EndView}
use Rattle.path_filter.specs.Links.{AreReadable}
use Rattle.voe_net.specs.Nodes.{AreDistinct, names_of}
use Rattle.voe_net.specs.declared.kept.Kept.{Kept}
use Rattle.voe_net.specs.declared.kept.Kept.TheVariants.{Author, Broker, Subscriber, Bare}

-- a disk alone, as if its end were down
abbrev pub bare : {D : Type 0} → D → EndView D
bare disk = record { disk = disk; config = record { kind = ASubscriber; name = []; links = [] }; notes = []; sessions = []; steps = 0; down = Some Fault }

abbrev pub end_of : {D : Type 0} → Kept D → EndView D
end_of (Author end) = end
end_of (Broker end) = end
end_of (Subscriber end) = end
end_of (Bare disk) = bare disk

-- a broker's links have each a last session, and nobody else has sessions
abbrev pub HasSessions : {D : Type 0} → Kept D → Type 0
HasSessions (Author end) = end.sessions ≡ []
HasSessions (Broker end) = length end.sessions ≡ length end.config.links
HasSessions (Subscriber end) = end.sessions ≡ []
HasSessions (Bare disk) = Unit {0}

-- the end is of its configuration's kind
abbrev pub HasKind : {D : Type 0} → Kept D → Type 0
HasKind (Author end) = end.config.kind ≡ AnAuthor
HasKind (Broker end) = end.config.kind ≡ ABroker
HasKind (Subscriber end) = end.config.kind ≡ ASubscriber
HasKind (Bare disk) = Unit {0}

-- an end that is up has a configuration that keeps to its form, whose filters read and whose links have names of their own
pub record IsConfigured {D : Type 0} (disk : Ghosts D) (end : EndView D) : Type 0 where
  pub form : is_config end.config ≡ true
  pub filters : AreReadable end.config.links
  pub names : AreDistinct (names_of end.config.links)

-- What is true of a node between two calls: its disk is not armed, and unless its disk has failed, it is an end of its
-- kind and configured.
pub record IsKeptNode {D : Type 0} (disk : Ghosts D) (kept : Kept D) : Type 0 where
  pub kind : HasKind kept
  pub sessions : HasSessions kept
  pub configured : (end_of kept).down ≡ None → IsConfigured disk (end_of kept)
  pub unarmed : (disk.arming (end_of kept).disk).calls ≡ None

abbrev pub IsNode : {D : Type 0} → Ghosts D → Option (Kept D) → Type 0
IsNode disk None = ⊥
IsNode disk (Some kept) = IsKeptNode disk kept
