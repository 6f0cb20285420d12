-- What a crash leaves of a node.
use Rattle.std.specs.Prelude.{◌≡◌, ℕ, true, List, [], map, Some, None, IsSome}
use Rattle.voe_disk.specs.declared.disk.Disk.{Ghosts}
use Rattle.voe_values.specs.declared.kind.NodeKind.{NodeKind}
use Rattle.voe_values.specs.declared.kind.NodeKind.TheVariants.{Author, Broker, Subscriber}
use Rattle.net_model.specs.declared.note.Note.{Note}
use Rattle.node_notes.specs.declared.config.Config.{Config}
use Rattle.node_notes.specs.declared.config.LinkConfig.{LinkConfig}
use Rattle.node_notes.specs.Forms.{is_config}
use Rattle.node_book.specs.Ends.{EndView}
use Rattle.node_book.specs.Keeps.{Keeps}
use Rattle.path_filter.specs.Links.{AreReadable}
use Rattle.voe_net.specs.Kept.{end_of}
use Rattle.voe_net.specs.Nodes.{AreDistinct, names_of}
use Rattle.voe_net.specs.Worked.{kind_of}
use Rattle.voe_net.specs.declared.kept.Kept.{Kept}

-- the file keeps records, and a configuration that an end of this kind is made of
pub record KeepsNode (kind : NodeKind) (file : List ℕ) : Type 0 where
  pub config : Config
  pub notes : List Note
  pub keeps : Keeps file config notes
  pub kind_is : config.kind ≡ kind
  pub form : is_config config ≡ true
  pub filters : AreReadable config.links
  pub names : AreDistinct (names_of config.links)

-- whatever a crash leaves keeps such an end
abbrev pub LeavesNode : {D : Type 0} → Ghosts D → NodeKind → D → Type 0
LeavesNode disk kind state = (image : List ℕ) → disk.may_leave state image → KeepsNode kind image

-- the disk of a node, whatever a crash leaves of it, keeps an end of the node's kind
abbrev pub LeavesItself : {D : Type 0} → Ghosts D → Kept D → Type 0
LeavesItself disk node = (kind : NodeKind) × (kind_of node ≡ Some kind) × LeavesNode disk kind (end_of node).disk

-- what the disk reads keeps such an end
abbrev pub ReadsNode : {D : Type 0} → Ghosts D → NodeKind → D → Type 0
ReadsNode disk kind state = (file : List ℕ) × (disk.reads state ≡ Some file) × KeepsNode kind file

-- the last sessions of an end that was loaded: no session of a broker's link has begun
abbrev pub no_sessions : NodeKind → List LinkConfig → List ℕ
no_sessions Author links = []
no_sessions Broker links = map (λ link. 0) links
no_sessions Subscriber links = []

-- The end is up and has what the disk read.
pub record IsLoadedFrom {D : Type 0} (disk : Ghosts D) (old : D) (end : EndView D) : Type 0 where
  pub keeps : (file : List ℕ) → disk.reads old ≡ Some file → Keeps file end.config end.notes
  pub sessions_are : end.sessions ≡ no_sessions end.config.kind end.config.links
  pub is_up : end.down ≡ None
  pub told : (fill : ℕ) → IsSome (disk.crash_image old fill) → IsSome (disk.crash_image end.disk fill)

-- The end is up and has what a crash left of the disk.
pub record IsLoadedAgain {D : Type 0} (disk : Ghosts D) (old : D) (end : EndView D) : Type 0 where
  pub image : List ℕ
  pub left : disk.may_leave old image
  pub exact : (told : List ℕ) → disk.crash_image old (disk.arming old).fill ≡ Some told → image ≡ told
  pub keeps : Keeps image end.config end.notes
  pub sessions_are : end.sessions ≡ no_sessions end.config.kind end.config.links
  pub is_up : end.down ≡ None
  pub told : (fill : ℕ) → IsSome (disk.crash_image old fill) → IsSome (disk.crash_image end.disk fill)
