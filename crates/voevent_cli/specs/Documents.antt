-- What the bytes of an input are as a document, and what the commands that read one want of it.
use Rattle.std.specs.Prelude.{◌≡◌, ℕ, ◌<◌, ◌≤◌, if◌then◌else◌, List, [], ◌++◌, length, Some, None, codes, unwrap_or}
use Rattle.std.specs.declared.option.Option.{Option}
use Rattle.voe_tree.specs.Contents.{attribute_of}
use Rattle.voe_tree.specs.Document.{Spells}
use Rattle.voe_tree.specs.Fault.{RefusesTree}
use Rattle.voe_tree.specs.Validity.{least_broken_row}
use Rattle.voe_tree.specs.declared.element.Element.{Element}
use Rattle.voe_tree.specs.declared.fault.TreeFault.{TreeFault}
use Rattle.voe_tree.specs.declared.fault.TreeFault.TheVariants.{NotText, BadToken, Doctype, TooManyTokens, Unbalanced, TooDeep, RepeatedAttribute, UnboundPrefix, RootMissing, AfterRoot, NoMemory}
use Rattle.voe_validity.specs.Judging.{number_of_fault}
use Rattle.voe_validity.specs.RemarkList.{remarks_of}
use Rattle.voe_packet.specs.Parts.{packet_of}
use Rattle.voe_packet.specs.Shown.{shown_packet}
use Rattle.vtp_messages.specs.Parts.{is_transport, role_of, origin_of, response_of, stamp_of, params_of, result_of}
use Rattle.vtp_messages.specs.Showing.{shown_parts}
use Rattle.vtp_messages.specs.declared.role.MessageRole.{MessageRole}
use Rattle.voevent_cli.specs.Lines.{valid_line, remark_lines}
use Rattle.voevent_cli.specs.Outcomes.{done, refused}
use Rattle.voevent_cli.specs.declared.outcome.Outcome.{Outcome}
use Rattle.voevent_cli.specs.declared.refusal.Refusal.TheVariants.{TooLong, Tree, Validity, BadRole, NoOrigin}

-- ---- documents

abbrev pub max_document : ℕ
max_document = 1048576

-- the byte or token at which bytes are refused, for the rules that show one
abbrev pub place_of_fault : TreeFault → Option ℕ
place_of_fault (NotText place) = Some place
place_of_fault (BadToken place) = Some place
place_of_fault (Doctype place) = Some place
place_of_fault TooManyTokens = None
place_of_fault (Unbalanced token) = Some token
place_of_fault (TooDeep token) = Some token
place_of_fault (RepeatedAttribute token) = Some token
place_of_fault (UnboundPrefix token) = Some token
place_of_fault RootMissing = None
place_of_fault (AfterRoot token) = Some token
place_of_fault NoMemory = None

-- What an input is: a tree by its root, no tree by the number of the rule and its place, or too long.
pub data Document : Type 0 where
  tree : Element → Document
  no_tree : ℕ → Option ℕ → Document
  too_long : Document

abbrev pub IsDocument : List ℕ → Document → Type 0
IsDocument input (tree root) = (length input ≤ max_document) × Spells root input
IsDocument input (no_tree number place) =
    (length input ≤ max_document)
    × (fault : TreeFault) × RefusesTree input fault × (number_of_fault fault ≡ Some number) × (place_of_fault fault ≡ place)
IsDocument input too_long = max_document < length input

-- ---- what is wanted of one

-- of a tree as this says; whatever else is refused
abbrev pub wanted_of : (Element → Outcome) → Document → Outcome
wanted_of judged (tree root) = judged root
wanted_of judged (no_tree number place) = refused (Tree number place)
wanted_of judged too_long = refused TooLong

-- the outcome is wanted of what the input is
abbrev pub WantedOf : (Element → Outcome) → List ℕ → Outcome → Type 0
WantedOf judged input outcome = (document : Document) × IsDocument input document × (outcome ≡ wanted_of judged document)

-- ---- `check`

-- the identifier of a packet, as its root has it
abbrev pub identifier_text : Element → List ℕ
identifier_text root = unwrap_or (attribute_of root (codes "ivorn")) []

abbrev pub checked_by : Option ℕ → Element → Outcome
checked_by (Some number) root = refused (Validity number)
checked_by None root = done (valid_line (identifier_text root) ++ remark_lines (remarks_of root))

-- a valid packet by its identifier and what is odd about it, another by the least rule that it breaks
abbrev pub checked : Element → Outcome
checked root = checked_by (least_broken_row root) root

-- ---- `show`

abbrev pub shown_message : Option MessageRole → Option (List ℕ) → Element → Outcome
shown_message None origin root = refused BadRole
shown_message (Some role) None root = refused NoOrigin
shown_message (Some role) (Some origin) root =
    done (shown_parts role origin (response_of root) (stamp_of root) (params_of root) (result_of root))

abbrev pub shown_by : Option ℕ → Element → Outcome
shown_by (Some number) root = refused (Validity number)
shown_by None root = done (shown_packet (packet_of root))

-- a tree whose root is called `Transport` as a message, every other as a packet
abbrev pub shown : Element → Outcome
shown root =
    if is_transport root then shown_message (role_of root) (origin_of root) root else shown_by (least_broken_row root) root
