-- What the source gives of a packet.
use Rattle.std.specs.Prelude.{◌≡◌, ℕ, List, Option, Some, None, Ok, Err}
use Rattle.voe_outside.specs.Causes.{counted}
use Rattle.voe_outside.specs.Whole.{Reads}
use Rattle.voe_outside.specs.declared.stream.Source.{Ghosts as SourceGhosts}
use Rattle.voe_outside.specs.declared.whole.ReadFault.TheVariants as read
use Rattle.voe_tree.specs.Fault.{RefusesTree}
use Rattle.voe_tree.specs.declared.fault.TreeFault.{TreeFault}
use Rattle.voe_tree.specs.declared.fault.TreeFault.TheVariants.{NotText, BadToken, Doctype, TooManyTokens, Unbalanced, TooDeep, RepeatedAttribute, UnboundPrefix, RootMissing, AfterRoot, NoMemory}
use Rattle.net_model.specs.declared.step.Judged.TheVariants.{BadPacket, BadTree, Good}
use Rattle.voe_validity.specs.Judging.{IsJudged, number_of_fault}
use Rattle.voevent_online.specs.declared.refusal.Refusal.{Refusal}
use Rattle.voevent_online.specs.declared.refusal.Refusal.TheVariants as refusal
use Rattle.voevent_online.specs.declared.submit_packet.Unready.{Unready}
use Rattle.voevent_online.specs.declared.submit_packet.Unready.TheVariants as unready

-- the byte or token at which bytes are refused, for the rules that show one
abbrev pub place_of_fault : TreeFault → Option ℕ
place_of_fault (NotText place) = Some place
place_of_fault (BadToken place) = Some place
place_of_fault (Doctype place) = Some place
place_of_fault TooManyTokens = None
place_of_fault (Unbalanced token) = Some token
place_of_fault (TooDeep token) = Some token
place_of_fault (RepeatedAttribute token) = Some token
place_of_fault (UnboundPrefix token) = Some token
place_of_fault RootMissing = None
place_of_fault (AfterRoot token) = Some token
place_of_fault NoMemory = None

-- the bytes spell no tree, by the rule of this number, at this place
pub record HasNoTree (bytes : List ℕ) (number : ℕ) (place : Option ℕ) : Type 0 where
  pub fault : TreeFault
  pub refuses : RefusesTree bytes fault
  pub number_is : number_of_fault fault ≡ Some number
  pub place_is : place_of_fault fault ≡ place

-- they spell none, by the rule of some number
abbrev pub HasNumber : List ℕ → Type 0
HasNumber bytes = (number : ℕ) × IsJudged bytes (BadTree number)

-- the bytes spell a tree that is no valid packet, by the rule of this number
pub record IsInvalid (bytes : List ℕ) (number : ℕ) : Type 0 where
  pub identifier : Option (List ℕ)
  pub judged : IsJudged bytes (BadPacket number identifier)

-- why bytes are refused as a packet
abbrev pub RefusesPacket : List ℕ → Refusal → Type 0
RefusesPacket bytes (refusal.Tree number place) = HasNoTree bytes number place
RefusesPacket bytes (refusal.Validity number) = IsInvalid bytes number
RefusesPacket bytes refusal.Usage = ⊥
RefusesPacket bytes refusal.TooLong = ⊥
RefusesPacket bytes refusal.Conflict = ⊥
RefusesPacket bytes refusal.Unmade = ⊥
RefusesPacket bytes (refusal.Foreign place) = ⊥
RefusesPacket bytes (refusal.Damaged place) = ⊥
RefusesPacket bytes (refusal.BadNote place) = ⊥

-- no good packet was made of the bytes: they are refused, or there was no memory
abbrev pub IsNoPacket : List ℕ → Unready → Type 0
IsNoPacket bytes (unready.Refused why) = RefusesPacket bytes why
IsNoPacket bytes unready.ReadFault = ⊥
IsNoPacket bytes unready.NoMemory = Unit {0}

module _ {So : Type 0} (source : SourceGhosts So) where
  -- the source was read to its end, within the limit of a document, and gave these bytes
  pub record GaveAll (bytes : List ℕ) (old new : So) : Type 0 where
    pub reads : Reads 1048576 (source.left old) (source.left new) (Ok bytes)
    pub faults : source.fault_count new ≡ source.fault_count old

  -- it gave a good packet of this identifier
  pub record IsGiven (identifier packet : List ℕ) (old new : So) : Type 0 where
    pub gave : GaveAll packet old new
    pub good : IsJudged packet (Good identifier)

  -- it gave bytes that are refused
  pub record GaveBad (why : Refusal) (old new : So) : Type 0 where
    pub bytes : List ℕ
    pub gave : GaveAll bytes old new
    pub refuses : RefusesPacket bytes why

  -- it had more bytes than a document may have, and was read little further
  pub record GaveTooMuch (old new : So) : Type 0 where
    pub reads : Reads 1048576 (source.left old) (source.left new) (Err read.TooLong)
    pub faults : source.fault_count new ≡ source.fault_count old

  -- a read failed, which was counted
  pub record HasFailed (old new : So) : Type 0 where
    pub reads : Reads 1048576 (source.left old) (source.left new) (Err read.Failed)
    pub faults : source.fault_count new ≡ counted (source.fault_count old)

  -- what was given is refused
  abbrev pub IsRefused : Refusal → So → So → Type 0
  IsRefused refusal.TooLong old new = GaveTooMuch old new
  IsRefused why old new = GaveBad why old new

  -- why no good packet was given
  abbrev pub IsNotGiven : Unready → So → So → Type 0
  IsNotGiven (unready.Refused why) old new = IsRefused why old new
  IsNotGiven unready.ReadFault old new = HasFailed old new
  IsNotGiven unready.NoMemory old new = source.fault_count new ≡ source.fault_count old
