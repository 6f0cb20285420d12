-- How a broker's run ends.
use Rattle.std.specs.Prelude.{◌≡◌, ℕ, ◌+◌, ◌-◌, ◌^◌, ◌<◌, min, Bool, false, Option, Some, None, ⊤, if◌then◌else◌}
use Rattle.voe_outside.specs.Causes.{counted}
use Rattle.voe_outside.specs.Returns.{Returns}
use Rattle.voe_outside.specs.declared.link.Link.{Ghosts as LinkGhosts}
use Rattle.voe_world.specs.Parts.{Parts, added}
use Rattle.broker_run.specs.Back.{AddUpTo, IsLastTalk, TookMoreTalks}
use Rattle.broker_run.specs.declared.outcome.BrokerRun.{BrokerRun}
use Rattle.broker_run.specs.declared.outcome.BrokerRun.TheVariants.{Served, ListenFault, DialFault, SpawnFault, NoMemory}
use Rattle.vtp_session.specs.declared.side.Side.{Side}
use Rattle.vtp_session.specs.declared.side.Side.TheVariants.{Line, Feed, Take}

-- what holds after each answer; of want of memory nothing is said
abbrev pub IsOutcome : BrokerRun → (ℕ → Type 0) → Type 0 → Type 0 → Type 0 → Type 0
IsOutcome (Served connections) Serves Listens Dials Spawns = Serves connections
IsOutcome ListenFault Serves Listens Dials Spawns = Listens
IsOutcome DialFault Serves Listens Dials Spawns = Dials
IsOutcome SpawnFault Serves Listens Dials Spawns = Spawns
IsOutcome NoMemory Serves Listens Dials Spawns = ⊤

-- the last link that was taken back was that of an ended talk, if one was, where it is told
abbrev pub EndsInTalk : {L : Type 0} → Side → LinkGhosts L → Option (Returns L) → Type 0
EndsInTalk side link None = ⊤
EndsInTalk side link (Some r) = 0 < r.number → IsLastTalk side link r.last

-- what is known of the listeners that were put back, where they are told
abbrev pub IfTold : {Li : Type 0} → Option (Li × Li) → (Li → Li → Type 0) → Type 0
IfTold None P = ⊤
IfTold (Some both) P = P both.0 both.1

-- The listeners handed out just the sessions, and took all of them back. The last link that each took back was that of
-- an ended talk with an author, or with a subscriber.
pub record ServedGuests {Li L : Type 0} (returns_of : Li → Option (Returns L)) (accepts_of : Li → ℕ) (link : LinkGhosts L) (sessions : ℕ) (authors subscribers : Li) : Type 0 where
  pub handed_out : accepts_of authors + accepts_of subscribers ≡ sessions
  pub all_back : AddUpTo sessions (returns_of authors) (returns_of subscribers)
  pub authors_talked : EndsInTalk Line link (returns_of authors)
  pub subscribers_talked : EndsInTalk Feed link (returns_of subscribers)

-- a step may be followed by others: it was made, or only an address was not reached
abbrev pub IsFine : Option BrokerRun → Type 0
IsFine None = ⊤
IsFine (Some (Served connections)) = ⊥
IsFine (Some ListenFault) = ⊥
IsFine (Some DialFault) = ⊤
IsFine (Some SpawnFault) = ⊥
IsFine (Some NoMemory) = ⊥

-- all connections have ended, and none lacked memory
pub record HasEnded (served sessions started guests authors_back subscribers_back dialed back : ℕ) (guests_lacked lines_lacked : Bool) : Type 0 where
  pub all : served ≡ started
  pub enough : guests ≡ sessions
  pub guests_back : authors_back + subscribers_back ≡ guests
  pub lines_back : back ≡ dialed
  pub guests_fine : guests_lacked ≡ false
  pub lines_fine : lines_lacked ≡ false

-- What a run did that has served its sessions and so many lines: it began a job for each, and its dialer took back each
-- line. The last one was an ended talk with an upstream broker.
pub record HasRun {So Si D Di Li Sp L : Type 0} (begun_of : Sp → ℕ) (returns_of : Di → Option (Returns L)) (link : LinkGhosts L) (old new : Parts So Si D Di Li Sp) (sessions lines served : ℕ) : Type 0 where
  pub all : served ≡ min (sessions + lines) (2 ^ 64 - 1)
  pub begun : begun_of new.spawner ≡ added (begun_of old.spawner) served
  pub lines_back : ∥ TookMoreTalks Take link lines (returns_of old.dialer) (returns_of new.dialer) ∥₁

-- Two listeners were put back, the authors' one first, and what they had handed out was counted.
pub record HasPutBack {So Si D Di Li Sp : Type 0} (accepts_of : Li → ℕ) (old new : Parts So Si D Di Li Sp) : Type 0 where
  pub authors : Li
  pub subscribers : Li
  pub told : new.listeners ≡ (if old.tells then Some (authors, subscribers) else None)
  pub handed_out : new.accepted ≡ added old.accepted (accepts_of authors + accepts_of subscribers)

-- The world did not listen, which it counted, and nothing else came of it.
abbrev pub HasNotListened : {So Si D Di Li Sp : Type 0} → Parts So Si D Di Li Sp → Parts So Si D Di Li Sp → Type 0
HasNotListened old new = new ≡ record old { listeners = new.listeners; faults = counted old.faults }
