-- What an end does that is asked for its next packet or for a session.
use Rattle.std.specs.Prelude.{◌≡◌, ◌<◌, ◌+◌, ◌^◌, ℕ, List, Option, Some, None, Result, Ok, Err, IfOk, IfErr, IfSome, OnOk, length}
use Rattle.std.specs.Option.{option_map}
use Rattle.voe_disk.specs.declared.disk.Disk.{Ghosts}
use Rattle.gate_journal.specs.Device.{IsSameDisk}
use Rattle.net_model.specs.Notes.{first_from, to_send}
use Rattle.net_model.specs.Steps.{join_link, last_of, next_session}
use Rattle.net_model.specs.declared.step.AuthorStep.{AuthorStep}
use Rattle.net_model.specs.declared.step.AuthorStep.TheVariants as a
use Rattle.net_model.specs.declared.step.BrokerStep.{BrokerStep}
use Rattle.net_model.specs.declared.step.BrokerStep.TheVariants as b
use Rattle.node_book.specs.Ends.{EndView, one_more}
use Rattle.net_machine.specs.Works.{sent_of}
use Rattle.net_machine.specs.declared.fault.EndFault.{EndFault}
use Rattle.net_machine.specs.declared.fault.EndFault.TheVariants.{NoMemory}

-- what an author gives that is asked for its next packet
abbrev pub given_by_author : AuthorStep → Result (Option (ℕ × List ℕ)) EndFault
given_by_author (a.Packet at identifier packet) = Ok (Some (at, packet))
given_by_author a.Nothing = Ok None
given_by_author _ = Err NoMemory

-- what a broker gives
abbrev pub given_by_broker : BrokerStep → Result (Option (ℕ × List ℕ)) EndFault
given_by_broker (b.Packet at identifier packet) = Ok (Some (at, packet))
given_by_broker b.Nothing = Ok None
given_by_broker _ = Err NoMemory

-- the session that a broker has begun
abbrev pub session_by_broker : BrokerStep → Result ℕ EndFault
session_by_broker (b.Joined link session) = Ok session
session_by_broker _ = Err NoMemory

-- A step was made that adds no record: the end is up, and the last sessions are these.
pub record IsStepped {D : Type 0} (disk : Ghosts D) (old new : EndView D) (sessions : List ℕ) : Type 0 where
  pub config_is : new.config ≡ old.config
  pub notes_are : new.notes ≡ old.notes
  pub sessions_are : new.sessions ≡ sessions
  pub steps_are : new.steps ≡ one_more old.steps
  pub still_up : new.down ≡ None
  pub same_disk : IsSameDisk disk old.disk new.disk
  pub same_count : disk.faults new.disk ≡ disk.faults old.disk

-- the first packet was found, or there was no memory
pub record IsAsked {D : Type 0} (disk : Ghosts D) (number after : ℕ) (old new : EndView D) (result : Result (Option (ℕ × List ℕ)) EndFault) : Type 0 where
  pub stepped : IsStepped disk old new old.sessions
  pub found : IfOk result (λ found. found ≡ option_map sent_of (first_from (to_send old.notes number) after 0 old.notes))
  pub small : IfOk result (λ found. IfSome found (λ first. first.0 + 1 < 2 ^ 64))
  pub lacks : IfErr result (λ fault. fault ≡ NoMemory)

-- a session of the link was begun, or there was no memory
pub record IsEntered {D : Type 0} (disk : Ghosts D) (link : ℕ) (old new : EndView D) (result : Result ℕ EndFault) : Type 0 where
  pub stepped : OnOk result (IsStepped disk old new (join_link old.sessions link))
  pub session : IfOk result (λ session. session ≡ next_session (last_of old.sessions link))
  pub lacks : IfErr result (λ fault. fault ≡ NoMemory)
  pub config_is : new.config ≡ old.config
  pub same_length : length new.sessions ≡ length old.sessions
  pub same_disk : IsSameDisk disk old.disk new.disk
