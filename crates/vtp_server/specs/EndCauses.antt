-- What must have been counted where a connection ended so.
use Rattle.std.specs.Prelude.{ℕ}
use Rattle.voe_outside.specs.Causes.{Rose}
use Rattle.vtp_server.specs.Counts.{Counts, LinkCounts}
use Rattle.vtp_server.specs.declared.ended.Ended.{Ended}
use Rattle.vtp_server.specs.declared.ended.Ended.TheVariants.{Counted, PeerClosed, Garbage, Silent, Replaced, LinkFault, SinkFault, HubDown, NoMemory}
use Rattle.vtp_server.specs.declared.ended.Submitted.{Submitted}
use Rattle.vtp_server.specs.declared.ended.Submitted.TheVariants as submitted

-- the link has met its end, failed or been idle, or the sink has failed
abbrev pub HasCause : Ended → Counts → Counts → Type 0
HasCause PeerClosed old new = Rose old.link.ends new.link.ends
HasCause LinkFault old new = Rose old.link.faults new.link.faults
HasCause (Silent heard now) old new = Rose old.link.idles new.link.idles
HasCause SinkFault old new = Rose old.sink new.sink
HasCause Counted old new = Unit {0}
HasCause (Garbage place why) old new = Unit {0}
HasCause (Replaced newer) old new = Unit {0}
HasCause (HubDown faults) old new = Unit {0}
HasCause NoMemory old new = Unit {0}

-- the same of a call that puts nothing on a sink, which never ends by one
abbrev pub HasLinkCause : Ended → LinkCounts → LinkCounts → Type 0
HasLinkCause PeerClosed old new = Rose old.ends new.ends
HasLinkCause LinkFault old new = Rose old.faults new.faults
HasLinkCause (Silent heard now) old new = Rose old.idles new.idles
HasLinkCause SinkFault old new = ⊥
HasLinkCause Counted old new = ⊥
HasLinkCause (Garbage place why) old new = Unit {0}
HasLinkCause (Replaced newer) old new = Unit {0}
HasLinkCause (HubDown faults) old new = Unit {0}
HasLinkCause NoMemory old new = Unit {0}

abbrev pub HasSubmitCause : Submitted → LinkCounts → LinkCounts → Type 0
HasSubmitCause (submitted.Ended why) old new = HasLinkCause why old new
HasSubmitCause (submitted.Ack identifier) old new = Unit {0}
HasSubmitCause (submitted.Nak why) old new = Unit {0}
HasSubmitCause submitted.Nothing old new = Unit {0}
HasSubmitCause submitted.Full old new = Unit {0}
