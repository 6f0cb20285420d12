-- How a talk's end is told.
use Rattle.std.specs.Prelude.{ℕ, List}
use Rattle.vtp_server.specs.declared.breach.Breach.{Breach}
use Rattle.vtp_server.specs.declared.breach.Breach.TheVariants as breach
use Rattle.vtp_server.specs.declared.breach.Parted.{Parted}
use Rattle.vtp_server.specs.declared.breach.Parted.TheVariants.{Broken, Stopped}
use Rattle.vtp_server.specs.declared.ended.Ended.{Ended}
use Rattle.vtp_server.specs.declared.ended.Ended.TheVariants as ended
use Rattle.vtp_server.specs.declared.ended.Stop.{Stop}
use Rattle.vtp_server.specs.declared.ended.Stop.TheVariants as stop
use Rattle.vtp_server.specs.declared.ended.ListenStop.{ListenStop}
use Rattle.vtp_server.specs.declared.ended.ListenStop.TheVariants as listen
use Rattle.vtp_server.specs.declared.ended.SubmitStop.{SubmitStop}
use Rattle.vtp_server.specs.declared.ended.SubmitStop.TheVariants as submit
use Rattle.vtp_server.specs.declared.ended.Submitted.{Submitted}
use Rattle.vtp_server.specs.declared.ended.Submitted.TheVariants as submitted

abbrev pub ended_by : Breach → Ended
ended_by breach.PeerClosed = ended.PeerClosed
ended_by (breach.Garbage place why) = ended.Garbage place why
ended_by (breach.Silent heard now) = ended.Silent heard now
ended_by breach.LinkFault = ended.LinkFault
ended_by breach.SinkFault = ended.SinkFault
ended_by breach.NoMemory = ended.NoMemory

abbrev pub stopped_by : Stop → Ended
stopped_by (stop.Replaced newer) = ended.Replaced newer
stopped_by (stop.Down faults) = ended.HubDown faults
stopped_by stop.NoMemory = ended.NoMemory

abbrev pub serve_ended : Parted Stop → Ended
serve_ended (Broken why) = ended_by why
serve_ended (Stopped why) = stopped_by why

abbrev pub listening_by : ListenStop → Ended
listening_by listen.Counted = ended.Counted
listening_by (listen.Down faults) = ended.HubDown faults
listening_by listen.NoMemory = ended.NoMemory

abbrev pub listen_ended : Parted ListenStop → Ended
listen_ended (Broken why) = ended_by why
listen_ended (Stopped why) = listening_by why

abbrev pub submitting_by : SubmitStop → Submitted
submitting_by (submit.Ack identifier) = submitted.Ack identifier
submitting_by (submit.Nak answer) = submitted.Nak answer
submitting_by submit.Nothing = submitted.Nothing
submitting_by submit.Full = submitted.Full
submitting_by (submit.Down faults) = submitted.Ended (ended.HubDown faults)
submitting_by submit.NoMemory = submitted.Ended ended.NoMemory

abbrev pub submitted_by : Parted SubmitStop → Submitted
submitted_by (Broken why) = submitted.Ended (ended_by why)
submitted_by (Stopped why) = submitting_by why
