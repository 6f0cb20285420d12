-- What a whole call did: the talk that it made, and why it ended.
use Rattle.std.specs.Prelude.{◌≡◌, ◌≢◌, ◌≤◌, ℕ, List, [], length, Option, None, false}
use Rattle.voe_outside.specs.Traffic.{Traffic}
use Rattle.voe_outside.specs.declared.link.Link.{Ghosts as LinkGhosts}
use Rattle.voe_outside.specs.declared.stream.Sink.{Ghosts as SinkGhosts}
use Rattle.xml_lexer.specs.Characters.{Text}
use Rattle.hub_lock.specs.Seats.{SeatState}
use Rattle.net_model.specs.declared.step.AuthorStep.{AuthorStep}
use Rattle.net_model.specs.declared.step.BrokerStep.{BrokerStep}
use Rattle.net_model.specs.declared.step.SubscriberStep.{SubscriberStep}
use Rattle.broker_end.specs.declared.event.BrokerEvent.{BrokerEvent}
use Rattle.vtp_session.specs.Watch.{watch_from}
use Rattle.vtp_session.specs.declared.side.Side.{Side}
use Rattle.vtp_session.specs.declared.side.Timers.{Timers}
use Rattle.vtp_server.specs.Counts.{link_counts, counts_of}
use Rattle.vtp_server.specs.Ends.{Ends, EndsInTurn, Standing}
use Rattle.vtp_server.specs.Talk.{Course, Rules, Terms}
use Rattle.vtp_server.specs.declared.breach.Parted.{Parted}
use Rattle.vtp_server.specs.declared.breach.Parted.TheVariants.{Stopped}
use Rattle.vtp_server.specs.declared.side.Next.{Next}
use Rattle.vtp_server.specs.AuthorSide.{author_rules, submits}
use Rattle.vtp_server.specs.EndCauses.{HasCause, HasLinkCause, HasSubmitCause}
use Rattle.vtp_server.specs.Endings.{listen_ended, serve_ended, submitted_by}
use Rattle.vtp_server.specs.HubTurns.{AreTurnsOf, IsHubTurn}
use Rattle.vtp_server.specs.ListenMemory.{first_listening}
use Rattle.vtp_server.specs.ListenSide.{listen_rules, listens}
use Rattle.vtp_server.specs.Written.{AllWritten}
use Rattle.vtp_server.specs.declared.ask.BrokerAsk.{BrokerAsk}
use Rattle.vtp_server.specs.declared.author.AuthorAsk.{AuthorAsk}
use Rattle.vtp_server.specs.declared.ended.Ended.{Ended}
use Rattle.vtp_server.specs.declared.ended.Ended.TheVariants as ended
use Rattle.vtp_server.specs.declared.ended.Ended.TheVariants.{Silent}
use Rattle.vtp_server.specs.declared.ended.Stop.{Stop}
use Rattle.vtp_server.specs.declared.ended.ListenStop.{ListenStop}
use Rattle.vtp_server.specs.declared.ended.SubmitStop.{SubmitStop}
use Rattle.vtp_server.specs.declared.ended.Submitted.{Submitted}
use Rattle.vtp_server.specs.declared.ended.Submitted.TheVariants as submitted

abbrev pub terms_by : Side → Timers → List ℕ → List Text → Terms
terms_by side timers name filters = record { side = side; times = record { beat = timers.beat; silence = timers.silence }; voice = record { name = name; filters = filters } }

-- a talk begins with nothing heard
abbrev pub course_from : {M A E : Type 0} → M → Next A E → ℕ → Course M A E
course_from memory first start = record { memory = memory; next = first; watch = watch_from start; place = 0; unanswered = []; is_silent = false }

abbrev pub standing_from : {T : Type 0} → T → Option Traffic → Option (List ℕ) → Standing T
standing_from seat traffic held = record { left = []; seat = seat; traffic = traffic; held = held }

-- a silence began no earlier than the call, and ends at the clock's last moment
abbrev pub IsSilentInTime : Ended → ℕ → ℕ → Type 0
IsSilentInTime (Silent heard now) old new = (old ≤ heard) × (now ≡ new)
IsSilentInTime _ old new = Unit {0}

abbrev pub IsSubmittedInTime : Submitted → ℕ → ℕ → Type 0
IsSubmittedInTime (submitted.Ended why) old new = IsSilentInTime why old new
IsSubmittedInTime _ old new = Unit {0}

-- A connection of a broker was served: a talk from this first move was made over the link, its turns at the hub.
pub record IsServed {S M L : Type 0} (fixed_of : S → List ℕ) (records_of : S → List (List ℕ)) (sound_of : S → Type 0) (means : S → BrokerEvent → BrokerStep → S → Type 0) (sign_of : BrokerStep → ℕ) (link : LinkGhosts L) (terms : Terms) (rules : Rules M BrokerAsk BrokerStep Stop) (memory : M) (first : Next BrokerAsk Stop) (clock : ℕ) (result : Ended) (before after : SeatState) (old new : L) : Type 0 where
  -- the moment that the clock answered before the first move
  pub start : ℕ
  pub begins : clock ≤ start
  pub parted : Parted Stop
  pub told : result ≡ serve_ended parted
  -- the count of a sink that no move of such a talk asks
  pub no_sink : ℕ
  pub ends : Ends terms rules (IsHubTurn fixed_of records_of sound_of means sign_of) (course_from memory first start) (standing_from before (link.traffic old) None) parted after (link.traffic new) None (record { link = link_counts link old; sink = 0 }) (record { link = link_counts link new; sink = no_sink })
  pub turns : AreTurnsOf fixed_of records_of means sign_of before after ends.moves
  -- where the side made no further move, that was for the reply of the last turn
  pub stopped : (stop : Stop) → parted ≡ Stopped stop → EndsInTurn rules ends.moves stop
  pub no_line : result ≢ ended.SinkFault
  pub cause : HasLinkCause result (link_counts link old) (link_counts link new)
  -- a verdict or a packet was written only behind the turn that gave it
  pub written : AllWritten terms.voice None ends.moves

-- A packet of an author's line was submitted, the turns being made from a seat.
pub record IsSubmitted {T L : Type 0} (acts : T → AuthorAsk → AuthorStep → ℕ → ℕ → T → Type 0) (link : LinkGhosts L) (terms : Terms) (clock : ℕ) (result : Submitted) (before after : T) (old new : L) : Type 0 where
  pub start : ℕ
  pub begins : clock ≤ start
  pub parted : Parted SubmitStop
  pub told : result ≡ submitted_by parted
  pub no_sink : ℕ
  pub ends : Ends terms author_rules acts (course_from None submits start) (standing_from before (link.traffic old) None) parted after (link.traffic new) None (record { link = link_counts link old; sink = 0 }) (record { link = link_counts link new; sink = no_sink })
  pub cause : HasSubmitCause result (link_counts link old) (link_counts link new)

-- A broker was followed until so many packets were entered, the first turn acting on so many records.
pub record IsFollowed {T L K : Type 0} (acts : T → List ℕ → SubscriberStep → ℕ → ℕ → T → Type 0) (link : LinkGhosts L) (sink : SinkGhosts K) (terms : Terms) (count front clock : ℕ) (result : Ended) (before after : T) (old new : L) (out out_after : K) : Type 0 where
  pub start : ℕ
  pub begins : clock ≤ start
  pub parted : Parted ListenStop
  pub told : result ≡ listen_ended parted
  pub ends : Ends terms listen_rules acts (course_from (first_listening count front) (listens count) start) (standing_from before (link.traffic old) (sink.held out)) parted after (link.traffic new) (sink.held out_after) (counts_of link sink old out) (counts_of link sink new out_after)
  pub cause : HasCause result (counts_of link sink old out) (counts_of link sink new out_after)
