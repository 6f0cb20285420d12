-- A connection that was served.
use Rattle.std.proofs.Common.{◌≡◌, ◌≢◌, ◌≤◌, ◌^◌, ◌-◌, ℕ, false, List, [], None, refl, sym, ◌∙◌, subst}
use Rattle.std.specs.declared.option.Option.{Option}
use Rattle.voe_outside.specs.declared.link.Link.{Ghosts as LinkGhosts}
use Rattle.hub_lock.specs.Seats.{SeatState}
use Rattle.net_model.specs.declared.step.BrokerStep.{BrokerStep}
use Rattle.broker_end.specs.declared.event.BrokerEvent.{BrokerEvent}
use Rattle.vtp_server.specs.Counts.{Counts, LinkCounts, link_counts}
use Rattle.vtp_server.specs.Ends.{Ends, EndsBy, EndsInLine, EndsInTurn, StopsByTurns, TellsNothing, is_over, is_tell}
use Rattle.vtp_server.specs.Talk.{Rules, Terms, course_after}
use Rattle.vtp_server.specs.declared.breach.Breach.{Breach}
use Rattle.vtp_server.specs.declared.breach.Breach.TheVariants as breach
use Rattle.vtp_server.specs.declared.breach.Parted.{Parted}
use Rattle.vtp_server.specs.declared.breach.Parted.TheVariants.{Broken, Stopped}
use Rattle.vtp_server.specs.declared.side.Next.{Next}
use Rattle.vtp_server.specs.declared.side.Next.TheVariants as next
use Rattle.vtp_server.proofs.Lasts.{last_turn, no_last_line}
use Rattle.vtp_server.proofs.OneMove.{ends_full}
use Rattle.vtp_server.specs.Calls.{IsServed, course_from, standing_from}
use Rattle.vtp_server.specs.EndCauses.{HasLinkCause}
use Rattle.vtp_server.specs.Endings.{serve_ended}
use Rattle.vtp_server.specs.HubTurns.{IsHubTurn}
use Rattle.vtp_server.specs.Written.{ComesFor, SpeaksForTurns}
use Rattle.vtp_server.specs.declared.ask.BrokerAsk.{BrokerAsk}
use Rattle.vtp_server.specs.declared.ended.Ended.{Ended}
use Rattle.vtp_server.specs.declared.ended.Ended.TheVariants as ended
use Rattle.vtp_server.specs.declared.ended.Stop.{Stop}
use Rattle.vtp_server.specs.declared.ended.Stop.TheVariants as stop
use Rattle.vtp_server.proofs.Caused.{serve_cause}
use Rattle.vtp_server.proofs.HubTalks.{turns_of}
use Rattle.vtp_server.proofs.Spoken.{all_written}

-- only a sink's fault is told as one
sink_fault : (p : Parted Stop) → serve_ended p ≡ ended.SinkFault → p ≡ Broken breach.SinkFault
sink_fault (Broken breach.SinkFault) e = refl
sink_fault (Broken breach.PeerClosed) e = absurd (cc)
sink_fault (Broken (breach.Garbage place why)) e = absurd (cc)
sink_fault (Broken (breach.Silent heard now)) e = absurd (cc)
sink_fault (Broken breach.LinkFault) e = absurd (cc)
sink_fault (Broken breach.NoMemory) e = absurd (cc)
sink_fault (Stopped (stop.Replaced newer)) e = absurd (cc)
sink_fault (Stopped (stop.Down faults)) e = absurd (cc)
sink_fault (Stopped stop.NoMemory) e = absurd (cc)

module _ {S M L : Type 0} (fixed_of : S → List ℕ) (records_of : S → List (List ℕ)) (sound_of : S → Type 0) (means : S → BrokerEvent → BrokerStep → S → Type 0) (sign_of : BrokerStep → ℕ) (link : LinkGhosts L) (terms : Terms) (rules : Rules M BrokerAsk BrokerStep Stop) (stops : StopsByTurns rules) (tells : TellsNothing rules) (speaks : SpeaksForTurns rules) (memory : M) (first : Next BrokerAsk Stop) (goes : is_over first ≡ false) (quiet : is_tell first ≡ false) (fits : ComesFor None first) where
  abbrev Served : ℕ → Ended → SeatState → SeatState → L → L → Type 0
  Served clock result before after old new = IsServed fixed_of records_of sound_of means sign_of link terms rules memory first clock result before after old new

  abbrev EndsSo : ℕ → Parted Stop → SeatState → SeatState → L → L → ℕ → Type 0
  EndsSo start parted before after old new no_sink =
      Ends terms rules (IsHubTurn fixed_of records_of sound_of means sign_of) (course_from memory first start) (standing_from before (link.traffic old) None) parted after (link.traffic new) None (record { link = link_counts link old; sink = 0 }) (record { link = link_counts link new; sink = no_sink })

  pub served_by : (clock start : ℕ) (parted : Parted Stop) (result : Ended) (before after : SeatState) (old new : L) (no_sink : ℕ) → clock ≤ start → result ≡ serve_ended parted → before.turns ≤ 2 ^ 64 - 1 → EndsSo start parted before after old new no_sink → Served clock result before after old new
  served_by clock start parted result before after old new no_sink begins told few ends = record {
    start = start;
    begins = begins;
    parted = parted;
    told = told;
    no_sink = no_sink;
    ends = ends;
    turns = turns_of fixed_of records_of sound_of means sign_of before after ends.moves few ends.made.turns;
    stopped = λ why e.
        last_turn terms rules stops (course_from memory first start) ends.moves why goes ends.made.talk
        (subst (λ (p : Parted Stop). EndsBy terms p (course_after terms rules (course_from memory first start) ends.moves) ends.moves ends.rest ends.lost (record { link = link_counts link old; sink = 0 }) (record { link = link_counts link new; sink = no_sink })) e ends.cause).0;
    cause =
        subst (λ (r : Ended). HasLinkCause r (link_counts link old) (link_counts link new)) (sym told)
        (serve_cause terms ends.moves ends.rest ends.lost (record { link = link_counts link old; sink = 0 }) (record { link = link_counts link new; sink = no_sink }) (course_after terms rules (course_from memory first start) ends.moves)
        (λ h. no_last_line terms rules tells (course_from memory first start) ends.moves quiet ends.made.talk h) parted ends.cause);
    written = all_written terms rules speaks None (course_from memory first start) ends.moves fits ends.made.talk;
    no_line = λ e.
        no_last_line terms rules tells (course_from memory first start) ends.moves quiet ends.made.talk
        (subst (λ (p : Parted Stop). EndsBy terms p (course_after terms rules (course_from memory first start) ends.moves) ends.moves ends.rest ends.lost (record { link = link_counts link old; sink = 0 }) (record { link = link_counts link new; sink = no_sink })) (sink_fault parted (sym told ∙ e)) ends.cause).0;
  }

  -- there was no memory before the first move
  pub served_nothing : (clock : ℕ) (seat : SeatState) (old : L) → clock ≤ clock → seat.turns ≤ 2 ^ 64 - 1 → Served clock ended.NoMemory seat seat old old
  served_nothing clock seat old same few =
      served_by clock clock (Broken breach.NoMemory) ended.NoMemory seat seat old old 0 same refl few
      (ends_full rules (IsHubTurn fixed_of records_of sound_of means sign_of) (record { link = link_counts link old; sink = 0 }) (record { link = link_counts link old; sink = 0 }) terms (course_from memory first clock) [] seat (link.traffic old) (link.traffic old) None None refl refl)
