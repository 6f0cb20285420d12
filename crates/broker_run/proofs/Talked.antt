-- The talk of a connection that was served, as the bytes of its link tell it.
use Rattle.std.proofs.Common.{◌≡◌, ℕ, false, List, ◌++◌, None, Some, sym, ap, subst, ◌∙◌}
use Rattle.std.specs.declared.option.Option.{Option}
use Rattle.voe_disk.specs.declared.disk.Disk.{Ghosts as DiskGhosts}
use Rattle.voe_outside.specs.Traffic.{Traffic, IsUntouched, IsUnused}
use Rattle.voe_outside.specs.declared.link.Link.{Ghosts as LinkGhosts}
use Rattle.hub_lock.specs.Seats.{SeatState}
use Rattle.net_model.specs.declared.step.BrokerStep.{BrokerStep}
use Rattle.net_model.specs.declared.step.BrokerStep.TheVariants as b
use Rattle.node_book.specs.Ends.{EndView}
use Rattle.broker_end.specs.Turning.{MeansTurn}
use Rattle.broker_end.specs.declared.event.BrokerEvent.{BrokerEvent}
use Rattle.vtp_framing.specs.Frames.{frames}
use Rattle.vtp_server.specs.Calls.{IsServed, course_from}
use Rattle.vtp_server.specs.Carried.{Carried}
use Rattle.vtp_server.specs.Counts.{LinkCounts, link_counts}
use Rattle.vtp_server.specs.Endings.{serve_ended}
use Rattle.vtp_server.specs.Ends.{EndsBy, Lost}
use Rattle.vtp_server.specs.HubTurns.{CanGive}
use Rattle.vtp_server.specs.Moves.{Move, messages_read, messages_written}
use Rattle.vtp_server.specs.Sendable.{IsSendable}
use Rattle.vtp_server.specs.Talk.{Rules, Talk, Terms, course_after}
use Rattle.vtp_server.specs.declared.ask.BrokerAsk.{BrokerAsk}
use Rattle.vtp_server.specs.declared.breach.Parted.{Parted}
use Rattle.vtp_server.specs.declared.ended.Ended.{Ended}
use Rattle.vtp_server.specs.declared.ended.Stop.{Stop}
use Rattle.vtp_server.specs.declared.side.Next.{Next}
use Rattle.broker_run.specs.Talks.{IsToldTalk, has_lacked, uncounted}

-- what a broker gives can be sent
pub sendable : {D : Type 0} (disk : DiskGhosts D) (reply : BrokerStep) → CanGive (λ (old : EndView D) happened answer new. MeansTurn disk old happened answer new) reply → IsSendable reply
sendable disk (b.Packet at identifier packet) gives = gives.meaning.good
sendable disk (b.Answer verdict) gives = tt
sendable disk (b.Joined link session) gives = tt
sendable disk (b.Guest after) gives = tt
sendable disk b.Nothing gives = tt
sendable disk b.Noted gives = tt
sendable disk b.Passed gives = tt
sendable disk b.Full gives = tt
sendable disk (b.Replaced newer) gives = tt
sendable disk (b.Down faults stopped) gives = tt
sendable disk b.NoMemory gives = tt

module _ {M : Type 0} (terms : Terms) (rules : Rules M BrokerAsk BrokerStep Stop) (memory : M) (first : Next BrokerAsk Stop) where
  told : (start : ℕ) (moves : List (Move BrokerAsk BrokerStep)) (rest : List ℕ) (lost : Lost) (parted : Parted Stop) (no_sink : ℕ) (counts : LinkCounts) (taken put : List ℕ)
      → Talk terms rules (course_from memory first start) moves → taken ≡ frames (messages_read moves) ++ rest → put ++ lost.link ≡ frames (messages_written moves) → has_lacked (serve_ended parted) ≡ false
      → EndsBy terms parted (course_after terms rules (course_from memory first start) moves) moves rest lost (record { link = uncounted; sink = 0 }) (record { link = counts; sink = no_sink })
      → (old new : Option Traffic) → IsUntouched old → Carried old new taken put → IsToldTalk terms rules memory first counts new
  told start moves rest lost parted no_sink counts taken put talk read wrote some cause None new none carried = subst (IsToldTalk terms rules memory first counts) (sym carried) tt
  told start moves rest lost parted no_sink counts taken put talk read wrote some cause (Some t) None none carried = absurd carried
  told start moves rest lost parted no_sink counts taken put talk read wrote some cause (Some t) (Some u) none carried =
      let all_taken : u.taken ≡ taken = carried.0 ∙ ap (λ (xs : List ℕ). xs ++ taken) none.0 in
      let all_put : u.held ≡ put = carried.1 ∙ ap (λ (xs : List ℕ). xs ++ put) none.1 in
      record {
        start = start;
        moves = moves;
        talk = talk;
        rest = rest;
        read = all_taken ∙ read;
        lost = lost;
        wrote = ap (λ (xs : List ℕ). xs ++ lost.link) all_put ∙ wrote;
        parted = parted;
        some_memory = some;
        no_sink = no_sink;
        cause = cause;
      }

  -- a call on a link that was just handed out was a talk that has ended, unless there was no memory
  pub served_talk : {S L : Type 0} (fixed_of : S → List ℕ) (records_of : S → List (List ℕ)) (sound_of : S → Type 0) (means : S → BrokerEvent → BrokerStep → S → Type 0) (sign_of : BrokerStep → ℕ) (link : LinkGhosts L) (clock : ℕ) (result : Ended) (before after : SeatState) (old new : L)
      → IsUnused (link.fault_count old) (link.idle_count old) (link.end_count old) (link.traffic old) → has_lacked result ≡ false
      → IsServed fixed_of records_of sound_of means sign_of link terms rules memory first clock result before after old new
      → IsToldTalk terms rules memory first (link_counts link new) (link.traffic new)
  served_talk fixed_of records_of sound_of means sign_of link clock result before after old new unused some s =
      let e = s.ends in
      let m = e.made in
      let fresh : link_counts link old ≡ uncounted = λ i. record { faults = unused.no_fault i; idles = unused.no_idle i; ends = unused.no_end i } in
      let cause =
      subst (λ (c : LinkCounts). EndsBy terms s.parted (course_after terms rules (course_from memory first s.start) e.moves) e.moves e.rest e.lost (record { link = c; sink = 0 }) (record { link = link_counts link new; sink = s.no_sink })) fresh e.cause in
      told s.start e.moves e.rest e.lost s.parted s.no_sink (link_counts link new) m.taken m.put m.talk m.read m.wrote (subst (λ (r : Ended). has_lacked r ≡ false) s.told some) cause (link.traffic old) (link.traffic new) unused.untouched m.carried
