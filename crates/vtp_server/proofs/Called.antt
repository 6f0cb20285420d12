-- A packet that was submitted, and a broker that was followed.
use Rattle.std.proofs.Common.{◌≡◌, ◌≤◌, ℕ, List, None, refl, sym, subst}
use Rattle.voe_outside.specs.declared.link.Link.{Ghosts as LinkGhosts}
use Rattle.voe_outside.specs.declared.stream.Sink.{Ghosts as SinkGhosts}
use Rattle.net_model.specs.declared.step.AuthorStep.{AuthorStep}
use Rattle.net_model.specs.declared.step.SubscriberStep.{SubscriberStep}
use Rattle.vtp_server.specs.AuthorSide.{author_rules, submits}
use Rattle.vtp_server.specs.Calls.{IsFollowed, IsSubmitted, course_from, standing_from}
use Rattle.vtp_server.specs.Counts.{counts_of, link_counts}
use Rattle.vtp_server.specs.EndCauses.{HasCause, HasSubmitCause}
use Rattle.vtp_server.specs.Endings.{listen_ended, submitted_by}
use Rattle.vtp_server.specs.Ends.{Ends}
use Rattle.vtp_server.specs.ListenMemory.{first_listening}
use Rattle.vtp_server.specs.ListenSide.{listen_rules, listens}
use Rattle.vtp_server.specs.Talk.{Terms, course_after}
use Rattle.vtp_server.specs.declared.author.AuthorAsk.{AuthorAsk}
use Rattle.vtp_server.specs.declared.breach.Parted.{Parted}
use Rattle.vtp_server.specs.declared.ended.Ended.{Ended}
use Rattle.vtp_server.specs.declared.ended.ListenStop.{ListenStop}
use Rattle.vtp_server.specs.declared.ended.SubmitStop.{SubmitStop}
use Rattle.vtp_server.specs.declared.ended.Submitted.{Submitted}
use Rattle.vtp_server.proofs.Caused.{listen_cause, submit_cause}
use Rattle.vtp_server.proofs.Lasts.{no_last_line}
use Rattle.vtp_server.proofs.RuleFacts.{author_tells}

module _ {T L : Type 0} (acts : T → AuthorAsk → AuthorStep → ℕ → ℕ → T → Type 0) (link : LinkGhosts L) (terms : Terms) where
  pub submitted_so : (clock start : ℕ) (parted : Parted SubmitStop) (result : Submitted) (before after : T) (old new : L) (no_sink : ℕ) → clock ≤ start → result ≡ submitted_by parted
      → Ends terms author_rules acts (course_from None submits start) (standing_from before (link.traffic old) None) parted after (link.traffic new) None (record { link = link_counts link old; sink = 0 }) (record { link = link_counts link new; sink = no_sink })
      → IsSubmitted acts link terms clock result before after old new
  submitted_so clock start parted result before after old new no_sink begins told ends = record {
    start = start;
    begins = begins;
    parted = parted;
    told = told;
    no_sink = no_sink;
    ends = ends;
    cause =
        subst (λ (r : Submitted). HasSubmitCause r (link_counts link old) (link_counts link new)) (sym told)
        (submit_cause terms ends.moves ends.rest ends.lost (record { link = link_counts link old; sink = 0 }) (record { link = link_counts link new; sink = no_sink }) (course_after terms author_rules (course_from None submits start) ends.moves)
        (λ h. no_last_line terms author_rules author_tells (course_from None submits start) ends.moves refl ends.made.talk h) parted ends.cause);
  }

module _ {T L K : Type 0} (acts : T → List ℕ → SubscriberStep → ℕ → ℕ → T → Type 0) (link : LinkGhosts L) (sink : SinkGhosts K) (terms : Terms) where
  pub followed_so : (count front clock start : ℕ) (parted : Parted ListenStop) (result : Ended) (before after : T) (old new : L) (out out_after : K) → clock ≤ start → result ≡ listen_ended parted
      → Ends terms listen_rules acts (course_from (first_listening count front) (listens count) start) (standing_from before (link.traffic old) (sink.held out)) parted after (link.traffic new) (sink.held out_after) (counts_of link sink old out) (counts_of link sink new out_after)
      → IsFollowed acts link sink terms count front clock result before after old new out out_after
  followed_so count front clock start parted result before after old new out out_after begins told ends = record {
    start = start;
    begins = begins;
    parted = parted;
    told = told;
    ends = ends;
    cause =
        subst (λ (r : Ended). HasCause r (counts_of link sink old out) (counts_of link sink new out_after)) (sym told)
        (listen_cause terms ends.moves ends.rest ends.lost (counts_of link sink old out) (counts_of link sink new out_after) (course_after terms listen_rules (course_from (first_listening count front) (listens count) start) ends.moves) parted ends.cause);
  }
