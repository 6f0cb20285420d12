-- What a whole call does to the end that it was lent.
use Rattle.std.proofs.Common.{◌≡◌, ◌≤◌, ℕ, Bool, List, [], ◌++◌, length, Some, None, refl, sym, ap, ◌∙◌, subst, inl, arith}
use Rattle.std.proofs.lemmas.List.{append-nil}
use Rattle.std.specs.Prelude.{Option}
use Rattle.std.specs.Io.KnownBytes.{append_known}
use Rattle.voe_disk.specs.declared.disk.Disk.{Ghosts}
use Rattle.voe_outside.specs.declared.link.Link.{Ghosts as LinkGhosts}
use Rattle.voe_outside.specs.declared.stream.Sink.{Ghosts as SinkGhosts}
use Rattle.net_model.specs.declared.note.Note.{Note}
use Rattle.net_model.specs.declared.step.AuthorStep.{AuthorStep}
use Rattle.net_model.specs.declared.step.SubscriberStep.{SubscriberStep}
use Rattle.node_book.specs.Ends.{EndView}
use Rattle.node_book.specs.Keeps.{has_room}
use Rattle.node_notes.specs.declared.config.Config.{Config}
use Rattle.vtp_session.specs.Watch.{Times}
use Rattle.vtp_session.specs.declared.side.Side.TheVariants as side
use Rattle.vtp_session.specs.declared.side.Timers.{Timers}
use Rattle.vtp_server.specs.AuthorSide.{author_rules, submits}
use Rattle.vtp_server.specs.Calls.{IsFollowed, IsSubmitted, course_from, standing_from, terms_by}
use Rattle.vtp_server.specs.Counts.{counts_of, link_counts}
use Rattle.vtp_server.specs.Entered.{HasEntered, PacketTurn}
use Rattle.vtp_server.specs.Endings.{listen_ended, submitted_by}
use Rattle.vtp_server.specs.ListenMemory.{first_listening}
use Rattle.vtp_server.specs.ListenSide.{listen_rules, listens}
use Rattle.vtp_server.specs.Moves.{lines_told}
use Rattle.vtp_server.specs.NodeState.{NodeState}
use Rattle.vtp_server.specs.OneEnd.{IsAuthorTurn, IsSameEnd, IsSubscriberTurn, state_of}
use Rattle.vtp_server.specs.Submission.{AllExpected, IsToldOf, LineTurn}
use Rattle.vtp_server.specs.Talk.{Terms, course_after}
use Rattle.vtp_server.specs.declared.author.AuthorAsk.{AuthorAsk}
use Rattle.vtp_server.specs.declared.breach.Breach.TheVariants as breach
use Rattle.vtp_server.specs.declared.breach.Parted.TheVariants.{Broken}
use Rattle.vtp_server.specs.declared.ended.Ended.{Ended}
use Rattle.vtp_server.specs.declared.ended.Ended.TheVariants as ended
use Rattle.vtp_server.specs.declared.ended.Submitted.{Submitted}
use Rattle.vtp_server.specs.declared.ended.Submitted.TheVariants as submitted
use Rattle.vtp_server.specs.declared.speech.Voice.{Voice}
use Rattle.vtp_server.proofs.AuthorSteps.{line_turn}
use Rattle.vtp_server.proofs.AuthorTalks.{all_expected, moves_on as author_moves, told_by as author_told}
use Rattle.vtp_server.proofs.Called.{followed_so, submitted_so}
use Rattle.vtp_server.proofs.EndStates.{same_end, same_end_on}
use Rattle.vtp_server.proofs.Joins.{append_known-nil}
use Rattle.vtp_server.proofs.Leading.{leads_with}
use Rattle.vtp_server.proofs.ListenTalks.{begins, moves_on as listen_moves, told_by as listen_told}
use Rattle.vtp_server.proofs.OneMove.{ends_full}
use Rattle.vtp_server.proofs.SubscriberSteps.{packet_turn}

module _ {D L : Type 0} (disk : Ghosts D) (link : LinkGhosts L) (line : ℕ) (timers : Timers) (name : List ℕ) (filters : List (List ℕ)) where
  abbrev Author : Terms
  Author = terms_by side.Author timers name filters

  abbrev AuthorTurns : EndView D → AuthorAsk → AuthorStep → ℕ → ℕ → EndView D → Type 0
  AuthorTurns before asked reply place front after = IsAuthorTurn disk line before asked reply place front after

  -- the turns of a call that began with this configuration
  abbrev LineTurns : Config → EndView D → AuthorAsk → AuthorStep → ℕ → ℕ → EndView D → Type 0
  LineTurns config before asked reply place front after = LineTurn (state_of disk before).down line (λ notes note. has_room config notes note) (state_of disk before) asked reply (state_of disk after)

  author_step : (first x y : EndView D) (asked : AuthorAsk) (reply : AuthorStep) (place front : ℕ) → IsSameEnd disk first x → AuthorTurns x asked reply place front y → LineTurns first.config x asked reply place front y × IsSameEnd disk first y
  author_step first x y asked reply place front h t = (
    subst (λ (config : Config). LineTurns config x asked reply place front y) h.config (line_turn disk x y line asked reply t.step),
    same_end_on disk first x y h t.step.config t.step.same_disk,
  )

  pub submission_told : (clock : ℕ) (result : Submitted) (before after : EndView D) (old new : L) → IsSubmitted AuthorTurns link Author clock result before after old new
      → IsToldOf line (λ notes note. has_room before.config notes note) (state_of disk before) result (state_of disk after) × IsSameEnd disk before after
  submission_told clock result before after old new h =
      let first = course_from None submits h.start in
      let led = leads_with AuthorTurns (LineTurns before.config) (λ (x : EndView D). IsSameEnd disk before x) (author_step before) before after h.ends.moves (same_end disk before) h.ends.made.turns in
      let Room : List Note → Note → Bool = λ notes note. has_room before.config notes note in
      let at = author_moves line Room (state_of disk before) (LineTurns before.config) (state_of disk) (λ x y asked reply place front t. t) Author.times Author.voice first h.ends.moves before after (refl, refl, refl) h.ends.made.talk led.0 in
      let told = author_told line Room (state_of disk before) (LineTurns before.config) (state_of disk) (λ x y asked reply place front t. t) Author.times Author.voice first (course_after Author author_rules first h.ends.moves) h.ends.moves h.parted h.ends.rest h.ends.lost (record { link = link_counts link old; sink = 0 }) (record { link = link_counts link new; sink = h.no_sink }) after refl h.ends.made.talk refl h.ends.cause at in
      (subst (λ (r : Submitted). IsToldOf line Room (state_of disk before) r (state_of disk after)) (sym h.told) told, led.1)

  pub submission_expected : (clock : ℕ) (result : Submitted) (before after : EndView D) (old new : L) → (h : IsSubmitted AuthorTurns link Author clock result before after old new) → AllExpected h.ends.moves
  submission_expected clock result before after old new h =
      let first = course_from None submits h.start in
      let led = leads_with AuthorTurns (LineTurns before.config) (λ (x : EndView D). IsSameEnd disk before x) (author_step before) before after h.ends.moves (same_end disk before) h.ends.made.turns in
      let Room : List Note → Note → Bool = λ notes note. has_room before.config notes note in
      all_expected line Room (state_of disk before) (LineTurns before.config) (state_of disk) (λ x y asked reply place front t. t) Author.times Author.voice first h.ends.moves before after (refl, refl, refl) h.ends.made.talk led.0

  -- there was no memory before the first move
  pub submitted_nothing : (clock : ℕ) (end : EndView D) (old : L) → IsSubmitted AuthorTurns link Author clock (submitted.Ended ended.NoMemory) end end old old
  submitted_nothing clock end old =
      submitted_so AuthorTurns link Author clock clock (Broken breach.NoMemory) (submitted.Ended ended.NoMemory) end end old old 0 (omega arith) refl
      (ends_full author_rules AuthorTurns (record { link = link_counts link old; sink = 0 }) (record { link = link_counts link old; sink = 0 }) Author (course_from None submits clock) [] end (link.traffic old) (link.traffic old) None None refl refl)

module _ {D L K : Type 0} (disk : Ghosts D) (link : LinkGhosts L) (sink : SinkGhosts K) (timers : Timers) (name : List ℕ) (filters : List (List ℕ)) where
  abbrev Taker : Terms
  Taker = terms_by side.Take timers name filters

  abbrev SubscriberTurns : EndView D → List ℕ → SubscriberStep → ℕ → ℕ → EndView D → Type 0
  SubscriberTurns before packet reply place front after = IsSubscriberTurn disk before packet reply place front after

  subscriber_means : (x y : EndView D) (packet : List ℕ) (reply : SubscriberStep) (place front : ℕ) → SubscriberTurns x packet reply place front y → PacketTurn (state_of disk x).down (state_of disk x) reply (state_of disk y) × (front ≡ length (state_of disk y).notes)
  subscriber_means x y packet reply place front t = (packet_turn disk x y packet reply t.step, t.front_is)

  subscriber_step : (first x y : EndView D) (packet : List ℕ) (reply : SubscriberStep) (place front : ℕ) → IsSameEnd disk first x → SubscriberTurns x packet reply place front y → SubscriberTurns x packet reply place front y × IsSameEnd disk first y
  subscriber_step first x y packet reply place front h t = (t, same_end_on disk first x y h t.step.config t.step.same_disk)

  pub following_told : (count clock : ℕ) (result : Ended) (before after : EndView D) (old new : L) (out out_after : K) → IsFollowed SubscriberTurns link sink Taker count (length before.notes) clock result before after old new out out_after
      → HasEntered count (state_of disk before) (state_of disk after) result (sink.held out) (sink.held out_after) × IsSameEnd disk before after
  following_told count clock result before after old new out out_after h =
      let first = course_from (first_listening count (length before.notes)) (listens count) h.start in
      let led = leads_with SubscriberTurns SubscriberTurns (λ (x : EndView D). IsSameEnd disk before x) (subscriber_step before) before after h.ends.moves (same_end disk before) h.ends.made.turns in
      let b = state_of disk before in
      let at = listen_moves count b SubscriberTurns (state_of disk) subscriber_means Taker.times Taker.voice [] first h.ends.moves before after (begins count b SubscriberTurns (state_of disk) subscriber_means Taker.times Taker.voice) h.ends.made.talk h.ends.made.turns in
      let told = listen_told count b SubscriberTurns (state_of disk) subscriber_means Taker.times Taker.voice first (course_after Taker listen_rules first h.ends.moves) h.ends.moves h.parted h.ends.rest h.ends.lost (counts_of link sink old out) (counts_of link sink new out_after) h.ends.made.said (sink.held out) (sink.held out_after) (state_of disk after) refl h.ends.cause at h.ends.made.lines h.ends.made.told in
      (subst (λ (r : Ended). HasEntered count b (state_of disk after) r (sink.held out) (sink.held out_after)) (sym h.told) told, led.1)

  pub followed_nothing : (count clock : ℕ) (end : EndView D) (old : L) (out : K) → IsFollowed SubscriberTurns link sink Taker count (length end.notes) clock ended.NoMemory end end old old out out
  followed_nothing count clock end old out =
      followed_so SubscriberTurns link sink Taker count (length end.notes) clock clock (Broken breach.NoMemory) ended.NoMemory end end old old out out (omega arith) refl
      (ends_full listen_rules SubscriberTurns (counts_of link sink old out) (counts_of link sink old out) Taker (course_from (first_listening count (length end.notes)) (listens count) clock) [] end (link.traffic old) (link.traffic old) (sink.held out) (sink.held out) refl refl)

-- where no move was made, nothing was entered
pub nothing_entered : (count : ℕ) (s : NodeState) (held : Option (List ℕ)) → HasEntered count s s ended.NoMemory held held
nothing_entered count s held = record {
  entered = [];
  enters = tt;
  notes = sym (append-nil s.notes);
  few = omega arith;
  said = [];
  missing = [];
  lines = refl;
  told = append_known-nil held;
  cause = tt;
}
