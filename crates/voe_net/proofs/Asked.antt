-- Ends that are asked for their next packet or for a session.
use Rattle.std.proofs.Common.{◌≡◌, ◌<◌, ◌+◌, ◌^◌, ℕ, zero, suc, Bool, true, false, List, [], ◌∷◌, ◌++◌, Option, Some, None, Ok, Err, length, refl, sym, ap, subst, ◌∙◌, arith, add-zero}
use Rattle.std.specs.Prelude.{Result, IfSome, cond, nat_lt, slice_get, slice_set, unwrap_or}
use Rattle.std.specs.Option.{option_map}
use Rattle.std.specs.Str.{bytes_eq}
use Rattle.std.proofs.lemmas.Bool.{le-ltb}
use Rattle.std.proofs.lemmas.List.{append-nil}
use Rattle.voe_disk.specs.Disk.{Rose}
use Rattle.voe_disk.specs.declared.disk.Disk.{Ghosts}
use Rattle.voe_disk.specs.declared.fail.DiskFail.{DiskFail}
use Rattle.voe_values.specs.declared.kind.NodeKind.TheVariants.{Author, Broker}
use Rattle.gate_journal.specs.Device.{IsSameDisk}
use Rattle.net_model.proofs.Members.{length-slice_set}
use Rattle.net_model.proofs.Held.{bytes_eq-same, same_bytes}
use Rattle.net_model.specs.Notes.{Placed, first_from, to_send}
use Rattle.net_model.specs.Steps.{Outcome, author_gives, broker_gives, broker_join, broker_joins, in_session, join_link, last_of, next_session, place_of_name, says}
use Rattle.net_model.specs.declared.note.Note.{Note}
use Rattle.net_model.specs.declared.step.AuthorStep.{AuthorStep}
use Rattle.net_model.specs.declared.step.AuthorStep.TheVariants as a
use Rattle.net_model.specs.declared.step.BrokerStep.{BrokerStep}
use Rattle.net_model.specs.declared.step.BrokerStep.TheVariants as b
use Rattle.node_notes.proofs.Holding.{found_within}
use Rattle.node_notes.specs.declared.config.Config.{Config}
use Rattle.node_notes.specs.declared.config.LinkConfig.{LinkConfig}
use Rattle.node_book.specs.Ends.{EndView, one_more}
use Rattle.node_book.specs.EndSteps.{Fate, HasAnswered, Happens, answered, is_down, lacked_memory}
use Rattle.net_machine.specs.Ends as net
use Rattle.net_machine.specs.Ends.{joining}
use Rattle.net_machine.specs.Works.{sent_of}
use Rattle.net_machine.specs.declared.fault.EndFault.{EndFault}
use Rattle.net_machine.specs.declared.fault.EndFault.TheVariants.{NoMemory}
use Rattle.author_end.specs.Author as author
use Rattle.broker_end.specs.Broker as broker
use Rattle.voe_net.specs.Asked.{IsAsked, IsEntered, IsStepped, given_by_author, given_by_broker, session_by_broker}
use Rattle.voe_net.specs.Nodes.{AreDistinct, names_of, show, show_up}
use Rattle.voe_net.specs.Performed.{HasFound, HasJoined}

-- ---- the links' names

-- the first place of a name that stands once is where it stands
place_from : (names : List (List ℕ)) (name : List ℕ) (n place : ℕ) → slice_get names n ≡ Some name → AreDistinct names → place_of_name names name place ≡ Some (place + n)
place_from [] name n place is distinct = absurd (cc)
place_from (own ∷ names) name zero place is distinct =
    let same : own ≡ name = cc in
    ap (λ (x : Bool). cond x (Some place) (place_of_name names name (place + 1))) (ap (bytes_eq name) same ∙ bytes_eq-same name) ∙ ap Some (sym (add-zero place))
place_from (own ∷ names) name (suc n) place is distinct =
    by (bytes_eq name own) refl (place_from names name n (place + 1) is (λ m k one first second. (let up : suc m ≡ suc k = distinct (suc m) (suc k) one first second in omega (arith, up))))
  where
    by : (x : Bool) → bytes_eq name own ≡ x → place_of_name names name (place + 1) ≡ Some ((place + 1) + n) → cond x (Some place) (place_of_name names name (place + 1)) ≡ Some (place + suc n)
    by true same rest = absurd (let at : own ≡ name = sym (same_bytes name own same) in let clash : 0 ≡ suc n = distinct 0 (suc n) name (ap Some at) is in omega (arith, clash))
    by false other rest = (let sum : (place + 1) + n ≡ place + suc n = omega arith in rest ∙ ap Some sum)

pub place_is : (names : List (List ℕ)) (name : List ℕ) (n : ℕ) → slice_get names n ≡ Some name → AreDistinct names → place_of_name names name 0 ≡ Some n
place_is names name n is distinct = (let sum : 0 + n ≡ n = omega arith in place_from names name n 0 is distinct ∙ ap Some sum)

pub name_at : (links : List LinkConfig) (n : ℕ) (link : LinkConfig) → slice_get links n ≡ Some link → slice_get (names_of links) n ≡ Some link.name
name_at [] n link is = absurd (cc)
name_at (own ∷ links) zero link is = (let same : own ≡ link = cc in ap (λ (l : LinkConfig). Some l.name) same)
name_at (own ∷ links) (suc n) link is = name_at links n link is

-- ---- what the steps answer

author_quiet : (found : Option Placed) → (author_gives found).added ≡ []
author_quiet None = refl
author_quiet (Some first) = refl

author_given : (found : Option Placed) (step : AuthorStep) → step ≡ (author_gives found).answer → given_by_author step ≡ Ok (option_map sent_of found)
author_given None step is = ap given_by_author is
author_given (Some first) step is = ap given_by_author is

author_lacks : (step : AuthorStep) → author.fate_of step ≡ lacked_memory → given_by_author step ≡ Err NoMemory
author_lacks a.NoMemory is = refl
author_lacks a.Wrote is = refl
author_lacks a.Known is = refl
author_lacks (a.Refused code) is = refl
author_lacks (a.Packet at identifier packet) is = absurd (cc)
author_lacks a.Nothing is = absurd (cc)
author_lacks a.Noted is = refl
author_lacks a.Passed is = refl
author_lacks a.Full is = refl
author_lacks (a.Down faults stopped) is = refl

broker_quiet : (found : Option Placed) → (broker_gives found).added ≡ []
broker_quiet None = refl
broker_quiet (Some first) = refl

broker_given : (found : Option Placed) (step : BrokerStep) → step ≡ (broker_gives found).answer → given_by_broker step ≡ Ok (option_map sent_of found)
broker_given None step is = ap given_by_broker is
broker_given (Some first) step is = ap given_by_broker is

broker_lacks : (step : BrokerStep) → broker.fate_of step ≡ lacked_memory → (given_by_broker step ≡ Err NoMemory) × (session_by_broker step ≡ Err NoMemory)
broker_lacks b.NoMemory is = (refl, refl)
broker_lacks (b.Answer verdict) is = absurd (cc)
broker_lacks (b.Joined link session) is = absurd (cc)
broker_lacks (b.Guest after) is = absurd (cc)
broker_lacks (b.Packet at identifier packet) is = absurd (cc)
broker_lacks b.Nothing is = absurd (cc)
broker_lacks b.Noted is = absurd (cc)
broker_lacks b.Passed is = absurd (cc)
broker_lacks b.Full is = absurd (cc)
broker_lacks (b.Replaced newer) is = absurd (cc)
broker_lacks (b.Down faults stopped) is = absurd (cc)

same_not_less : (n : ℕ) → nat_lt n n ≡ false
same_not_less n = le-ltb n n (omega arith)

-- what is asked for in the last session is done
in_last : (sessions : List ℕ) (link session : ℕ) (outcome : Outcome BrokerStep) → session ≡ last_of sessions link → in_session sessions link session outcome ≡ outcome
in_last sessions link session outcome is =
    ap (λ (x : Bool). cond x (says (b.Replaced (last_of sessions link))) outcome) (ap (λ (n : ℕ). nat_lt n (last_of sessions link)) is ∙ same_not_less (last_of sessions link))

-- ---- what becomes of the ends

-- what a step leaves that adds no record
pub record IsQuiet {D : Type 0} (disk : Ghosts D) (old new : EndView D) (sessions : List ℕ) : Type 0 where
  pub config_is : new.config ≡ old.config
  pub sessions_are : new.sessions ≡ sessions
  pub steps_are : new.steps ≡ one_more old.steps
  pub same_disk : IsSameDisk disk old.disk new.disk

module _ {D : Type 0} (disk : Ghosts D) (old new : EndView D) where
  stepped : (sessions : List ℕ) → IsQuiet disk old new sessions → new.notes ≡ old.notes → new.down ≡ None → disk.faults new.disk ≡ disk.faults old.disk → IsStepped disk old new sessions
  stepped sessions quiet notes_are up same_count = record {
    config_is = quiet.config_is;
    notes_are = notes_are;
    sessions_are = quiet.sessions_are;
    steps_are = quiet.steps_are;
    still_up = up;
    same_disk = quiet.same_disk;
    same_count = same_count;
  }

  stepped_on : {A : Type 0} (sessions : List ℕ) (outcome : Outcome A) (answer : A) → IsQuiet disk old new sessions → outcome.added ≡ [] → HasAnswered disk old new outcome answer → IsStepped disk old new sessions
  stepped_on sessions outcome answer quiet none h =
      stepped sessions quiet (h.notes_are ∙ ap (λ (added : List Note). old.notes ++ added) none ∙ append-nil old.notes) h.still_up h.same_count

  small_place : (number after : ℕ) (found : Option Placed) → first_from (to_send old.notes number) after 0 old.notes ≡ found → length old.notes < 2 ^ 64 → IfSome (option_map sent_of found) (λ first. first.0 + 1 < 2 ^ 64)
  small_place number after None is fits = tt
  small_place number after (Some first) is fits = (let within = (found_within (to_send old.notes number) after old.notes first is).1 in omega (arith, within, fits))

  asked_found : (number after : ℕ) (result : Result (Option (ℕ × List ℕ)) EndFault) → result ≡ Ok (option_map sent_of (first_from (to_send old.notes number) after 0 old.notes))
      → IsStepped disk old new old.sessions → length old.notes < 2 ^ 64 → IsAsked disk number after old new result
  asked_found number after result is step fits =
      let found = first_from (to_send old.notes number) after 0 old.notes in
      subst (λ (r : Result (Option (ℕ × List ℕ)) EndFault). IsAsked disk number after old new r) (sym is)
      (record { stepped = step; found = refl; small = small_place number after found refl fits; lacks = tt })

  asked_none : (number after : ℕ) (result : Result (Option (ℕ × List ℕ)) EndFault) → result ≡ Err NoMemory → IsStepped disk old new old.sessions → IsAsked disk number after old new result
  asked_none number after result is step =
      subst (λ (r : Result (Option (ℕ × List ℕ)) EndFault). IsAsked disk number after old new r) (sym is)
      (record { stepped = step; found = tt; small = tt; lacks = refl })

  asked_by : {A : Type 0} (number after : ℕ) (result : Result (Option (ℕ × List ℕ)) EndFault) (outcome : Outcome A) (step : A) (fate : Fate) → IsQuiet disk old new old.sessions → length old.notes < 2 ^ 64
      → outcome.added ≡ [] → (step ≡ outcome.answer → result ≡ Ok (option_map sent_of (first_from (to_send old.notes number) after 0 old.notes))) → (fate ≡ lacked_memory → result ≡ Err NoMemory)
      → Happens disk old new outcome step fate → IsAsked disk number after old new result
  asked_by number after result outcome step answered quiet fits none given lacks h =
      asked_found number after result (given h.answer_is) (stepped_on old.sessions outcome step quiet none h) fits
  asked_by number after result outcome step (is_down faults stopped) quiet fits none given lacks h = absurd (h.adds_note none)
  asked_by number after result outcome step lacked_memory quiet fits none given lacks h =
      asked_none number after result (lacks refl) (stepped old.sessions quiet h.notes_are h.still_up h.untouched.faults)

  pub author_asked : (line after : ℕ) (step : AuthorStep) → IsQuiet disk old new old.sessions → length old.notes < 2 ^ 64
      → Happens disk old new (author_gives (first_from (to_send old.notes line) after 0 old.notes)) step (author.fate_of step) → IsAsked disk line after old new (given_by_author step)
  author_asked line after step quiet fits h =
      let found = first_from (to_send old.notes line) after 0 old.notes in
      asked_by line after (given_by_author step) (author_gives found) step (author.fate_of step) quiet fits (author_quiet found) (author_given found step) (author_lacks step) h

  pub broker_asked : (link session after : ℕ) (step : BrokerStep) → session ≡ last_of old.sessions link → IsQuiet disk old new old.sessions → length old.notes < 2 ^ 64
      → Happens disk old new (in_session old.sessions link session (broker_gives (first_from (to_send old.notes link) after 0 old.notes))) step (broker.fate_of step) → IsAsked disk link after old new (given_by_broker step)
  broker_asked link session after step current quiet fits h =
      let found = first_from (to_send old.notes link) after 0 old.notes in
      let there = subst (λ (o : Outcome BrokerStep). Happens disk old new o step (broker.fate_of step)) (in_last old.sessions link session (broker_gives found) current) h in
      asked_by link after (given_by_broker step) (broker_gives found) step (broker.fate_of step) quiet fits (broker_quiet found) (broker_given found step) (λ lacks. (broker_lacks step lacks).0) there

  entered_by : (link : ℕ) (outcome : Outcome BrokerStep) (step : BrokerStep) (fate : Fate) (result : Result ℕ EndFault) → IsQuiet disk old new (join_link old.sessions link) → length new.sessions ≡ length old.sessions
      → outcome.added ≡ [] → (step ≡ outcome.answer → result ≡ Ok (next_session (last_of old.sessions link))) → (fate ≡ lacked_memory → result ≡ Err NoMemory)
      → Happens disk old new outcome step fate → IsEntered disk link old new result
  entered_by link outcome step answered result quiet same none given lacks h =
      subst (λ (r : Result ℕ EndFault). IsEntered disk link old new r) (sym (given h.answer_is))
      (record {
        stepped = stepped_on (join_link old.sessions link) outcome step quiet none h;
        session = refl;
        lacks = tt;
        config_is = quiet.config_is;
        same_length = same;
        same_disk = quiet.same_disk;
      })
  entered_by link outcome step (is_down faults stopped) result quiet same none given lacks h = absurd (h.adds_note none)
  entered_by link outcome step lacked_memory result quiet same none given lacks h =
      subst (λ (r : Result ℕ EndFault). IsEntered disk link old new r) (sym (lacks refl))
      (record { stepped = tt; session = tt; lacks = refl; config_is = quiet.config_is; same_length = same; same_disk = quiet.same_disk })

  pub entered : (names : List (List ℕ)) (name : List ℕ) (link : ℕ) (step : BrokerStep) → place_of_name names name 0 ≡ Some link
      → IsQuiet disk old new (broker_join names old.notes old.sessions name).sessions
      → Happens disk old new (says (broker_join names old.notes old.sessions name).answer) step (broker.fate_of step) → IsEntered disk link old new (session_by_broker step)
  entered names name link step place quiet h =
      let quiet_there = subst (λ (found : Option ℕ). IsQuiet disk old new (broker_joins old.notes old.sessions found).sessions) place quiet in
      let there = subst (λ (found : Option ℕ). Happens disk old new (says (broker_joins old.notes old.sessions found).answer) step (broker.fate_of step)) place h in
      let same : length new.sessions ≡ length old.sessions = ap length quiet_there.sessions_are ∙ length-slice_set old.sessions link (next_session (last_of old.sessions link)) in
      entered_by link (says (b.Joined link (next_session (last_of old.sessions link)))) step (broker.fate_of step) (session_by_broker step) quiet_there same refl
      (λ is. ap session_by_broker is) (λ lacks. (broker_lacks step lacks).1) there

-- ---- what the network is told

abbrev net_view : Config → List Note → List ℕ → net.EndView
net_view config notes sessions = record { config = config; notes = notes; sessions = sessions }

pub get_set : (xs : List ℕ) (n x : ℕ) → n < length xs → slice_get (slice_set xs n x) n ≡ Some x
get_set [] n x low = absurd (omega (arith, low))
get_set (y ∷ ys) zero x low = refl
get_set (y ∷ ys) (suc n) x low = get_set ys n x (omega (arith, low))

-- the last session after one was begun is that one
last_joined : (sessions : List ℕ) (link : ℕ) → link < length sessions → last_of (join_link sessions link) link ≡ next_session (last_of sessions link)
last_joined sessions link low = ap (λ (found : Option ℕ). unwrap_or found 0) (get_set sessions link (next_session (last_of sessions link)) low)

module _ {D : Type 0} (disk : Ghosts D) where
  shown_stepped : (old new : EndView D) (sessions : List ℕ) → old.down ≡ None → IsStepped disk old new sessions → show (Some new) ≡ record (show (Some old)) { sessions = sessions }
  shown_stepped old new sessions up step =
      ap (λ (d : Option DiskFail). show_up new d) step.still_up
      ∙ ap (λ (config : Config). net_view config new.notes new.sessions) step.config_is
      ∙ ap (λ (notes : List Note). net_view old.config notes new.sessions) step.notes_are
      ∙ ap (λ (sessions : List ℕ). net_view old.config old.notes sessions) step.sessions_are
      ∙ sym (ap (λ (d : Option DiskFail). record (show_up old d) { sessions = sessions }) up)

  -- what was asked for is found
  pub found : (number after : ℕ) (old new : EndView D) (result : Result (Option (ℕ × List ℕ)) EndFault) → old.down ≡ None → IsAsked disk number after old new result → HasFound disk number after (Some old) (Some new) result
  found number after old new (Ok given) up is =
      let P : net.EndView → Type 0 = λ v. given ≡ option_map sent_of (first_from (to_send v.notes number) after 0 v.notes) in
      let shown : show (Some old) ≡ show_up old None = ap (λ (d : Option DiskFail). show_up old d) up in
      record {
        found = subst P (sym shown) is.found;
        small = is.small;
        same = shown_stepped old new old.sessions up is.stepped ∙ ap (λ (v : net.EndView). record v { sessions = old.sessions }) shown ∙ sym shown;
        steps = (let more = is.stepped.steps_are in omega (arith, more));
        told = λ tells fill. (is.stepped.same_disk.tells_exact fill).1 (tells fill);
        faults = record { later = is.stepped.same_disk.faults; fault = tt };
      }
  found number after old new (Err why) up is = record {
    found = tt;
    small = tt;
    same = tt;
    steps = tt;
    told = tt;
    faults = record { later = is.stepped.same_disk.faults; fault = λ disk_too. absurd (let bad = is.lacks in cc) };
  }

  -- a session of a link was begun
  pub joined : (link : ℕ) (old new : EndView D) (result : Result ℕ EndFault) → old.down ≡ None → link < length old.sessions → IsEntered disk link old new result → HasJoined disk link (Some old) (Some new) result
  joined link old new (Ok session) up low is =
      let shown : show (Some old) ≡ show_up old None = ap (λ (d : Option DiskFail). show_up old d) up in
      let P : net.EndView → Type 0 = λ v. session ≡ last_of (joining v link).sessions link in
      let Q : net.EndView → Type 0 = λ v. show (Some new) ≡ joining v link in
      record {
        joined = subst Q (sym shown) (shown_stepped old new (join_link old.sessions link) up is.stepped ∙ ap (λ (v : net.EndView). record v { sessions = join_link old.sessions link }) shown);
        session = subst P (sym shown) (is.session ∙ sym (last_joined old.sessions link low));
        steps = λ broker. (let more = is.stepped.steps_are in omega (arith, more));
        told = λ tells fill. (is.same_disk.tells_exact fill).1 (tells fill);
        faults = record { later = is.same_disk.faults; fault = tt };
      }
  joined link old new (Err why) up low is = record {
    joined = tt;
    session = tt;
    steps = tt;
    told = tt;
    faults = record { later = is.same_disk.faults; fault = λ disk_too. absurd (let bad = is.lacks in cc) };
  }

  -- an author's line has no session
  pub no_session : (line : ℕ) (end : EndView D) → end.down ≡ None → end.config.kind ≡ Author → end.sessions ≡ [] → HasJoined disk line (Some end) (Some end) (Ok 0)
  no_session line end up kind none =
      let shown : show (Some end) ≡ show_up end None = ap (λ (d : Option DiskFail). show_up end d) up in
      let P : net.EndView → Type 0 = λ v. v ≡ joining v line in
      let Q : net.EndView → Type 0 = λ v. 0 ≡ last_of (joining v line).sessions line in
      let R : net.EndView → Type 0 = λ v. v.config.kind ≡ Broker → Rose end.steps end.steps in
      record {
        joined = subst P (sym shown) (subst (λ (s : List ℕ). net_view end.config end.notes s ≡ joining (net_view end.config end.notes s) line) (sym none) refl);
        session = subst Q (sym shown) (subst (λ (s : List ℕ). 0 ≡ last_of (join_link s line) line) (sym none) refl);
        steps = subst R (sym shown) (λ broker. absurd (let bad = sym kind ∙ broker in cc));
        told = λ tells. tells;
        faults = record { later = omega arith; fault = tt };
      }
