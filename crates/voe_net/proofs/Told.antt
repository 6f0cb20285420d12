-- What becomes of a step of an end, told as what becomes of its work.
use Rattle.std.proofs.Common.{◌≡◌, ◌⊎◌, inl, inr, ℕ, Bool, false, List, [], Option, None, refl, sym, ap, subst, ◌∙◌, arith}
use Rattle.std.specs.Prelude.{is_some}
use Rattle.voe_disk.specs.declared.disk.Disk.{Ghosts}
use Rattle.gate_journal.specs.Device.{IsSameDisk}
use Rattle.net_model.specs.Rules.{NodeRules}
use Rattle.net_model.specs.Steps.{Outcome}
use Rattle.net_model.specs.declared.step.Judged.TheVariants.{BadTree}
use Rattle.node_notes.specs.declared.config.Config.{Config}
use Rattle.node_book.specs.Keeps.{has_room}
use Rattle.net_model.specs.declared.note.Note.{Note}
use Rattle.net_model.specs.declared.state.Verdict.{Verdict}
use Rattle.node_book.specs.Ends.{EndView, IsSound, one_more}
use Rattle.node_book.specs.EndSteps.{Fate, HasFallen, Happens, IsUnchanged, answered, is_down, lacked_memory}
use Rattle.net_machine.specs.Works.{IsAbout, is_asking, work_added, work_answer}
use Rattle.net_machine.specs.declared.work.Work.{Work}
use Rattle.net_machine.specs.declared.work.Work.TheVariants.{Write, Take, Hear}
use Rattle.voe_net.specs.Nodes.{show_up}
use Rattle.voe_net.specs.Right.{IsRight}
use Rattle.voe_net.specs.Worked.{Adds, AllBring, HasWorked, answer_of, fate_of, outcome_of}
use Rattle.voe_net.specs.declared.working.Worked.{Worked}
use Rattle.voe_net.specs.declared.working.Worked.TheVariants.{Answered, Fallen, NoMemory}

-- both say the same of the end
abbrev pub IsSameFate : Fate → Worked → Type 0
IsSameFate answered (Answered answer) = Unit {0}
IsSameFate (is_down faults stopped) (Fallen too) = stopped ≡ too
IsSameFate lacked_memory NoMemory = Unit {0}
IsSameFate _ _ = ⊥

-- a step of an end that is up
pub record IsStep {D A : Type 0} (disk : Ghosts D) (old new : EndView D) (IsRightFor : NodeRules → Type 0) (outcome : NodeRules → Outcome A) (step : A) (fate : Fate) : Type 0 where
  pub config_is : new.config ≡ old.config
  pub sessions_are : new.sessions ≡ old.sessions
  pub steps_are : new.steps ≡ one_more old.steps
  pub same_disk : IsSameDisk disk old.disk new.disk
  pub sound : IsSound disk new
  pub happens : (rules : NodeRules) → IsRightFor rules → Happens disk old new (outcome rules) step fate
  pub rules : (fate ≡ lacked_memory) ⊎ ((rules : NodeRules) × IsRightFor rules)
  pub no_memory : fate ≡ lacked_memory → IsUnchanged disk old new

-- the work tells this step
pub record IsToldOf {D A : Type 0} (work : Work) (old : EndView D) (IsRightFor : NodeRules → Type 0) (outcome : NodeRules → Outcome A) (step : A) (fate : Fate) (told : Worked) : Type 0 where
  pub same_fate : IsSameFate fate told
  pub right : (rules : NodeRules) (packets : List (List ℕ)) → IsAbout work packets → IsRight old.config packets rules → IsRightFor rules
  pub added : (rules : NodeRules) → work_added rules (show_up old None) work ≡ (outcome rules).added
  pub answer : (rules : NodeRules) → step ≡ (outcome rules).answer → answer_of told ≡ work_answer rules (show_up old None) work
  pub bring : (rules : NodeRules) → AllBring work (outcome rules).added

asks : {D : Type 0} (rules : NodeRules) (old : EndView D) (work : Work) → is_some (work_answer rules (show_up old None) work) ≡ is_asking work
asks rules old (Write packet) = refl
asks rules old (Take from_line packet) = refl
asks rules old (Hear number session answer) = refl

module _ {D : Type 0} (disk : Ghosts D) (old new : EndView D) where
  retold : {A : Type 0} (outcome : Outcome A) (step : A) (fate : Fate) (told : Worked) (answer : Option Verdict)
      → IsSameFate fate told → (step ≡ outcome.answer → answer_of told ≡ answer) → Happens disk old new outcome step fate
      → Happens disk old new (record { added = outcome.added; answer = answer }) (answer_of told) (fate_of (disk.faults new.disk) told)
  retold outcome step answered (Answered said) answer same tells h = record { answer_is = tells h.answer_is; notes_are = h.notes_are; still_up = h.still_up; moments = h.moments; no_call = h.no_call; enough = h.enough; same_count = h.same_count }
  retold outcome step (is_down faults stopped) (Fallen too) answer same tells h =
      let P : Bool → Type 0 = λ b. HasFallen disk old new (record { added = outcome.added; answer = answer }) (disk.faults new.disk) b in
      subst P same (record { adds_note = h.adds_note; notes_are = h.notes_are; fell = h.fell; count_is = refl; cause = h.cause; moments = h.moments; exact = h.exact })
  retold outcome step lacked_memory NoMemory answer same tells h = h
  retold outcome step answered (Fallen too) answer same tells h = absurd same
  retold outcome step answered NoMemory answer same tells h = absurd same
  retold outcome step (is_down faults stopped) (Answered said) answer same tells h = absurd same
  retold outcome step (is_down faults stopped) NoMemory answer same tells h = absurd same
  retold outcome step lacked_memory (Answered said) answer same tells h = absurd same
  retold outcome step lacked_memory (Fallen too) answer same tells h = absurd same

  -- where memory was wanting nothing was recorded
  lacking : (work : Work) (fate : Fate) (told : Worked) → IsSameFate fate told → fate ≡ lacked_memory → IsUnchanged disk old new → (added : List Note) × AllBring work added × Adds disk added old new told
  lacking work lacked_memory NoMemory same is unchanged = ([], λ note none. absurd none, unchanged)
  lacking work lacked_memory (Answered said) same is unchanged = absurd same
  lacking work lacked_memory (Fallen too) same is unchanged = absurd same
  lacking work answered told same is unchanged = absurd (cc)
  lacking work (is_down faults stopped) told same is unchanged = absurd (cc)

  -- a step that was answered was not wanting memory
  answered_not : (fate : Fate) (told : Worked) (answer : Option Verdict) → IsSameFate fate told → told ≡ Answered answer → fate ≡ lacked_memory → ⊥
  answered_not lacked_memory (Answered said) answer same is lacks = same
  answered_not lacked_memory (Fallen too) answer same is lacks = same
  answered_not lacked_memory NoMemory answer same is lacks = cc
  answered_not answered told answer same is lacks = cc
  answered_not (is_down faults stopped) told answer same is lacks = cc

  -- the answer is the network's
  answer_is : (added : List Note) (expected : Option Verdict) (told : Worked) (answer : Option Verdict) → told ≡ Answered answer
      → Happens disk old new (record { added = added; answer = expected }) (answer_of told) (fate_of (disk.faults new.disk) told) → answer ≡ expected
  answer_is added expected (Answered said) answer is h = (let same : said ≡ expected = h.answer_is in cc)
  answer_is added expected (Fallen too) answer is h = absurd (cc)
  answer_is added expected NoMemory answer is h = absurd (cc)

  -- the end has worked as it has stepped
  pub has_worked : {A : Type 0} (work : Work) (IsRightFor : NodeRules → Type 0) (outcome : NodeRules → Outcome A) (step : A) (fate : Fate) (told : Worked)
      → IsStep disk old new IsRightFor outcome step fate → IsToldOf work old IsRightFor outcome step fate told → HasWorked disk work old new told
  has_worked work IsRightFor outcome step fate told stepped tells = record {
    config_is = stepped.config_is;
    sessions_are = stepped.sessions_are;
    same_disk = stepped.same_disk;
    sound = stepped.sound;
    happens = λ rules packets about right. as_expected rules (tells.right rules packets about right);
    brings = elim stepped.rules [
      | inl lacks ↦ lacking work fate told tells.same_fate lacks (stepped.no_memory lacks)
      | inr some ↦ ((outcome some.0).added, tells.bring some.0, retold (outcome some.0) step fate told (answer_of told) tells.same_fate (λ same. refl) (stepped.happens some.0 some.1))
    ];
    answers = λ answer is. elim stepped.rules [
      | inl lacks ↦ absurd (answered_not fate told answer tells.same_fate is lacks)
      | inr some ↦
          ap (λ (a : Option Verdict). is_some a) (answer_is (work_added some.0 (show_up old None) work) (work_answer some.0 (show_up old None) work) told answer is (as_expected some.0 some.1))
          ∙ asks some.0 old work
    ];
    steps = λ answer is step_is. (let more = stepped.steps_are in omega (arith, more));
  }
    where
      as_expected : (rules : NodeRules) → IsRightFor rules → Happens disk old new (outcome_of rules old work) (answer_of told) (fate_of (disk.faults new.disk) told)
      as_expected rules right =
          let P : List Note → Type 0 = λ added. Happens disk old new (record { added = added; answer = work_answer rules (show_up old None) work }) (answer_of told) (fate_of (disk.faults new.disk) told) in
          subst P (sym (tells.added rules)) (retold (outcome rules) step fate told (work_answer rules (show_up old None) work) tells.same_fate (tells.answer rules) (stepped.happens rules right))

-- rules whose journal is the book
abbrev pub any_rules : Config → NodeRules
any_rules config = record { judge = λ bytes. BadTree 0; digest_of = λ bytes. bytes; passes = λ link bytes. false; has_room = has_room config }
