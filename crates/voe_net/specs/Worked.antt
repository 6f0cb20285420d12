-- What becomes of an end's work.
use Rattle.std.specs.Prelude.{◌≡◌, ℕ, true, List, Option, Some, None, is_some}
use Rattle.voe_disk.specs.Disk.{Rose}
use Rattle.voe_disk.specs.declared.disk.Disk.{Ghosts}
use Rattle.gate_journal.specs.Device.{IsSameDisk}
use Rattle.voe_values.specs.declared.kind.NodeKind.{NodeKind}
use Rattle.voe_values.specs.declared.kind.NodeKind.TheVariants as kinds
use Rattle.net_model.specs.Laws.{IsIn}
use Rattle.net_model.specs.Rules.{NodeRules}
use Rattle.net_model.specs.Steps.{Outcome}
use Rattle.net_model.specs.declared.note.Note.{Note}
use Rattle.net_model.specs.declared.state.Verdict.{Verdict}
use Rattle.node_book.specs.Ends.{EndView, IsSound}
use Rattle.node_book.specs.EndSteps.{Fate, Happens, answered, is_down, lacked_memory}
use Rattle.net_machine.specs.Ends.{note_packet}
use Rattle.net_machine.specs.Works.{IsAbout, brought, is_asking, is_step, work_added, work_answer}
use Rattle.net_machine.specs.declared.work.Work.{Work}
use Rattle.voe_net.specs.Nodes.{show_up}
use Rattle.voe_net.specs.Right.{IsRight}
use Rattle.voe_net.specs.declared.kept.Kept.{Kept}
use Rattle.voe_net.specs.declared.kept.Kept.TheVariants.{Author, Broker, Subscriber, Bare}
use Rattle.voe_net.specs.declared.working.Worked.{Worked}
use Rattle.voe_net.specs.declared.working.Worked.TheVariants.{Answered, Fallen, NoMemory}

-- of which kind the end is; a disk alone is of none
abbrev pub kind_of : {D : Type 0} → Kept D → Option NodeKind
kind_of (Author end) = Some kinds.Author
kind_of (Broker end) = Some kinds.Broker
kind_of (Subscriber end) = Some kinds.Subscriber
kind_of (Bare disk) = None

-- the answer, if there is one
abbrev pub answer_of : Worked → Option Verdict
answer_of (Answered answer) = answer
answer_of (Fallen stopped) = None
answer_of NoMemory = None

-- what that says of the end, its disk having this count of faults
abbrev pub fate_of : ℕ → Worked → Fate
fate_of faults (Answered answer) = answered
fate_of faults (Fallen stopped) = is_down faults stopped
fate_of faults NoMemory = lacked_memory

-- what the network says of the work of an end that is up
abbrev pub outcome_of : {D : Type 0} → NodeRules → EndView D → Work → Outcome (Option Verdict)
outcome_of rules end work =
    record { added = work_added rules (show_up end None) work; answer = work_answer rules (show_up end None) work }

-- the records have no other packet than the work's
abbrev pub AllBring : Work → List Note → Type 0
AllBring work added = (note : Note) → IsIn note added → note_packet note ≡ brought work

-- what becomes of work that adds these records
abbrev pub Adds : {D : Type 0} → Ghosts D → List Note → EndView D → EndView D → Worked → Type 0
Adds disk added old new result =
    Happens disk old new (record { added = added; answer = answer_of result }) (answer_of result) (fate_of (disk.faults new.disk) result)

-- What an end that was up has done about its work. By all rules that are right for it and the work's packet it is what
-- the network says, and whatever the rules are, no other packet than the work's was recorded.
pub record HasWorked {D : Type 0} (disk : Ghosts D) (work : Work) (old new : EndView D) (result : Worked) : Type 0 where
  pub config_is : new.config ≡ old.config
  pub sessions_are : new.sessions ≡ old.sessions
  pub same_disk : IsSameDisk disk old.disk new.disk
  pub sound : IsSound disk new
  pub happens : (rules : NodeRules) (packets : List (List ℕ)) → IsAbout work packets → IsRight old.config packets rules
      → Happens disk old new (outcome_of rules old work) (answer_of result) (fate_of (disk.faults new.disk) result)
  pub brings : (added : List Note) × AllBring work added × Adds disk added old new result
  pub answers : (answer : Option Verdict) → result ≡ Answered answer → is_some answer ≡ is_asking work
  pub steps : (answer : Option Verdict) → result ≡ Answered answer → is_step old.config.kind work ≡ true → Rose old.steps new.steps
