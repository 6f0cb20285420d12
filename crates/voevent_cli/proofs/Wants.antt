-- What is wanted, case by case.
use Rattle.std.proofs.Common.{◌+◌, ◌≡◌, ◌==◌, false, ℕ, ◌<◌, ◌≤◌, Bool, true, List, [], ◌++◌, length, refl, ap, sym, ◌∙◌, subst, Err, Ok, Result, Some, None, inl, inr, arith, append-nil, length-append}
use Rattle.std.specs.declared.option.Option.{Option}
use Rattle.std.specs.Prelude.{if◌then◌else◌}
use Rattle.std.proofs.lemmas.Bool.{lt-ltb}
use Rattle.voe_outside.specs.Whole.{Gave, Reads}
use Rattle.voe_scenario.specs.Refusals.{RefusesLine}
use Rattle.voe_scenario.specs.Scenarios.{IsFilled, IsScenarioOf, nothing_yet, with_said_line}
use Rattle.voe_scenario.specs.Words.{lines_of}
use Rattle.voe_scenario.specs.declared.scenario.Scenario.{Scenario}
use Rattle.voe_tree.specs.Document.{Spells}
use Rattle.voe_tree.specs.Fault.{RefusesTree}
use Rattle.voe_tree.specs.Validity.{least_broken_row}
use Rattle.voe_tree.specs.declared.element.Element.{Element}
use Rattle.voe_tree.specs.declared.fault.TreeFault.{TreeFault}
use Rattle.voe_validity.specs.Judging.{number_of_fault}
use Rattle.vtp_messages.specs.Parts.{is_transport, role_of, origin_of}
use Rattle.vtp_messages.specs.declared.role.MessageRole.{MessageRole}
use Rattle.voevent_cli.specs.Documents.{Document, tree, no_tree, too_long, WantedOf, checked, checked_by, place_of_fault, shown, shown_by, shown_message, wanted_of}
use Rattle.voevent_cli.specs.Outcomes.{refused}
use Rattle.voevent_cli.specs.Nets.{Runs}
use Rattle.voevent_cli.specs.declared.command.Command.{Command}
use Rattle.voevent_cli.specs.declared.command.Command.TheVariants.{Net, Check, Show, Match, Init}
use Rattle.voevent_cli.specs.declared.outcome.Status.{Status}
use Rattle.voevent_cli.specs.declared.outcome.Status.TheVariants.{Done, Usage, Refused, ReadFault, WriteFault, DiskFault, NoMemory, JournalRefused}
use Rattle.voevent_cli.specs.declared.outcome.Outcome.{Outcome}
use Rattle.voevent_cli.specs.declared.refusal.Refusal.TheVariants.{TooLong, Tree, Validity, BadRole, NoOrigin, Scenario as BadLine, Filter, Foreign, Damaged, Made, MadeAt}
use Rattle.filter_text.specs.Filter.{Path}
use Rattle.filter_text.specs.Reading.{Reads as Spells_filter}
use Rattle.voevent_cli.specs.Matches.{IsMatched, IsNoFilter, MatchedOf, refusal_of_filter}
use Rattle.voevent_cli.specs.Lines.{status_of_refusal}
use Rattle.voevent_cli.specs.Inits.{MakesOn}
use Rattle.node_notes.specs.declared.config.Config.{Config}
use Rattle.voe_scenario.specs.Configs.{IsConfigOf, configured, with_config_line}
use Rattle.voe_scenario.specs.ConfigRefusals.{RefusesConfigLine}
use Rattle.voe_scenario.specs.Lines.{LinesRead, TextRead, Refusal as BadText}
use Rattle.std.specs.Prelude.{MatchBool}
use Rattle.voevent_cli.specs.Wanted.{Acts, ActsAs, Wants, code_of, command_of, filter_of, limit_of}
use Rattle.voevent_cli.specs.Answers.{Moment, HasReadFor, ReadsOn, Answered, IsSafeRun, Says, DoesAll}
use Rattle.filter_text.specs.Refusal.{Refuses as Refuses_filter}
use Rattle.filter_text.specs.declared.fault.FilterFault.{FilterFault}
use Rattle.filter_text.specs.declared.fault.FilterFault.TheVariants.{NoMemory as NoRoom}
use Rattle.voevent_cli.specs.Prepared.{Acted, IsWantedAbove, MatchPrepares, Prepares}
use Rattle.voevent_cli.specs.declared.prepare.Hindrance.{Hindrance}
use Rattle.voevent_cli.specs.declared.prepare.Hindrance.TheVariants.{ReadFault as Unread, DiskFault as Failed, NoMemory as Starved}
use Rattle.voevent_cli.specs.Racks.{Disks, AreSame}
use Rattle.voevent_cli.specs.declared.refusal.Refusal.{Refusal as Reason}
use Rattle.voe_disk.specs.declared.disk.Disk.{Ghosts}
use Rattle.voe_outside.specs.declared.whole.TheConstants.{BUFFER}
use Rattle.voe_outside.specs.declared.whole.ReadFault.TheVariants.{TooLong as TooMuch}

-- ---- documents

-- of a document that spells a tree what the command says of its root is wanted
pub wanted-tree : (judged : Element → Outcome) (input : List ℕ) (root : Element) (outcome : Outcome) → length input ≤ 1048576 → Spells root input
    → outcome ≡ judged root → WantedOf judged input outcome
wanted-tree judged input root outcome short spells is = (tree root, (short, spells), is)

-- of what is no document the line of the rule and its place
pub wanted-no_tree : (judged : Element → Outcome) (input : List ℕ) (fault : TreeFault) (number : ℕ) (place : Option ℕ) (outcome : Outcome) → length input ≤ 1048576
    → RefusesTree input fault → Some number ≡ number_of_fault fault → place ≡ place_of_fault fault → outcome ≡ refused (Tree number place) → WantedOf judged input outcome
wanted-no_tree judged input fault number place outcome short refuses numbered placed is =
    (no_tree number place, (short, fault, refuses, sym numbered, sym placed), is)

-- the same of `match`
pub matched-no_tree : (f : Path) (input : List ℕ) (fault : TreeFault) (number : ℕ) (place : Option ℕ) (outcome : Outcome) → length input ≤ 1048576
    → RefusesTree input fault → Some number ≡ number_of_fault fault → place ≡ place_of_fault fault → outcome ≡ refused (Tree number place) → MatchedOf f input outcome
matched-no_tree f input fault number place outcome short refuses numbered placed is =
    (no_tree number place, (short, fault, refuses, sym numbered, sym placed), is)

pub matched-tree : (f : Path) (input : List ℕ) (root : Element) (outcome : Outcome) → length input ≤ 1048576 → Spells root input → IsMatched f (tree root) outcome → MatchedOf f input outcome
matched-tree f input root outcome short spells is = (tree root, (short, spells), is)

too_long-matched : (f : Path) (one two : List ℕ) (outcome : Outcome) → 1048576 < length one → 1048576 < length two → MatchedOf f one outcome → MatchedOf f two outcome
too_long-matched f one two outcome first second (tree root, is, same) = absurd (let short = is.0 in omega arith)
too_long-matched f one two outcome first second (no_tree number place, is, same) = absurd (let short = is.0 in omega arith)
too_long-matched f one two outcome first second (too_long, is, same) = (too_long, second, same)

pub wanted-too_long : (judged : Element → Outcome) (input : List ℕ) → 1048576 < length input → WantedOf judged input (refused TooLong)
wanted-too_long judged input above = (too_long, above, refl)

too_long-alike : (judged : Element → Outcome) (one two : List ℕ) (outcome : Outcome) → 1048576 < length one → 1048576 < length two
    → WantedOf judged one outcome → WantedOf judged two outcome
too_long-alike judged one two outcome first second (tree root, is, same) = absurd (let short = is.0 in omega arith)
too_long-alike judged one two outcome first second (no_tree number place, is, same) = absurd (let short = is.0 in omega arith)
too_long-alike judged one two outcome first second (too_long, is, same) = (too_long, second, same)

-- ---- texts of lines

abbrev above_limit : BadText
above_limit = record { number = 3; line = 0 }

-- a text above the limit is refused as a whole
read_above : {S : Type 0} (Refuses : S → List ℕ → Option ℕ → Type 0) (with_line : S → List ℕ → S) (before : S) (text : List ℕ) → 33554432 < length text
    → (read : Result S BadText) → TextRead Refuses with_line before text read → read ≡ Err above_limit
read_above Refuses with_line before text above read reads =
    let is_above = lt-ltb 33554432 (length text) above in
    subst (λ b. MatchBool b (read ≡ Err above_limit) (LinesRead Refuses with_line before 1 (lines_of text) read)) is_above reads

refused_above : {S : Type 0} (Refuses : S → List ℕ → Option ℕ → Type 0) (with_line : S → List ℕ → S) (before : S) (text : List ℕ) → 33554432 < length text
    → TextRead Refuses with_line before text (Err above_limit)
refused_above {S = S} Refuses with_line before text above =
    let is_above = lt-ltb 33554432 (length text) above in
    let whole : Result S BadText = Err above_limit in
    subst (λ b. MatchBool b (whole ≡ whole) (LinesRead Refuses with_line before 1 (lines_of text) whole)) (sym is_above) refl

-- ---- configurations

pub config_refused_above : (text : List ℕ) → 33554432 < length text → IsConfigOf text (Err above_limit)
config_refused_above text above = (Err above_limit, refused_above RefusesConfigLine with_config_line None text above, refl)

config_above : (one two : List ℕ) (outcome : Result Config BadText) → 33554432 < length one → 33554432 < length two → IsConfigOf one outcome → IsConfigOf two outcome
config_above one two outcome first second (read, reads, is) =
    let same = read_above RefusesConfigLine with_config_line None one first read reads in
    let refused_so : outcome ≡ Err above_limit = is ∙ ap configured same in
    subst (IsConfigOf two) (sym refused_so) (config_refused_above two second)

no_config_above : (text : List ℕ) (config : Config) → 33554432 < length text → IsConfigOf text (Ok config) → ⊥
no_config_above text config above (read, reads, is) =
    let same = read_above RefusesConfigLine with_config_line None text above read reads in
    let wrong : Ok config ≡ Err above_limit = is ∙ ap configured same in
    cc

-- the line of a text above the limit
pub wanted_above_init : (command : Command) → command ≡ Init → IsWantedAbove command (refused (BadLine 3 0))
wanted_above_init command is = subst (λ c. IsWantedAbove c (refused (BadLine 3 0))) (sym is) (above_limit, refl, config_refused_above)

-- ---- scenarios

pub scenario_refused_above : (text : List ℕ) → 33554432 < length text → IsScenarioOf text (Err above_limit)
scenario_refused_above text above = (Err above_limit, refused_above RefusesLine with_said_line nothing_yet text above, refl)

filled_line : (line : BadText) (outcome : Result Scenario BadText) → IsFilled (Err line) outcome → outcome ≡ Err line
filled_line line (Ok scenario) filled = absurd filled
filled_line line (Err other) filled = ap (λ (l : BadText). Err l) filled

scenario_read_above : (text : List ℕ) (outcome : Result Scenario BadText) → 33554432 < length text → IsScenarioOf text outcome → outcome ≡ Err above_limit
scenario_read_above text outcome above (said, reads, filled) =
    let same = read_above RefusesLine with_said_line nothing_yet text above said reads in
    filled_line above_limit outcome (subst (λ s. IsFilled s outcome) same filled)

scenario_above : (one two : List ℕ) (outcome : Result Scenario BadText) → 33554432 < length one → 33554432 < length two → IsScenarioOf one outcome → IsScenarioOf two outcome
scenario_above one two outcome first second is =
    subst (IsScenarioOf two) (sym (scenario_read_above one outcome first is)) (scenario_refused_above two second)

no_scenario_above : (text : List ℕ) (scenario : Scenario) → 33554432 < length text → IsScenarioOf text (Ok scenario) → ⊥
no_scenario_above text scenario above is = let wrong = scenario_read_above text (Ok scenario) above is in cc

-- the line of a text above the limit
pub wanted_above_net : (command : Command) → command ≡ Net → IsWantedAbove command (refused (BadLine 3 0))
wanted_above_net command is = subst (λ c. IsWantedAbove c (refused (BadLine 3 0))) (sym is) (above_limit, refl, scenario_refused_above)

-- nothing was done to the disks
same_disks : {T D : Type 0} (rack : Disks T D) → AreSame rack rack
same_disks rack = record { trials = λ k. refl; real = refl }

-- above its limit a command's inputs are all alike
acts_alike : {T D : Type 0} (trial : Ghosts T) (real : Ghosts D) (words : List (List ℕ)) (command : Command) (one two : List ℕ) (before now : Disks T D) (outcome : Outcome)
    → limit_of command < length one → limit_of command < length two → Acts trial real words command one before now outcome → Acts trial real words command two before now outcome
acts_alike trial real words Net one two before now outcome first second (inl (line, is, same, still)) =
    inl (line, scenario_above one two (Err line) first second is, same, still)
acts_alike trial real words Net one two before now outcome first second (inr (scenario, is, on)) =
    absurd (no_scenario_above one scenario first is)
acts_alike trial real words Check one two before now outcome first second acts = (too_long-alike checked one two outcome first second acts.0, acts.1)
acts_alike trial real words Show one two before now outcome first second acts = (too_long-alike shown one two outcome first second acts.0, acts.1)
acts_alike trial real words Match one two before now outcome first second (inl (refusal, is, same), still) = (inl (refusal, is, same), still)
acts_alike trial real words Match one two before now outcome first second (inr (f, reads, matched), still) = (inr (f, reads, too_long-matched f one two outcome first second matched), still)
acts_alike trial real words Init one two before now outcome first second (inl (line, is, same, still)) =
    inl (line, config_above one two (Err line) first second is, same, still)
acts_alike trial real words Init one two before now outcome first second (inr (config, is, on)) =
    absurd (no_config_above one config first is)

-- and nothing is done to the disks
acts_above : {T D : Type 0} (trial : Ghosts T) (real : Ghosts D) (words : List (List ℕ)) (command : Command) (input : List ℕ) (rack : Disks T D) (outcome : Outcome)
    → limit_of command < length input → IsWantedAbove command outcome → Acts trial real words command input rack rack outcome
acts_above trial real words Net input rack outcome above (line, is, wanted) = inl (line, wanted input above, is, same_disks rack)
acts_above trial real words Check input rack outcome above wanted = (wanted input above, same_disks rack)
acts_above trial real words Show input rack outcome above wanted = (wanted input above, same_disks rack)
acts_above trial real words Match input rack outcome above wanted = absurd wanted
acts_above trial real words Init input rack outcome above (line, is, wanted) = inl (line, wanted input above, is, same_disks rack)

-- ---- what was read

-- a command but `match` has read its input
has_read : (words : List (List ℕ)) (command : Command) (taken : List ℕ) (left : Option (List ℕ)) → (command ≡ Match → ⊥) → ReadsOn command taken left → HasReadFor words (Some command) taken left
has_read words Net taken left other read = read
has_read words Check taken left other read = read
has_read words Show taken left other read = read
has_read words Match taken left other read = absurd (other refl)
has_read words Init taken left other read = read

-- an input above a command's limit was taken
pub prepared_above : {T D : Type 0} (trial : Ghosts T) (real : Ghosts D) (words : List (List ℕ)) (command : Command) (limit : ℕ) (left left_now : Option (List ℕ)) (faults faults_now : ℕ)
    (rack : Disks T D) (refusal : Reason) (outcome : Outcome) → command_of words ≡ Some command → (command ≡ Match → ⊥) → limit ≡ limit_of command → outcome ≡ refused refusal
    → IsWantedAbove command (refused refusal) → Reads limit left left_now (Err TooMuch) → Prepares trial real words left left_now faults faults_now rack rack (Ok outcome)
prepared_above trial real words command limit left left_now faults faults_now rack refusal outcome is other limit_is outcome_is wanted reads =
    let above : limit_of command < length reads.0 = rw (← limit_is) reads.2 in
    let most : length reads.0 ≤ limit_of command + BUFFER = rw (← limit_is) reads.3 in
    rw is (reads.0, (reads.1, most), has_read words command reads.0 left_now other (inr above), rw outcome_is (acts_above trial real words command reads.0 rack (refused refusal) above wanted))

-- an outcome is wanted with one of four statuses
abbrev pub IsAnswer : Status → Type 0
IsAnswer Done = Unit {0}
IsAnswer Usage = Unit {0}
IsAnswer Refused = Unit {0}
IsAnswer JournalRefused = Unit {0}
IsAnswer ReadFault = ⊥
IsAnswer WriteFault = ⊥
IsAnswer DiskFault = ⊥
IsAnswer NoMemory = ⊥

checked_answers : (broken : Option ℕ) (root : Element) → IsAnswer (checked_by broken root).status
checked_answers None root = tt
checked_answers (Some number) root = tt

shown_answers : (broken : Option ℕ) (root : Element) → IsAnswer (shown_by broken root).status
shown_answers None root = tt
shown_answers (Some number) root = tt

message_answers : (role : Option MessageRole) (origin : Option (List ℕ)) (root : Element) → IsAnswer (shown_message role origin root).status
message_answers None origin root = tt
message_answers (Some role) None root = tt
message_answers (Some role) (Some origin) root = tt

either_answers : (is_message : Bool) (one two : Outcome) → IsAnswer one.status → IsAnswer two.status → IsAnswer (if is_message then one else two).status
either_answers true one two first second = first
either_answers false one two first second = second

root_answers : (root : Element) → IsAnswer (shown root).status
root_answers root =
    either_answers (is_transport root) (shown_message (role_of root) (origin_of root) root) (shown_by (least_broken_row root) root)
    (message_answers (role_of root) (origin_of root) root) (shown_answers (least_broken_row root) root)

document_answers : (judged : Element → Outcome) → ((root : Element) → IsAnswer (judged root).status) → (document : Document) → IsAnswer (wanted_of judged document).status
document_answers judged answers (tree root) = answers root
document_answers judged answers (no_tree number place) = tt
document_answers judged answers too_long = tt

of_answers : (judged : Element → Outcome) → ((root : Element) → IsAnswer (judged root).status) → (input : List ℕ) (outcome : Outcome) → WantedOf judged input outcome → IsAnswer outcome.status
of_answers judged answers input outcome (document, is, same) = subst (λ (o : Outcome). IsAnswer o.status) (sym same) (document_answers judged answers document)

refusal_answers : (refusal : Reason) → IsAnswer (status_of_refusal refusal)
refusal_answers TooLong = tt
refusal_answers (Tree number place) = tt
refusal_answers (Validity number) = tt
refusal_answers BadRole = tt
refusal_answers NoOrigin = tt
refusal_answers (BadLine number line) = tt
refusal_answers (Filter number place) = tt
refusal_answers (Foreign place) = tt
refusal_answers (Damaged place) = tt
refusal_answers Made = tt
refusal_answers (MadeAt node) = tt

makes_answers : {D : Type 0} (disk : Ghosts D) (config : Config) (outcome : Outcome) (old new : D) → MakesOn disk config outcome old new → IsAnswer outcome.status
makes_answers disk config outcome old new (inl (is, made)) = subst (λ (o : Outcome). IsAnswer o.status) (sym is) tt
makes_answers disk config outcome old new (inr (refusal, is, cause)) = subst (λ (o : Outcome). IsAnswer o.status) (sym is) (refusal_answers refusal)

runs_answers : {T : Type 0} (disk : Ghosts T) (scenario : Scenario) (outcome : Outcome) (old new : List T) → Runs disk scenario outcome old new → IsAnswer outcome.status
runs_answers disk scenario outcome old new (inl run) = subst IsAnswer (sym run.status) tt
runs_answers disk scenario outcome old new (inr stopped) = subst (λ (o : Outcome). IsAnswer o.status) (sym stopped.shown) tt

matched_answers : (f : Path) (document : Document) (outcome : Outcome) → IsMatched f document outcome → IsAnswer outcome.status
matched_answers f (tree root) outcome (inl (passes, is)) = subst (λ (o : Outcome). IsAnswer o.status) (sym is) tt
matched_answers f (tree root) outcome (inr (fails, is)) = subst (λ (o : Outcome). IsAnswer o.status) (sym is) tt
matched_answers f (no_tree number place) outcome is = subst (λ (o : Outcome). IsAnswer o.status) (sym is) tt
matched_answers f too_long outcome is = subst (λ (o : Outcome). IsAnswer o.status) (sym is) tt

acts_answers : {T D : Type 0} (trial : Ghosts T) (real : Ghosts D) (words : List (List ℕ)) (command : Command) (input : List ℕ) (before now : Disks T D) (outcome : Outcome) → Acts trial real words command input before now outcome → IsAnswer outcome.status
acts_answers trial real words Net input before now outcome (inl (line, is, same, still)) = subst (λ (o : Outcome). IsAnswer o.status) (sym same) tt
acts_answers trial real words Net input before now outcome (inr (scenario, is, on)) = runs_answers trial scenario outcome on.old on.new on.changes
acts_answers trial real words Check input before now outcome acts = of_answers checked (λ root. checked_answers (least_broken_row root) root) input outcome acts.0
acts_answers trial real words Show input before now outcome acts = of_answers shown root_answers input outcome acts.0
acts_answers trial real words Match input before now outcome (inl (refusal, is, same), still) = subst (λ (o : Outcome). IsAnswer o.status) (sym same) (refusal_answers refusal)
acts_answers trial real words Match input before now outcome (inr (f, reads, (document, is, matched)), still) = matched_answers f document outcome matched
acts_answers trial real words Init input before now outcome (inl (line, is, same, still)) = subst (λ (o : Outcome). IsAnswer o.status) (sym same) tt
acts_answers trial real words Init input before now outcome (inr (config, is, on)) = makes_answers real config outcome on.old on.new on.changes

as_answers : {T D : Type 0} (trial : Ghosts T) (real : Ghosts D) (words : List (List ℕ)) (command : Option Command) (input : List ℕ) (before now : Disks T D) (outcome : Outcome)
    → ActsAs trial real words command input before now outcome → IsAnswer outcome.status
as_answers trial real words None input before now outcome wants = subst (λ (o : Outcome). IsAnswer o.status) (sym wants.0) tt
as_answers trial real words (Some command) input before now outcome wants = acts_answers trial real words command input before now outcome wants

pub wants_answers : {T D : Type 0} (trial : Ghosts T) (real : Ghosts D) (words : List (List ℕ)) (input : List ℕ) (before now : Disks T D) (outcome : Outcome) → Wants trial real words input before now outcome → IsAnswer outcome.status
wants_answers trial real words input before now outcome wants = as_answers trial real words (command_of words) input before now outcome wants

-- such a status is no fault
pub answer_code : (status : Status) → IsAnswer status → ((code_of status == 4) ≡ false) × ((code_of status == 5) ≡ false)
answer_code Done answer = (refl, refl)
answer_code Usage answer = (refl, refl)
answer_code Refused answer = (refl, refl)
answer_code JournalRefused answer = (refl, refl)
answer_code ReadFault answer = absurd answer
answer_code WriteFault answer = absurd answer
answer_code DiskFault answer = absurd answer
answer_code NoMemory answer = absurd answer

-- the wanted outcome was written whole
pub written : {T D : Type 0} (trial : Ghosts T) (real : Ghosts D) (words : List (List ℕ)) (taken : List ℕ) (before now : Moment T D) (status : Status) → IsAnswer status
    → Answered trial real words taken before now status → IsSafeRun (command_of words) taken → Says trial real words taken before now status
written trial real words taken before now Done answer answered sound = (answered, sound)
written trial real words taken before now Usage answer answered sound = answered
written trial real words taken before now Refused answer answered sound = answered
written trial real words taken before now JournalRefused answer answered sound = answered
written trial real words taken before now ReadFault answer answered sound = absurd answer
written trial real words taken before now WriteFault answer answered sound = absurd answer
written trial real words taken before now DiskFault answer answered sound = absurd answer
written trial real words taken before now NoMemory answer answered sound = absurd answer

-- what was taken is the whole input, or both are above the limit
taken_on : {T D : Type 0} (trial : Ghosts T) (real : Ghosts D) (words : List (List ℕ)) (command : Command) (taken input : List ℕ) (left : Option (List ℕ)) (before now : Disks T D) (outcome : Outcome)
    → ReadsOn command taken left → Gave taken (Some input) left → Acts trial real words command taken before now outcome → Acts trial real words command input before now outcome
taken_on trial real words command taken input None before now outcome read gave wants = absurd (let wrong : Some input ≡ None = gave in cc)
taken_on trial real words command taken input (Some rest) before now outcome (inl ended) gave wants =
    let whole : Some input ≡ Some (taken ++ rest) = gave in
    let none : rest ≡ [] = ended in
    let same : input ≡ taken ++ rest = cc in
    let all : taken ≡ input = sym (same ∙ ap (λ r. taken ++ r) none ∙ append-nil taken) in
    subst (λ bytes. Acts trial real words command bytes before now outcome) all wants
taken_on trial real words command taken input (Some rest) before now outcome (inr above) gave wants =
    let whole : Some input ≡ Some (taken ++ rest) = gave in
    let same : input ≡ taken ++ rest = cc in
    let longer : limit_of command < length input = rw same (simp length-append (omega arith)) in
    acts_alike trial real words command taken input before now outcome above longer wants

acts_taken : {T D : Type 0} (trial : Ghosts T) (real : Ghosts D) (words : List (List ℕ)) (command : Option Command) (taken input : List ℕ) (left : Option (List ℕ)) (before now : Disks T D) (outcome : Outcome)
    → HasReadFor words command taken left → Gave taken (Some input) left → ActsAs trial real words command taken before now outcome → ActsAs trial real words command input before now outcome
acts_taken trial real words None taken input left before now outcome read gave wants = wants
acts_taken trial real words (Some Net) taken input left before now outcome read gave wants = taken_on trial real words Net taken input left before now outcome read gave wants
acts_taken trial real words (Some Check) taken input left before now outcome read gave wants = taken_on trial real words Check taken input left before now outcome read gave wants
acts_taken trial real words (Some Show) taken input left before now outcome read gave wants = taken_on trial real words Show taken input left before now outcome read gave wants
acts_taken trial real words (Some Match) taken input left before now outcome (inl (filter, read)) gave wants = taken_on trial real words Match taken input left before now outcome read gave wants
acts_taken trial real words (Some Match) taken input left before now outcome (inr (none, nothing)) gave (inl refused_so, still) = (inl refused_so, still)
acts_taken trial real words (Some Match) taken input left before now outcome (inr (none, nothing)) gave (inr (f, reads, matched), still) = absurd (none f reads)
acts_taken trial real words (Some Init) taken input left before now outcome read gave wants = taken_on trial real words Init taken input left before now outcome read gave wants

all_done : {T D : Type 0} (trial : Ghosts T) (real : Ghosts D) (words : List (List ℕ)) (taken input : List ℕ) (before now : Moment T D) (status : Status) → before.left ≡ Some input
    → Gave taken before.left now.left → Answered trial real words taken before now status → DoesAll trial real words input before now (code_of status)
all_done trial real words taken input before now status told gave answered = inl (record {
  outcome = answered.outcome;
  wanted = acts_taken trial real words (command_of words) taken input now.left before.rack now.rack answered.outcome answered.read (rw told at gave) answered.wanted;
  wanted_code = ap code_of (sym answered.wanted_status);
  output = answered.output;
})

-- of a source that tells its bytes, all that is wanted was done, or 4, 5, 6 or 7 is answered
pub does_all : {T D : Type 0} (trial : Ghosts T) (real : Ghosts D) (words : List (List ℕ)) (taken input : List ℕ) (before now : Moment T D) (status : Status) → before.left ≡ Some input
    → Gave taken before.left now.left → Says trial real words taken before now status → DoesAll trial real words input before now (code_of status)
does_all trial real words taken input before now Done told gave says = all_done trial real words taken input before now Done told gave says.0
does_all trial real words taken input before now Usage told gave says = all_done trial real words taken input before now Usage told gave says
does_all trial real words taken input before now Refused told gave says = all_done trial real words taken input before now Refused told gave says
does_all trial real words taken input before now JournalRefused told gave says = all_done trial real words taken input before now JournalRefused told gave says
does_all trial real words taken input before now ReadFault told gave says = inr (inl (refl, says.2))
does_all trial real words taken input before now WriteFault told gave says = inr (inr (inl (refl, says.1)))
does_all trial real words taken input before now DiskFault told gave says = inr (inr (inr (inl (refl, says.2))))
does_all trial real words taken input before now NoMemory told gave says = inr (inr (inr (inr refl)))

-- what a command but `match` did with its whole input is what was prepared
pub prepared_whole : {T D : Type 0} (trial : Ghosts T) (real : Ghosts D) (words : List (List ℕ)) (command : Command) (limit : ℕ) (left left_now : Option (List ℕ)) (faults faults_now : ℕ)
    (before now : Disks T D) (input : List ℕ) (result : Result Outcome Hindrance) → command_of words ≡ Some command → (command ≡ Match → ⊥) → limit ≡ limit_of command
    → Reads limit left left_now (Ok input) → Acted trial real words command input before now result → Prepares trial real words left left_now faults faults_now before now result
prepared_whole trial real words command limit left left_now faults faults_now before now input (Ok outcome) is other limit_is reads acted =
    let few : length input ≤ limit_of command + BUFFER = rw (← limit_is) (let short = reads.2 in omega arith) in
    rw is (input, (reads.0, few), has_read words command input left_now other (inl reads.1), acted)
prepared_whole trial real words command limit left left_now faults faults_now before now input (Err Unread) is other limit_is reads acted = absurd acted
prepared_whole trial real words command limit left left_now faults faults_now before now input (Err Failed) is other limit_is reads acted =
    let few : length input ≤ limit_of command + BUFFER = rw (← limit_is) (let short = reads.2 in omega arith) in
    rw is (input, (reads.0, few), has_read words command input left_now other (inl reads.1), acted)
prepared_whole trial real words command limit left left_now faults faults_now before now input (Err Starved) is other limit_is reads acted =
    let few : length input ≤ limit_of command + BUFFER = rw (← limit_is) (let short = reads.2 in omega arith) in
    rw is (input, (reads.0, few))

-- what was done of a filter and a document is what was prepared
pub prepared_match : {T D : Type 0} (trial : Ghosts T) (real : Ghosts D) (words : List (List ℕ)) (left left_now : Option (List ℕ)) (faults faults_now : ℕ) (rack : Disks T D)
    (result : Result Outcome Hindrance) → command_of words ≡ Some Match → MatchPrepares words left left_now faults faults_now result → Prepares trial real words left left_now faults faults_now rack rack result
prepared_match trial real words left left_now faults faults_now rack (Ok outcome) is (taken, took, read, matches) = (taken, took, read, rw is (matches, same_disks rack))
prepared_match trial real words left left_now faults faults_now rack (Err Unread) is (taken, took, within, rose) = (taken, took, within, rose, same_disks rack)
prepared_match trial real words left left_now faults faults_now rack (Err Failed) is wrong = absurd wrong
prepared_match trial real words left left_now faults faults_now rack (Err Starved) is prepared = prepared

-- nothing was taken
gave_none : (left : Option (List ℕ)) → Gave [] left left
gave_none None = refl
gave_none (Some bytes) = refl

-- a filter that is refused
pub matched_refused : (words : List (List ℕ)) (left : Option (List ℕ)) (faults faults_now : ℕ) (fault : FilterFault) (refusal : Reason) (outcome : Outcome) → command_of words ≡ Some Match
    → ((f : Path) (other : FilterFault) → Spells_filter f (filter_of words) → Refuses_filter (filter_of words) other → other ≡ NoRoom) → Refuses_filter (filter_of words) fault
    → Some refusal ≡ refusal_of_filter fault → outcome ≡ refused refusal → MatchPrepares words left left faults faults_now (Ok outcome)
matched_refused words left faults faults_now fault refusal outcome is law refuses shown outcome_is =
    let none : IsNoFilter (filter_of words) = λ f reads. some_is_not_none refusal (shown ∙ ap refusal_of_filter (law f fault reads refuses)) in
    ([], (gave_none left, rw is (omega arith)), rw is (inr (none, refl)), inl (refusal, record { fault = fault; refuses = refuses; shown = sym shown }, outcome_is))
  where
    some_is_not_none : (r : Reason) → Some r ≡ None → ⊥
    some_is_not_none r e = cc

-- a document that was read
pub matched_whole : (words : List (List ℕ)) (f : Path) (limit : ℕ) (left left_now : Option (List ℕ)) (faults faults_now : ℕ) (input : List ℕ) (outcome : Outcome) → command_of words ≡ Some Match
    → limit ≡ 1048576 → Spells_filter f (filter_of words) → Reads limit left left_now (Ok input) → MatchedOf f input outcome → MatchPrepares words left left_now faults faults_now (Ok outcome)
matched_whole words f limit left left_now faults faults_now input outcome is limit_is reads_filter reads matched =
    let few : length input ≤ 1048576 + BUFFER = let short = reads.2 in omega arith in
    (input, (reads.0, rw is few), rw is (inl ((f, reads_filter), inl reads.1)), inr (f, reads_filter, matched))

pub matched_above : (words : List (List ℕ)) (f : Path) (limit : ℕ) (left left_now : Option (List ℕ)) (faults faults_now : ℕ) (outcome : Outcome) → command_of words ≡ Some Match
    → limit ≡ 1048576 → Spells_filter f (filter_of words) → Reads limit left left_now (Err TooMuch) → outcome ≡ refused TooLong → MatchPrepares words left left_now faults faults_now (Ok outcome)
matched_above words f limit left left_now faults faults_now outcome is limit_is reads_filter reads outcome_is =
    let above : 1048576 < length reads.0 = let over = reads.2 in omega arith in
    let most : length reads.0 ≤ 1048576 + BUFFER = let under = reads.3 in omega arith in
    (reads.0, (reads.1, rw is most), rw is (inl ((f, reads_filter), inr above)), inr (f, reads_filter, (too_long, above, outcome_is)))
