-- Of an input one outcome is wanted.
use Rattle.std.proofs.Common.{◌≡◌, ◌⊎◌, inl, inr, ℕ, ◌<◌, Bool, true, false, Decides, List, [], length, Result, Ok, Err, Some, None, refl, sym, ◌∙◌, ap, subst, arith}
use Rattle.std.specs.declared.option.Option.{Option}
use Rattle.std.specs.Prelude.{cond, IfSome}
use Rattle.std.specs.Str.{bytes_eq}
use Rattle.std.proofs.lemmas.Bool.{false≢true}
use Rattle.std.proofs.lemmas.Slice.Eq.{bytes_eq-Decides}
use Rattle.xml_lexer.specs.Characters.{Text}
use Rattle.xml_lexer.specs.Token.{Token}
use Rattle.xml_lexer.specs.Phases.{without_mark, IsTokensOf, RefusesText, RefusesToken, RefusesMany}
use Rattle.xml_lexer.proofs.Cuts.{same_tokens}
use Rattle.xml_lexer.proofs.Exclusion.{text_first, text_place, token_first, token_place, many_first}
use Rattle.voe_tree.specs.Rules.{Rule, unbalanced, too_deep, repeated_attribute, unbound_prefix, root_missing, after_root, refusal_of}
use Rattle.voe_tree.specs.Document.{IsRootOf, Spells}
use Rattle.voe_tree.specs.Fault.{BreaksAt, RefusesTree}
use Rattle.voe_tree.specs.declared.element.Element.{Element}
use Rattle.voe_tree.specs.declared.fault.TreeFault.{TreeFault}
use Rattle.voe_tree.specs.declared.fault.TreeFault.TheVariants.{NotText, BadToken, Doctype, TooManyTokens, Unbalanced, TooDeep, RepeatedAttribute, UnboundPrefix, RootMissing, AfterRoot, NoMemory}
use Rattle.voe_tree.proofs.RootLaws.{same_root}
use Rattle.voe_validity.specs.Judging.{number_of_fault}
use Rattle.voevent_cli.specs.Documents.{Document, tree, no_tree, too_long, IsDocument, WantedOf, checked, place_of_fault, shown, wanted_of}
use Rattle.gate_journal.specs.Fault.{ComesFromDisk, IsMissing}
use Rattle.gate_journal.specs.Format.{Stands}
use Rattle.gate_journal.specs.Reading.{IsRefusal}
use Rattle.gate_journal.specs.declared.fault.JournalFault.{JournalFault}
use Rattle.gate_journal.specs.declared.fault.JournalFault.TheVariants as journal
use Rattle.node_book.specs.Making.{IsFree, IsMakeRefusal}
use Rattle.node_book.specs.declared.fault.BookFault.{BookFault}
use Rattle.node_book.specs.declared.fault.BookFault.TheVariants as book
use Rattle.node_notes.specs.declared.config.Config.{Config}
use Rattle.voe_disk.specs.declared.disk.Disk.{Ghosts}
use Rattle.voe_scenario.specs.Configs.{IsConfigOf}
use Rattle.voe_scenario.specs.Lines.{Refusal as BadLine}
use Rattle.voe_scenario.specs.Scenarios.{AreAlike, IsAlike, IsScenarioOf}
use Rattle.voe_scenario.specs.Shapes.{config_of, shape}
use Rattle.voe_scenario.specs.declared.scenario.Scenario.{Scenario}
use Rattle.net_model.specs.Rules.{Rules, rules_at}
use Rattle.net_model.specs.Runs.{after}
use Rattle.net_model.specs.declared.scenario.Event.{Event}
use Rattle.net_model.specs.declared.scenario.Graph.{Graph}
use Rattle.net_machine.specs.Report.{report_of}
use Rattle.voe_net.specs.Right.{IsRight}
use Rattle.voe_net.specs.Starting.{AllBlank, AllTellImages, IsFirstMade}
use Rattle.voevent_cli.specs.declared.outcome.Status.{Status}
use Rattle.voevent_cli.specs.Inits.{Inits, MakesOn, refusal_of_making}
use Rattle.voevent_cli.specs.Nets.{AreRightFor, Nets, Runs, node_count}
use Rattle.voevent_cli.proofs.Places.{get_within, same_lists}
use Rattle.voevent_cli.specs.Racks.{AreFirst, Disks, TellsReal, TellsTrials}
use Rattle.voevent_cli.specs.declared.refusal.Refusal.{Refusal}
use Rattle.filter_text.specs.Filter.{Path}
use Rattle.filter_text.specs.Reading.{Reads}
use Rattle.filter_text.specs.Refusal.{Refuses}
use Rattle.filter_text.specs.declared.fault.FilterFault.{FilterFault}
use Rattle.filter_text.specs.declared.fault.FilterFault.TheVariants.{NoMemory as NoRoom}
use Rattle.path_filter.specs.Meaning.{Passes}
use Rattle.voevent_cli.specs.Matches.{IsMatched, IsRefusedFilter, Matches, refusal_of_filter}
use Rattle.voevent_cli.specs.Wanted.{Acts, ActsAs, Wants, command_of, filter_of}
use Rattle.voevent_cli.specs.declared.command.Command.{Command}
use Rattle.voevent_cli.specs.declared.command.Command.TheVariants.{Net, Check, Show, Match, Init}
use Rattle.voevent_cli.specs.declared.outcome.Outcome.{Outcome}
use Rattle.voevent_cli.specs.declared.refusal.Refusal.TheVariants.{Tree, MadeAt, Scenario as Scenario_line}
use Rattle.voevent_cli.specs.Outcomes.{done, refused}

abbrev number_of_rule : Rule → ℕ
number_of_rule unbalanced = 5
number_of_rule too_deep = 6
number_of_rule repeated_attribute = 7
number_of_rule unbound_prefix = 8
number_of_rule root_missing = 9
number_of_rule after_root = 10

abbrev place_of_rule : Rule → ℕ → Option ℕ
place_of_rule unbalanced place = Some place
place_of_rule too_deep place = Some place
place_of_rule repeated_attribute place = Some place
place_of_rule unbound_prefix place = Some place
place_of_rule root_missing place = None
place_of_rule after_root place = Some place

-- what a refusal shows
abbrev Shown : Type 0
Shown = ℕ × Option ℕ

abbrev shows : ℕ → Option ℕ → Shown
shows n p = (n, p)

-- in which turn bytes are refused, and what is shown of it
abbrev Told : Text → Shown → Type 0
Told bytes s =
    ((place : ℕ) × RefusesText bytes place × (shows 1 (Some place) ≡ s))
    ⊎ (((doctype : Bool) × (place : ℕ) × RefusesToken bytes doctype place × (shows (cond doctype 4 2) (Some place) ≡ s))
    ⊎ ((RefusesMany bytes × (shows 3 None ≡ s))
    ⊎ ((rule : Rule) × (place : ℕ) × BreaksAt bytes rule place × (shows (number_of_rule rule) (place_of_rule rule place) ≡ s))))

both : (n m : ℕ) (p q : Option ℕ) → Some n ≡ Some m → p ≡ q → shows n p ≡ shows m q
both n m p q e f = let numbers : n ≡ m = cc in ap (λ k. shows k p) numbers ∙ ap (shows m) f

told : (bytes : Text) (fault : TreeFault) (n : ℕ) (p : Option ℕ) → RefusesTree bytes fault → number_of_fault fault ≡ Some n → place_of_fault fault ≡ p → Told bytes (shows n p)
told bytes (NotText place) n p r e f = inl (place, r, both 1 n (Some place) p e f)
told bytes (BadToken place) n p r e f = inr (inl (false, place, r, both 2 n (Some place) p e f))
told bytes (Doctype place) n p r e f = inr (inl (true, place, r, both 4 n (Some place) p e f))
told bytes TooManyTokens n p r e f = inr (inr (inl (r, both 3 n None p e f)))
told bytes (Unbalanced place) n p r e f = inr (inr (inr (unbalanced, place, r, both 5 n (Some place) p e f)))
told bytes (TooDeep place) n p r e f = inr (inr (inr (too_deep, place, r, both 6 n (Some place) p e f)))
told bytes (RepeatedAttribute place) n p r e f = inr (inr (inr (repeated_attribute, place, r, both 7 n (Some place) p e f)))
told bytes (UnboundPrefix place) n p r e f = inr (inr (inr (unbound_prefix, place, r, both 8 n (Some place) p e f)))
told bytes RootMissing n p r e f = inr (inr (inr (root_missing, r.0, r.1, both 9 n None p e f)))
told bytes (AfterRoot place) n p r e f = inr (inr (inr (after_root, place, r, both 10 n (Some place) p e f)))
told bytes NoMemory n p r e f = absurd (cc)

-- ---- one turn leaves out the others

text_not_token : (bytes : Text) (d : Bool) (p q : ℕ) → RefusesText bytes p → RefusesToken bytes d q → ⊥
text_not_token bytes d p q one other = text_first bytes p one other.0

text_not_many : (bytes : Text) (p : ℕ) → RefusesText bytes p → RefusesMany bytes → ⊥
text_not_many bytes p one other = text_first bytes p one other.0

text_not_broken : (bytes : Text) (rule : Rule) (p q : ℕ) → RefusesText bytes p → BreaksAt bytes rule q → ⊥
text_not_broken bytes rule p q one other = text_first bytes p one other.1.0

token_not_many : (bytes : Text) (d : Bool) (p : ℕ) → RefusesToken bytes d p → RefusesMany bytes → ⊥
token_not_many bytes d p one other = token_first bytes d p other.1 one other.2

token_not_broken : (bytes : Text) (d : Bool) (rule : Rule) (p q : ℕ) → RefusesToken bytes d p → BreaksAt bytes rule q → ⊥
token_not_broken bytes d rule p q one other = token_first bytes d p other.0 one other.1.1

many_not_broken : (bytes : Text) (rule : Rule) (q : ℕ) → RefusesMany bytes → BreaksAt bytes rule q → ⊥
many_not_broken bytes rule q one other = many_first bytes other.0 one other.1

abbrev shown_in : Option (Rule × ℕ) → Shown
shown_in None = shows 0 None
shown_in (Some broken) = shows (number_of_rule broken.0) (place_of_rule broken.0 broken.1)

broken_once : (bytes : Text) (rule other : Rule) (p q : ℕ) → BreaksAt bytes rule p → BreaksAt bytes other q →
    shows (number_of_rule rule) (place_of_rule rule p) ≡ shows (number_of_rule other) (place_of_rule other q)
broken_once bytes rule other p q (ks, t, e) (ls, u, f) =
    let same_list : ks ≡ ls = same_tokens (without_mark bytes) ks ls t.1.1 u.1.1 in
    ap shown_in (sym e ∙ ap refusal_of same_list ∙ f)

token_once : (bytes : Text) (d k : Bool) (p q : ℕ) → RefusesToken bytes d p → RefusesToken bytes k q → shows (cond d 4 2) (Some p) ≡ shows (cond k 4 2) (Some q)
token_once bytes d k p q one other =
    let same = token_place bytes d k p q one other in
    ap (λ b. shows (cond b 4 2) (Some p)) same.0 ∙ ap (λ n. shows (cond k 4 2) (Some n)) same.1

same_told : (bytes : Text) (s t : Shown) → Told bytes s → Told bytes t → s ≡ t
same_told bytes s t (inl (p, r, e)) (inl (q, u, f)) = sym e ∙ ap (λ n. shows 1 (Some n)) (text_place bytes p q r u) ∙ f
same_told bytes s t (inl (p, r, e)) (inr (inl (d, q, u, f))) = absurd (text_not_token bytes d p q r u)
same_told bytes s t (inl (p, r, e)) (inr (inr (inl (u, f)))) = absurd (text_not_many bytes p r u)
same_told bytes s t (inl (p, r, e)) (inr (inr (inr (rule, q, u, f)))) = absurd (text_not_broken bytes rule p q r u)
same_told bytes s t (inr (inl (d, q, u, f))) (inl (p, r, e)) = absurd (text_not_token bytes d p q r u)
same_told bytes s t (inr (inl (d, q, u, f))) (inr (inl (k, p, r, e))) = sym f ∙ token_once bytes d k q p u r ∙ e
same_told bytes s t (inr (inl (d, q, u, f))) (inr (inr (inl (r, e)))) = absurd (token_not_many bytes d q u r)
same_told bytes s t (inr (inl (d, q, u, f))) (inr (inr (inr (rule, p, r, e)))) = absurd (token_not_broken bytes d rule q p u r)
same_told bytes s t (inr (inr (inl (u, f)))) (inl (p, r, e)) = absurd (text_not_many bytes p r u)
same_told bytes s t (inr (inr (inl (u, f)))) (inr (inl (d, q, r, e))) = absurd (token_not_many bytes d q r u)
same_told bytes s t (inr (inr (inl (u, f)))) (inr (inr (inl (r, e)))) = sym f ∙ e
same_told bytes s t (inr (inr (inl (u, f)))) (inr (inr (inr (rule, p, r, e)))) = absurd (many_not_broken bytes rule p u r)
same_told bytes s t (inr (inr (inr (rule, p, u, f)))) (inl (q, r, e)) = absurd (text_not_broken bytes rule q p r u)
same_told bytes s t (inr (inr (inr (rule, p, u, f)))) (inr (inl (d, q, r, e))) = absurd (token_not_broken bytes d rule q p r u)
same_told bytes s t (inr (inr (inr (rule, p, u, f)))) (inr (inr (inl (r, e)))) = absurd (many_not_broken bytes rule p r u)
same_told bytes s t (inr (inr (inr (rule, p, u, f)))) (inr (inr (inr (other, q, r, e)))) = sym f ∙ broken_once bytes rule other p q u r ∙ e

one_tree : (bytes : Text) (a b : Element) → Spells a bytes → Spells b bytes → a ≡ b
one_tree bytes a b (ks, h, r) (others, k, s) =
    let same_list : ks ≡ others = same_tokens (without_mark bytes) ks others h.1.1 k.1.1 in
    same_root others a b (subst (λ (l : List Token). IsRootOf a l) same_list r) s

none_is_not_some : {X : Type 0} {x : X} → None ≡ Some x → ⊥
none_is_not_some e = cc

unbroken_not_broken : (bytes : Text) (ks : List Token) (root : Element) (rule : Rule) (place : ℕ) → IsTokensOf ks bytes → IsRootOf root ks → BreaksAt bytes rule place → ⊥
unbroken_not_broken bytes ks root rule place t r (others, k, e) =
    let same_list : ks ≡ others = same_tokens (without_mark bytes) ks others t.1.1 k.1.1 in
    none_is_not_some (sym r.unbroken ∙ ap refusal_of same_list ∙ e)

spelled_not_told : (bytes : Text) (root : Element) (s : Shown) → Spells root bytes → Told bytes s → ⊥
spelled_not_told bytes root s (ks, t, r) (inl (p, f, e)) = text_first bytes p f t.0
spelled_not_told bytes root s (ks, t, r) (inr (inl (d, p, f, e))) = token_first bytes d p ks f t.1
spelled_not_told bytes root s (ks, t, r) (inr (inr (inl (f, e)))) = many_first bytes ks f t
spelled_not_told bytes root s (ks, t, r) (inr (inr (inr (rule, p, f, e)))) = unbroken_not_broken bytes ks root rule p t r f

-- ---- documents

told_of : (input : Text) (n : ℕ) (p : Option ℕ) → IsDocument input (no_tree n p) → Told input (shows n p)
told_of input n p (short, fault, r, e, f) = told input fault n p r e f

refused_as : (s t : Shown) → s ≡ t → refused (Tree s.0 s.1) ≡ refused (Tree t.0 t.1)
refused_as s t e = ap (λ (x : Shown). refused (Tree x.0 x.1)) e

same_document : (judged : Element → Outcome) (input : Text) (a b : Document) → IsDocument input a → IsDocument input b → wanted_of judged a ≡ wanted_of judged b
same_document judged input (tree a) (tree b) (s, one) (t, other) = ap judged (one_tree input a b one other)
same_document judged input (tree a) (no_tree n p) (s, one) other = absurd (spelled_not_told input a (shows n p) one (told_of input n p other))
same_document judged input (tree a) too_long (s, one) above = absurd (omega arith)
same_document judged input (no_tree n p) (tree b) one (t, other) = absurd (spelled_not_told input b (shows n p) other (told_of input n p one))
same_document judged input (no_tree n p) (no_tree m q) one other = refused_as (shows n p) (shows m q) (same_told input (shows n p) (shows m q) (told_of input n p one) (told_of input m q other))
same_document judged input (no_tree n p) too_long one above = absurd (let short = one.0 in omega arith)
same_document judged input too_long (tree b) above (t, other) = absurd (omega arith)
same_document judged input too_long (no_tree n p) above other = absurd (let short = other.0 in omega arith)
same_document judged input too_long too_long one other = refl

same_of : (judged : Element → Outcome) (input : Text) (a b : Outcome) → WantedOf judged input a → WantedOf judged input b → a ≡ b
same_of judged input a b (one, is, e) (other, also, f) = e ∙ same_document judged input one other is also ∙ sym f

-- ---- disks

-- a file stands for one list of payloads or is refused for one cause
pub record FileLaws : Type 0 where
  pub one_list : (file : List ℕ) (first second : List (List ℕ)) → Stands file first → Stands file second → first ≡ second
  pub not_refused : (file : List ℕ) (payloads : List (List ℕ)) (fault : JournalFault) → Stands file payloads → IsRefusal fault (Some file) → ComesFromDisk fault
  pub one_refusal : (file : List ℕ) (first second : JournalFault) → IsMissing first → IsMissing second → IsRefusal first (Some file) → IsRefusal second (Some file) → first ≡ second

-- a file that is free is not refused
free_not_refused : FileLaws → (file : List ℕ) (fault : BookFault) (refusal : Refusal) → IsFree file → refusal_of_making fault ≡ Some refusal → IsMakeRefusal fault (Some file) → ⊥
free_not_refused laws file (book.NotJournal place) refusal (inl unmade) shown cause =
    absurd (let wrong = laws.one_refusal file journal.Unmade (journal.NotJournal place) (λ x. x) (λ x. x) unmade cause in cc)
free_not_refused laws file (book.NotJournal place) refusal (inr stands) shown cause = laws.not_refused file [] (journal.NotJournal place) stands cause
free_not_refused laws file (book.Damaged place) refusal (inl unmade) shown cause =
    absurd (let wrong = laws.one_refusal file journal.Unmade (journal.Damaged place) (λ x. x) (λ x. x) unmade cause in cc)
free_not_refused laws file (book.Damaged place) refusal (inr stands) shown cause = laws.not_refused file [] (journal.Damaged place) stands cause
free_not_refused laws file book.AlreadyMade refusal (inl unmade) shown (payloads, stands, some) = laws.not_refused file payloads journal.Unmade stands unmade
free_not_refused laws file book.AlreadyMade refusal (inr none) shown (payloads, stands, some) = some (laws.one_list file payloads [] stands none)
free_not_refused laws file book.Unmade refusal free shown cause = cause
free_not_refused laws file book.Full refusal free shown cause = cause
free_not_refused laws file book.DiskFault refusal free shown cause = absurd (none_is_not_some shown)
free_not_refused laws file book.Stopped refusal free shown cause = absurd (none_is_not_some shown)
free_not_refused laws file book.NoMemory refusal free shown cause = absurd (none_is_not_some shown)
free_not_refused laws file (book.BadNote place) refusal free shown cause = cause

-- what the journal says of a refusal: another file, or a damaged one
as_journal : BookFault → JournalFault
as_journal (book.NotJournal place) = journal.NotJournal place
as_journal (book.Damaged place) = journal.Damaged place
as_journal _ = journal.NoMemory

refused_alike : FileLaws → (file : List ℕ) (one other : BookFault) (a b : Refusal) → refusal_of_making one ≡ Some a → refusal_of_making other ≡ Some b
    → IsMakeRefusal one (Some file) → IsMakeRefusal other (Some file) → a ≡ b
refused_alike laws file (book.NotJournal p) (book.NotJournal q) a b is also cause why =
    let same = laws.one_refusal file (journal.NotJournal p) (journal.NotJournal q) (λ x. x) (λ x. x) cause why in
    let places : p ≡ q = cc in
    cc
refused_alike laws file (book.NotJournal p) (book.Damaged q) a b is also cause why =
    absurd (let wrong = laws.one_refusal file (journal.NotJournal p) (journal.Damaged q) (λ x. x) (λ x. x) cause why in cc)
refused_alike laws file (book.Damaged p) (book.NotJournal q) a b is also cause why =
    absurd (let wrong = laws.one_refusal file (journal.Damaged p) (journal.NotJournal q) (λ x. x) (λ x. x) cause why in cc)
refused_alike laws file (book.Damaged p) (book.Damaged q) a b is also cause why =
    let same = laws.one_refusal file (journal.Damaged p) (journal.Damaged q) (λ x. x) (λ x. x) cause why in
    let places : p ≡ q = cc in
    cc
refused_alike laws file (book.NotJournal p) book.AlreadyMade a b is also cause (payloads, stands, some) = absurd (laws.not_refused file payloads (journal.NotJournal p) stands cause)
refused_alike laws file (book.Damaged p) book.AlreadyMade a b is also cause (payloads, stands, some) = absurd (laws.not_refused file payloads (journal.Damaged p) stands cause)
refused_alike laws file book.AlreadyMade (book.NotJournal q) a b is also (payloads, stands, some) why = absurd (laws.not_refused file payloads (journal.NotJournal q) stands why)
refused_alike laws file book.AlreadyMade (book.Damaged q) a b is also (payloads, stands, some) why = absurd (laws.not_refused file payloads (journal.Damaged q) stands why)
refused_alike laws file book.AlreadyMade book.AlreadyMade a b is also cause why = cc
refused_alike laws file book.Unmade other a b is also cause why = absurd (none_is_not_some is)
refused_alike laws file book.Full other a b is also cause why = absurd (none_is_not_some is)
refused_alike laws file book.DiskFault other a b is also cause why = absurd (none_is_not_some is)
refused_alike laws file book.Stopped other a b is also cause why = absurd (none_is_not_some is)
refused_alike laws file book.NoMemory other a b is also cause why = absurd (none_is_not_some is)
refused_alike laws file (book.BadNote place) other a b is also cause why = absurd (none_is_not_some is)
refused_alike laws file one book.Unmade a b is also cause why = absurd (none_is_not_some also)
refused_alike laws file one book.Full a b is also cause why = absurd (none_is_not_some also)
refused_alike laws file one book.DiskFault a b is also cause why = absurd (none_is_not_some also)
refused_alike laws file one book.Stopped a b is also cause why = absurd (none_is_not_some also)
refused_alike laws file one book.NoMemory a b is also cause why = absurd (none_is_not_some also)
refused_alike laws file one (book.BadNote place) a b is also cause why = absurd (none_is_not_some also)

told_free : (reading : Option (List ℕ)) (file : List ℕ) → reading ≡ Some file → IfSome reading IsFree → IsFree file
told_free reading file told free = subst (λ r. IfSome r IsFree) told free

makes_once : {D : Type 0} (disk : Ghosts D) → FileLaws → (config : Config) (old one two : D) (file : List ℕ) (a b : Outcome) → disk.reads old ≡ Some file
    → MakesOn disk config a old one → MakesOn disk config b old two → a ≡ b
makes_once disk laws config old one two file a b told (inl (is, made)) (inl (also, again)) = is ∙ sym also
makes_once disk laws config old one two file a b told (inl (is, made)) (inr (refusal, also, why)) =
    absurd (free_not_refused laws file why.fault refusal (told_free (disk.reads old) file told made.was_free) why.shown (subst (IsMakeRefusal why.fault) told why.cause))
makes_once disk laws config old one two file a b told (inr (refusal, also, why)) (inl (is, made)) =
    absurd (free_not_refused laws file why.fault refusal (told_free (disk.reads old) file told made.was_free) why.shown (subst (IsMakeRefusal why.fault) told why.cause))
makes_once disk laws config old one two file a b told (inr (refusal, is, cause)) (inr (other, also, why)) =
    is ∙ ap refused (refused_alike laws file cause.fault why.fault refusal other cause.shown why.shown
    (subst (IsMakeRefusal cause.fault) told cause.cause) (subst (IsMakeRefusal why.fault) told why.cause)) ∙ sym also

-- a text is one configuration, or has one refused line
abbrev OneConfig : Type 0
OneConfig = (text : List ℕ) (a b : Result Config BadLine) → IsConfigOf text a → IsConfigOf text b → a ≡ b

-- a refused line as what a text is
abbrev refused_at : BadLine → Result Config BadLine
refused_at line = Err line

same_line : (a b : BadLine) → refused_at a ≡ refused_at b → refused (Scenario_line a.number a.line) ≡ refused (Scenario_line b.number b.line)
same_line a b same = let lines : a ≡ b = cc in ap (λ (l : BadLine). refused (Scenario_line l.number l.line)) lines

inits_once : {T D : Type 0} (disk : Ghosts D) → FileLaws → OneConfig → (input : List ℕ) (before now later : Disks T D) (a b : Outcome) → TellsReal disk before
    → Inits disk input before now a → Inits disk input before later b → a ≡ b
inits_once disk laws one_config input before now later a b told (inl (line, is, same, still)) (inl (other, also, too, stays)) =
    same ∙ same_line line other (one_config input (Err line) (Err other) is also) ∙ sym too
inits_once disk laws one_config input before now later a b told (inl (line, is, same, still)) (inr (config, also, on)) =
    absurd (let wrong = one_config input (Err line) (Ok config) is also in cc)
inits_once disk laws one_config input before now later a b told (inr (config, is, on)) (inl (line, also, same, still)) =
    absurd (let wrong = one_config input (Ok config) (Err line) is also in cc)
inits_once disk laws one_config input before now later a b told (inr (config, is, on)) (inr (other, also, again)) =
    let same_config : config ≡ other = let whole = one_config input (Ok config) (Ok other) is also in cc in
    let same_disk : on.old ≡ again.old = let both : Some on.old ≡ Some again.old = sym on.was ∙ again.was in cc in
    let read = told on.old on.was in
    makes_once disk laws config on.old on.new again.new read.0 a b read.1 on.changes
    (subst (λ d. MakesOn disk config b d again.new) (sym same_disk) (subst (λ c. MakesOn disk c b again.old again.new) (sym same_config) again.changes))

-- ---- filters

-- what the laws of filters' texts say
pub record FilterLaws : Type 0 where
  pub one_filter : (s : List ℕ) (f g : Path) → Reads f s → Reads g s → f ≡ g
  pub not_refused : (s : List ℕ) (f : Path) (fault : FilterFault) → Reads f s → Refuses s fault → fault ≡ NoRoom
  pub one_refusal : (s : List ℕ) (a b : FilterFault) → Refuses s a → Refuses s b → (a ≡ NoRoom) ⊎ ((b ≡ NoRoom) ⊎ (a ≡ b))

memory_is_none : (fault : FilterFault) (r : Refusal) → refusal_of_filter fault ≡ Some r → fault ≡ NoRoom → ⊥
memory_is_none fault r shown is = none_is_not_some (sym (ap refusal_of_filter is) ∙ shown)

same_filter_refusal : FilterLaws → (s : List ℕ) (a b : Refusal) (one : IsRefusedFilter s a) (other : IsRefusedFilter s b) → (one.fault ≡ NoRoom) ⊎ ((other.fault ≡ NoRoom) ⊎ (one.fault ≡ other.fault)) → a ≡ b
same_filter_refusal laws s a b one other (inl is) = absurd (memory_is_none one.fault a one.shown is)
same_filter_refusal laws s a b one other (inr (inl is)) = absurd (memory_is_none other.fault b other.shown is)
same_filter_refusal laws s a b one other (inr (inr same)) =
    let both : Some a ≡ Some b = sym one.shown ∙ ap refusal_of_filter same ∙ other.shown in cc

same_matched : (f : Path) (input : Text) (a b : Document) (one other : Outcome) → IsDocument input a → IsDocument input b → IsMatched f a one → IsMatched f b other → one ≡ other
same_matched f input (tree a) (tree b) one other (s, is) (t, also) (inl (passes, e)) (inl (again, g)) = e ∙ sym g
same_matched f input (tree a) (tree b) one other (s, is) (t, also) (inr (fails, e)) (inr (again, g)) = e ∙ sym g
same_matched f input (tree a) (tree b) one other (s, is) (t, also) (inl (passes, e)) (inr (fails, g)) = absurd (fails (subst (Passes f) (one_tree input a b is also) passes))
same_matched f input (tree a) (tree b) one other (s, is) (t, also) (inr (fails, e)) (inl (passes, g)) = absurd (fails (subst (Passes f) (sym (one_tree input a b is also)) passes))
same_matched f input (tree a) (no_tree n p) one other (s, is) also m k = absurd (spelled_not_told input a (shows n p) is (told_of input n p also))
same_matched f input (tree a) too_long one other (s, is) above m k = absurd (omega arith)
same_matched f input (no_tree n p) (tree b) one other is (t, also) m k = absurd (spelled_not_told input b (shows n p) also (told_of input n p is))
same_matched f input (no_tree n p) (no_tree m q) one other is also e g = e ∙ refused_as (shows n p) (shows m q) (same_told input (shows n p) (shows m q) (told_of input n p is) (told_of input m q also)) ∙ sym g
same_matched f input (no_tree n p) too_long one other is above e g = absurd (let short = is.0 in omega arith)
same_matched f input too_long (tree b) one other above (t, also) e g = absurd (omega arith)
same_matched f input too_long (no_tree n p) one other above also e g = absurd (let short = also.0 in omega arith)
same_matched f input too_long too_long one other above also e g = e ∙ sym g

matches_once : FilterLaws → (text : List ℕ) (input : Text) (a b : Outcome) → Matches text input a → Matches text input b → a ≡ b
matches_once laws text input a b (inl (refusal, is, e)) (inl (other, also, g)) =
    e ∙ ap refused (same_filter_refusal laws text refusal other is also (laws.one_refusal text is.fault also.fault is.refuses also.refuses)) ∙ sym g
matches_once laws text input a b (inl (refusal, is, e)) (inr (f, reads, m)) = absurd (memory_is_none is.fault refusal is.shown (laws.not_refused text f is.fault reads is.refuses))
matches_once laws text input a b (inr (f, reads, m)) (inl (refusal, is, e)) = absurd (memory_is_none is.fault refusal is.shown (laws.not_refused text f is.fault reads is.refuses))
matches_once laws text input a b (inr (f, reads, (document, is, m))) (inr (g, also, (other, so, k))) =
    same_matched f input document other a b is so m (subst (λ h. IsMatched h other b) (laws.one_filter text g f also reads) k)

-- ---- networks

-- a text is one scenario but for how its filters lie in memory, or has one refused line
abbrev OneScenario : Type 0
OneScenario = (text : List ℕ) (a b : Result Scenario BadLine) → IsScenarioOf text a → IsScenarioOf text b → AreAlike a b

by_test : (r : Bool) (P : Type 0) → Decides r P → ((P → ⊥) → ⊥) → P
by_test true P is never = is.0 refl
by_test false P is never = absurd (never (λ p. false≢true (is.1 p)))

-- bytes that cannot differ are the same
not_apart : (a b : List ℕ) → ((a ≡ b → ⊥) → ⊥) → a ≡ b
not_apart a b never = by_test (bytes_eq a b) (a ≡ b) (bytes_eq-Decides a b) never

outcome_of : (a b : Outcome) → a.status ≡ b.status → a.output ≡ b.output → a ≡ b
outcome_of a b statuses outputs =
    let with_status : Status → Outcome = λ s. record { status = s; output = a.output } in
    let with_output : List ℕ → Outcome = λ o. record { status = b.status; output = o } in
    ap with_status statuses ∙ ap with_output outputs

told_all : {T D : Type 0} (disk : Ghosts T) (rack : Disks T D) (old : List T) → TellsTrials disk rack → AreFirst rack old → AllTellImages disk old
told_all disk rack old tells were k own is = tells k own (were k (get_within old k own is) ∙ is)

-- below the first disk on which something stands there is none such
not_below : {T : Type 0} (disk : Ghosts T) (old : List T) (a b : ℕ) → IsFirstMade disk old a → IsFirstMade disk old b → a < b → ⊥
not_below disk old a b one other below = one.made (other.before a one.own below one.there)

one_first : {T : Type 0} (disk : Ghosts T) (old : List T) (a b : ℕ) → IsFirstMade disk old a → IsFirstMade disk old b → a ≡ b
one_first disk old a b one other =
    let below = not_below disk old a b one other in
    let above = not_below disk old b a other one in
    omega arith

not_made : {T : Type 0} (disk : Ghosts T) (old : List T) (node : ℕ) → AllBlank disk old → IsFirstMade disk old node → ⊥
not_made disk old node blank first = first.made (blank node first.own first.there)

-- the report of a run
abbrev reported : Rules → Graph → List (List ℕ) → List Event → Outcome
reported rules graph packets events = done (report_of graph (after rules graph packets events))

same_reported : (rules : Rules) (s t : Scenario) → IsAlike s t → reported rules (shape s.graph) s.packets s.events ≡ reported rules (shape t.graph) t.packets t.events
same_reported rules s t alike =
    ap (λ (g : Graph). reported rules g s.packets s.events) alike.shape ∙ ap (λ (p : List (List ℕ)). reported rules (shape t.graph) p s.events) alike.packets
    ∙ ap (λ (e : List Event). reported rules (shape t.graph) t.packets e) alike.events

same_count : (s t : Scenario) → IsAlike s t → node_count s ≡ node_count t
same_count s t alike = ap (λ (g : Graph). length g.nodes) alike.shape

right_alike : (rules : Rules) (s t : Scenario) → IsAlike s t → AreRightFor s rules → AreRightFor t rules
right_alike rules s t alike right n below =
    let counts = same_count s t alike in
    subst (λ (c : Config). IsRight c t.packets (rules_at rules n)) (alike.config n)
    (subst (λ (p : List (List ℕ)). IsRight (config_of s.graph n) p (rules_at rules n)) alike.packets (right n (omega arith)))

runs_once : {T : Type 0} (disk : Ghosts T) (s t : Scenario) → IsAlike s t → (old one two : List T) (a b : Outcome) → AllTellImages disk old
    → Runs disk s a old one → Runs disk t b old two → a ≡ b
runs_once disk s t alike old one two a b tells (inl run) (inl again) =
    outcome_of a b (run.status ∙ sym again.status) (not_apart a.output b.output (λ apart. run.right (λ rules right.
    let first = (run.exact tells rules right).reports in
    let second = (again.exact tells rules (right_alike rules s t alike right)).reports in
    apart (ap (λ (o : Outcome). o.output) (first ∙ same_reported rules s t alike ∙ sym second)))))
runs_once disk s t alike old one two a b tells (inl run) (inr again) = absurd (not_made disk old again.node run.blank again.first)
runs_once disk s t alike old one two a b tells (inr run) (inl again) = absurd (not_made disk old run.node again.blank run.first)
runs_once disk s t alike old one two a b tells (inr run) (inr again) =
    run.shown ∙ ap (λ (n : ℕ). refused (MadeAt n)) (one_first disk old run.node again.node run.first again.first) ∙ sym again.shown

-- the first disks of a rack are the same, however they are told
same_first : {T D : Type 0} (rack : Disks T D) (one two : List T) → length one ≡ length two → AreFirst rack one → AreFirst rack two → one ≡ two
same_first rack one two count first second = same_lists one two count (λ k lt. sym (first k lt) ∙ second k (omega arith))

nets_once : {T D : Type 0} (disk : Ghosts T) → OneScenario → (input : List ℕ) (before now later : Disks T D) (a b : Outcome) → TellsTrials disk before
    → Nets disk input before now a → Nets disk input before later b → a ≡ b
nets_once disk one_scenario input before now later a b tells (inl (line, is, same, still)) (inl (other, also, too, stays)) =
    same ∙ ap (λ (l : BadLine). refused (Scenario_line l.number l.line)) (one_scenario input (Err line) (Err other) is also) ∙ sym too
nets_once disk one_scenario input before now later a b tells (inl (line, is, same, still)) (inr (s, also, on)) =
    absurd (one_scenario input (Err line) (Ok s) is also)
nets_once disk one_scenario input before now later a b tells (inr (s, is, on)) (inl (line, also, same, still)) =
    absurd (one_scenario input (Ok s) (Err line) is also)
nets_once disk one_scenario input before now later a b tells (inr (s, is, on)) (inr (t, also, again)) =
    let alike = one_scenario input (Ok s) (Ok t) is also in
    let count = same_count s t alike in
    let same : on.old ≡ again.old = same_first before on.old again.old (on.old_count ∙ count ∙ sym again.old_count) on.were again.were in
    runs_once disk s t alike on.old on.new again.new a b (told_all disk before on.old tells on.were) on.changes
    (subst (λ l. Runs disk t b l again.new) (sym same) again.changes)

-- ---- all commands

same_acts : {T D : Type 0} (trial : Ghosts T) (real : Ghosts D) → FileLaws → OneConfig → OneScenario → FilterLaws → (words : List (List ℕ)) (command : Command) (input : Text) (before now later : Disks T D) (a b : Outcome)
    → TellsTrials trial before → TellsReal real before → Acts trial real words command input before now a → Acts trial real words command input before later b → a ≡ b
same_acts trial real laws one_config one_scenario filters words Net input before now later a b tells told one other = nets_once trial one_scenario input before now later a b tells one other
same_acts trial real laws one_config one_scenario filters words Check input before now later a b tells told one other = same_of checked input a b one.0 other.0
same_acts trial real laws one_config one_scenario filters words Show input before now later a b tells told one other = same_of shown input a b one.0 other.0
same_acts trial real laws one_config one_scenario filters words Match input before now later a b tells told one other = matches_once filters (filter_of words) input a b one.0 other.0
same_acts trial real laws one_config one_scenario filters words Init input before now later a b tells told one other = inits_once real laws one_config input before now later a b told one other

same_as : {T D : Type 0} (trial : Ghosts T) (real : Ghosts D) → FileLaws → OneConfig → OneScenario → FilterLaws → (words : List (List ℕ)) (command : Option Command) (input : List ℕ) (before now later : Disks T D) (a b : Outcome)
    → TellsTrials trial before → TellsReal real before → ActsAs trial real words command input before now a → ActsAs trial real words command input before later b → a ≡ b
same_as trial real laws one_config one_scenario filters words None input before now later a b tells told one other = one.0 ∙ sym other.0
same_as trial real laws one_config one_scenario filters words (Some command) input before now later a b tells told one other =
    same_acts trial real laws one_config one_scenario filters words command input before now later a b tells told one other

pub wanted_once : {T D : Type 0} (trial : Ghosts T) (real : Ghosts D) → FileLaws → OneConfig → OneScenario → FilterLaws → (words : List (List ℕ)) (input : List ℕ) (before now later : Disks T D) (a b : Outcome)
    → TellsTrials trial before → TellsReal real before → Wants trial real words input before now a → Wants trial real words input before later b → a ≡ b
wanted_once trial real laws one_config one_scenario filters words input before now later a b tells told one other =
    same_as trial real laws one_config one_scenario filters words (command_of words) input before now later a b tells told one other
