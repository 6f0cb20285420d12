-- What is not an identifier is not open.
use Rattle.std.proofs.Common.{◌≡◌, ℕ, Bool, true, false, not, ◌&&◌, ◌||◌, List, [], ◌∷◌, ◌++◌, Option, Some, None, refl, sym, ap, ◌∙◌}
use Rattle.std.specs.Prelude.{cond, nat_lt}
use Rattle.std.specs.Str.{bytes_eq}
use Rattle.std.proofs.lemmas.Bool.{and_parts}
use Rattle.net_model.proofs.Held.{same_bytes}
use Rattle.voe_values.specs.declared.kind.NodeKind.TheVariants.{Author, Broker}
use Rattle.net_model.specs.Flights.{author_hears, broker_hears}
use Rattle.net_model.specs.Notes.{brings, is_open, knows}
use Rattle.net_model.specs.Rules.{NodeRules}
use Rattle.net_model.specs.Steps.{Outcome, author_answer, broker_acked, last_of, says}
use Rattle.net_model.specs.declared.note.Note.{Note}
use Rattle.net_model.specs.declared.note.Note.TheVariants.{Wrote, Acked, Refused, Accept, Done, Enter}
use Rattle.net_model.specs.declared.step.AuthorStep.{AuthorStep}
use Rattle.net_model.specs.declared.step.BrokerStep.{BrokerStep}
use Rattle.net_model.specs.declared.step.BrokerStep.TheVariants.{Noted, Full, Passed, Replaced}
use Rattle.net_model.specs.declared.state.Verdict.{Verdict}
use Rattle.net_machine.specs.Works.{is_step}
use Rattle.net_machine.specs.declared.work.Work.TheVariants.{Hear}
use Rattle.net_model.specs.declared.state.Verdict.TheVariants.{Ack, Nak}
use Rattle.node_notes.proofs.Holding.{open_is_held}
use Rattle.node_notes.specs.Forms.{is_identifier, keeps_form, may_follow}
use Rattle.node_notes.specs.Tells.{AreInOrder}
use Rattle.node_notes.specs.declared.config.Config.{Config}
use Rattle.node_book.proofs.EndReplies.{shut_settles}
use Rattle.voe_net.specs.Heard.{heard_of, named_so}
use Rattle.voe_net.specs.declared.heard.Heard.{Heard}

middle : (a b c : Bool) → (a && b && c) ≡ true → b ≡ true
middle a b c all = (and_parts a b (and_parts (a && b) c all).0).1

named_by : (i own : List ℕ) → is_identifier own ≡ true → bytes_eq i own ≡ true → is_identifier i ≡ true
named_by i own is same = ap is_identifier (same_bytes i own same) ∙ is

-- a note that keeps to its form brings an identifier
brings_named : (config : Config) (note : Note) (i : List ℕ) → keeps_form config note ≡ true → brings i note ≡ true → is_identifier i ≡ true
unfolding keeps_form
brings_named config (Wrote own packet) i keeps it = named_by i own (middle _ _ _ keeps) it
brings_named config (Enter own packet) i keeps it = named_by i own (middle _ _ _ keeps) it
brings_named config (Accept own links packet) i keeps it =
    named_by i own (and_parts _ _ (and_parts _ _ (and_parts _ _ keeps).0).0).1 it
brings_named config (Acked line own) i keeps it = absurd (cc)
brings_named config (Refused line own) i keeps it = absurd (cc)
brings_named config (Done link own) i keeps it = absurd (cc)

or_parts : (a b : Bool) → (a || b) ≡ true → (a ≡ false → b ≡ true)
or_parts true b one none = absurd (cc)
or_parts false b one none = one

-- what is known is an identifier
known_named : (config : Config) (before notes : List Note) (i : List ℕ) → AreInOrder config before notes → knows notes i ≡ true → is_identifier i ≡ true
known_named config before [] i order known = absurd (cc known)
known_named config before (note ∷ notes) i order known =
    by (brings i note) refl (λ rest. known_named config (before ++ note ∷ []) notes i order.1 rest)
  where
    by : (b : Bool) → brings i note ≡ b → (knows notes i ≡ true → is_identifier i ≡ true) → is_identifier i ≡ true
    by true it later = brings_named config note i (and_parts (keeps_form config note) (may_follow before note) order.0).0 it
    by false it later = later (or_parts (brings i note) (knows notes i) known it)

not_open : (config : Config) (notes : List Note) (number : ℕ) (i : List ℕ) → AreInOrder config [] notes → is_identifier i ≡ false → is_open notes number i ≡ false
not_open config notes number i order none = by (is_open notes number i) refl
  where
    by : (b : Bool) → is_open notes number i ≡ b → is_open notes number i ≡ false
    by false shut = shut
    by true open_there = absurd (let named = known_named config [] notes i order (open_is_held notes number i open_there) in let bad = sym none ∙ named in cc)

none_named : (i : List ℕ) (ack : Bool) → named_so i ack ≡ None → is_identifier i ≡ false
none_named i ack = by (is_identifier i)
  where
    by : (b : Bool) → cond {A = Option Heard} b (Some (record { identifier = i; ack = ack })) None ≡ None → b ≡ false
    by false is = refl
    by true is = absurd (cc)

-- an author does nothing about what names no packet
pub author_none : (config : Config) (rules : NodeRules) (notes : List Note) (line : ℕ) (said : Verdict) → AreInOrder config [] notes → heard_of said ≡ None → author_hears rules notes line said ≡ []
author_none config rules notes line (Ack i) order none =
    ap (λ (o : Outcome AuthorStep). o.added) (shut_settles rules notes line i _ _ _ _ (not_open config notes line i order (none_named i true none)))
author_none config rules notes line (Nak (Some i) code) order none =
    ap (λ (o : Outcome AuthorStep). o.added) (shut_settles rules notes line i _ _ _ _ (not_open config notes line i order (none_named i false none)))
author_none config rules notes line (Nak None code) order none = refl

pub author_no_step : (line session : ℕ) (said : Verdict) → heard_of said ≡ None → is_step Author (Hear line session said) ≡ false
author_no_step line session (Ack i) none = none_named i true none
author_no_step line session (Nak (Some i) code) none = none_named i false none
author_no_step line session (Nak None code) none = refl

some_named : (i : List ℕ) (ack : Bool) (heard : Heard) → named_so i ack ≡ Some heard → (i ≡ heard.identifier) × (ack ≡ heard.ack)
some_named i ack heard = by (is_identifier i)
  where
    parts : (one other : Heard) → Some one ≡ Some other → (one.identifier ≡ other.identifier) × (one.ack ≡ other.ack)
    parts one other e = (let same : one ≡ other = cc in (ap (λ (h : Heard). h.identifier) same, ap (λ (h : Heard). h.ack) same))

    by : (b : Bool) → cond {A = Option Heard} b (Some (record { identifier = i; ack = ack })) None ≡ Some heard → (i ≡ heard.identifier) × (ack ≡ heard.ack)
    by false is = absurd (cc)
    by true is = parts (record { identifier = i; ack = ack }) heard is

-- an author hears what names a packet
pub author_some : (rules : NodeRules) (notes : List Note) (line : ℕ) (said : Verdict) (heard : Heard) → heard_of said ≡ Some heard
    → author_hears rules notes line said ≡ (author_answer rules notes line heard.identifier heard.ack).added
author_some rules notes line (Ack i) heard is =
    let parts = some_named i true heard is in
    ap (λ (k : List ℕ). (author_answer rules notes line k true).added) parts.0 ∙ ap (λ (b : Bool). (author_answer rules notes line heard.identifier b).added) parts.1
author_some rules notes line (Nak (Some i) code) heard is =
    let parts = some_named i false heard is in
    ap (λ (k : List ℕ). (author_answer rules notes line k false).added) parts.0 ∙ ap (λ (b : Bool). (author_answer rules notes line heard.identifier b).added) parts.1
author_some rules notes line (Nak None code) heard is = absurd (cc)

-- a broker does nothing about what names no packet, nor about a refusal
pub broker_none : (config : Config) (rules : NodeRules) (notes : List Note) (sessions : List ℕ) (link session : ℕ) (said : Verdict) → AreInOrder config [] notes → heard_of said ≡ None
    → broker_hears rules notes sessions link session said ≡ []
broker_none config rules notes sessions link session (Ack i) order none =
    by (nat_lt session (last_of sessions link)) _ (ap (λ (o : Outcome BrokerStep). o.added) (shut_settles rules notes link i (Done link i) Noted Full Passed (not_open config notes link i order (none_named i true none))))
  where
    by : (b : Bool) (outcome : Outcome BrokerStep) → outcome.added ≡ [] → (cond b (says (Replaced (last_of sessions link))) outcome).added ≡ []
    by true outcome is = refl
    by false outcome is = is
broker_none config rules notes sessions link session (Nak i code) order none = refl

pub broker_no_step : (link session : ℕ) (said : Verdict) → heard_of said ≡ None → is_step Broker (Hear link session said) ≡ false
broker_no_step link session (Ack i) none = none_named i true none
broker_no_step link session (Nak (Some i) code) none = refl
broker_no_step link session (Nak None code) none = refl

pub broker_nak : (link session : ℕ) (said : Verdict) (heard : Heard) → heard_of said ≡ Some heard → heard.ack ≡ false
    → ((rules : NodeRules) (notes : List Note) (sessions : List ℕ) → broker_hears rules notes sessions link session said ≡ []) × (is_step Broker (Hear link session said) ≡ false)
broker_nak link session (Ack i) heard is nak = absurd (let parts = some_named i true heard is in let bad = parts.1 ∙ nak in cc)
broker_nak link session (Nak (Some i) code) heard is nak = (λ rules notes sessions. refl, refl)
broker_nak link session (Nak None code) heard is nak = (λ rules notes sessions. refl, refl)

pub nay : (b : Bool) → not b ≡ true → b ≡ false
nay true is = absurd (cc)
nay false is = refl

pub yea : (b : Bool) → not b ≡ false → b ≡ true
yea true is = refl
yea false is = absurd (cc)

pub broker_ack : (rules : NodeRules) (notes : List Note) (sessions : List ℕ) (link session : ℕ) (said : Verdict) (heard : Heard) → heard_of said ≡ Some heard → heard.ack ≡ true
    → broker_hears rules notes sessions link session said ≡ (broker_acked rules notes sessions link session heard.identifier).added
broker_ack rules notes sessions link session (Ack i) heard is ack = ap (λ (k : List ℕ). (broker_acked rules notes sessions link session k).added) (some_named i true heard is).0
broker_ack rules notes sessions link session (Nak (Some i) code) heard is ack = absurd (let parts = some_named i false heard is in let bad = parts.1 ∙ ack in cc)
broker_ack rules notes sessions link session (Nak None code) heard is ack = absurd (cc)
