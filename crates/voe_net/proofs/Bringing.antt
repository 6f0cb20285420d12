-- Which packets the records of a step have.
use Rattle.std.proofs.Common.{◌≡◌, inl, inr, ℕ, Bool, true, false, List, [], ◌∷◌, Some, None, refl, ap, ◌∙◌}
use Rattle.std.specs.Prelude.{cond, nat_lt}
use Rattle.net_model.specs.Notes.{is_open, knows, passing}
use Rattle.net_model.specs.Rules.{NodeRules}
use Rattle.net_model.specs.Steps.{Outcome, adds, answer_note, author_answer, broker_acked, broker_judged, last_of, reply_to, says, settles, subscriber_judged, write_judged}
use Rattle.net_model.specs.declared.note.Note.{Note}
use Rattle.net_model.specs.declared.note.Note.TheVariants.{Wrote, Accept, Done, Enter}
use Rattle.net_model.specs.declared.state.Verdict.{Verdict}
use Rattle.net_model.specs.declared.step.BrokerStep.TheVariants as b
use Rattle.net_model.specs.declared.step.AuthorStep.TheVariants as a
use Rattle.net_model.specs.declared.step.Judged.{Judged}
use Rattle.net_model.specs.declared.step.Judged.TheVariants.{BadTree, BadPacket, Good}
use Rattle.net_machine.specs.Ends.{note_packet}
use Rattle.net_machine.specs.Works.{brought}
use Rattle.net_machine.specs.declared.work.Work.{Work}
use Rattle.net_machine.specs.declared.work.Work.TheVariants.{Write, Take, Hear}
use Rattle.voe_net.specs.Worked.{AllBring}

module _ (work : Work) where
  one_brings : (own : Note) → note_packet own ≡ brought work → AllBring work (own ∷ [])
  one_brings own is note (inl same) = ap note_packet same ∙ is
  one_brings own is note (inr none) = absurd none

  adding_brings : {A : Type 0} (room : Bool) (own : Note) (added full : A) → note_packet own ≡ brought work → AllBring work (adds room own added full).added
  adding_brings true own added full is = one_brings own is
  adding_brings false own added full is = λ note none. absurd none

  either_brings : {A : Type 0} (b : Bool) (one other : Outcome A) → AllBring work one.added → AllBring work other.added → AllBring work (cond b one other).added
  either_brings true one other first second = first
  either_brings false one other first second = second

  none_brings : AllBring work []
  none_brings note none = absurd none

  settling_brings : {A : Type 0} (rules : NodeRules) (notes : List Note) (number : ℕ) (i : List ℕ) (own : Note) (noted full passed : A) → note_packet own ≡ brought work
      → AllBring work (settles rules notes number i own noted full passed).added
  settling_brings rules notes number i own noted full passed is =
      either_brings (is_open notes number i) (adds (rules.has_room notes own) own noted full) (says passed) (adding_brings (rules.has_room notes own) own noted full is) none_brings

pub write_brings : (rules : NodeRules) (notes : List Note) (packet : List ℕ) (judged : Judged) → AllBring (Write packet) (write_judged rules notes packet judged).added
write_brings rules notes packet (BadTree number) = none_brings (Write packet)
write_brings rules notes packet (BadPacket number i) = none_brings (Write packet)
write_brings rules notes packet (Good i) =
    either_brings (Write packet) (knows notes i) (says a.Known) (adds (rules.has_room notes (Wrote i packet)) (Wrote i packet) a.Wrote a.Full)
    (none_brings (Write packet)) (adding_brings (Write packet) (rules.has_room notes (Wrote i packet)) (Wrote i packet) a.Wrote a.Full refl)

reply_brings : (from : Bool) (rules : NodeRules) (notes : List Note) (from_line : Bool) (packet i : List ℕ) (own : Note) → note_packet own ≡ Some packet
    → AllBring (Take from packet) (reply_to rules notes from_line packet i own).added
reply_brings from rules notes from_line packet i own is =
    either_brings (Take from packet) (knows notes i) _ _ (none_brings (Take from packet)) (adding_brings (Take from packet) (rules.has_room notes own) own _ _ is)

pub broker_brings : (from : Bool) (rules : NodeRules) (links : ℕ) (notes : List Note) (from_line : Bool) (packet : List ℕ) (judged : Judged)
    → AllBring (Take from packet) (broker_judged rules links notes from_line packet judged).added
broker_brings from rules links notes from_line packet (BadTree number) = none_brings (Take from packet)
broker_brings from rules links notes from_line packet (BadPacket number i) = none_brings (Take from packet)
broker_brings from rules links notes from_line packet (Good i) = reply_brings from rules notes from_line packet i (Accept i (passing rules 0 links packet) packet) refl

pub subscriber_brings : (from : Bool) (rules : NodeRules) (notes : List Note) (packet : List ℕ) (judged : Judged)
    → AllBring (Take from packet) (subscriber_judged rules notes packet judged).added
subscriber_brings from rules notes packet (BadTree number) = none_brings (Take from packet)
subscriber_brings from rules notes packet (BadPacket number i) = none_brings (Take from packet)
subscriber_brings from rules notes packet (Good i) = reply_brings from rules notes false packet i (Enter i packet) refl

answer_bare : (ack : Bool) (line : ℕ) (i : List ℕ) → note_packet (answer_note ack line i) ≡ None
answer_bare true line i = refl
answer_bare false line i = refl

pub answer_brings : (line session : ℕ) (said : Verdict) (rules : NodeRules) (notes : List Note) (i : List ℕ) (ack : Bool)
    → AllBring (Hear line session said) (author_answer rules notes line i ack).added
answer_brings line session said rules notes i ack =
    settling_brings (Hear line session said) rules notes line i (answer_note ack line i) a.Noted a.Full a.Passed (answer_bare ack line i)

pub acked_brings : (link session : ℕ) (said : Verdict) (rules : NodeRules) (notes : List Note) (sessions : List ℕ) (i : List ℕ)
    → AllBring (Hear link session said) (broker_acked rules notes sessions link session i).added
acked_brings link session said rules notes sessions i =
    either_brings (Hear link session said) (nat_lt session (last_of sessions link)) (says (b.Replaced (last_of sessions link)))
    (settles rules notes link i (Done link i) b.Noted b.Full b.Passed)
    (none_brings (Hear link session said)) (settling_brings (Hear link session said) rules notes link i (Done link i) b.Noted b.Full b.Passed refl)
