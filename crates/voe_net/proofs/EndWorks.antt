-- The steps of the three ends, as what becomes of their work.
use Rattle.std.proofs.Common.{◌≡◌, ℕ, Bool, true, false, List, Some, None, refl, ap, sym, ◌∙◌}
use Rattle.voe_values.specs.declared.kind.NodeKind.{NodeKind}
use Rattle.voe_values.specs.declared.kind.NodeKind.TheVariants.{Author, Broker, Subscriber}
use Rattle.std.specs.Prelude.{cond, length, nat_lt}
use Rattle.net_model.specs.Flights.{heard}
use Rattle.net_model.specs.Notes.{is_open}
use Rattle.net_model.specs.Steps.{adds, broker_acked, last_of, says, settles}
use Rattle.net_model.specs.declared.note.Note.TheVariants.{Done}
use Rattle.net_model.specs.Rules.{NodeRules}
use Rattle.net_model.specs.declared.note.Note.{Note}
use Rattle.net_model.specs.declared.state.Verdict.{Verdict}
use Rattle.net_model.specs.declared.step.AuthorStep.{AuthorStep}
use Rattle.net_model.specs.declared.step.AuthorStep.TheVariants as a
use Rattle.net_model.specs.declared.step.BrokerStep.{BrokerStep}
use Rattle.net_model.specs.declared.step.BrokerStep.TheVariants as b
use Rattle.net_model.specs.declared.step.SubscriberStep.{SubscriberStep}
use Rattle.net_model.specs.declared.step.SubscriberStep.TheVariants as s
use Rattle.node_book.specs.Ends.{EndView}
use Rattle.net_machine.specs.Works.{reply_of}
use Rattle.net_machine.specs.declared.work.Work.TheVariants.{Write, Take, Hear}
use Rattle.author_end.specs.Author as author
use Rattle.author_end.specs.declared.event.AuthorEvent.TheVariants as ae
use Rattle.broker_end.specs.Broker as broker
use Rattle.broker_end.specs.declared.event.BrokerEvent.TheVariants as be
use Rattle.broker_end.specs.declared.event.Way.{Way}
use Rattle.subscriber_end.specs.Subscriber as subscriber
use Rattle.subscriber_end.specs.declared.event.SubscriberEvent.TheVariants as se
use Rattle.voe_net.specs.Heard.{heard_of}
use Rattle.voe_net.specs.Told.{author_told, broker_told, subscriber_told}
use Rattle.voe_net.specs.Worked.{answer_of}
use Rattle.voe_net.specs.declared.heard.Heard.{Heard}
use Rattle.voe_net.proofs.Bringing.{acked_brings, answer_brings, broker_brings, subscriber_brings, write_brings}
use Rattle.voe_net.proofs.Named.{author_some, broker_ack}
use Rattle.voe_net.proofs.Told.{IsSameFate, IsToldOf}

author_fate : (step : AuthorStep) → IsSameFate (author.fate_of step) (author_told step)
author_fate a.Wrote = tt
author_fate a.Known = tt
author_fate (a.Refused code) = tt
author_fate (a.Packet at identifier packet) = tt
author_fate a.Nothing = tt
author_fate a.Noted = tt
author_fate a.Passed = tt
author_fate a.Full = tt
author_fate (a.Down faults stopped) = refl
author_fate a.NoMemory = tt

author_silent : (step : AuthorStep) → answer_of (author_told step) ≡ None
author_silent a.Wrote = refl
author_silent a.Known = refl
author_silent (a.Refused code) = refl
author_silent (a.Packet at identifier packet) = refl
author_silent a.Nothing = refl
author_silent a.Noted = refl
author_silent a.Passed = refl
author_silent a.Full = refl
author_silent (a.Down faults stopped) = refl
author_silent a.NoMemory = refl

broker_fate : (step : BrokerStep) → IsSameFate (broker.fate_of step) (broker_told step)
broker_fate (b.Answer verdict) = tt
broker_fate (b.Joined link session) = tt
broker_fate (b.Guest after) = tt
broker_fate (b.Packet at identifier packet) = tt
broker_fate b.Nothing = tt
broker_fate b.Noted = tt
broker_fate b.Passed = tt
broker_fate b.Full = tt
broker_fate (b.Replaced newer) = tt
broker_fate (b.Down faults stopped) = refl
broker_fate b.NoMemory = tt

subscriber_fate : (step : SubscriberStep) → IsSameFate (subscriber.fate_of step) (subscriber_told step)
subscriber_fate (s.Answer verdict) = tt
subscriber_fate (s.Down faults stopped) = refl
subscriber_fate s.NoMemory = tt

acked_silent : (rules : NodeRules) (notes : List Note) (sessions : List ℕ) (link session : ℕ) (identifier : List ℕ) → answer_of (broker_told (broker_acked rules notes sessions link session identifier).answer) ≡ None
acked_silent rules notes sessions link session identifier = replaced (nat_lt session (last_of sessions link)) (settled (is_open notes link identifier) (rules.has_room notes (Done link identifier)))
  where
    settled : (open_there room : Bool) → answer_of (broker_told (cond open_there (adds room (Done link identifier) b.Noted b.Full) (says b.Passed)).answer) ≡ None
    settled true true = refl
    settled true false = refl
    settled false room = refl

    replaced : (newer : Bool) → answer_of (broker_told (settles rules notes link identifier (Done link identifier) b.Noted b.Full b.Passed).answer) ≡ None
        → answer_of (broker_told (cond newer (says (b.Replaced (last_of sessions link))) (settles rules notes link identifier (Done link identifier) b.Noted b.Full b.Passed)).answer) ≡ None
    replaced true is = refl
    replaced false is = is

module _ {D : Type 0} (old : EndView D) where
  -- an author writes
  pub author_wrote : (packet : List ℕ) (step : AuthorStep)
      → IsToldOf (Write packet) old (author.AreRightFor old.config (ae.Write packet)) (λ rules. author.outcome_of rules old.notes (ae.Write packet)) step (author.fate_of step) (author_told step)
  author_wrote packet step = record {
    same_fate = author_fate step;
    right = λ rules packets about right. (right.judge packet about, right.has_room);
    added = λ rules. refl;
    answer = λ rules is. author_silent step;
    bring = λ rules. write_brings rules old.notes packet (rules.judge packet);
  }

  -- an author hears what names a packet
  pub author_heard : (line session : ℕ) (said : Verdict) (heard : Heard) (step : AuthorStep) → old.config.kind ≡ Author → heard_of said ≡ Some heard
      → IsToldOf (Hear line session said) old (author.AreRightFor old.config (ae.Answer line heard.identifier heard.ack)) (λ rules. author.outcome_of rules old.notes (ae.Answer line heard.identifier heard.ack)) step (author.fate_of step) (author_told step)
  author_heard line session said h step kind is = record {
    same_fate = author_fate step;
    right = λ rules packets about right. right.has_room;
    added = λ rules. ap (λ (k : NodeKind). heard rules old.notes old.sessions line session said (Some k)) kind ∙ author_some rules old.notes line said h is;
    answer = λ rules same. author_silent step;
    bring = λ rules. answer_brings line session said rules old.notes h.identifier h.ack;
  }

  -- a broker takes a packet
  pub broker_took : (shows : List ℕ → Bool) (from : Way) (packet : List ℕ) (step : BrokerStep) → old.config.kind ≡ Broker
      → IsToldOf (Take (broker.is_line from) packet) old (λ rules. broker.AreRightFor old.config old.notes (be.Packet from packet) rules shows) (λ rules. broker.outcome_of rules shows old.config old.notes old.sessions (be.Packet from packet)) step (broker.fate_of step) (broker_told step)
  broker_took shows from packet step kind = record {
    same_fate = broker_fate step;
    right = λ rules packets about right. record {
      judge = right.judge packet about;
      digest_of = right.digest_of;
      has_room = right.has_room;
      passes = λ identifier good new. right.passes packet identifier about good;
    };
    added = λ rules. ap (λ (k : NodeKind). (reply_of k rules (length old.config.links) old.notes (broker.is_line from) packet).added) kind;
    answer = λ rules is. ap (λ (x : BrokerStep). answer_of (broker_told x)) is
        ∙ sym (ap (λ (k : NodeKind). Some (reply_of k rules (length old.config.links) old.notes (broker.is_line from) packet).answer) kind);
    bring = λ rules. broker_brings (broker.is_line from) rules (length old.config.links) old.notes (broker.is_line from) packet (rules.judge packet);
  }

  -- a broker hears that a packet was taken
  pub broker_heard : (shows : List ℕ → Bool) (link session : ℕ) (said : Verdict) (heard : Heard) (step : BrokerStep) → old.config.kind ≡ Broker → heard_of said ≡ Some heard → heard.ack ≡ true
      → IsToldOf (Hear link session said) old (λ rules. broker.AreRightFor old.config old.notes (be.Acked link session heard.identifier) rules shows) (λ rules. broker.outcome_of rules shows old.config old.notes old.sessions (be.Acked link session heard.identifier)) step (broker.fate_of step) (broker_told step)
  broker_heard shows link session said h step kind is ack = record {
    same_fate = broker_fate step;
    right = λ rules packets about right. right.has_room;
    added = λ rules. ap (λ (k : NodeKind). heard rules old.notes old.sessions link session said (Some k)) kind ∙ broker_ack rules old.notes old.sessions link session said h is ack;
    answer = λ rules same. ap (λ (x : BrokerStep). answer_of (broker_told x)) same ∙ acked_silent rules old.notes old.sessions link session h.identifier;
    bring = λ rules. acked_brings link session said rules old.notes old.sessions h.identifier;
  }

  -- a subscriber takes a packet
  pub subscriber_took : (from_line : Bool) (packet : List ℕ) (step : SubscriberStep) → old.config.kind ≡ Subscriber
      → IsToldOf (Take from_line packet) old (subscriber.AreRightFor old.config (se.Packet packet)) (λ rules. subscriber.outcome_of rules old.notes (se.Packet packet)) step (subscriber.fate_of step) (subscriber_told step)
  subscriber_took from_line packet step kind = record {
    same_fate = subscriber_fate step;
    right = λ rules packets about right. (right.judge packet about, right.has_room);
    added = λ rules. ap (λ (k : NodeKind). (reply_of k rules (length old.config.links) old.notes from_line packet).added) kind;
    answer = λ rules is. ap (λ (x : SubscriberStep). answer_of (subscriber_told x)) is
        ∙ sym (ap (λ (k : NodeKind). Some (reply_of k rules (length old.config.links) old.notes from_line packet).answer) kind);
    bring = λ rules. subscriber_brings from_line rules old.notes packet (rules.judge packet);
  }
