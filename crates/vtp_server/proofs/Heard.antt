-- What a session heard of the bytes that came.
use Rattle.std.proofs.Common.{◌≡◌, ℕ, max, List, [], ◌++◌, Bool, false, sym, ap, refl, ◌∙◌, subst, arith, IfOk, OnOk, Ok, Err}
use Rattle.std.proofs.lemmas.List.{append-nil}
use Rattle.std.specs.declared.option.Option.{Option}
use Rattle.std.specs.declared.result.Result.{Result}
use Rattle.voe_outside.specs.Traffic.{Traffic}
use Rattle.vtp_framing.specs.Frames.{frame, frames}
use Rattle.vtp_session.specs.Acts.{Means, after_answer, is_garbage}
use Rattle.vtp_session.specs.State.{SessionState, MeetsGarbage, NextOf, Hears, behind}
use Rattle.vtp_session.specs.Watch.{Watch, later, hears, tick_of, after_tick, beats_on, is_beat}
use Rattle.vtp_session.specs.declared.side.Tick.{Tick}
use Rattle.vtp_session.specs.declared.act.Act.{Act}
use Rattle.vtp_session.specs.declared.act.Act.TheVariants as act
use Rattle.vtp_session.specs.declared.act.GarbageFault.{GarbageFault}
use Rattle.vtp_server.specs.Moves.{Found, Message, Idle, Unfinished, act_in, heard_in, place_behind}
use Rattle.vtp_server.specs.Talk.{IsFound, silences, watch_at}
use Rattle.vtp_server.specs.Reading.{FindsGarbage, Hearing}
use Rattle.vtp_server.specs.ReadMoves.{ReadMade}
use Rattle.vtp_server.specs.Carried.{Carried}
use Rattle.vtp_server.specs.declared.reading.Seen.{Seen}
use Rattle.vtp_server.specs.declared.breach.Breach.{Breach}

max_again : (a b : ℕ) → max (max a b) b ≡ max a b
max_again a b = omega arith

-- a moment that was given already changes nothing
pub later_again : (found : Found) (t : ℕ) (w : Watch) → later t (watch_at found t w) ≡ watch_at found t w
later_again (Message payload a) t w = ap (λ n. record { heard = max w.latest t; beaten = w.beaten; latest = n }) (max_again w.latest t)
later_again Idle t w = ap (λ n. record { heard = w.heard; beaten = w.beaten; latest = n }) (max_again w.latest t)
later_again Unfinished t w = ap (λ n. record { heard = w.heard; beaten = w.beaten; latest = n }) (max_again w.latest t)

finish : (s t u : SessionState) (piece : List ℕ) (now : ℕ) (found : Found) (a : Act) (k : Tick) (due : Bool) → a ≡ act_in found → IsFound s.side s.place s.unanswered found → ((x : Tick) → silences found x ≡ false) → s.left ++ piece ≡ frames (heard_in found) ++ t.left → t.side ≡ s.side → t.times ≡ s.times → t.place ≡ place_behind found s.place → t.unanswered ≡ after_answer (act_in found) s.unanswered → t.watch ≡ watch_at found now s.watch → k ≡ tick_of t.times (beats_on t.side) (later now t.watch) → u ≡ record t { watch = after_tick k (later now t.watch) } → due ≡ is_beat k → Hearing s piece now found (record { act = a; moment = now; is_beat_due = due }) u
finish s t u piece now found a k due is_act is_found loud parts side times place unanswered watch tick state beat =
    let seen : later now t.watch ≡ watch_at found now s.watch = ap (later now) watch ∙ later_again found now s.watch in
    let ticked : k ≡ tick_of s.times (beats_on s.side) (watch_at found now s.watch) =
    tick ∙ ap (λ x. tick_of x (beats_on t.side) (later now t.watch)) times ∙ ap (λ x. tick_of s.times (beats_on x) (later now t.watch)) side
    ∙ ap (tick_of s.times (beats_on s.side)) seen in
    record {
      is_found = is_found;
      parts = parts ∙ ap (λ l. frames (heard_in found) ++ l) (sym (ap (λ x. x.left) state));
      act = is_act;
      unanswered = ap (λ x. x.unanswered) state ∙ unanswered;
      moment = refl;
      beat = beat ∙ ap is_beat ticked;
      goes_on = loud (tick_of s.times (beats_on s.side) (watch_at found now s.watch));
      after = record {
        side = ap (λ x. x.side) state ∙ side;
        times = ap (λ x. x.times) state ∙ times;
        place = ap (λ x. x.place) state ∙ place;
        watch = ap (λ x. x.watch) state ∙ ap (λ x. after_tick x (later now t.watch)) ticked ∙ ap (after_tick (tick_of s.times (beats_on s.side) (watch_at found now s.watch))) seen;
      };
    }

heard_message : (s r t u : SessionState) (piece : List ℕ) (now : ℕ) (a : Act) (k : Tick) (due : Bool) → r ≡ record s { left = s.left ++ piece; watch = later now s.watch } → Hears r a t → is_garbage a ≡ false → k ≡ tick_of t.times (beats_on t.side) (later now t.watch) → u ≡ record t { watch = after_tick k (later now t.watch) } → due ≡ is_beat k → (found : Found) × Hearing s piece now found (record { act = a; moment = now; is_beat_due = due }) u
heard_message s r t u piece now a k due took h sound tick state beat = (
  Message h.payload a,
  finish s t u piece now (Message h.payload a) a k due refl
      (record { fits = h.front.fits; means = subst (λ (x : SessionState). Means x.side x.place h.payload x.unanswered a) took h.meaning; sound = sound })
      (λ x. refl)
      (sym (ap (λ x. x.left) took) ∙ h.front.parts ∙ ap (λ f. f ++ t.left) (sym (append-nil (frame h.payload))))
      (ap (λ x. x.side) h.rest ∙ ap (λ x. x.side) took)
      (ap (λ x. x.times) h.rest ∙ ap (λ x. x.times) took)
      (ap (λ x. x.place) h.rest ∙ ap (λ x. behind x.place h.payload) took)
      (ap (λ x. x.unanswered) h.rest ∙ ap (λ x. after_answer a x.unanswered) took)
      (ap (λ x. x.watch) h.rest ∙ ap (λ x. hears x.watch) took)
      tick state beat,
)

-- what the session gave behind these bytes
pub heard : (s r t u : SessionState) (piece : List ℕ) (now : ℕ) (a : Act) (k : Tick) (due : Bool) → r ≡ record s { left = s.left ++ piece; watch = later now s.watch } → NextOf r a t → is_garbage a ≡ false → k ≡ tick_of t.times (beats_on t.side) (later now t.watch) → u ≡ record t { watch = after_tick k (later now t.watch) } → due ≡ is_beat k → (found : Found) × Hearing s piece now found (record { act = a; moment = now; is_beat_due = due }) u
heard s r t u piece now act.Nothing k due took next sound tick state beat = (
  Unfinished,
  finish s t u piece now Unfinished act.Nothing k due refl tt (λ x. refl) (sym (ap (λ x. x.left) took) ∙ sym (ap (λ x. x.left) next.0))
      (ap (λ x. x.side) next.0 ∙ ap (λ x. x.side) took)
      (ap (λ x. x.times) next.0 ∙ ap (λ x. x.times) took)
      (ap (λ x. x.place) next.0 ∙ ap (λ x. x.place) took)
      (ap (λ x. x.unanswered) next.0 ∙ ap (λ x. x.unanswered) took)
      (ap (λ x. x.watch) next.0 ∙ ap (λ x. x.watch) took)
      tick state beat,
)
heard s r t u piece now (act.Garbage place why) k due took next sound tick state beat = absurd (cc)
heard s r t u piece now a k due took next sound tick state beat = heard_message s r t u piece now a k due took next sound tick state beat

-- garbage that the session met behind these bytes
pub found_garbage : (s r t : SessionState) (piece : List ℕ) (now : ℕ) (a : Act) (place : ℕ) (why : GarbageFault) → r ≡ record s { left = s.left ++ piece; watch = later now s.watch } → NextOf r a t → a ≡ act.Garbage place why → FindsGarbage s piece place why t
found_garbage s r t piece now a place why took next is =
    let met : (t ≡ r) × MeetsGarbage r place why = subst (λ (x : Act). NextOf r x t) is next in
    record {
      left = ap (λ x. x.left) met.0 ∙ ap (λ x. x.left) took;
      side = ap (λ x. x.side) met.0 ∙ ap (λ x. x.side) took;
      place_is = ap (λ x. x.place) met.0 ∙ ap (λ x. x.place) took;
      unanswered = ap (λ x. x.unanswered) met.0 ∙ ap (λ x. x.unanswered) took;
      garbage = subst (λ (x : SessionState). MeetsGarbage x place why) (sym met.0) met.1;
    }

pub if_ok_map : {A E : Type 0} (r : Result A E) (P Q : A → Type 0) → ((x : A) → P x → Q x) → IfOk r P → IfOk r Q
if_ok_map (Ok x) P Q f h = f x h
if_ok_map (Err e) P Q f h = tt

idle_read : (s t : SessionState) (before after : Option Traffic) (now : ℕ) (seen : Seen) → Carried before after [] [] → Hearing s [] now Idle seen t → ReadMade s before seen t after
idle_read s t before after now seen carried h = record {
  found = Idle;
  piece = [];
  carried = carried;
  heard = subst (λ (n : ℕ). Hearing s [] n Idle seen t) (sym h.moment) h;
}

-- a read of an idle link
pub idle_reads : (s t : SessionState) (before after : Option Traffic) (now : ℕ) (r : Result Seen Breach) → Carried before after [] [] → IfOk r (λ seen. Hearing s [] now Idle seen t) → IfOk r (λ seen. ReadMade s before seen t after)
idle_reads s t before after now r carried h =
    if_ok_map r (λ seen. Hearing s [] now Idle seen t) (λ seen. ReadMade s before seen t after) (λ seen k. idle_read s t before after now seen carried k) h

pub on_ok_map : {A E : Type 0} (r : Result A E) (P Q : Type 0) → (P → Q) → OnOk r P → OnOk r Q
on_ok_map (Ok x) P Q f h = f h
on_ok_map (Err e) P Q f h = tt
