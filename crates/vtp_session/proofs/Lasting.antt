-- Garbage that was met stays met.
use Rattle.std.proofs.Common.{◌≡◌, ℕ, Bool, true, false, List, ◌++◌, refl, sym, ◌∙◌, ap, subst, inl, inr, arith, append_assoc, length-append}
use Rattle.std.specs.Int.{w32, from_be_bytes}
use Rattle.std.specs.Prelude.{Option, Some, None, slice_get}
use Rattle.std.proofs.lemmas.List.{take-append-le}
use Rattle.xml_lexer.specs.Characters.{Text}
use Rattle.voe_packet.specs.declared.param.Param.{Param}
use Rattle.vtp_framing.specs.Frames.{Counts, frame}
use Rattle.vtp_messages.specs.declared.role.MessageRole.{MessageRole}
use Rattle.vtp_messages.specs.declared.role.MessageRole.TheVariants.{IAmAlive, Authenticate, Ack, Nak}
use Rattle.vtp_session.specs.Acts.{act_of, answer_at, answer_of, answer_to, auth_of, is_garbage, told_to}
use Rattle.vtp_session.specs.Places.{answered_at}
use Rattle.vtp_session.specs.State.{SessionState, IsBarredAt, MeetsGarbage}
use Rattle.vtp_session.specs.Watch.{Watch}
use Rattle.vtp_session.specs.declared.act.Act.TheVariants.{Garbage}
use Rattle.vtp_session.specs.declared.act.GarbageFault.{GarbageFault}
use Rattle.vtp_session.specs.declared.act.GarbageFault.TheVariants.{Empty, TooLong, BadRole, NoOrigin, Foreign}
use Rattle.vtp_session.specs.declared.said.Said.{Said}
use Rattle.vtp_session.specs.declared.said.Said.TheVariants as said
use Rattle.vtp_session.specs.declared.side.Side.{Side}
use Rattle.vtp_session.specs.declared.side.Side.TheVariants.{Author, Line, Feed, Take}

-- ---- behind more bytes

counts_more : (count : ℕ) (bytes more : List ℕ) → Counts count bytes → Counts count (bytes ++ more)
counts_more count bytes more c =
    let whole = length-append bytes more in
    let long = c.long in
    record { long = omega arith; value = ap (from_be_bytes w32) (take-append-le 4 bytes more long) ∙ c.value }

module _ (s : SessionState) (more : List ℕ) (watch : Watch) where
  abbrev fed : SessionState
  fed = record s { left = s.left ++ more; watch = watch }

  fed_barred : (place : ℕ) (why : GarbageFault) → IsBarredAt s place why → IsBarredAt fed place why
  fed_barred place Empty h = (counts_more 0 s.left more h.0, h.1)
  fed_barred place (TooLong count) h = (counts_more count s.left more h.0, h.1, h.2)
  fed_barred place BadRole h = absurd h
  fed_barred place NoOrigin h = absurd h
  fed_barred place Foreign h = absurd h

  fed_meets : (place : ℕ) (why : GarbageFault) → MeetsGarbage s place why → MeetsGarbage fed place why
  fed_meets place why (inl h) = inl (fed_barred place why h)
  fed_meets place why (inr h) = inr (record {
    payload = h.payload;
    after = h.after ++ more;
    front = record { fits = h.front.fits; parts = ap (λ b. b ++ more) h.front.parts ∙ append_assoc (frame h.payload) h.after more };
    meaning = h.meaning;
  })

-- ---- at another moment

module _ (s : SessionState) (watch : Watch) where
  abbrev watched : SessionState
  watched = record s { watch = watch }

  watched_barred : (place : ℕ) (why : GarbageFault) → IsBarredAt s place why → IsBarredAt watched place why
  watched_barred place Empty h = h
  watched_barred place (TooLong count) h = h
  watched_barred place BadRole h = absurd h
  watched_barred place NoOrigin h = absurd h
  watched_barred place Foreign h = absurd h

  watched_meets : (place : ℕ) (why : GarbageFault) → MeetsGarbage s place why → MeetsGarbage watched place why
  watched_meets place why (inl h) = inl (watched_barred place why h)
  watched_meets place why (inr h) = inr (record { payload = h.payload; after = h.after; front = h.front; meaning = h.meaning })

-- ---- with other packets unanswered

answer_to_some : (at : ℕ) (ack : Bool) (answer : Option Text) (o : Option (List ℕ)) → is_garbage (answer_to at ack answer o) ≡ false
answer_to_some at ack answer None = refl
answer_to_some at ack answer (Some identifier) = refl

answer_at_some : (ack : Bool) (answer : Option Text) (unanswered : List (List ℕ)) (o : Option ℕ) → is_garbage (answer_at ack answer unanswered o) ≡ false
answer_at_some ack answer unanswered None = refl
answer_at_some ack answer unanswered (Some at) = answer_to_some at ack answer (slice_get unanswered at)

answers : (ack : Bool) (origin : List ℕ) (response : Option (List ℕ)) (answer : Option Text) (unanswered : List (List ℕ)) → is_garbage (answer_of ack origin response answer unanswered) ≡ false
answers ack origin response answer unanswered = answer_at_some ack answer unanswered (answered_at ack origin response unanswered)

names : (response : Option (List ℕ)) (params : List Param) → is_garbage (auth_of response params) ≡ false
names None params = refl
names (Some name) params = refl

-- no message is garbage
told : (side : Side) (role : MessageRole) (origin : List ℕ) (response : Option (List ℕ)) (params : List Param) (answer : Option Text) (unanswered : List (List ℕ)) → is_garbage (told_to side role origin response params answer unanswered) ≡ false
told Author Ack origin response params answer unanswered = answers true origin response answer unanswered
told Author Nak origin response params answer unanswered = answers false origin response answer unanswered
told Author IAmAlive origin response params answer unanswered = refl
told Author Authenticate origin response params answer unanswered = refl
told Line role origin response params answer unanswered = refl
told Feed Ack origin response params answer unanswered = answers true origin response answer unanswered
told Feed Nak origin response params answer unanswered = answers false origin response answer unanswered
told Feed Authenticate origin response params answer unanswered = names response params
told Feed IAmAlive origin response params answer unanswered = refl
told Take IAmAlive origin response params answer unanswered = refl
told Take Authenticate origin response params answer unanswered = refl
told Take Ack origin response params answer unanswered = refl
told Take Nak origin response params answer unanswered = refl

garbage_act : (side : Side) (place at : ℕ) (payload : List ℕ) (u v : List (List ℕ)) (why : GarbageFault) (what : Said) → Garbage at why ≡ act_of side place payload u what → Garbage at why ≡ act_of side place payload v what
garbage_act side place at payload u v why said.Other e = e
garbage_act side place at payload u v why said.BadRole e = e
garbage_act side place at payload u v why said.NoOrigin e = e
garbage_act side place at payload u v why (said.Told m) e =
    absurd (let no = told side m.role m.origin m.response m.params m.result u in let yes = ap is_garbage e in cc)

module _ (s : SessionState) (unanswered : List (List ℕ)) where
  abbrev waited : SessionState
  waited = record s { unanswered = unanswered }

  waited_barred : (place : ℕ) (why : GarbageFault) → IsBarredAt s place why → IsBarredAt waited place why
  waited_barred place Empty h = h
  waited_barred place (TooLong count) h = h
  waited_barred place BadRole h = absurd h
  waited_barred place NoOrigin h = absurd h
  waited_barred place Foreign h = absurd h

  waited_meets : (place : ℕ) (why : GarbageFault) → MeetsGarbage s place why → MeetsGarbage waited place why
  waited_meets place why (inl h) = inl (waited_barred place why h)
  waited_meets place why (inr h) = inr (record {
    payload = h.payload;
    after = h.after;
    front = h.front;
    meaning = record { what = h.meaning.what; said = h.meaning.said; act_is = garbage_act s.side s.place place h.payload s.unanswered unanswered why h.meaning.what h.meaning.act_is };
  })

-- ---- of a session that was fed, watched or waits

pub fed_garbage : (s t : SessionState) (more : List ℕ) (watch : Watch) → t ≡ record s { left = s.left ++ more; watch = watch } → (place : ℕ) (why : GarbageFault) → MeetsGarbage s place why → MeetsGarbage t place why
fed_garbage s t more watch e place why h = subst (λ (x : SessionState). MeetsGarbage x place why) (sym e) (fed_meets s more watch place why h)

pub watched_garbage : (s t : SessionState) (watch : Watch) → t ≡ record s { watch = watch } → (place : ℕ) (why : GarbageFault) → MeetsGarbage s place why → MeetsGarbage t place why
watched_garbage s t watch e place why h = subst (λ (x : SessionState). MeetsGarbage x place why) (sym e) (watched_meets s watch place why h)

pub waiting_garbage : (s t : SessionState) (unanswered : List (List ℕ)) → t ≡ record s { unanswered = unanswered } → (place : ℕ) (why : GarbageFault) → MeetsGarbage s place why → MeetsGarbage t place why
waiting_garbage s t unanswered e place why h = subst (λ (x : SessionState). MeetsGarbage x place why) (sym e) (waited_meets s unanswered place why h)

pub same_garbage : (s t : SessionState) → t ≡ s → (place : ℕ) (why : GarbageFault) → MeetsGarbage s place why → MeetsGarbage t place why
same_garbage s t e place why h = subst (λ (x : SessionState). MeetsGarbage x place why) (sym e) h
