-- What stands at the front when there is nothing to hear, and when there is a barred count.
use Rattle.std.proofs.Common.{◌≡◌, ℕ, ◌+◌, List, take, drop, refl, inl, inr, ap}
use Rattle.std.specs.Prelude.{IfOk, OnErr, Result, Ok, Err}
use Rattle.voe_values.specs.declared.memory.NoMemory.{NoMemory}
use Rattle.vtp_framing.specs.Front.{IsUnfinished, LooksAt}
use Rattle.vtp_framing.specs.declared.unframer.Front.{Front}
use Rattle.vtp_framing.specs.declared.unframer.Front.TheVariants.{Unfinished, Empty, TooLong, Whole}
use Rattle.vtp_framing.proofs.FrameLemmas.{barred_frame, unfinished_barred, unfinished_frame, whole_begins}
use Rattle.vtp_session.specs.State.{BeginsWhole, IsBarredAt, NextOf, SessionState}
use Rattle.vtp_session.specs.declared.act.Act.{Act}
use Rattle.vtp_session.specs.declared.act.Act.TheVariants.{Nothing, Garbage}
use Rattle.vtp_session.specs.declared.act.GarbageFault.{GarbageFault}
use Rattle.vtp_session.proofs.Again.{OneTree, barred_counts, met_again}

pub look_unfinished : (f : Front) (bytes : List ℕ) → LooksAt f bytes → IsUnfinished bytes → f ≡ Unfinished
look_unfinished Unfinished bytes l u = refl
look_unfinished Empty bytes l u = absurd (unfinished_barred bytes u 0 l (inl refl))
look_unfinished (TooLong count) bytes l u = absurd (unfinished_barred bytes u count l.0 (inr l.1))
look_unfinished (Whole count) bytes l u = absurd (unfinished_frame bytes u (take count (drop 4 bytes)) (drop (4 + count) bytes) (whole_begins count bytes l))

act_nothing : (s t : SessionState) (a : Act) → IsUnfinished s.left → NextOf s a t → a ≡ Nothing
act_nothing s t Nothing u n = refl
act_nothing s t (Garbage place why) u (same, inl barred) =
    let counts = barred_counts s place why barred in absurd (unfinished_barred s.left u counts.0 counts.1 counts.2)
act_nothing s t (Garbage place why) u (same, inr met) = absurd (unfinished_frame s.left u met.payload met.after met.front)
act_nothing s t _ u n = absurd (unfinished_frame s.left u n.payload t.left n.front)

-- where a message is unfinished the answer is nothing
pub nothing_yet : (s t : SessionState) (r : Result Act NoMemory) → IfOk r (λ a. NextOf s a t) → OnErr r (BeginsWhole s.left) → IsUnfinished s.left → r ≡ Ok Nothing
nothing_yet s t (Ok a) ok err u = ap Ok (act_nothing s t a u ok)
nothing_yet s t (Err e) ok err u = absurd (unfinished_frame s.left u err.0 err.1.0 err.1.1)

-- where a barred count stands the answer is garbage
pub barred_next : (one : OneTree) (s t : SessionState) (r : Result Act NoMemory) (place : ℕ) (why : GarbageFault) → IfOk r (λ a. NextOf s a t) → OnErr r (BeginsWhole s.left) → IsBarredAt s place why → r ≡ Ok (Garbage place why)
barred_next one s t (Ok a) place why ok err barred = ap Ok (met_again one s t place why a (inl barred) ok)
barred_next one s t (Err e) place why ok err barred =
    let counts = barred_counts s place why barred in absurd (barred_frame counts.0 s.left counts.1 counts.2 err.0 err.1.0 err.1.1)
