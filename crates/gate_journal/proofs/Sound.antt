-- What a journal's disk stands for after an entry was written, or its writing failed.
use Rattle.std.proofs.Common.{◌≡◌, inl, inr, ℕ, ◌+◌, List, [], ◌∷◌, ◌++◌, length, Some, None, sym, ◌∙◌, ap, subst}
use Rattle.std.specs.Prelude.{◌↔◌, Option}
use Rattle.std.proofs.lemmas.List.{append-nil}
use Rattle.voe_disk.specs.Disk.{OneStep, WhereTold}
use Rattle.voe_disk.specs.Runs.{LeavesOnly, Moments, started, goes_on, joined, at_last}
use Rattle.voe_disk.specs.declared.disk.Disk.{Ghosts}
use Rattle.voe_disk.specs.declared.fail.DiskFail.{DiskFail}
use Rattle.gate_journal.specs.Appender.{HasPayloads}
use Rattle.gate_journal.specs.Format.{front, body_of, IsPayload, Stands, StandsBeforeOrAfter, StandsBeyond}
use Rattle.gate_journal.specs.Gate.{GateStep, Opened}
use Rattle.gate_journal.specs.Journal.{EachFile, IsSound}
use Rattle.gate_journal.proofs.Files.{either_stands, opened_stands, length-front-push}
use Rattle.gate_journal.proofs.Told.{told_by}

beyond : (payloads : List (List ℕ)) (file : List ℕ) → Stands file payloads → StandsBeyond payloads file
beyond payloads file stands = ([], subst (λ (l : List (List ℕ)). Stands file l) (sym (append-nil payloads)) stands)

either_beyond : (payloads : List (List ℕ)) (payload file : List ℕ) → StandsBeforeOrAfter payloads payload file → StandsBeyond payloads file
either_beyond payloads payload file (inl before) = beyond payloads file before
either_beyond payloads payload file (inr after) = (payload ∷ [], after)

pub up_sound : {D : Type 0} (disk : Ghosts D) (state : D) (payloads : List (List ℕ)) → EachFile disk state (λ file. Stands file payloads) → IsSound disk (record { disk = state; payloads = payloads; down = None })
up_sound disk state payloads each = record {
  up = λ _. each;
  begins = record { reading = λ file is. beyond payloads file (each.reading file is); images = λ image now. beyond payloads image (each.images image now) };
}

-- an appender that is not down
pub up_has : {D : Type 0} (disk : Ghosts D) (state : D) (end : ℕ) (payloads : List (List ℕ)) → end ≡ length (front payloads) → EachFile disk state (λ file. Stands file payloads)
    → HasPayloads disk (record { disk = state; end = end; down = None }) payloads
up_has disk state end payloads at_end each = record { sound = up_sound disk state payloads each; end = at_end }

-- one with no payload
pub empty_has : {D : Type 0} (disk : Ghosts D) (state : D) (end : ℕ) (payloads : List (List ℕ)) → payloads ≡ [] → end ≡ length (front payloads) → EachFile disk state (λ file. Stands file [])
    → HasPayloads disk (record { disk = state; end = end; down = None }) payloads
empty_has disk state end payloads none at_end each = up_has disk state end payloads at_end (subst (λ (l : List (List ℕ)). EachFile disk state (λ file. Stands file l)) (sym none) each)

down_sound : {D : Type 0} (disk : Ghosts D) (state : D) (had : List (List ℕ)) (payload : List ℕ) (fail : DiskFail) → EachFile disk state (StandsBeforeOrAfter had payload)
    → IsSound disk (record { disk = state; payloads = had; down = Some fail })
down_sound disk state had payload fail each = record {
  up = λ none. absurd (some_none none);
  begins = record {
    reading = λ file is. either_beyond had payload file (each.reading file is);
    images = λ image now. either_beyond had payload image (each.images image now);
  };
}
  where
    some_none : {X : Type 0} {x : X} → Some x ≡ None → ⊥
    some_none is = cc

-- Room was made, and the entry of a payload was written behind the gate.
module _ {D : Type 0} (disk : Ghosts D) (moments : Moments disk) (payload : List ℕ) (keeps : IsPayload payload) (body : List ℕ) (body_is : body ≡ body_of payload ++ 0 ∷ []) (gate : ℕ) (down : Option DiskFail) (up : down ≡ None)
    (start reserved new : D) (reading : disk.reads reserved ≡ disk.reads start) (images : (image : List ℕ) → disk.may_leave reserved image ↔ disk.may_leave start image)
    (step : OneStep disk.is_since disk.left_since disk.may_leave start reserved)
    (had : List (List ℕ)) (has : HasPayloads disk (record { disk = start; end = gate; down = down }) had) where
  stood : (from : List ℕ) → disk.may_leave reserved from → Stands from had
  stood from now = (has.sound.up up).images from ((images from).0 now)

  module _ (any_moment : LeavesOnly disk reserved new (λ image. (from : List ℕ) × disk.may_leave reserved from × GateStep gate body from image)) where
    pub on_the_way : LeavesOnly disk start new (StandsBeforeOrAfter had payload)
    on_the_way =
        let P = StandsBeforeOrAfter had payload in
        let begun = started disk moments P start (λ image now. inl ((has.sound.up up).images image now)) in
        let made_room = goes_on disk moments P start start reserved begun step (λ image now. inl (stood image now)) in
        let wrote : LeavesOnly disk reserved new P = record {
          later = any_moment.later;
          each = λ image left.
              let from = any_moment.each image left in
              either_stands had payload gate has.end body body_is keeps from.0 image (stood from.0 from.1) from.2;
        } in
        joined disk moments P start reserved new made_room wrote

    -- the disk has failed
    pub fallen_has : WhereTold (GateStep gate body) (disk.reads reserved) (disk.reads new) → (fail : DiskFail) → HasPayloads disk (record { disk = new; end = gate; down = Some fail }) had
    fallen_has torn fail = record {
      sound = down_sound disk new had payload fail (record {
        reading = told_by (GateStep gate body) (λ file. Stands file had) (StandsBeforeOrAfter had payload) (disk.reads reserved) (disk.reads new)
            (λ file is. (has.sound.up up).reading file (sym reading ∙ is)) torn (λ x y stands go. either_stands had payload gate has.end body body_is keeps x y stands go);
        images = at_last disk moments (StandsBeforeOrAfter had payload) start new on_the_way;
      });
      end = has.end;
    }

  -- the gate was opened
  pub grown_has : WhereTold (Opened gate body) (disk.reads reserved) (disk.reads new) → ((image : List ℕ) → disk.may_leave new image → (from : List ℕ) × disk.may_leave reserved from × Opened gate body from image)
      → HasPayloads disk (record { disk = new; end = gate + 5 + length payload; down = down }) (had ++ payload ∷ [])
  grown_has opened_reading opened =
      let each : EachFile disk new (λ file. Stands file (had ++ payload ∷ [])) = record {
        reading = told_by (Opened gate body) (λ file. Stands file had) (λ file. Stands file (had ++ payload ∷ [])) (disk.reads reserved) (disk.reads new)
            (λ file is. (has.sound.up up).reading file (sym reading ∙ is)) opened_reading (λ x y stands go. opened_stands had payload gate has.end body body_is keeps x y stands go);
        images = λ image now.
            let from = opened image now in
            opened_stands had payload gate has.end body body_is keeps from.0 image (stood from.0 from.1) from.2;
      } in
      let at_end = ap (λ (n : ℕ). n + 5 + length payload) has.end ∙ sym (length-front-push had payload) in
      subst (λ (o : Option DiskFail). HasPayloads disk (record { disk = new; end = gate + 5 + length payload; down = o }) (had ++ payload ∷ [])) (sym up) (up_has disk new (gate + 5 + length payload) (had ++ payload ∷ []) at_end each)
