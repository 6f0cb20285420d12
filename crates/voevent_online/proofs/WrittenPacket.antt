-- What a step of an author does with a good packet.
use Rattle.std.proofs.Common.{◌≡◌, ◌⊎◌, ℕ, ◌≤◌, Bool, true, false, cond, List, [], ◌∷◌, ◌++◌, length, Some, None, refl, sym, ap, ◌∙◌, subst, inl, inr, ⊎_elim, arith}
use Rattle.std.proofs.lemmas.List.{append-nil}
use Rattle.xml_lexer.specs.Characters.{Text}
use Rattle.xml_lexer.specs.Token.{Token}
use Rattle.xml_lexer.proofs.Cuts.{covering_longest}
use Rattle.voe_tree.specs.Document.{IsRootOf, Spells}
use Rattle.voe_tree.specs.Rules.{root_missing}
use Rattle.voe_tree.specs.declared.element.Element.{Element}
use Rattle.voe_disk.specs.Disk.{Rose}
use Rattle.voe_disk.specs.declared.disk.Disk.{Ghosts}
use Rattle.std.specs.Prelude.{◌||◌}
use Rattle.std.proofs.lemmas.List.Folds.{list_any-append}
use Rattle.net_model.specs.Notes.{brings, knows}
use Rattle.net_model.proofs.Held.{bytes_eq-same}
use Rattle.net_model.specs.Rules.{NodeRules}
use Rattle.net_model.specs.Steps.{Outcome, adds, says, write_judged}
use Rattle.net_model.specs.declared.note.Note.{Note}
use Rattle.net_model.specs.declared.note.Note.TheVariants.{Wrote}
use Rattle.net_model.specs.declared.step.AuthorStep.{AuthorStep}
use Rattle.net_model.specs.declared.step.AuthorStep.TheVariants as a
use Rattle.net_model.specs.declared.step.Judged.{Judged}
use Rattle.net_model.specs.declared.step.Judged.TheVariants.{Good}
use Rattle.voe_validity.specs.Judging.{IsJudged}
use Rattle.voe_validity.proofs.Once.{judged_once}
use Rattle.node_book.specs.Ends.{EndView}
use Rattle.node_book.specs.EndSteps.{Happens, HasAnswered, HasCause, HasFallen, IsUnchanged, lacked_memory}
use Rattle.node_book.specs.Keeps.{has_room}
use Rattle.author_end.specs.Author.{AreRightFor, fate_of}
use Rattle.author_end.specs.declared.event.AuthorEvent.TheVariants.{Write}
use Rattle.vtp_server.specs.OneEnd.{IsAuthorStep, IsSameEnd}
use Rattle.voevent_online.specs.Held.{HasFallenAt, IsHeld, IsUnwritten, IsWriting, IsWritten, LacksRoom, WasKnown, writing_of}

-- ---- a good packet has bytes

no_tokens : (ks : List Token) (root : Element) → length ks ≤ 0 → IsRootOf root ks → ⊥
no_tokens [] root few r = let bad : Some (root_missing, 0) ≡ None = r.unbroken in cc
no_tokens (k ∷ ks) root few r = omega (arith, few)

not_spelled : (root : Element) → Spells root [] → ⊥
not_spelled root (ks, t, r) = no_tokens ks root (covering_longest [] [] ks [] refl t.1.1) r

pub good_some : (packet identifier : Text) → IsJudged packet (Good identifier) → 1 ≤ length packet
good_some [] identifier (root, s, j) = absurd (not_spelled root s)
good_some (byte ∷ bytes) identifier h = omega arith

-- ---- the step

module _ {D : Type 0} (disk : Ghosts D) (old new : EndView D) (identifier packet : List ℕ) where
  abbrev Fared : Outcome AuthorStep → AuthorStep → Type 0
  Fared outcome reply = HasAnswered disk old new outcome reply ⊎ (((faults : ℕ) × (stopped : Bool) × (reply ≡ a.Down faults stopped) × HasFallen disk old new outcome faults stopped) ⊎ ((reply ≡ a.NoMemory) × IsUnchanged disk old new))

  fared : (outcome : Outcome AuthorStep) (reply : AuthorStep) → Happens disk old new outcome reply (fate_of reply) → Fared outcome reply
  fared outcome (a.Down faults stopped) h = inr (inl (faults, stopped, refl, h))
  fared outcome a.NoMemory h = inr (inr (refl, h))
  fared outcome a.Wrote h = inl h
  fared outcome a.Known h = inl h
  fared outcome (a.Refused code) h = inl h
  fared outcome (a.Packet at own bytes) h = inl h
  fared outcome a.Nothing h = inl h
  fared outcome a.Noted h = inl h
  fared outcome a.Passed h = inl h
  fared outcome a.Full h = inl h

  lacks : (reply : AuthorStep) → fate_of reply ≡ lacked_memory → reply ≡ a.NoMemory
  lacks a.NoMemory e = refl
  lacks (a.Down faults stopped) e = absurd (cc)
  lacks a.Wrote e = absurd (cc)
  lacks a.Known e = absurd (cc)
  lacks (a.Refused code) e = absurd (cc)
  lacks (a.Packet at own bytes) e = absurd (cc)
  lacks a.Nothing e = absurd (cc)
  lacks a.Noted e = absurd (cc)
  lacks a.Passed e = absurd (cc)
  lacks a.Full e = absurd (cc)

  -- what each reply says
  abbrev pub WritesSo : AuthorStep → Type 0
  WritesSo a.Wrote = IsHeld disk identifier packet old new
  WritesSo a.Known = IsHeld disk identifier packet old new
  WritesSo a.Full = LacksRoom disk identifier packet old new
  WritesSo (a.Down faults stopped) = HasFallenAt disk identifier packet old new
  WritesSo a.NoMemory = IsUnwritten disk old new
  WritesSo _ = ⊥

  pub writing_says : (reply : AuthorStep) → WritesSo reply → IsWriting disk identifier packet (writing_of reply) old new
  writing_says a.Wrote h = h
  writing_says a.Known h = h
  writing_says a.Full h = h
  writing_says (a.Down faults stopped) h = h
  writing_says a.NoMemory h = h
  writing_says (a.Refused code) h = absurd h
  writing_says (a.Packet at own bytes) h = absurd h
  writing_says a.Nothing h = absurd h
  writing_says a.Noted h = absurd h
  writing_says a.Passed h = absurd h

  abbrev Own : Note
  Own = Wrote identifier packet

  no_note : new.notes ≡ old.notes ++ [] → new.notes ≡ old.notes
  no_note e = e ∙ append-nil old.notes

  fell : (stopped : Bool) → HasCause disk old.disk new.disk stopped → (disk.arming old.disk).calls ≡ None → Rose (disk.faults old.disk) (disk.faults new.disk)
  fell false cause unarmed = cause
  fell true cause unarmed = absurd (let no : None ≡ Some cause.1 = sym unarmed ∙ cause.2 in cc)

  module _ (reply : AuthorStep) (s : IsAuthorStep disk old (Write packet) reply new) where
    same : IsSameEnd disk old new
    same = record { config = s.config; same_disk = s.same_disk }

    writes_by : (known room : Bool) → knows old.notes identifier ≡ known → has_room old.config old.notes Own ≡ room
        → Fared (cond known (says a.Known) (adds room Own a.Wrote a.Full)) reply → WritesSo reply
    writes_by true room known_is room_is (inl h) =
        subst WritesSo (sym h.answer_is) (record { either = inl (record { known = known_is; notes = no_note h.notes_are }); up = h.still_up; same = same; sound = s.sound })
    writes_by false true known_is room_is (inl h) =
        subst WritesSo (sym h.answer_is) (record { either = inr (record { had_room = record { is_new = known_is; room = room_is }; notes = h.notes_are }); up = h.still_up; same = same; sound = s.sound })
    writes_by false false known_is room_is (inl h) =
        subst WritesSo (sym h.answer_is) (record { is_new = known_is; no_room = room_is; notes = no_note h.notes_are; up = h.still_up; same = same })
    writes_by true room known_is room_is (inr (inl h)) = absurd (h.3.adds_note refl)
    writes_by false true known_is room_is (inr (inl h)) =
        subst WritesSo (sym h.2) (record { had_room = record { is_new = known_is; room = room_is }; notes = h.3.notes_are; same = same; rose = fell h.1 h.3.cause })
    writes_by false false known_is room_is (inr (inl h)) = absurd (h.3.adds_note refl)
    writes_by known room known_is room_is (inr (inr h)) =
        subst WritesSo (sym h.0) (record { notes = h.1.notes_are; up = h.1.still_up; same = same })

    abbrev Outcomes : Bool → Outcome AuthorStep
    Outcomes room = cond (knows old.notes identifier) (says a.Known) (adds room Own a.Wrote a.Full)

    by_rules : old.down ≡ None → IsJudged packet (Good identifier) → (rules : NodeRules) × AreRightFor old.config (Write packet) rules → Fared (Outcomes (has_room old.config old.notes Own)) reply
    by_rules up good (rules, (judged, room)) =
        let is_good : rules.judge packet ≡ Good identifier = judged_once packet (rules.judge packet) (Good identifier) judged good in
        let h = subst (λ (j : Judged). Fared (write_judged rules old.notes packet j) reply) is_good (fared (write_judged rules old.notes packet (rules.judge packet)) reply (s.happens up rules (judged, room))) in
        subst (λ (r : Bool). Fared (Outcomes r) reply) (room old.notes Own) h

    pub writes_so : old.down ≡ None → IsJudged packet (Good identifier) → WritesSo reply
    writes_so up good =
        writes_by (knows old.notes identifier) (has_room old.config old.notes Own) refl refl
        (⊎_elim (λ lacked. inr (inr (lacks reply lacked, s.no_memory lacked))) (by_rules up good) (s.rules up))

  pub held_known : IsHeld disk identifier packet old new → knows new.notes identifier ≡ true
  held_known h =
      ⊎_elim
      (λ (was : WasKnown disk identifier old new). ap (λ (notes : List Note). knows notes identifier) was.notes ∙ was.known)
      (λ (written : IsWritten disk identifier packet old new). ap (λ (notes : List Note). knows notes identifier) written.notes ∙ (list_any-append (brings identifier) old.notes (Own ∷ []) ∙ or_right (knows old.notes identifier) (brings identifier Own || false) (or_left (brings identifier Own) (bytes_eq-same identifier))))
      h.either
    where
      or_right : (a b : Bool) → b ≡ true → (a || b) ≡ true
      or_right true b e = refl
      or_right false b e = e

      or_left : (a : Bool) → a ≡ true → (a || false) ≡ true
      or_left true e = refl
      or_left false e = absurd (cc)
