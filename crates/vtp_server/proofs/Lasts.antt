-- What the last move of a talk is.
use Rattle.std.proofs.Common.{◌≡◌, ℕ, Bool, true, false, List, [], ◌∷◌, ◌++◌, length, sym, ap, refl, ◌∙◌, subst}
use Rattle.vtp_server.specs.Moves.{Move, Read, Turn, Write, Tell}
use Rattle.vtp_server.specs.Talk.{Terms, Rules, Course, MayCome, Says, Talk, course_after, course_after_move}
use Rattle.vtp_server.specs.Ends.{EndsInLine, EndsInTurn, StopsByTurns, TellsNothing, is_over, is_tell}
use Rattle.vtp_server.specs.declared.side.Next.{Next}
use Rattle.vtp_server.specs.declared.side.Next.TheVariants as next

-- what is over makes no move, and a next line is one
over_says : {A E : Type 0} (terms : Terms) (n : Next A E) (moment : ℕ) (payload : List ℕ) → is_over n ≡ true → Says terms n moment payload → ⊥
over_says terms (next.Over stop) moment payload e h = h
over_says terms next.Read moment payload e h = h
over_says terms (next.Ask ask) moment payload e h = h
over_says terms (next.Say speech) moment payload e h = absurd (cc)
over_says terms (next.Send identifier packet) moment payload e h = absurd (cc)
over_says terms (next.Tell line) moment payload e h = h

over_moves : {S A R E : Type 0} (terms : Terms) (c : Course S A E) (m : Move A R) → is_over c.next ≡ true → MayCome terms c m → ⊥
over_moves terms c (Read found t) e h = absurd (let no = sym (ap is_over h.0) ∙ e in cc)
over_moves terms c (Turn ask reply place front) e h = absurd (let no = sym (ap is_over h.0) ∙ e in cc)
over_moves terms c (Write payload) e h = over_says terms c.next c.watch.latest payload e h.0
over_moves terms c (Tell line) e h = absurd (let no = sym (ap is_over h.0) ∙ e in cc)

module _ {S A R E : Type 0} (terms : Terms) (rules : Rules S A R E) where
  -- a move behind others
  behind_more : (m : Move A R) (moves : List (Move A R)) (stop : E) → EndsInTurn rules moves stop → EndsInTurn rules (m ∷ moves) stop
  behind_more m moves stop h = record {
    others = m ∷ h.others;
    asked = h.asked;
    reply = h.reply;
    place = h.place;
    front = h.front;
    moves_are = ap (λ l. m ∷ l) h.moves_are;
    memory = h.memory;
    waits = h.waits;
    stops = h.stops;
  }

  -- the only move, after which the talk is over
  only_turn : StopsByTurns rules → (c : Course S A E) (m : Move A R) (stop : E) → (course_after_move terms rules c m).next ≡ next.Over stop → EndsInTurn rules (m ∷ []) stop
  only_turn by c (Turn ask reply place front) stop e = record {
    others = [];
    asked = ask;
    reply = reply;
    place = place;
    front = front;
    moves_are = refl;
    memory = c.memory;
    waits = length c.unanswered;
    stops = e;
  }
  only_turn by c (Read found t) stop e = absurd (let no = sym (by.read _ _ _ _) ∙ ap is_over e in cc)
  only_turn by c (Write payload) stop e = absurd (let no = sym (by.write _ _) ∙ ap is_over e in cc)
  only_turn by c (Tell line) stop e = absurd (let no = sym (by.line _ _) ∙ ap is_over e in cc)

  -- a talk that goes on is not over
  goes_further : (c : Course S A E) (n : Move A R) (ns : List (Move A R)) (stop : E) (over : Bool) → is_over c.next ≡ over → MayCome terms c n → (is_over c.next ≡ false → EndsInTurn rules (n ∷ ns) stop) → EndsInTurn rules (n ∷ ns) stop
  goes_further c n ns stop true e may on = absurd (over_moves terms c n e may)
  goes_further c n ns stop false e may on = on e

  -- a talk that is over ended in a turn
  pub last_turn : StopsByTurns rules → (c : Course S A E) (moves : List (Move A R)) (stop : E) → is_over c.next ≡ false → Talk terms rules c moves → (course_after terms rules c moves).next ≡ next.Over stop → EndsInTurn rules moves stop
  last_turn by c [] stop begins talk e = absurd (let no = sym begins ∙ ap is_over e in cc)
  last_turn by c (m ∷ []) stop begins talk e = only_turn by c m stop e
  last_turn by c (m ∷ (n ∷ ns)) stop begins talk e =
      behind_more m (n ∷ ns) stop
      (goes_further (course_after_move terms rules c m) n ns stop (is_over (course_after_move terms rules c m).next) refl talk.1.0 (λ on. last_turn by (course_after_move terms rules c m) (n ∷ ns) stop on talk.1 e))

  -- a side that tells nothing tells no line
  tells_not : TellsNothing rules → (c : Course S A E) (m : Move A R) → is_tell (course_after_move terms rules c m).next ≡ false
  tells_not none c (Read found t) = none.read _ _ _ _
  tells_not none c (Turn ask reply place front) = none.turn _ _ _ _
  tells_not none c (Write payload) = none.write _ _
  tells_not none c (Tell line) = none.line _ _

  no_line : TellsNothing rules → (c : Course S A E) (others : List (Move A R)) (line : List ℕ) → is_tell c.next ≡ false → Talk terms rules c (others ++ Tell line ∷ []) → ⊥
  no_line none c [] line begins talk = absurd (let no = sym begins ∙ ap is_tell talk.0.0 in cc)
  no_line none c (m ∷ others) line begins talk = no_line none (course_after_move terms rules c m) others line (tells_not none c m) talk.1

  pub no_last_line : TellsNothing rules → (c : Course S A E) (moves : List (Move A R)) → is_tell c.next ≡ false → Talk terms rules c moves → EndsInLine moves → ⊥
  no_last_line none c moves begins talk h = no_line none c h.0 h.1 begins (subst (λ (l : List (Move A R)). Talk terms rules c l) h.2 talk)
