-- Moves behind moves.
use Rattle.std.proofs.Common.{◌≡◌, ℕ, List, [], ◌∷◌, ◌++◌, sym, ap, refl, ◌∙◌, subst, append_assoc, inl, inr, ⊎_elim, ◌≤◌, arith, None, Some}
use Rattle.std.proofs.lemmas.List.{append-nil}
use Rattle.std.specs.declared.option.Option.{Option}
use Rattle.std.specs.Io.KnownBytes.{append_known}
use Rattle.voe_outside.specs.Causes.{Rose}
use Rattle.voe_outside.specs.Traffic.{Traffic}
use Rattle.vtp_framing.specs.Frames.{frame, frames}
use Rattle.vtp_session.specs.State.{SessionState}
use Rattle.vtp_server.specs.Moves.{Move, Read, Turn, Write, Tell, Idle, read_in, written_in, told_in, messages_read, messages_written, lines_told}
use Rattle.vtp_server.specs.Talk.{Terms, Rules, Course, Talk, Leads, course_after, course_after_move}
use Rattle.vtp_server.specs.Counts.{Counts, NeverFall}
use Rattle.vtp_server.specs.Ends.{Standing, Lost, nothing, Made, MakesOne, Breaks, EndsBy, EndsInWrite, EndsInLine, EndsInIdleRead, Ends, course_of, standing_of}
use Rattle.vtp_server.specs.Reading.{terms_of}
use Rattle.vtp_server.specs.declared.side.Next.{Next}
use Rattle.vtp_server.specs.declared.speech.Voice.{Voice}
use Rattle.vtp_server.specs.declared.breach.Breach.{Breach}
use Rattle.vtp_server.specs.declared.breach.Breach.TheVariants.{PeerClosed, Garbage, Silent, LinkFault, SinkFault, NoMemory}
use Rattle.vtp_server.specs.declared.breach.Parted.{Parted}
use Rattle.vtp_server.specs.declared.breach.Parted.TheVariants.{Broken, Stopped}
use Rattle.vtp_server.proofs.Carrying.{carried_more, carried_none}

pub frames-append : (xs ys : List (List ℕ)) → frames (xs ++ ys) ≡ frames xs ++ frames ys
frames-append [] ys = refl
frames-append (x ∷ xs) ys = ap (λ l. frame x ++ l) (frames-append xs ys) ∙ sym (append_assoc (frame x) (frames xs) (frames ys))

pub append_known-nil : (h : Option (List ℕ)) → h ≡ append_known h []
append_known-nil None = refl
append_known-nil (Some x) = ap Some (sym (append-nil x))

pub append_known-more : (h : Option (List ℕ)) (xs ys : List ℕ) → append_known (append_known h xs) ys ≡ append_known h (xs ++ ys)
append_known-more None xs ys = refl
append_known-more (Some x) xs ys = ap Some (append_assoc x xs ys)

module _ {A R : Type 0} where
  pub read-append : (ms ns : List (Move A R)) → messages_read (ms ++ ns) ≡ messages_read ms ++ messages_read ns
  read-append [] ns = refl
  read-append (m ∷ ms) ns = ap (λ l. read_in m ++ l) (read-append ms ns) ∙ sym (append_assoc (read_in m) (messages_read ms) (messages_read ns))

  pub written-append : (ms ns : List (Move A R)) → messages_written (ms ++ ns) ≡ messages_written ms ++ messages_written ns
  written-append [] ns = refl
  written-append (m ∷ ms) ns = ap (λ l. written_in m ++ l) (written-append ms ns) ∙ sym (append_assoc (written_in m) (messages_written ms) (messages_written ns))

  pub told-append : (ms ns : List (Move A R)) → lines_told (ms ++ ns) ≡ lines_told ms ++ lines_told ns
  told-append [] ns = refl
  told-append (m ∷ ms) ns = ap (λ l. told_in m ++ l) (told-append ms ns) ∙ sym (append_assoc (told_in m) (lines_told ms) (lines_told ns))

  pub leads-append : {T : Type 0} (acts : T → A → R → ℕ → ℕ → T → Type 0) (b m a : T) (ms ns : List (Move A R)) → Leads acts b ms m → Leads acts m ns a → Leads acts b (ms ++ ns) a
  leads-append acts b m a [] ns h k = subst (λ (x : _). Leads acts x ns a) h k
  leads-append acts b m a (Read found t ∷ ms) ns h k = leads-append acts b m a ms ns h k
  leads-append acts b m a (Turn ask reply place front ∷ ms) ns h k = (h.0, h.1, leads-append acts h.0 m a ms ns h.2 k)
  leads-append acts b m a (Write payload ∷ ms) ns h k = leads-append acts b m a ms ns h k
  leads-append acts b m a (Tell line ∷ ms) ns h k = leads-append acts b m a ms ns h k

module _ {S A R E : Type 0} (terms : Terms) (rules : Rules S A R E) where
  pub course-append : (c : Course S A E) (ms ns : List (Move A R)) → course_after terms rules c (ms ++ ns) ≡ course_after terms rules (course_after terms rules c ms) ns
  course-append c [] ns = refl
  course-append c (m ∷ ms) ns = course-append (course_after_move terms rules c m) ms ns

  pub talk-append : (c : Course S A E) (ms ns : List (Move A R)) → Talk terms rules c ms → Talk terms rules (course_after terms rules c ms) ns → Talk terms rules c (ms ++ ns)
  talk-append c [] ns h k = k
  talk-append c (m ∷ ms) ns h k = (h.0, talk-append (course_after_move terms rules c m) ms ns h.1 k)

-- the bytes of two parts, one behind the other
parts_join : (left taken rest more last : List ℕ) (xs ys : List (List ℕ)) → left ++ taken ≡ frames xs ++ rest → rest ++ more ≡ frames ys ++ last → left ++ (taken ++ more) ≡ frames (xs ++ ys) ++ last
parts_join left taken rest more last xs ys h k =
    sym (append_assoc left taken more) ∙ ap (λ l. l ++ more) h ∙ append_assoc (frames xs) rest more ∙ ap (λ l. frames xs ++ l) k
    ∙ sym (append_assoc (frames xs) (frames ys) last)
    ∙ ap (λ l. l ++ last) (sym (frames-append xs ys))

-- bytes that were put, and then others of which some were lost
put_join : (first more lost xs ys : List ℕ) → first ++ [] ≡ xs → more ++ lost ≡ ys → (first ++ more) ++ lost ≡ xs ++ ys
put_join first more lost xs ys h k =
    append_assoc first more lost ∙ ap (λ l. l ++ (more ++ lost)) (sym (append-nil first) ∙ h) ∙ ap (λ l. xs ++ l) k

-- moves behind moves that lost nothing
pub made_join : {S A R E T : Type 0} (terms : Terms) (rules : Rules S A R E) (acts : T → A → R → ℕ → ℕ → T → Type 0) (c : Course S A E) (b m a : Standing T) (ms ns : List (Move A R)) (lost : Lost) → Made terms rules acts c b ms nothing m → Made terms rules acts (course_after terms rules c ms) m ns lost a → Made terms rules acts c b (ms ++ ns) lost a
made_join terms rules acts c b m a ms ns lost h k = record {
  talk = talk-append terms rules c ms ns h.talk k.talk;
  taken = h.taken ++ k.taken;
  put = h.put ++ k.put;
  said = h.said ++ k.said;
  carried = carried_more b.traffic m.traffic a.traffic h.taken h.put k.taken k.put h.carried k.carried;
  told = k.told ∙ ap (λ x. append_known x k.said) h.told ∙ append_known-more b.held h.said k.said;
  read = parts_join b.left h.taken m.left k.taken a.left (messages_read ms) (messages_read ns) h.read k.read ∙ ap (λ l. frames l ++ a.left) (sym (read-append ms ns));
  wrote = put_join h.put k.put lost.link (frames (messages_written ms)) (frames (messages_written ns)) h.wrote k.wrote
      ∙ sym (frames-append (messages_written ms) (messages_written ns))
      ∙ ap frames (sym (written-append ms ns));
  lines = put_join h.said k.said lost.sink (lines_told ms) (lines_told ns) h.lines k.lines ∙ sym (told-append ms ns);
  turns = leads-append acts b.seat m.seat a.seat ms ns h.turns k.turns;
}

rose_more : (a b c : ℕ) → a ≤ b → Rose b c → Rose a c
rose_more a b c h r = omega arith

write_last : {A R : Type 0} (ms ns : List (Move A R)) → EndsInWrite ns → EndsInWrite (ms ++ ns)
write_last ms ns h = (ms ++ h.0, h.1, ap (λ l. ms ++ l) h.2 ∙ sym (append_assoc ms h.0 (Write h.1 ∷ [])))

line_last : {A R : Type 0} (ms ns : List (Move A R)) → EndsInLine ns → EndsInLine (ms ++ ns)
line_last ms ns h = (ms ++ h.0, h.1, ap (λ l. ms ++ l) h.2 ∙ sym (append_assoc ms h.0 (Tell h.1 ∷ [])))

idle_last : {A R : Type 0} (ms ns : List (Move A R)) (now : ℕ) → EndsInIdleRead ns now → EndsInIdleRead (ms ++ ns) now
idle_last ms ns now h = (ms ++ h.0, ap (λ l. ms ++ l) h.1 ∙ sym (append_assoc ms h.0 (Read Idle now ∷ [])))

-- a cause stays one behind more moves and counts
breaks_join : {S A R E : Type 0} (terms : Terms) (e : Breach) (c : Course S A E) (ms ns : List (Move A R)) (rest : List ℕ) (lost : Lost) (old mid new : Counts) → NeverFall old mid → Breaks terms e c ns rest lost mid new → Breaks terms e c (ms ++ ns) rest lost old new
breaks_join terms PeerClosed c ms ns rest lost old mid new f h = (h.0, h.1, rose_more old.link.ends mid.link.ends new.link.ends f.link.ends h.2)
breaks_join terms LinkFault c ms ns rest lost old mid new f h = (⊎_elim (λ x. inl x) (λ x. inr (write_last ms ns x.0, x.1)) h.0, rose_more old.link.faults mid.link.faults new.link.faults f.link.faults h.1)
breaks_join terms SinkFault c ms ns rest lost old mid new f h = (line_last ms ns h.0, h.1, rose_more old.sink mid.sink new.sink f.sink h.2)
breaks_join terms (Garbage place why) c ms ns rest lost old mid new f h = h
breaks_join terms (Silent heard now) c ms ns rest lost old mid new f h = (
  record {
    unfinished = h.0.unfinished;
    at = h.0.at;
    idle = idle_last ms ns h.0.at h.0.idle;
    heard_is = h.0.heard_is;
    now_is = h.0.now_is;
    silent = h.0.silent;
  },
  h.1,
  rose_more old.link.idles mid.link.idles new.link.idles f.link.idles h.2,
)
breaks_join terms NoMemory c ms ns rest lost old mid new f h = h

cause_join : {S A R E : Type 0} (terms : Terms) (e : Parted E) (c : Course S A E) (ms ns : List (Move A R)) (rest : List ℕ) (lost : Lost) (old mid new : Counts) → NeverFall old mid → EndsBy terms e c ns rest lost mid new → EndsBy terms e c (ms ++ ns) rest lost old new
cause_join terms (Broken breach) c ms ns rest lost old mid new f h = breaks_join terms breach c ms ns rest lost old mid new f h
cause_join terms (Stopped stop) c ms ns rest lost old mid new f h = h

module _ {S A R E T : Type 0} (rules : Rules S A R E) (acts : T → A → R → ℕ → ℕ → T → Type 0) where
  -- an end behind moves
  pub ends_join : (terms : Terms) (c d : Course S A E) (b m : Standing T) (ms : List (Move A R)) (e : Parted E) (seat : T) (traffic : Option Traffic) (held : Option (List ℕ)) (old mid new : Counts) → Made terms rules acts c b ms nothing m → d ≡ course_after terms rules c ms → NeverFall old mid → Ends terms rules acts d m e seat traffic held mid new → Ends terms rules acts c b e seat traffic held old new
  ends_join terms c d b m ms e seat traffic held old mid new made k falls h =
      let a : Standing T = record { left = h.rest; seat = seat; traffic = traffic; held = held } in
      let there = subst (λ (x : Course S A E). Made terms rules acts x m h.moves h.lost a × EndsBy terms e (course_after terms rules x h.moves) h.moves h.rest h.lost mid new) k (h.made, h.cause) in
      record {
        moves = ms ++ h.moves;
        rest = h.rest;
        lost = h.lost;
        made = made_join terms rules acts c b m a ms h.moves h.lost made there.0;
        cause = cause_join terms e (course_after terms rules c (ms ++ h.moves)) ms h.moves h.rest h.lost old mid new falls (subst (λ (x : Course S A E). EndsBy terms e x h.moves h.rest h.lost mid new) (sym (course-append terms rules c ms h.moves)) there.1);
      }

  -- these moves were made, and the connection goes on
  pub record GoesOn (terms : Terms) (c : Course S A E) (b : Standing T) (d : Course S A E) (m : Standing T) : Type 0 where
    pub moves : List (Move A R)
    pub made : Made terms rules acts c b moves nothing m
    pub course : d ≡ course_after terms rules c moves

  pub goes_nowhere : (terms : Terms) (s : SessionState) (memory : S) (n : Next A E) (seat : T) (traffic : Option Traffic) (held : Option (List ℕ)) → GoesOn terms (course_of memory n s) (standing_of s seat traffic held) (course_of memory n s) (standing_of s seat traffic held)
  goes_nowhere terms s memory n seat traffic held = record {
    moves = [];
    made = record {
      talk = tt;
      taken = [];
      put = [];
      said = [];
      carried = carried_none traffic traffic refl;
      told = append_known-nil held;
      read = append-nil s.left;
      wrote = refl;
      lines = refl;
      turns = refl;
    };
    course = refl;
  }

  pub goes_on : (terms : Terms) (c d e : Course S A E) (b m a : Standing T) → GoesOn terms c b d m → MakesOne terms rules acts d m e a → GoesOn terms c b e a
  goes_on terms c d e b m a g o = record {
    moves = g.moves ++ o.move ∷ [];
    made = made_join terms rules acts c b m a g.moves (o.move ∷ []) nothing g.made (subst (λ (x : Course S A E). Made terms rules acts x m (o.move ∷ []) nothing a) g.course o.made);
    course = o.course ∙ ap (λ x. course_after_move terms rules x o.move) g.course ∙ sym (course-append terms rules c g.moves (o.move ∷ []));
  }

pub falls_on : (a b c : Counts) → NeverFall a b → NeverFall b c → NeverFall a c
falls_on a b c h k = record {
  link = record {
    faults = omega (arith, h.link.faults, k.link.faults);
    idles = omega (arith, h.link.idles, k.link.idles);
    ends = omega (arith, h.link.ends, k.link.ends);
  };
  sink = omega (arith, h.sink, k.sink);
}

pub falls_nowhere : (a : Counts) → NeverFall a a
falls_nowhere a = record { link = record { faults = omega arith; idles = omega arith; ends = omega arith }; sink = omega arith }

pub terms_same : (voice : Voice) (s t : SessionState) → s.side ≡ t.side → s.times ≡ t.times → terms_of voice s ≡ terms_of voice t
terms_same voice s t side times = λ i. record { side = side i; times = times i; voice = voice }
