-- How disks come back.
use Rattle.std.proofs.Common.{◌≡◌, ℕ, zero, suc, ◌+◌, ◌≤◌, List, [], ◌∷◌, ◌++◌, Some, None, inl, inr, length, take, refl, sym, ◌∙◌, ap, arith, append_assoc, length-append}
use Rattle.std.specs.Prelude.{Option, Result, IfErr, IfOk, Ok, Err, reverse, slice_get, true}
use Rattle.std.proofs.lemmas.List.{append-nil, length-reverse, reverse-append, reverse-reverse}
use Rattle.std.proofs.lemmas.Option.{slice_get_within}
use Rattle.voe_disk.specs.Disk.{Rose}
use Rattle.voe_disk.specs.declared.disk.Disk.{Ghosts}
use Rattle.node_book.specs.Ends.{EndView}
use Rattle.net_machine.specs.declared.seat.Seat.{Seat}
use Rattle.voe_scenario.specs.declared.graph.Graph.{Graph}
use Rattle.voe_scenario.specs.Shapes.{config_of}
use Rattle.net_machine.specs.Machine.{MachineView}
use Rattle.voe_net.specs.Begun.{AreBegun, HasStarted, HasStopped, IsCauseAt}
use Rattle.voe_net.specs.Each.{Each}
use Rattle.voe_net.specs.Looking.{AreLooked, IsLooked, NoneFailed, SeesFault}
use Rattle.voe_net.specs.Nodes.{IsBegun}
use Rattle.voe_net.specs.Starting.{AllBlank, AllReadSame, AreBack, Explains, NoneArmed}
use Rattle.voe_net.specs.TakenBack.{AreTakenBack, IsTakenBack}
use Rattle.voe_net.specs.declared.fault.NetFault.{NetFault}
use Rattle.voe_net.specs.declared.fault.NetFault.TheVariants.{AlreadyMade, Disk, NoMemory}
use Rattle.voe_net.proofs.Eaches.{each-append, each-cons, each-follow, each-none, each-self, each-snoc, each-weaken, get-either, get-seam, get-there}
use Rattle.voe_net.proofs.Looks.{blank-before, blank-same}

-- what is written over all of a list
pub take-first : {X : Type 0} (xs ys : List X) (n : ℕ) → n ≡ length xs → take n (xs ++ ys) ≡ xs
take-first [] ys n is = rw is refl
take-first (x ∷ xs) ys n is = rw is (ap (λ rest. x ∷ rest) (take-first xs ys (length xs) refl))

-- ---- taking disks out of their nodes

abbrev pub Taken : {D : Type 0} → Ghosts D → List (Seat (Option (EndView D))) → List (Seat (Option (EndView D))) → List D → List D → Type 0
Taken disk all left disks now = (gone : List _) × (back : List _) × (all ≡ left ++ gone) × AreTakenBack disk gone back × (now ≡ disks ++ reverse back)

pub taken-first : {D : Type 0} (disk : Ghosts D) (all : List (Seat (Option (EndView D)))) (disks : List D) → Taken disk all all disks disks
taken-first disk all disks = ([], [], sym (append-nil all), each-none _, sym (append-nil disks))

pub taken-on : {D : Type 0} (disk : Ghosts D) (all before left : List (Seat (Option (EndView D)))) (seat : Seat (Option (EndView D))) (disks were now : List D) (own : D)
    → Taken disk all before disks were → before ≡ left ++ seat ∷ [] → IsTakenBack disk seat.end own → now ≡ were ++ own ∷ [] → Taken disk all left disks now
taken-on disk all before left seat disks were now own so_far last one more =
    let gone = so_far.0 in
    let back = so_far.1 in (
      seat ∷ gone,
      own ∷ back,
      so_far.2 ∙ ap (λ xs. xs ++ gone) last ∙ append_assoc left (seat ∷ []) gone,
      each-cons (λ s d. IsTakenBack disk s.end d) seat own gone back one so_far.3,
      more ∙ ap (λ xs. xs ++ own ∷ []) so_far.4 ∙ append_assoc disks (reverse back) (own ∷ []) ∙ ap (λ xs. disks ++ xs) (sym (reverse-append (own ∷ []) back)),
    )

pub taken-all : {D : Type 0} (disk : Ghosts D) (all left : List (Seat (Option (EndView D)))) (disks now : List D) → Taken disk all left disks now → left ≡ []
    → (first : List D) × AreTakenBack disk all first × (reverse now ≡ first ++ reverse disks)
taken-all disk all left disks now so_far none =
    let is : all ≡ so_far.0 = so_far.2 ∙ ap (λ xs. xs ++ so_far.0) none in
    (so_far.1, rw is so_far.3, ap reverse so_far.4 ∙ reverse-append disks (reverse so_far.1) ∙ ap (λ xs. xs ++ reverse disks) (reverse-reverse so_far.1))

-- ---- making nodes

abbrev pub Made : {D : Type 0} → Ghosts D → Graph → List D → List D → List (Seat (Option (EndView D))) → Type 0
Made disk graph all left seats = (first : List _) × (all ≡ first ++ reverse left) × AreBegun disk graph first seats

last-first : {X : Type 0} (left : List X) (x : X) → reverse (left ++ x ∷ []) ≡ x ∷ reverse left
last-first left x = reverse-append left (x ∷ [])

pub next-there : {D : Type 0} (disk : Ghosts D) (graph : Graph) (all before left : List D) (own : D) (seats : List (Seat (Option (EndView D)))) (made : Made disk graph all before seats)
    → before ≡ left ++ own ∷ [] → slice_get all (length made.0) ≡ Some own
next-there disk graph all before left own seats made last =
    let is : all ≡ made.0 ++ own ∷ reverse left = made.1 ∙ ap (λ xs. made.0 ++ reverse xs) last ∙ ap (λ xs. made.0 ++ xs) (last-first left own) in
    rw is (get-seam made.0 own (reverse left))

pub made-on : {D : Type 0} (disk : Ghosts D) (graph : Graph) (all before left : List D) (own : D) (seats now : List (Seat (Option (EndView D)))) (end : Option (EndView D)) (n : ℕ)
    → Made disk graph all before seats → before ≡ left ++ own ∷ [] → n ≡ length seats → IsBegun disk (config_of graph n) own end
    → now ≡ seats ++ record { up = true; end = end } ∷ [] → Made disk graph all left now
made-on disk graph all before left own seats now end n made last count begun more =
    let first = made.0 in
    let same : n ≡ length first = omega (arith, made.2.same, count) in
    let here = rw same at begun in (
      first ++ own ∷ [],
      made.1 ∙ ap (λ xs. first ++ reverse xs) last ∙ ap (λ xs. first ++ xs) (last-first left own) ∙ sym (append_assoc first (own ∷ []) (reverse left)),
      rw more (each-snoc (λ k d s. (s.up ≡ true) × IsBegun disk (config_of graph k) d s.end) first seats own (record { up = true; end = end }) made.2 (refl, here)),
    )

pub stopped-count : {D : Type 0} (disk : Ghosts D) (graph : Graph) (all left : List D) (seats : List (Seat (Option (EndView D)))) (fault : NetFault)
    → HasStopped disk graph all left seats fault → length seats + length left ≡ length all
stopped-count disk graph all left seats fault stopped =
    let one = ap length stopped.left_is in
    let two = ap length stopped.all in
    omega (arith, stopped.begun.same, length-reverse left, one, two, length-append stopped.first (stopped.was ∷ stopped.rest))

-- ---- disks that came back

none-armed-append : {D : Type 0} (disk : Ghosts D) (xs ys : List D) → NoneArmed disk xs → NoneArmed disk ys → NoneArmed disk (xs ++ ys)
none-armed-append disk xs ys first second n own at = elim (get-either xs ys n own at) [ inl left ↦ first n own left | inr right ↦ second right.0 own right.2 ]

none-armed-cons : {D : Type 0} (disk : Ghosts D) (x : D) (ys : List D) → (disk.arming x).calls ≡ None → NoneArmed disk ys → NoneArmed disk (x ∷ ys)
none-armed-cons disk x ys first rest n own at = elim (get-either (x ∷ []) ys n own at) [ inl left ↦ only n left | inr right ↦ rest right.0 own right.2 ]
  where
    only : (k : ℕ) → slice_get (x ∷ []) k ≡ Some own → (disk.arming own).calls ≡ None
    only zero h = let same : x ≡ own = cc in rw (← same) first
    only (suc k) h = cc

none-armed-rest : {D : Type 0} (disk : Ghosts D) (xs : List D) (x : D) (ys : List D) → NoneArmed disk (xs ++ x ∷ ys) → NoneArmed disk ys
none-armed-rest disk [] x ys all n own at = all (suc n) own at
none-armed-rest disk (y ∷ xs) x ys all n own at = none-armed-rest disk xs x ys (λ k other is. all (suc k) other is) n own at

pub taken-unarmed : {D : Type 0} (disk : Ghosts D) (seats : List (Seat (Option (EndView D)))) (back : List D) → AreTakenBack disk seats back → NoneArmed disk back
taken-unarmed disk seats back taken n own at =
    let seat = get-there seats n (omega (arith, slice_get_within back n own at, taken.same)) in
    (taken.each n seat.0 own seat.1 at).unarmed

-- the counts of faults stay
pub begun-counts : {D : Type 0} (disk : Ghosts D) (graph : Graph) (disks : List D) (seats : List (Seat (Option (EndView D)))) (back : List D)
    → AreBegun disk graph disks seats → AreTakenBack disk seats back → Each (λ n was now. disk.faults was ≤ disk.faults now) disks back
begun-counts disk graph disks seats back begun taken =
    each-follow (λ k d s. (s.up ≡ true) × IsBegun disk (config_of graph k) d s.end) (λ n s own. IsTakenBack disk s.end own) (λ n was now. disk.faults was ≤ disk.faults now)
    disks seats back begun taken (λ n was seat now one two. let same : disk.faults now ≡ disk.faults was = two.faults ∙ one.1.same_count in omega arith)

pub all-back : {D : Type 0} (disk : Ghosts D) (graph : Graph) (disks : List D) (seats : List (Seat (Option (EndView D)))) (back : List D)
    → AreBegun disk graph disks seats → AreTakenBack disk seats back → AreBack disk disks back NoMemory
all-back disk graph disks seats back begun taken =
    record { counts = begun-counts disk graph disks seats back begun taken; unarmed = taken-unarmed disk seats back taken; cause = tt }

stopped-cause : {D : Type 0} (disk : Ghosts D) (first : List D) (was now : D) (rest back : List D) (fault : NetFault) → length back ≡ length first
    → IsCauseAt disk (length first) was now fault → Explains disk (first ++ was ∷ rest) (back ++ now ∷ rest) fault
stopped-cause disk first was now rest back (AlreadyMade n) same cause = absurd cause
stopped-cause disk first was now rest back (Disk n) same cause = record {
  was = was;
  now = now;
  there = rw cause.0 (get-seam first was rest);
  back = let here : n ≡ length back = cause.0 ∙ sym same in rw here (get-seam back now rest);
  rose = cause.1;
}
stopped-cause disk first was now rest back NoMemory same cause = tt

stopped-lists : {D : Type 0} (disk : Ghosts D) (graph : Graph) (first : List D) (was now : D) (rest back : List D) (seats : List (Seat (Option (EndView D)))) (fault : NetFault)
    → AreBegun disk graph first seats → AreTakenBack disk seats back → disk.faults was ≤ disk.faults now → (disk.arming now).calls ≡ None
    → IsCauseAt disk (length first) was now fault → NoneArmed disk (first ++ was ∷ rest) → AreBack disk (first ++ was ∷ rest) (back ++ now ∷ rest) fault
stopped-lists disk graph first was now rest back seats fault begun taken later unarmed cause all = record {
  counts = each-append (λ n a b. disk.faults a ≤ disk.faults b) first (was ∷ rest) back (now ∷ rest) (begun-counts disk graph first seats back begun taken)
      (each-cons (λ a b. disk.faults a ≤ disk.faults b) was now rest rest later (each-self (λ n a b. disk.faults a ≤ disk.faults b) rest (λ n own at. omega arith)));
  unarmed = none-armed-append disk back (now ∷ rest) (taken-unarmed disk seats back taken) (none-armed-cons disk now rest unarmed (none-armed-rest disk first was rest all));
  cause = stopped-cause disk first was now rest back fault (taken.same ∙ begun.same) cause;
}

pub stopped-back : {D : Type 0} (disk : Ghosts D) (graph : Graph) (all left : List D) (seats : List (Seat (Option (EndView D)))) (fault : NetFault) (back : List D)
    → HasStopped disk graph all left seats fault → AreTakenBack disk seats back → NoneArmed disk all → AreBack disk all (back ++ reverse left) fault
stopped-back disk graph all left seats fault back stopped taken unarmed =
    let lists = stopped-lists disk graph stopped.first stopped.was stopped.now stopped.rest back seats fault stopped.begun taken stopped.refused.later stopped.refused.unarmed
    stopped.refused.cause (rw stopped.all at unarmed) in
    rw (stopped.all, stopped.left_is) lists

pub untouched-back : {D : Type 0} (disk : Ghosts D) (disks : List D) → NoneArmed disk disks → AreBack disk disks disks NoMemory
untouched-back disk disks unarmed =
    record { counts = each-self (λ n a b. disk.faults a ≤ disk.faults b) disks (λ n own at. omega arith); unarmed = unarmed; cause = tt }

-- ---- disks that were looked at before

pub looked-unarmed : {D : Type 0} (disk : Ghosts D) (old mid : List D) → AreLooked disk old mid → NoneArmed disk old → NoneArmed disk mid
looked-unarmed disk old mid looked unarmed n own at =
    let was = get-there old n (omega (arith, slice_get_within mid n own at, looked.same)) in
    ap (λ arming. arming.calls) (looked.each n was.0 own was.1 at).arming ∙ unarmed n was.0 was.1

pub looked-blank : {D : Type 0} (disk : Ghosts D) (old mid : List D) → AreLooked disk old mid → AllBlank disk old → AllBlank disk mid
looked-blank disk old mid looked blank n own at =
    let was = get-there old n (omega (arith, slice_get_within mid n own at, looked.same)) in
    blank-same disk was.0 own (looked.each n was.0 own was.1 at) (blank n was.0 was.1)

looked-same : {D : Type 0} (disk : Ghosts D) (old mid : List D) → AreLooked disk old mid → AllReadSame disk old mid
looked-same disk old mid looked n was now at is = (looked.each n was now at is).reads

seen-cause : {D : Type 0} (disk : Ghosts D) (old mid : List D) (fault : NetFault) → AreLooked disk old mid → SeesFault disk old mid fault → Explains disk old mid fault
seen-cause disk old mid (AlreadyMade n) looked sees = (sees, looked-same disk old mid looked)
seen-cause disk old mid (Disk n) looked sees = sees
seen-cause disk old mid NoMemory looked sees = tt

pub looked-back : {D : Type 0} (disk : Ghosts D) (old mid : List D) (fault : NetFault) → AreLooked disk old mid → SeesFault disk old mid fault → NoneArmed disk old
    → AreBack disk old mid fault
looked-back disk old mid fault looked sees unarmed = record {
  counts = each-weaken (λ n was now. IsLooked disk was now) (λ n a b. disk.faults a ≤ disk.faults b) old mid looked (λ n a b h. h.later);
  unarmed = looked-unarmed disk old mid looked unarmed;
  cause = seen-cause disk old mid fault looked sees;
}

rose-before : (first before now : ℕ) → first ≤ before → Rose before now → Rose first now
rose-before first before now h rose = omega (arith, h, rose)

later-cause : {D : Type 0} (disk : Ghosts D) (old mid new : List D) (fault : NetFault) → AreLooked disk old mid → length new ≡ length mid → Explains disk mid new fault
    → Explains disk old new fault
later-cause disk old mid new (AlreadyMade n) looked same cause =
    let own = get-there old n (omega (arith, slice_get_within mid n cause.0.own cause.0.there, looked.same)) in (
      record {
        own = own.0;
        there = own.1;
        made = λ blank. cause.0.made (blank-same disk own.0 cause.0.own (looked.each n own.0 cause.0.own own.1 cause.0.there) blank);
        before = λ k other below at.
            let between = get-there mid k (omega (arith, slice_get_within old k other at, looked.same)) in
            blank-before disk other between.0 (looked.each k other between.0 at between.1) (cause.0.before k between.0 below between.1);
      },
      (λ k was now at is.
          let between = get-there mid k (omega (arith, slice_get_within old k was at, looked.same)) in
          cause.1 k between.0 now between.1 is ∙ (looked.each k was between.0 at between.1).reads),
    )
later-cause disk old mid new (Disk n) looked same cause =
    let own = get-there old n (omega (arith, slice_get_within mid n cause.was cause.there, looked.same)) in
    record {
      was = own.0;
      now = cause.now;
      there = own.1;
      back = cause.back;
      rose = rose-before (disk.faults own.0) (disk.faults cause.was) (disk.faults cause.now) (looked.each n own.0 cause.was own.1 cause.there).later cause.rose;
    }
later-cause disk old mid new NoMemory looked same cause = tt

pub later-back : {D : Type 0} (disk : Ghosts D) (old mid new : List D) (fault : NetFault) → AreLooked disk old mid → AreBack disk mid new fault → AreBack disk old new fault
later-back disk old mid new fault looked back = record {
  counts = each-follow (λ n was now. IsLooked disk was now) (λ n a b. disk.faults a ≤ disk.faults b) (λ n a b. disk.faults a ≤ disk.faults b) old mid new looked back.counts
      (λ n a b c one two. omega (arith, one.later, two));
  unarmed = back.unarmed;
  cause = later-cause disk old mid new fault looked back.counts.same back.cause;
}

pub begun-before : {D : Type 0} (disk : Ghosts D) (graph : Graph) (old mid : List D) (seats : List (Seat (Option (EndView D)))) → AreLooked disk old mid → NoneFailed disk old mid
    → AreBegun disk graph mid seats → AreBegun disk graph old seats
begun-before disk graph old mid seats looked quiet begun = record {
  same = begun.same ∙ looked.same;
  each = λ n own seat at is.
      let between = get-there mid n (omega (arith, slice_get_within old n own at, looked.same)) in
      let one = begun.each n between.0 seat between.1 is in
      let first = looked.each n own between.0 at between.1 in (
        one.0,
        record {
          shown = one.1.shown;
          same_count = one.1.same_count ∙ quiet.each n own between.0 at between.1;
          told = λ tells. one.1.told (λ fill. rw (first.images fill) (tells fill));
        },
      );
}

started-before : {D : Type 0} (disk : Ghosts D) (graph : Graph) (packets : List (List ℕ)) (old mid : List D) (machine : MachineView (Option (EndView D)))
    → AreLooked disk old mid → NoneFailed disk old mid → HasStarted disk graph packets mid machine → HasStarted disk graph packets old machine
started-before disk graph packets old mid machine looked quiet started = record {
  graph_is = started.graph_is;
  packets_are = started.packets_are;
  works = started.works;
  state = started.state;
  begun = begun-before disk graph old mid machine.parts.seats looked quiet started.begun;
}

-- the same of what was made, if it was
pub all-started : {D : Type 0} (disk : Ghosts D) (graph : Graph) (packets : List (List ℕ)) (old mid : List D) (result : Result (MachineView (Option (EndView D))) NetFault)
    → AreLooked disk old mid → NoneFailed disk old mid → IfOk result (HasStarted disk graph packets mid) → IfOk result (HasStarted disk graph packets old)
all-started disk graph packets old mid (Ok machine) looked quiet h = started-before disk graph packets old mid machine looked quiet h
all-started disk graph packets old mid (Err fault) looked quiet h = h

pub all-later : {D M : Type 0} (disk : Ghosts D) (old mid new : List D) (result : Result M NetFault) → AreLooked disk old mid → IfErr result (AreBack disk mid new)
    → IfErr result (AreBack disk old new)
all-later disk old mid new (Ok machine) looked h = h
all-later disk old mid new (Err fault) looked h = later-back disk old mid new fault looked h
