-- What a network shows of its nodes.
use Rattle.std.proofs.Common.{◌≡◌, ℕ, ◌≤◌, Bool, true, false, List, [], Some, None, length, refl, sym, ◌∙◌, ap, subst, arith}
use Rattle.std.specs.Prelude.{Option, IfSome, IsSome, cond, is_some, map, slice_get, ◌&&◌, ◌↔◌}
use Rattle.std.specs.Option.{option_copied}
use Rattle.std.specs.Borrow.{Bor}
use Rattle.voe_disk.specs.declared.disk.Disk.{Ghosts}
use Rattle.voe_disk.specs.declared.fail.DiskFail.{DiskFail}
use Rattle.voe_values.specs.EndName.{is_end_name}
use Rattle.voe_values.specs.declared.kind.NodeKind.{NodeKind}
use Rattle.voe_values.specs.declared.kind.NodeKind.TheVariants.{Author, Broker, Subscriber}
use Rattle.net_model.specs.declared.scenario.Graph.{Graph}
use Rattle.net_model.specs.Nodes.{is_up, notes_of}
use Rattle.node_notes.specs.Forms.{is_config, is_name}
use Rattle.node_book.specs.Ends.{EndView}
use Rattle.net_machine.specs.AtEnds.{AllTell, counts_of}
use Rattle.net_machine.specs.Counts.{NoneFell}
use Rattle.net_machine.specs.Ends as net_ends
use Rattle.net_machine.specs.Machine.{MachineView}
use Rattle.net_machine.specs.Parts.{IsWhole, Moment, Slot, configs_of, node_of, slot_of, slots_of}
use Rattle.net_machine.specs.declared.seat.Seat.{Seat}
use Rattle.voe_net.specs.Networks.{AllKeep, AreOwn, AreTheirDisks, IsEndOf, IsUpAs, network_of}
use Rattle.voe_net.specs.Nodes.{TellsCrash, disk_in, faults_of, if_kind, if_kind_up, is_same, nothing, show, show_up, steps_of}
use Rattle.voe_net.specs.Starting.{AllTellImages}
use Rattle.voe_net.specs.TakenBack.{AreTakenBack, IsTakenBack}
use Rattle.voe_net.proofs.Eaches.{each-maps, each-weaken, get-there, map-found, map-get, map-length, some-same}
use Rattle.std.proofs.lemmas.Option.{slice_get_within}

-- ---- a configuration without a name

not-and : (a b : Bool) → b ≡ false → (a && b) ≡ true → ⊥
not-and true b h both = cc
not-and false b h both = cc

first-of-and : (a b : Bool) → (a && b) ≡ true → a ≡ true
first-of-and true b h = refl
first-of-and false b h = h

nameless : is_end_name [] ≡ false
unfolding is_end_name
nameless = refl

pub not-nothing : is_config nothing.config ≡ true → ⊥
unfolding is_config is_name
not-nothing h = not-and _ (is_end_name []) nameless (first-of-and _ _ (first-of-and _ _ h))

-- ---- an end as it is shown

same-kind : (a b : NodeKind) → is_same a b ≡ true → b ≡ a
same-kind Author Author h = refl
same-kind Broker Broker h = refl
same-kind Subscriber Subscriber h = refl
same-kind Author Broker h = cc
same-kind Author Subscriber h = cc
same-kind Broker Author h = cc
same-kind Broker Subscriber h = cc
same-kind Subscriber Author h = cc
same-kind Subscriber Broker h = cc

is-same : (a : NodeKind) → is_same a a ≡ true
is-same Author = refl
is-same Broker = refl
is-same Subscriber = refl

copied-some : {X : Type 0} (found : Option (Bor X)) → is_some (option_copied found) ≡ is_some found
copied-some None = refl
copied-some (Some x) = refl

if-copied : {X : Type 0} (P : X → Type 0) (found : Option (Bor X)) → IfSome (option_copied found) P → IfSome found (λ x. P x.now)
if-copied P None h = h
if-copied P (Some x) h = h

module _ {D : Type 0} (disk : Ghosts D) (machine : MachineView (Option (EndView D))) (own : AreOwn machine.graph (slots_of show machine.parts.seats)) (n : ℕ) where
  as-seat : (up : Bool) (found : Option (EndView D)) (end : EndView D) → up ≡ true → found ≡ Some end
      → ◌≡◌ {A = Seat (Option (EndView D))} (record { up = up; end = found }) (record { up = true; end = Some end })
  as-seat up found end here is = rw (here, is) refl

  as-shown : (found : Option (EndView D)) (end : EndView D) → found ≡ Some end → end.down ≡ None
      → ◌≡◌ {A = net_ends.EndView} (show found) (record { config = end.config; notes = end.notes; sessions = end.sessions })
  as-shown found end is up = ap show is ∙ ap (show_up end) up

  module _ (seat : Seat (Option (EndView D))) (at : slice_get machine.parts.seats n ≡ Some seat) where
    slot-at : slice_get (slots_of show machine.parts.seats) n ≡ Some (slot_of show seat)
    slot-at = map-get (slot_of show) machine.parts.seats n seat at

    the-end : (end : EndView D) → seat.up ≡ true → seat.end ≡ Some end → end.down ≡ None → IsEndOf disk (network_of disk machine) n end
    the-end end here is up =
        let shown = as-shown seat.end end is up in
        record {
          config = map-get (λ slot. slot.view.config) (slots_of show machine.parts.seats) n (slot_of show seat) slot-at ∙ ap (λ view. Some view.config) shown;
          notes = ap notes_of (map-get node_of (slots_of show machine.parts.seats) n (slot_of show seat) slot-at) ∙ ap (λ view. view.notes) shown;
          steps = map-get (λ one. steps_of one.end) machine.parts.seats n seat at ∙ ap (λ found. Some (steps_of found)) is;
          faults = map-get (λ one. faults_of disk one.end) machine.parts.seats n seat at ∙ ap (λ found. Some (faults_of disk found)) is;
          seat = at ∙ ap Some (as-seat seat.up seat.end end here is);
        }

    shown-kind : (kind : NodeKind) (end : EndView D) (same : Bool) → seat.up ≡ true → seat.end ≡ Some end → end.down ≡ None
        → IfSome (cond same (Some end) None) (IsEndOf disk (network_of disk machine) n)
    shown-kind kind end true here is up = the-end end here is up
    shown-kind kind end false here is up = tt

    shown-up : (kind : NodeKind) (end : EndView D) (down : Option DiskFail) → seat.up ≡ true → seat.end ≡ Some end → end.down ≡ down
        → IfSome (if_kind_up kind end down) (IsEndOf disk (network_of disk machine) n)
    shown-up kind end (Some fail) here is up = tt
    shown-up kind end None here is up = shown-kind kind end (is_same kind end.config.kind) here is up

    shown-end : (kind : NodeKind) (found : Option (EndView D)) → seat.up ≡ true → seat.end ≡ found → IfSome (if_kind kind found) (IsEndOf disk (network_of disk machine) n)
    shown-end kind None here is = tt
    shown-end kind (Some end) here is = shown-up kind end end.down here is refl

    pub shown : (kind : NodeKind) (result : Option (Bor (EndView D))) → seat.up ≡ true → option_copied result ≡ if_kind kind seat.end
        → IfSome result (λ end. IsEndOf disk (network_of disk machine) n end.now)
    shown kind result here is =
        if-copied (IsEndOf disk (network_of disk machine) n) result
        (subst (λ (found : Option (EndView D)). IfSome found (IsEndOf disk (network_of disk machine) n)) (sym is) (shown-end kind seat.end here refl))

    up-at : is_up (slice_get (map node_of (slots_of show machine.parts.seats)) n) ≡ seat.up
    up-at = ap is_up (map-get node_of (slots_of show machine.parts.seats) n (slot_of show seat) slot-at)

    kind-at : (kind : NodeKind) → slice_get machine.graph.nodes n ≡ Some kind → (show seat.end).config.kind ≡ kind
    kind-at kind is = some-same _ kind (sym (own.own n (slot_of show seat) slot-at).kind ∙ is)

    there-kind : (kind : NodeKind) (end : EndView D) (same : Bool) → same ≡ is_same kind end.config.kind → seat.end ≡ Some end → end.down ≡ None
        → is_some (cond same (Some end) None) ≡ true → slice_get machine.graph.nodes n ≡ Some kind
    there-kind kind end true same is up h =
        (own.own n (slot_of show seat) slot-at).kind ∙ ap Some (ap (λ view. view.config.kind) (as-shown seat.end end is up) ∙ same-kind kind end.config.kind (sym same))
    there-kind kind end false same is up h = cc

    there-up : (kind : NodeKind) (end : EndView D) (down : Option DiskFail) → seat.end ≡ Some end → end.down ≡ down
        → is_some (if_kind_up kind end down) ≡ true → slice_get machine.graph.nodes n ≡ Some kind
    there-up kind end (Some fail) is up h = cc
    there-up kind end None is up h = there-kind kind end (is_same kind end.config.kind) refl is up h

    there-end : (kind : NodeKind) (found : Option (EndView D)) → seat.end ≡ found → is_some (if_kind kind found) ≡ true → slice_get machine.graph.nodes n ≡ Some kind
    there-end kind None is h = cc
    there-end kind (Some end) is h = there-up kind end end.down is refl h

    back-up : (kind : NodeKind) (end : EndView D) (down : Option DiskFail) → seat.end ≡ Some end → end.down ≡ down → is_config (show seat.end).config ≡ true
        → (show seat.end).config.kind ≡ kind → is_some (if_kind_up kind end down) ≡ true
    back-up kind end (Some fail) is up form same =
        absurd (not-nothing (subst (λ (view : net_ends.EndView). is_config view.config ≡ true) (ap show is ∙ ap (show_up end) up) form))
    back-up kind end None is up form same =
        let kinds : end.config.kind ≡ kind = sym (ap (λ view. view.config.kind) (as-shown seat.end end is up)) ∙ same in
        subst (λ (other : NodeKind). is_some (cond (is_same other end.config.kind) (Some end) None) ≡ true) kinds (some-true end.config.kind end)
      where
        some-true : (kind : NodeKind) (end : EndView D) → is_some (cond (is_same kind kind) (Some end) None) ≡ true
        some-true kind end = rw (is-same kind) refl

    back-end : (kind : NodeKind) (found : Option (EndView D)) → seat.end ≡ found → is_config (show seat.end).config ≡ true → (show seat.end).config.kind ≡ kind
        → is_some (if_kind kind found) ≡ true
    back-end kind None is form same = absurd (not-nothing (subst (λ (view : net_ends.EndView). is_config view.config ≡ true) (ap show is) form))
    back-end kind (Some end) is form same = back-up kind end end.down is refl form same

    pub there : (kind : NodeKind) (result : Option (Bor (EndView D))) → seat.up ≡ true → option_copied result ≡ if_kind kind seat.end
        → IsSome result ↔ IsUpAs kind (network_of disk machine) n
    there kind result here is =
        let some : is_some result ≡ is_some (if_kind kind seat.end) = sym (copied-some result) ∙ ap is_some is in (
          (λ h. (there-end kind seat.end refl (sym some ∙ h), up-at ∙ here)),
          (λ up. some ∙ back-end kind seat.end refl (own.forms n (slot_of show seat) slot-at) (kind-at kind up.0)),
        )

    pub not-there : (kind : NodeKind) → seat.up ≡ false → (false ≡ true) ↔ IsUpAs kind (network_of disk machine) n
    not-there kind down = ((λ h. cc), (λ up. sym down ∙ sym up-at ∙ up.1))

-- ---- what stays

pub kept-room : {N : Type 0} (count : N → ℕ) (old new : List (Seat N)) (capacity : ℕ) → NoneFell (counts_of count old) (counts_of count new) → length old ≤ capacity
    → length new ≤ capacity
kept-room count old new capacity grown enough =
    omega (arith, grown.same, map-length (λ seat. count seat.end) old, map-length (λ seat. count seat.end) new, enough)

pub own-after : (graph : Graph) (packets : List (List ℕ)) (old : List Slot) (new : Moment) → configs_of new.slots ≡ configs_of old → IsWhole graph packets new
    → AreOwn graph old → AreOwn graph new.slots
own-after graph packets old new configs whole own = record {
  nodes = whole.nodes;
  own = whole.own;
  forms = λ n slot at.
      let here = map-get (λ one. one.view.config) new.slots n slot at in
      let before = map-found (λ one. one.view.config) old n slot.view.config (sym (ap (λ all. slice_get all n) configs) ∙ here) in
      rw before.2 (own.forms n before.0 before.1);
}

-- ---- disks that are taken back

module _ {D : Type 0} (disk : Ghosts D) (seats : List (Seat (Option (EndView D)))) (disks : List D) (taken : AreTakenBack disk seats disks) where
  seat-of : (n : ℕ) (own : D) → slice_get disks n ≡ Some own → (seat : Seat (Option (EndView D))) × (slice_get seats n ≡ Some seat) × IsTakenBack disk seat.end own
  seat-of n own at =
      let seat = get-there seats n (omega (arith, slice_get_within disks n own at, taken.same)) in
      (seat.0, seat.1, taken.each n seat.0 own seat.1 at)

  pub taken-kept : (graph : Graph) → AreOwn graph (slots_of show seats) → AllKeep disk (configs_of (slots_of show seats)) (record { nodes = map node_of (slots_of show seats); wires = [] }) disks
  taken-kept graph own n one config at is =
      let seat = seat-of n one at in
      let slot = map-get (slot_of show) seats n seat.0 seat.1 in
      let here = map-get (λ other. other.view.config) (slots_of show seats) n (slot_of show seat.0) slot in
      let same : (show seat.0.end).config ≡ config = some-same _ config (sym here ∙ is) in
      let notes = ap notes_of (map-get node_of (slots_of show seats) n (slot_of show seat.0) slot) in
      rw (← same, notes) (seat.2.kept (own.forms n (slot_of show seat.0) slot))

  pub taken-told : AllTell (TellsCrash disk) seats → AllTellImages disk disks
  taken-told tells n one at = let seat = seat-of n one at in seat.2.told (tells n seat.0 seat.1)

  pub taken-counts : map disk.faults disks ≡ counts_of (faults_of disk) seats
  taken-counts = each-maps (λ seat. faults_of disk seat.end) disk.faults seats disks
      (each-weaken (λ n seat own. IsTakenBack disk seat.end own) (λ n seat own. disk.faults own ≡ faults_of disk seat.end) seats disks taken (λ n seat own one. one.faults))

  pub taken-theirs : AreTheirDisks seats disks
  taken-theirs = each-weaken (λ n seat own. IsTakenBack disk seat.end own) (λ n seat own. disk_in seat.end ≡ Some own) seats disks taken (λ n seat own one. one.its)
