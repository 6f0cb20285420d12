-- The disks as they were taken out of the nodes.
use Rattle.std.proofs.Common.{◌≡◌, List, ap, length, reverse, sym, ◌∙◌, subst, ◌++◌}
use Rattle.std.specs.Prelude.{Option, map}
use Rattle.std.proofs.lemmas.List.{append-nil}
use Rattle.node_book.specs.Ends.{EndView}
use Rattle.net_machine.specs.declared.seat.Seat.{Seat}
use Rattle.voe_net.specs.Nodes.{faults_of}
use Rattle.voe_net.specs.Starting.{AllTellImages, NoneArmed}
use Rattle.voe_net.specs.TakenBack.{AreTakenBack}
use Rattle.voe_net.proofs.Backs.{taken-unarmed}
use Rattle.voe_net.proofs.Eaches.{map-length}
use Rattle.voe_net.proofs.Shows.{taken-counts, taken-kept, taken-theirs, taken-told}
use Rattle.voe_net.proofs.network.Network.into_disks.Goals as goal

pub returns-clause-number : goal.returns-clause-number
returns-clause-number g c =
    let first = c.give_back.ensures.0 in
    let taken = subst (λ (all : List (Seat (Option (EndView g.row.D.Denot)))). AreTakenBack g.D.Disk all first) c.into_seats.ensures c.give_back.ensures.1 in
    let is : c.from_vec.result ≡ first = c.from_vec.ensures ∙ c.give_back.ensures.2 ∙ ap (λ rest. first ++ reverse rest) c.self.invariant.empty ∙ append-nil first in
    ap (λ (disks : List g.row.D.Denot). length disks) is ∙ taken.same ∙ sym (map-length (λ seat. faults_of g.D.Disk seat.end) c.self.inside.machine.parts.seats)
    ∙ ap (λ n. length n.faults) c.self.view_is

pub returns-clause-theirs : goal.returns-clause-theirs
returns-clause-theirs g c =
    let first = c.give_back.ensures.0 in
    let taken = subst (λ (all : List (Seat (Option (EndView g.row.D.Denot)))). AreTakenBack g.D.Disk all first) c.into_seats.ensures c.give_back.ensures.1 in
    let is : c.from_vec.result ≡ first = c.from_vec.ensures ∙ c.give_back.ensures.2 ∙ ap (λ rest. first ++ reverse rest) c.self.invariant.empty ∙ append-nil first in
    rw (← c.self.view_is, is) (taken-theirs g.D.Disk c.self.inside.machine.parts.seats first taken)

pub returns-clause-kept : goal.returns-clause-kept
returns-clause-kept g c = λ works.
    let first = c.give_back.ensures.0 in
    let taken = subst (λ (all : List (Seat (Option (EndView g.row.D.Denot)))). AreTakenBack g.D.Disk all first) c.into_seats.ensures c.give_back.ensures.1 in
    let is : c.from_vec.result ≡ first = c.from_vec.ensures ∙ c.give_back.ensures.2 ∙ ap (λ rest. first ++ reverse rest) c.self.invariant.empty ∙ append-nil first in
    rw (← c.self.view_is, is)
    (taken-kept g.D.Disk c.self.inside.machine.parts.seats first taken c.self.inside.machine.graph (c.self.invariant.own (ap (λ n. n.failed) c.self.view_is ∙ works)))

pub returns-clause-unarmed : goal.returns-clause-unarmed
returns-clause-unarmed g c =
    let first = c.give_back.ensures.0 in
    let is : c.from_vec.result ≡ first = c.from_vec.ensures ∙ c.give_back.ensures.2 ∙ ap (λ rest. first ++ reverse rest) c.self.invariant.empty ∙ append-nil first in
    subst (λ (disks : List g.row.D.Denot). NoneArmed g.D.Disk disks) (sym is) (taken-unarmed g.D.Disk c.into_seats.result first c.give_back.ensures.1)

pub returns-clause-counts : goal.returns-clause-counts
returns-clause-counts g c =
    let first = c.give_back.ensures.0 in
    let taken = subst (λ (all : List (Seat (Option (EndView g.row.D.Denot)))). AreTakenBack g.D.Disk all first) c.into_seats.ensures c.give_back.ensures.1 in
    let is : c.from_vec.result ≡ first = c.from_vec.ensures ∙ c.give_back.ensures.2 ∙ ap (λ rest. first ++ reverse rest) c.self.invariant.empty ∙ append-nil first in
    ap (map g.D.Disk.faults) is ∙ taken-counts g.D.Disk c.self.inside.machine.parts.seats first taken ∙ ap (λ n. n.faults) c.self.view_is

pub returns-clause-told : goal.returns-clause-told
returns-clause-told g c = λ tells.
    let first = c.give_back.ensures.0 in
    let taken = subst (λ (all : List (Seat (Option (EndView g.row.D.Denot)))). AreTakenBack g.D.Disk all first) c.into_seats.ensures c.give_back.ensures.1 in
    let is : c.from_vec.result ≡ first = c.from_vec.ensures ∙ c.give_back.ensures.2 ∙ ap (λ rest. first ++ reverse rest) c.self.invariant.empty ∙ append-nil first in
    let before = rw (← c.self.view_is) at tells in
    subst (λ (disks : List g.row.D.Denot). AllTellImages g.D.Disk disks) (sym is) (taken-told g.D.Disk c.self.inside.machine.parts.seats first taken before)
