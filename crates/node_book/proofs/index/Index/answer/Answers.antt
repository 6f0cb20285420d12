use Rattle.std.proofs.Common.{◌∙◌, ◌++◌, ◌∷◌, [], cond, eqb, filter, not, ap, sym, subst, ℕ, List, Option, is_some, arith}
use Rattle.node_book.specs.Index.{found_in, open_places, IsRisingFrom}
use Rattle.node_book.specs.declared.known.Entry.{Entry}
use Rattle.node_book.proofs.KnownPlaces.{brought_same, entry_found, known_found}
use Rattle.node_book.proofs.NextOpen.{places_rise}
use Rattle.node_book.proofs.OpenPlaces.{open_closed, brings_nothing, answer_is_known}
use Rattle.node_book.proofs.Following.{follow_same}
use Rattle.node_book.proofs.index.Index.answer.Goals as goal

pub returns-in_default : goal.returns-in_default
returns-in_default c edges indexed =
    let may = c.requires.next in
    let i = c.args.identifier.now in
    let notes = c.args.notes.now in
    let known = answer_is_known may.config notes c.args.note.now c.args.number i may.next c.requires.answers in
    let found = c.look_up.ensures ∙ ap (found_in i) indexed.known in
    let some = ap (λ (r : Option Entry). is_some r) found ∙ known_found notes i ∙ known in
    let none = sym (ap (λ (r : Option Entry). is_some r) c.in_default.is) ∙ some in
    absurd cc

pub close-requires-clause-within : goal.close-requires-clause-within
close-requires-clause-within c =
    let indexed = c.requires.indexed in
    omega (arith, indexed.1.count, indexed.2)

pub close-requires-clause-rising : goal.close-requires-clause-rising
close-requires-clause-rising c edge is =
    let indexed = c.requires.indexed in
    subst (λ (l : List ℕ). IsRisingFrom 0 l) (sym (indexed.1.opened c.args.number edge is)) (places_rise c.args.notes.now c.args.number)

pub returns : goal.returns
returns c edges indexed =
    let may = c.requires.next in
    let i = c.args.identifier.now in
    let notes = c.args.notes.now in
    let note = c.args.note.now in
    let number = c.args.number in
    let found = sym c.in-Some.is ∙ c.look_up.ensures ∙ ap (found_in i) indexed.known in
    let there = entry_found notes i c.in-Some.entry (sym found) in
    record {
      known = indexed.known ∙ sym (brought_same notes note (brings_nothing number i note c.requires.answers));
      count = c.close.ensures.count ∙ indexed.count;
      opened = follow_same c.close.new.self.edges.items (λ k. cond (eqb k number) (filter (λ at. not (eqb at c.in-Some.entry.at)) (open_places notes k)) (open_places notes k)) (open_places (notes ++ note ∷ []))
          (c.close.ensures.closed (open_places notes) indexed.opened)
          (open_closed may.config notes note number i c.in-Some.entry.at there.0 may.in_order there.1 there.2 c.requires.answers);
    }
