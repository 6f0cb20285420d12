use Rattle.std.proofs.Common.{◌≡◌, ◌∙◌, ap, sym, subst, ℕ, ◌<◌, List, Some, All, length, arith}
use Rattle.std.specs.Prelude.{◌↔◌}
use Rattle.std.specs.List.{slice_get}
use Rattle.std.proofs.lemmas.Option.{slice_get_within}
use Rattle.cite_index.specs.Reach.{IsConnected, IsMarked}
use Rattle.cite_index.specs.Threads.{IsFront, firsts}
use Rattle.cite_index.proofs.Bridges.{at_more, edges_within, front_front}
use Rattle.cite_index.proofs.Listings.{IsFound, all_listed}
use Rattle.cite_index.proofs.Naming.{named_front}
use Rattle.cite_index.proofs.thread.thread_of.Goals as goal

pub connected-requires-clause-edges : goal.connected-requires-clause-edges
connected-requires-clause-edges c =
    subst (λ (es : List (ℕ × ℕ)). All (λ e. (e.0 < c.len.result) × (e.1 < c.len.result)) es) (sym c.as_slice.ensures.value)
    (edges_within c.numbered.new.names c.args.cites.now c.in_ok-edges.edges.items c.len.result c.len.ensures c.in_ok-edges.ensures.edges)

pub connected-requires-clause-from : goal.connected-requires-clause-from
connected-requires-clause-from c =
    let at = at_more c.number.new.self c.numbered.new.names c.in_ok-start.start c.args.identifier.now c.in_ok-edges.ensures.front c.in_ok-start.ensures.at in
    let within = slice_get_within c.numbered.new.names c.in_ok-start.start c.args.identifier.now at in
    omega (arith, within, c.len.ensures)

pub returns : goal.returns
returns c =
    let added = c.args.added.now in
    let cites = c.args.cites.now in
    let i = c.args.identifier.now in
    let names = c.numbered.new.names in
    let edges = c.in_ok-edges.edges.items in
    let marks = c.in-Ok.marks.items in
    let start = c.in_ok-start.start in
    let all : c.number_all.new.names ≡ firsts added = c.in_ok-number_all.ensures in
    let front : IsFront c.number_all.new.names names = front_front c.number_all.new.names c.number.new.self names (named_front c.number_all.new.names c.number.new.self i c.in_ok-start.ensures.names) c.in_ok-edges.ensures.front in
    let found : IsFound added cites i names edges marks start = record {
      front = subst (λ (l : List (List ℕ)). IsFront l names) all front;
      distinct = c.as_slice-2.ensures.distinct;
      edges_are = c.in_ok-edges.ensures.edges;
      start_is = at_more c.number.new.self names start i c.in_ok-edges.ensures.front c.in_ok-start.ensures.at;
      marked = λ m. subst (λ (es : List (ℕ × ℕ)). IsMarked marks m ↔ IsConnected es start m) c.as_slice.ensures.value (c.in-Ok.ensures.exact m);
      same = c.in-Ok.ensures.length ∙ c.len.ensures;
    } in
    all_listed c.listed.result added cites i names edges marks start c.as_slice-2.result.now c.as_slice-3.result.now c.len-count.result found
    c.as_slice-2.ensures.all c.as_slice-3.ensures.value (c.len-count.ensures ∙ ap (λ (l : List (List ℕ)). length l) all) c.listed.ensures
