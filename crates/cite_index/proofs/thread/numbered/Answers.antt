use Rattle.std.proofs.Common.{◌≡◌, ◌∷◌, ◌++◌, [], sym, subst, ℕ, List, take, rules}
use Rattle.cite_index.specs.declared.triple.Triple.{Triple}
use Rattle.cite_index.specs.Threads.{AreEdges, IsFront}
use Rattle.cite_index.proofs.Bridges.{at_more, edge_push, edges_more, front_front}
use Rattle.cite_index.proofs.Naming.{named_front, one_more}
use Rattle.cite_index.proofs.thread.numbered.Goals as goal

pub loop-t-preserved : goal.loop-t-preserved
loop-t-preserved c =
    let cites = c.args.cites.now in
    let i = c.loop-t.t-index in
    let t = c.t-item.result in
    let first = c.number.new.self in
    let last = c.number-in-loop-t.new.self in
    let edges = c.loop-t.edges.items in
    let a = c.in_ok-citing.citing in
    let b = c.in_ok-cited.cited in
    let pushed : c.push.new.self.items ≡ edges ++ (a, b) ∷ [] = search rules in
    let one : IsFront c.loop-t.names first = named_front c.loop-t.names first t.citing c.in_ok-citing.ensures.names in
    let two : IsFront first last = named_front first last t.cited c.in_ok-cited.ensures.names in
    let both : IsFront c.loop-t.names last = front_front c.loop-t.names first last one two in
    let known : AreEdges last (take i cites) edges = edges_more c.loop-t.names last both (take i cites) edges c.loop-t.invariant.1 in
    let all : AreEdges last (take i cites ++ t ∷ []) (edges ++ (a, b) ∷ []) =
    edge_push last (take i cites) edges t (a, b) known (at_more first last a t.citing two c.in_ok-citing.ensures.at, c.in_ok-cited.ensures.at) in (
      front_front c.args.names.now c.loop-t.names last c.loop-t.invariant.0 both,
      subst (λ (l : List Triple). AreEdges last l c.push.new.self.items) (sym (one_more cites i t c.loop-t-test.true c.t-item.is)) (subst (λ (es : List (ℕ × ℕ)). AreEdges last (take i cites ++ t ∷ []) es) (sym pushed) all),
    )
