use Rattle.std.proofs.Common.{◌≡◌, subst, true, ℕ, List, All, take, take_all}
use Rattle.std.proofs.lemmas.List.Elements.{All-more, All-weaker}
use Rattle.cite_index.specs.declared.triple.Triple.{Triple}
use Rattle.cite_index.specs.Kept.{knows}
use Rattle.cite_index.proofs.standings.Standings.know_all.Goals as goal

pub returns-in_err-know-clause-same : goal.returns-in_err-know-clause-same
returns-in_err-know-clause-same c = λ before st. c.know.ensures.same before (c.loop-t.invariant.0 before st)

pub loop-t-preserved : goal.loop-t-preserved
loop-t-preserved c =
    let cites = c.args.cites.now in
    let i = c.loop-t.t-index in
    let P : Triple → Type 0 = λ t. knows c.loop-t.self t.cited ≡ true in
    let Q : Triple → Type 0 = λ t. knows c.know.new.self t.cited ≡ true in (
      (λ before st. c.know.ensures.same before (c.loop-t.invariant.0 before st)),
      All-more Q cites i c.t-item.result c.loop-t-test.true (All-weaker P Q (λ t h. c.know.ensures.keeps t.cited h) (take i cites) c.loop-t.invariant.1) (subst Q c.t-item.is c.in_ok-know.ensures.known),
    )

pub returns-clause-known : goal.returns-clause-known
returns-clause-known c =
    let P : Triple → Type 0 = λ t. knows c.loop-t.self t.cited ≡ true in
    subst (λ (l : List Triple). All P l) (take_all c.loop-t.t-index c.args.cites.now c.loop-t-test.false) c.loop-t.invariant.1
