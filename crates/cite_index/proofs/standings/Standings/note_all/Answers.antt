use Rattle.std.proofs.Common.{◌≡◌, ◌++◌, ◌∷◌, [], sym, subst, true, ℕ, List, take, take_all, get_or}
use Rattle.cite_index.specs.declared.triple.Triple.{Triple}
use Rattle.cite_index.specs.Kept.{AreStandings}
use Rattle.cite_index.specs.Names.{is_in}
use Rattle.cite_index.proofs.Kept.{more_behind}
use Rattle.cite_index.proofs.standings.Standings.note_all.Goals as goal

pub loop-t-preserved : goal.loop-t-preserved
loop-t-preserved c =
    let cites = c.args.cites.now in
    let i = c.loop-t.t-index in (
      (λ k d h. subst (λ (l : List (List ℕ)). is_in l (get_or cites k d).cited ≡ true) (sym c.note.ensures.names) (c.loop-t.invariant.0 k d h)),
      (λ before st. subst (λ (l : List Triple). AreStandings l c.note.new.self) (sym (more_behind before cites i c.t-item.result c.loop-t-test.true c.t-item.is)) (c.note.ensures.more (before ++ take i cites) (c.loop-t.invariant.1 before st))),
    )

pub returns : goal.returns
returns c = λ before st.
    subst (λ (l : List Triple). AreStandings (before ++ l) c.loop-t.self) (take_all c.loop-t.t-index c.args.cites.now c.loop-t-test.false) (c.loop-t.invariant.1 before st)
