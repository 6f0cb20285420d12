use Rattle.std.proofs.Common.{◌≡◌, ◌∷◌, ◌++◌, [], sym, subst, true, ℕ, List, All, length, rules}
use Rattle.cite_index.specs.declared.standing.Standing.{Standing}
use Rattle.cite_index.specs.declared.standing.Standing.TheVariants.{Current}
use Rattle.cite_index.specs.declared.triple.Triple.{Triple}
use Rattle.cite_index.specs.Names.{is_in}
use Rattle.cite_index.proofs.Kept.{Tells, known_more, still_known}
use Rattle.cite_index.proofs.Naming.{at_last, in_of_at}
use Rattle.cite_index.proofs.standings.Standings.push.Goals as goal

pub returns-clause-same : goal.returns-clause-same
returns-clause-same c = λ cites st.
    let names = c.args.self.now.names in
    let kept = c.args.self.now.kept.items in
    let i = c.args.identifier.now in
    let named : c.push.new.self ≡ names ++ i ∷ [] = c.in_ok-push.ensures.names in
    let pushed : c.push-2.new.self.items ≡ kept ++ Current ∷ [] = search rules in
    let tells : Tells cites (names ++ i ∷ []) (kept ++ Current ∷ []) = known_more cites names kept i c.requires c.args.self.now.counted st.cited st.kept in
    record {
      cited = subst (λ (l : List (List ℕ)). All (λ (t : Triple). is_in l t.cited ≡ true) cites) (sym named) (still_known names (i ∷ []) cites st.cited);
      kept = subst (λ (l : List (List ℕ)). Tells cites l c.push-2.new.self.items) (sym named) (subst (λ (k : List Standing). Tells cites (names ++ i ∷ []) k) (sym pushed) tells);
    }

pub returns-clause-known : goal.returns-clause-known
returns-clause-known c =
    let names = c.args.self.now.names in
    let i = c.args.identifier.now in
    subst (λ (l : List (List ℕ)). is_in l i ≡ true) (sym c.in_ok-push.ensures.names) (in_of_at (names ++ i ∷ []) (length names) i (at_last names i))
