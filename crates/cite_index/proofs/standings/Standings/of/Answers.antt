use Rattle.std.proofs.Common.{◌≡◌, ◌∙◌, sym, ℕ, List, Some, length, arith}
use Rattle.std.proofs.lemmas.Option.{same_Some, slice_get_read, slice_get_within}
use Rattle.cite_index.specs.Cites.{standing}
use Rattle.cite_index.proofs.Kept.{uncited}
use Rattle.cite_index.proofs.Naming.{not_at, not_found}
use Rattle.cite_index.proofs.standings.Standings.of.Goals as goal

pub index-requires : goal.index-requires
index-requires c =
    let within = slice_get_within c.args.self.now.names c.in-Some.at c.args.identifier.now ((c.find.ensures c.in-Some.at).0 c.in-Some.is) in
    omega (arith, within, c.args.self.now.counted, c.args.self.now.kept.ok.0)

pub returns-in-Some : goal.returns-in-Some
returns-in-Some c = λ cites st.
    let names = c.args.self.now.names in
    let kept = c.args.self.now.kept.items in
    let at = c.in-Some.at in
    let i = c.args.identifier.now in
    let here = (c.find.ensures at).0 c.in-Some.is in
    let had = slice_get_read kept (length names) at c.index.result.now (sym c.args.self.now.counted) (slice_get_within names at i here) c.index.ensures in
    same_Some c.index.result.now (standing cites i) (sym had ∙ st.kept at i here)

pub returns-in-None : goal.returns-in-None
returns-in-None c = λ cites st.
    let names = c.args.self.now.names in
    let i = c.args.identifier.now in
    sym (uncited names cites i st.cited (not_at names i (not_found names i c.find.result c.in-None.is c.find.ensures)))
