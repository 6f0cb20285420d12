use Rattle.std.proofs.Common.{◌≡◌, ◌∙◌, sym, refl, true, ℕ, List, Some, length, arith}
use Rattle.std.proofs.lemmas.List.Elements.{All-push}
use Rattle.std.proofs.lemmas.Option.{same_Some, slice_get_read, slice_get_within}
use Rattle.cite_index.specs.declared.triple.Triple.{Triple}
use Rattle.cite_index.specs.Names.{is_in}
use Rattle.cite_index.proofs.Kept.{noted_as}
use Rattle.cite_index.proofs.Naming.{at_of_in}
use Rattle.cite_index.proofs.standings.Standings.note.Goals as goal

pub unreachable-requires : goal.unreachable-requires
unreachable-requires c = let r = at_of_in c.args.self.now.names c.args.t.now.cited c.requires in c.in_default.not-Some r.0 ((c.find.ensures r.0).1 r.1)

pub index-requires : goal.index-requires
index-requires c =
    let within = slice_get_within c.args.self.now.names c.in-Some.at c.args.t.now.cited ((c.find.ensures c.in-Some.at).0 c.in-Some.is) in
    omega (arith, within, c.args.self.now.counted, c.args.self.now.kept.ok.0)

pub index_mut-requires : goal.index_mut-requires
index_mut-requires c =
    let within = slice_get_within c.args.self.now.names c.in-Some.at c.args.t.now.cited ((c.find.ensures c.in-Some.at).0 c.in-Some.is) in
    omega (arith, within, c.args.self.now.counted, c.args.self.now.kept.ok.0)

pub returns-clause-more : goal.returns-clause-more
returns-clause-more c = λ cites st.
    let names = c.args.self.now.names in
    let kept = c.args.self.now.kept.items in
    let t = c.args.t.now in
    let at = c.in-Some.at in
    let here = (c.find.ensures at).0 c.in-Some.is in
    let within = slice_get_within names at t.cited here in
    let had = slice_get_read kept (length names) at c.index.result.now (sym c.args.self.now.counted) within c.index.ensures in
    record {
      cited = All-push (λ (u : Triple). is_in names u.cited ≡ true) cites t st.cited c.requires;
      kept = noted_as cites t names kept at c.index.result.now c.after.result c.after.ensures here (λ n e. same_Some n at (sym ((c.find.ensures n).1 e) ∙ c.in-Some.is)) c.args.self.now.counted had st.kept;
    }
