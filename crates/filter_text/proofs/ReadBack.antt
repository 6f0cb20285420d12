-- The canonical text of a filter that some text spells is read as that filter.
use Rattle.std.proofs.Common.{◌≡◌, ◌+◌, ◌<◌, ◌≤◌, true, false, List, [], length, refl, sym, ◌∙◌, ap, subst, append-nil, arith}
use Rattle.filter_tokens.specs.Token.{IsCut}
use Rattle.filter_text.specs.Filter.{Text, child, descendant, Path, path, arrived, step}
use Rattle.filter_text.specs.Grammar.{Symbol, IsPath}
use Rattle.filter_text.specs.Reading.{symbols_of, at_document, Reads}
use Rattle.filter_text.specs.Writing.{path_text, ReadsBack}
use Rattle.filter_text.proofs.Pieces.{text_of, path_pieces}
use Rattle.filter_text.proofs.PieceTexts.{path-written}
use Rattle.filter_text.proofs.Normal.{GoodPath, cut-good, path-good}
use Rattle.filter_text.proofs.Rederived.{path-spells}
use Rattle.filter_text.proofs.PieceCuts.{deeper, path-chain, pieces-cut}
use Rattle.filter_text.proofs.Nesting.{nest_path, path-nests, path-put, fits-symbols}

document-good : (p : Path) → GoodPath p → GoodPath (at_document p)
document-good (path true ss) g = g
document-good (path false arrived) g = g
document-good (path false (step axis part test cs ss)) g = (tt, g.1)

document-nest : (p : Path) → nest_path (at_document p) ≡ nest_path p
document-nest (path absolute ss) = refl

document-twice : (p : Path) → at_document (at_document p) ≡ at_document p
document-twice (path absolute ss) = refl

some-text : (p : Path) → GoodPath (at_document p) → 0 < length (path_text (at_document p))
some-text (path absolute arrived) g = absurd g.0
some-text (path absolute (step child part test cs ss)) g = omega arith
some-text (path absolute (step descendant part test cs ss)) g = omega arith

pub read-back : (f : Path) → ReadsBack f
read-back f s r short =
    let p = r.spelled in
    let g = path-good (symbols_of r.tokens) p r.is_path (cut-good r.tokens 0 s r.of_filters.end [] r.of_filters.tokenized.cut) in
    let d = document-good p g in
    let nests = (path-nests (symbols_of r.tokens) p 0 [] r.is_path (subst (λ (x : List Symbol). deeper 0 x ≡ false) (sym (append-nil (symbols_of r.tokens))) (fits-symbols r.tokens 0 r.shallow))).0 in
    let level : 0 + nest_path (at_document p) ≤ 16 = (let e = document-nest p in omega arith) in
    let ps = path_pieces (at_document p) [] in
    let written : text_of ps ≡ path_text (at_document p) = path-written (at_document p) [] ∙ append-nil (path_text (at_document p)) in
    let c = pieces-cut ps 0 [] (path-chain (at_document p) [] d (refl, refl) tt) refl in
    let spells = path-spells (at_document p) [] d in
    let tokens : symbols_of c.ks ≡ spells.ts = c.same ∙ spells.is ∙ append-nil spells.ts in
    let here : Reads (at_document p) (path_text (at_document p)) = record {
      tokens = c.ks;
      of_filters = record {
        end = c.end;
        tokenized = record { some = some-text p d; few = (let e = ap (λ x. length (path_text x)) r.is_filter in omega arith); cut = subst (λ (x : Text). IsCut 0 x c.ks c.end []) written c.cut };
        inside = c.inside;
      };
      spelled = at_document p;
      is_path = subst (λ (x : List Symbol). IsPath x (at_document p)) (sym tokens) spells.holds;
      shallow = c.shallow 0 (path-put (at_document p) 0 [] level refl);
      is_filter = sym (document-twice p);
    } in
    subst (λ (x : Path). Reads x (path_text x)) (sym r.is_filter) here
