use Rattle.std.proofs.Common.{◌≡◌, ◌∙◌, ◌++◌, ap, sym, subst, List, rules}
use Rattle.cite_index.specs.declared.triple.Triple.{Triple}
use Rattle.cite_index.specs.Kept.{AreStandings}
use Rattle.cite_index.proofs.index.CiteIndex.add.Goals as goal

pub invariant_of-self : goal.invariant_of-self
invariant_of-self c = c.know_all.ensures.same c.self.inside.cites.items c.self.invariant

pub invariant_of-self-then-is_err : goal.invariant_of-self-then-is_err
invariant_of-self-then-is_err c = c.know_all.ensures.same c.self.inside.cites.items c.self.invariant

pub invariant_of-self-then-is_err-2 : goal.invariant_of-self-then-is_err-2
invariant_of-self-then-is_err-2 c =
    subst (λ (l : List Triple). AreStandings l c.know_all.new.self) (sym c.reserve-else-is_err.ensures.items) (c.know_all.ensures.same c.self.inside.cites.items c.self.invariant)

pub invariant_of-self-2 : goal.invariant_of-self-2
invariant_of-self-2 c =
    let cites = c.self.inside.cites.items in
    let more = c.in_ok-more.more.items in
    let noted : AreStandings (cites ++ more) c.note_all.new.self =
    subst (λ (l : List Triple). AreStandings (cites ++ l) c.note_all.new.self) c.as_slice-2.ensures.value (c.note_all.ensures cites (c.know_all.ensures.same cites c.self.invariant)) in
    let kept : c.reserve-else-is_err.new.self.items ≡ cites = c.reserve-else-is_err.ensures.items in
    let appended : c.append.new.self.items ≡ c.reserve-else-is_err.new.self.items ++ more = search rules in
    subst (λ (l : List Triple). AreStandings l c.note_all.new.self) (sym (appended ∙ ap (λ (l : List Triple). l ++ more) kept)) noted
