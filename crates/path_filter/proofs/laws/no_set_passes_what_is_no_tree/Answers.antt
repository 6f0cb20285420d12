use Rattle.path_filter.proofs.laws.no_set_passes_what_is_no_tree.Goals as goal

pub returns : goal.returns
returns c = λ set bytes fault refused other (root, spells, passes). other (c.spelled_is_not_refused.ensures bytes root fault spells refused)
