use Rattle.std.proofs.Common.{◌∙◌, ap}
use Rattle.node_book.specs.Index.{plain, open_places}
use Rattle.node_book.proofs.index.Index.reserve.Goals as goal

pub returns-in_err-reserve-clause-same : goal.returns-in_err-reserve-clause-same
returns-in_err-reserve-clause-same c notes edges indexed = record {
  known = ap plain c.reserve.ensures.same ∙ indexed.known;
  count = indexed.count;
  opened = indexed.opened;
}

pub returns-clause-same : goal.returns-clause-same
returns-clause-same c notes edges indexed = record {
  known = ap plain c.reserve.ensures.same ∙ indexed.known;
  count = c.reserve-2.ensures.count ∙ indexed.count;
  opened = c.reserve-2.ensures.same (open_places notes) indexed.opened;
}
