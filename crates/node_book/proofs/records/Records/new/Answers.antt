use Rattle.std.proofs.Common.{◌≡◌, ℕ, List, [], sym, subst, length, rules}
use Rattle.net_model.specs.declared.note.Note.{Note}
use Rattle.node_notes.specs.Tells.{AreInOrder}
use Rattle.node_book.specs.Index.{IsIndexOf}
use Rattle.node_book.proofs.records.Records.new.Goals as goal

pub returns-clause-kept : goal.returns-clause-kept
returns-clause-kept c =
    let none : c.new-2.result.items ≡ [] = search rules in
    let indexed = subst (λ (n : ℕ). IsIndexOf [] n c.in_ok-index.index) c.len.ensures c.in_ok-index.ensures in
    record {
      config_fits = c.requires;
      in_order = subst (λ (l : List Note). AreInOrder c.args.config [] l) (sym none) tt;
      indexed = subst (λ (l : List Note). IsIndexOf l (length c.args.config.links) c.in_ok-index.index) (sym none) indexed;
    }
