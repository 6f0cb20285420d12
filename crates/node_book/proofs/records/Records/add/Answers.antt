use Rattle.std.proofs.Common.{◌≡◌, ◌∙◌, [], ◌∷◌, ◌++◌, List, ap, sym, subst, length, rules}
use Rattle.net_model.specs.declared.note.Note.{Note}
use Rattle.node_notes.specs.declared.config.Config.{Config}
use Rattle.node_notes.specs.Forms.{is_config}
use Rattle.node_notes.specs.Tells.{AreInOrder}
use Rattle.node_book.specs.Index.{IsIndexOf}
use Rattle.node_book.proofs.Telling.{in_order_more}
use Rattle.node_book.proofs.records.Records.add.Goals as goal

pub returns-clause-kept : goal.returns-clause-kept
returns-clause-kept c =
    let old = c.args.self.now in
    let kept = c.requires.kept in
    let config = c.follow.ensures.config in
    let pushed : c.push.new.self.items ≡ old.notes.items ++ c.args.note ∷ [] = search rules in
    let order = in_order_more old.config [] old.notes.items c.args.note kept.in_order c.requires.next in
    record {
      config_fits = ap is_config config ∙ kept.config_fits;
      in_order = subst (λ (l : List Note). AreInOrder c.follow.new.self.config [] l) (sym pushed) (subst (λ (x : Config). AreInOrder x [] (old.notes.items ++ c.args.note ∷ [])) (sym config) order);
      indexed = subst (λ (l : List Note). IsIndexOf l (length c.follow.new.self.config.links) c.follow.new.self.index) (sym pushed)
          (subst (λ (x : Config). IsIndexOf (old.notes.items ++ c.args.note ∷ []) (length x.links) c.follow.new.self.index) (sym config) c.follow.ensures.indexed);
    }
