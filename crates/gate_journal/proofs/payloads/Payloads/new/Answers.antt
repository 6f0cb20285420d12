use Rattle.std.proofs.Common.{◌≡◌, List, length, sym, ◌∙◌, ap, rules}
use Rattle.std.proofs.lemmas.List.{append-nil}
use Rattle.gate_journal.specs.Format.{header, front}
use Rattle.gate_journal.specs.Entries.{payloads_at, are_chained}
use Rattle.gate_journal.proofs.payloads.Payloads.new.Goals as goal

pub invariant_of-result : goal.invariant_of-result
unfolding header
invariant_of-result c =
    let bytes = c.in_ok-to_vec.field-0.items in
    let copied : bytes ≡ header = search rules in
    let none = c.new.ensures.items in
    record {
      spelled = copied ∙ sym (append-nil header) ∙ ap (λ (l : List _). front (payloads_at bytes l)) (sym none);
      chained = (λ i. are_chained 16 (none i) (length (copied i)));
    }
