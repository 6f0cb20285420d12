use Rattle.std.proofs.Common.{◌≡◌, ◌∷◌, ◌++◌, List, ℕ, length, ◌∙◌, ap, append_assoc, [], refl, rules}
use Rattle.gate_journal.specs.Format.{length_bytes, body_of}
use Rattle.gate_journal.specs.declared.entry.Entry.{Entry}
use Rattle.gate_journal.proofs.Pushing.{pushed, pushed_spelled, pushed_chained}
use Rattle.gate_journal.proofs.payloads.Payloads.push.Goals as goal

-- the bytes with the gate, the length and the payload behind them
written : (bytes one two three length_is payload : List ℕ) → one ≡ bytes ++ 1 ∷ [] → two ≡ one ++ length_is → three ≡ two ++ payload → length_is ≡ length_bytes (length payload) → three ≡ bytes ++ 1 ∷ body_of payload
written bytes one two three length_is payload first second third is =
    third ∙ ap (λ (l : List ℕ). l ++ payload) (second ∙ ap (λ (l : List ℕ). l ++ length_is) first ∙ append_assoc bytes (1 ∷ []) length_is)
    ∙ append_assoc bytes (1 ∷ length_is) payload ∙ ap (λ (l : List ℕ). bytes ++ 1 ∷ (l ++ payload)) is

pub invariant_of-self : goal.invariant_of-self
invariant_of-self c =
    let was = c.args.self.now in
    let payload = c.args.payload.now in
    let size : c.len.result ≡ length was.bytes.items = search rules in
    let entry : Entry = record { gate = c.len.result; count = length payload } in
    let now_is = written was.bytes.items c.push_within.new.items.items c.extend_within.new.bytes.items c.extend_within-2.new.bytes.items c.length_of.result payload c.push_within.ensures.items c.extend_within.ensures.bytes c.extend_within-2.ensures.bytes c.length_of.ensures in
    record {
      spelled = pushed_spelled was.bytes.items c.extend_within-2.new.bytes.items payload was.entries.items c.push_within-2.new.items.items entry was.spelled was.chained now_is c.push_within-2.ensures.items size refl;
      chained = pushed_chained was.bytes.items c.extend_within-2.new.bytes.items payload was.entries.items c.push_within-2.new.items.items entry was.spelled was.chained now_is c.push_within-2.ensures.items size refl;
    }

pub returns : goal.returns
returns c =
    let was = c.args.self.now in
    let payload = c.args.payload.now in
    let size : c.len.result ≡ length was.bytes.items = search rules in
    let entry : Entry = record { gate = c.len.result; count = length payload } in
    let now_is = written was.bytes.items c.push_within.new.items.items c.extend_within.new.bytes.items c.extend_within-2.new.bytes.items c.length_of.result payload c.push_within.ensures.items c.extend_within.ensures.bytes c.extend_within-2.ensures.bytes c.length_of.ensures in
    pushed was.bytes.items c.extend_within-2.new.bytes.items payload was.entries.items c.push_within-2.new.items.items entry was.spelled was.chained now_is c.push_within-2.ensures.items size refl
