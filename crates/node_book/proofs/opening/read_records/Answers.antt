use Rattle.std.proofs.Common.{◌≡◌, ◌+◌, inl, inr, [], take, drop, Some, Err, refl, sym, ap, ◌∙◌, arith}
use Rattle.std.specs.Option.{option_map}
use Rattle.gate_journal.proofs.Split.{length-front_nil}
use Rattle.node_notes.specs.declared.fault.ReadFault.{ReadFault}
use Rattle.node_book.proofs.Telling.{nil_from_none}
use Rattle.node_book.proofs.Payload_lists.{is_past, parts_at, read_more}
use Rattle.node_book.proofs.opening.read_records.Goals as goal

pub returns-in_default-clause-refused : goal.returns-in_default-clause-refused
returns-in_default-clause-refused g c = nil_from_none c.args.journal.now.payloads c.in_default.ensures

pub returns-in-Err-Malformed-clause-refused : goal.returns-in-Err-Malformed-clause-refused
returns-in-Err-Malformed-clause-refused g c = record {
  good = [];
  bad = c.in-Some.first.now;
  rest = drop 1 c.args.journal.now.payloads;
  payloads_are = parts_at c.args.journal.now.payloads 0 c.in-Some.first.now c.in-Some.ensures;
  place_is = sym length-front_nil;
  is_bad = inl (refl, c.read_config.ensures.none (c.in-Err-Malformed.is ∙ ap (λ (f : ReadFault). Err f) c.in-Err-Malformed.field-0-is));
}

pub unreachable-requires : goal.unreachable-requires
unreachable-requires g c =
    let none = ap (option_map (λ payload. payload.now)) (sym c.in_default-payload.is) ∙ c.payload-in-loop-at.ensures in
    is_past c.args.journal.now.payloads c.loop-at.at none (omega (arith, c.payloads-at-end.ensures, c.loop-at-test.true))

pub returns-in-Err-Malformed-add_payload-clause-refused : goal.returns-in-Err-Malformed-add_payload-clause-refused
returns-in-Err-Malformed-add_payload-clause-refused g c =
    let some : Some c.in-Some-payload.payload.now ≡ _ = ap (option_map (λ payload. payload.now)) (sym c.in-Some-payload.is) ∙ c.payload-in-loop-at.ensures in
    record {
      good = take c.loop-at.at c.args.journal.now.payloads;
      bad = c.in-Some-payload.payload.now;
      rest = drop (c.loop-at.at + 1) c.args.journal.now.payloads;
      payloads_are = parts_at c.args.journal.now.payloads c.loop-at.at c.in-Some-payload.payload.now some;
      place_is = c.in-Some-place.ensures.place;
      is_bad = inr (c.loop-at.records.config, c.loop-at.records.notes.items, c.loop-at.invariant.told, c.add_payload.ensures.none (c.in-Err-Malformed-add_payload.is ∙ ap (λ (f : ReadFault). Err f) c.in-Err-Malformed-add_payload.field-0-is));
    }

pub loop-at-preserved : goal.loop-at-preserved
loop-at-preserved g c =
    let some : Some c.in-Some-payload.payload.now ≡ _ = ap (option_map (λ payload. payload.now)) (sym c.in-Some-payload.is) ∙ c.payload-in-loop-at.ensures in
    record {
      kept = c.in-Ok-add_payload.ensures.kept;
      told = read_more c.args.journal.now.payloads c.loop-at.at c.in-Some-payload.payload.now c.loop-at.records c.add_payload.new.self some c.loop-at.invariant.told c.in-Ok-add_payload.ensures.added;
      some = c.loop-at.invariant.some;
    }
