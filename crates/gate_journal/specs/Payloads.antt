-- What the payloads in memory stand for.
use Rattle.std.specs.Prelude.{ℕ, ◌+◌, ◌<◌, ◌≤◌, List, vec_len, vec_capacity}
use Rattle.gate_journal.specs.Entries.{payloads_at}
use Rattle.gate_journal.specs.declared.payloads.Payloads.{Payloads}

abbrev pub payloads_in : Payloads → List (List ℕ)
payloads_in payloads = payloads_at payloads.bytes.items payloads.entries.items

-- one payload of so many bytes fits without growing
pub record HasPlaceFor (count : ℕ) (payloads : Payloads) : Type 0 where
  pub for_entry : vec_len payloads.entries < vec_capacity payloads.entries
  pub for_bytes : vec_len payloads.bytes + 5 + count ≤ vec_capacity payloads.bytes
