-- The front with one entry more.
use Rattle.std.proofs.Common.{◌≡◌, ℕ, ◌+◌, true, List, [], ◌∷◌, ◌++◌, length, take, sym, ◌∙◌, ap, arith, length-append}
use Rattle.std.proofs.lemmas.List.{append-nil, take_at}
use Rattle.gate_journal.specs.Format.{length_bytes, body_of, front}
use Rattle.gate_journal.specs.Entries.{payload_at, payloads_at, are_chained}
use Rattle.gate_journal.specs.declared.entry.Entry.{Entry}
use Rattle.gate_journal.proofs.Entries.{chained-push, same_before, found, payloads-push}
use Rattle.gate_journal.proofs.Files.{front-push}

module _ (bytes now payload : List ℕ) (entries later : List Entry) (entry : Entry) (spelled : bytes ≡ front (payloads_at bytes entries)) (chained : are_chained 16 entries (length bytes) ≡ true)
    (now_is : now ≡ bytes ++ 1 ∷ body_of payload) (later_is : later ≡ entries ++ entry ∷ []) (gate : entry.gate ≡ length bytes) (count : entry.count ≡ length payload) where
  old_stay : payloads_at now entries ≡ payloads_at bytes entries
  old_stay = same_before now bytes 16 entries (length bytes) (ap (take (length bytes)) now_is ∙ take_at bytes (1 ∷ body_of payload) (length bytes) refl_size ∙ sym whole) chained
    where
      refl_size : length bytes ≡ length bytes
      refl_size = omega arith

      whole : take (length bytes) bytes ≡ bytes
      whole = ap (take (length bytes)) (sym (append-nil bytes)) ∙ take_at bytes [] (length bytes) refl_size

  new_is : payload_at now entry ≡ payload
  new_is = found now bytes payload [] entry (now_is ∙ ap (λ (l : List ℕ). bytes ++ 1 ∷ l) (sym (append-nil (body_of payload)))) gate count

  pub pushed : payloads_at now later ≡ payloads_at bytes entries ++ payload ∷ []
  pushed = ap (payloads_at now) later_is ∙ payloads-push now entries entry ∙ (λ i. old_stay i ++ new_is i ∷ [])

  pub pushed_spelled : now ≡ front (payloads_at now later)
  pushed_spelled = now_is ∙ ap (λ (l : List ℕ). l ++ 1 ∷ body_of payload) spelled ∙ sym (front-push (payloads_at bytes entries) payload) ∙ ap front (sym pushed)

  pub pushed_chained : are_chained 16 later (length now) ≡ true
  unfolding length_bytes
  pushed_chained =
      let size : length now ≡ length bytes + 5 + entry.count = omega (arith, ap length now_is, length-append bytes (1 ∷ body_of payload), length-append (length_bytes (length payload)) payload, count) in
      (λ i. are_chained 16 (later_is i) (size i)) ∙ chained-push 16 entries (length bytes) entry chained gate
