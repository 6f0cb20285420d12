-- The payloads of a journal, one after the other.
use Rattle.std.proofs.Common.{◌≡◌, ℕ, ◌+◌, ◌<◌, List, [], ◌∷◌, ◌++◌, length, take, drop, Some, None, sym, ap, subst, ◌∙◌, take-append-drop}
use Rattle.std.specs.Prelude.{slice_get}
use Rattle.std.proofs.lemmas.List.{take_more, drop_more}
use Rattle.std.proofs.lemmas.Option.{slice_get_within, get_or_from_slice_get, slice_get-get_or}
use Rattle.net_model.specs.declared.note.Note.{Note}
use Rattle.node_book.specs.declared.records.Records.{Records}
use Rattle.node_notes.specs.Spelling.{note_payload}
use Rattle.node_notes.specs.Tells.{Tells}
use Rattle.node_book.specs.Records.{Grew}
use Rattle.node_book.proofs.Telling.{tells_more}

pub is_past : (xs : List (List ℕ)) (i : ℕ) → None ≡ slice_get xs i → i < length xs → ⊥
is_past xs i is lt =
    let both = is ∙ slice_get-get_or xs i [] lt in
    cc

pub parts_at : (xs : List (List ℕ)) (i : ℕ) (x : List ℕ) → Some x ≡ slice_get xs i → xs ≡ take i xs ++ x ∷ drop (i + 1) xs
parts_at xs i x is =
    let lt = slice_get_within xs i x (sym is) in
    sym (take-append-drop i xs) ∙ ap (λ (l : List (List ℕ)). take i xs ++ l) (drop_more xs i [] lt ∙ ap (λ (y : List ℕ). y ∷ drop (i + 1) xs) (get_or_from_slice_get xs i x [] (sym is)))

pub front_at : (xs : List (List ℕ)) (i : ℕ) (x : List ℕ) → Some x ≡ slice_get xs i → take (i + 1) xs ≡ take i xs ++ x ∷ []
front_at xs i x is =
    let lt = slice_get_within xs i x (sym is) in
    take_more xs i [] lt ∙ ap (λ (y : List ℕ). take i xs ++ y ∷ []) (get_or_from_slice_get xs i x [] (sym is))

pub read_more : (payloads : List (List ℕ)) (at : ℕ) (payload : List ℕ) (old new : Records) → Some payload ≡ slice_get payloads at
    → Tells (take at payloads) old.config old.notes.items → Grew payload old new → Tells (take (at + 1) payloads) new.config new.notes.items
read_more payloads at payload old new is tells grew =
    let more = tells_more (take at payloads) old.config old.notes.items grew.note tells grew.next in
    let all : take (at + 1) payloads ≡ take at payloads ++ note_payload grew.note ∷ [] = front_at payloads at payload is ∙ ap (λ (l : List ℕ). take at payloads ++ l ∷ []) grew.spelled in
    subst (λ (l : List (List ℕ)). Tells l new.config new.notes.items) (sym all)
    (subst (λ (c : _). Tells (take at payloads ++ note_payload grew.note ∷ []) c new.notes.items) (sym grew.config_is)
    (subst (λ (l : List Note). Tells (take at payloads ++ note_payload grew.note ∷ []) old.config l) (sym grew.notes_are) more))
