-- The identifiers that notes bring, before and after a note is added.
use Rattle.std.proofs.Common.{◌≡◌, ℕ, suc, ◌+◌, Bool, true, false, ◌||◌, not, cond, List, [], ◌∷◌, ◌++◌, length, Option, Some, None, Result, Ok, Err, is_some, refl, sym, ap, ◌∙◌, arith}
use Rattle.std.specs.Prelude.{IsOk, OnOk, OnSome, slice_get}
use Rattle.std.specs.Global.{Vec}
use Rattle.std.specs.Map.{lookup}
use Rattle.std.specs.Option.{option_map}
use Rattle.std.specs.Str.{bytes_eq}
use Rattle.std.proofs.lemmas.Bool.{and_parts}
use Rattle.std.proofs.lemmas.List.Recursion.{is_count_by}
use Rattle.std.proofs.lemmas.List.{append-nil}
use Rattle.sha1.specs.Sha1.{sha1}
use Rattle.voe_digest.specs.declared.Digest.{Digest}
use Rattle.net_model.specs.declared.note.Note.{Note}
use Rattle.net_model.specs.declared.note.Note.TheVariants.{Wrote, Acked, Refused, Accept, Done, Enter}
use Rattle.net_model.specs.Notes.{brings, knows}
use Rattle.node_notes.specs.declared.config.Config.{Config}
use Rattle.node_notes.specs.Forms.{keeps_form, may_follow, is_next}
use Rattle.node_notes.specs.Held.{is_bringing, held, identifier_in, packet_held}
use Rattle.node_book.specs.Index.{entry_of, brought_from, brought_by, plain, found_in}
use Rattle.node_book.specs.declared.known.Entry.{Entry}

pub lookup_plain : (i : List ℕ) (es : List (Vec ℕ × Entry)) → lookup (λ (k : Vec ℕ). bytes_eq i k.items) es ≡ found_in i (plain es)
lookup_plain i [] = refl
lookup_plain i (e ∷ es) = ap (cond (bytes_eq i e.0.items) (Some e.1)) (lookup_plain i es)

some_cond : (b : Bool) (x : Entry) (r : Option Entry) → is_some (cond b (Some x) r) ≡ (b || is_some r)
some_cond true x r = refl
some_cond false x r = refl

found_known : (place : ℕ) (notes : List Note) (i : List ℕ) → is_some (found_in i (brought_from place notes)) ≡ knows notes i
found_known place [] i = refl
found_known place (Wrote own packet ∷ notes) i = some_cond (bytes_eq i own) (entry_of place (Wrote own packet)) _ ∙ ap (λ (x : Bool). bytes_eq i own || x) (found_known (place + 1) notes i)
found_known place (Accept own links packet ∷ notes) i = some_cond (bytes_eq i own) (entry_of place (Accept own links packet)) _ ∙ ap (λ (x : Bool). bytes_eq i own || x) (found_known (place + 1) notes i)
found_known place (Enter own packet ∷ notes) i = some_cond (bytes_eq i own) (entry_of place (Enter own packet)) _ ∙ ap (λ (x : Bool). bytes_eq i own || x) (found_known (place + 1) notes i)
found_known place (Acked line own ∷ notes) i = found_known (place + 1) notes i
found_known place (Refused line own ∷ notes) i = found_known (place + 1) notes i
found_known place (Done link own ∷ notes) i = found_known (place + 1) notes i

pub known_found : (notes : List Note) (i : List ℕ) → is_some (found_in i (brought_by notes)) ≡ knows notes i
unfolding brought_by
known_found notes i = found_known 0 notes i

abbrev digest : List ℕ → Digest
digest packet = record { bytes = sha1 packet }

digest_cond : (b : Bool) (x : Entry) (packet : List ℕ) (r : Option Entry) (q : Option (List ℕ)) → x.digest ≡ digest packet → option_map (λ e. e.digest) r ≡ option_map digest q
    → option_map (λ e. e.digest) (cond b (Some x) r) ≡ option_map digest (cond b (Some packet) q)
digest_cond true x packet r q same rest = ap (λ (d : Digest). Some d) same
digest_cond false x packet r q same rest = rest

digest_from : (place : ℕ) (notes : List Note) (i : List ℕ) → option_map (λ e. e.digest) (found_in i (brought_from place notes)) ≡ option_map digest (packet_held notes i)
unfolding packet_held
digest_from place [] i = refl
digest_from place (Wrote own packet ∷ notes) i = digest_cond (bytes_eq i own) (entry_of place (Wrote own packet)) packet _ _ refl (digest_from (place + 1) notes i)
digest_from place (Accept own links packet ∷ notes) i = digest_cond (bytes_eq i own) (entry_of place (Accept own links packet)) packet _ _ refl (digest_from (place + 1) notes i)
digest_from place (Enter own packet ∷ notes) i = digest_cond (bytes_eq i own) (entry_of place (Enter own packet)) packet _ _ refl (digest_from (place + 1) notes i)
digest_from place (Acked line own ∷ notes) i = digest_from (place + 1) notes i
digest_from place (Refused line own ∷ notes) i = digest_from (place + 1) notes i
digest_from place (Done link own ∷ notes) i = digest_from (place + 1) notes i

pub digest_found : (notes : List Note) (i : List ℕ) → option_map (λ e. e.digest) (found_in i (brought_by notes)) ≡ option_map digest (packet_held notes i)
unfolding brought_by
digest_found notes i = digest_from 0 notes i

-- the note that brings an identifier stands where its entry says
pub record IsBroughtAt (i : List ℕ) (notes : List Note) (place at : ℕ) : Type 0 where
  pub behind : ℕ
  pub note : Note
  pub at_is : at ≡ place + behind
  pub stands : slice_get notes behind ≡ Some note
  pub brings_it : brings i note ≡ true

later : (i : List ℕ) (m : Note) (notes : List Note) (place at : ℕ) → IsBroughtAt i notes (place + 1) at → IsBroughtAt i (m ∷ notes) place at
later i m notes place at there = record { behind = suc there.behind; note = there.note; at_is = (let is = there.at_is in omega (arith, is)); stands = there.stands; brings_it = there.brings_it }

here_or : (i : List ℕ) (m : Note) (notes : List Note) (place : ℕ) (b : Bool) (r : Option Entry) (e : Entry) → brings i m ≡ b → cond b (Some (entry_of place m)) r ≡ Some e
    → (r ≡ Some e → IsBroughtAt i notes (place + 1) e.at) → IsBroughtAt i (m ∷ notes) place e.at
here_or i m notes place true r e says is rest =
    let same : entry_of place m ≡ e = cc in
    let at : e.at ≡ place = ap (λ (x : Entry). x.at) (sym same) in
    record { behind = 0; note = m; at_is = omega (arith, at); stands = refl; brings_it = says }
here_or i m notes place false r e says is rest = later i m notes place e.at (rest is)

entry_from : (place : ℕ) (notes : List Note) (i : List ℕ) (e : Entry) → found_in i (brought_from place notes) ≡ Some e → IsBroughtAt i notes place e.at
entry_from place [] i e is = absurd (cc is)
entry_from place (Wrote own packet ∷ notes) i e is = here_or i (Wrote own packet) notes place (bytes_eq i own) _ e refl is (entry_from (place + 1) notes i e)
entry_from place (Accept own links packet ∷ notes) i e is = here_or i (Accept own links packet) notes place (bytes_eq i own) _ e refl is (entry_from (place + 1) notes i e)
entry_from place (Enter own packet ∷ notes) i e is = here_or i (Enter own packet) notes place (bytes_eq i own) _ e refl is (entry_from (place + 1) notes i e)
entry_from place (Acked line own ∷ notes) i e is = later i (Acked line own) notes place e.at (entry_from (place + 1) notes i e is)
entry_from place (Refused line own ∷ notes) i e is = later i (Refused line own) notes place e.at (entry_from (place + 1) notes i e is)
entry_from place (Done link own ∷ notes) i e is = later i (Done link own) notes place e.at (entry_from (place + 1) notes i e is)

pub entry_found : (notes : List Note) (i : List ℕ) (e : Entry) → found_in i (brought_by notes) ≡ Some e → (b : Note) × (slice_get notes e.at ≡ Some b) × (brings i b ≡ true)
unfolding brought_by
entry_found notes i e is =
    let there = entry_from 0 notes i e is in
    let at : e.at ≡ there.behind = let k = there.at_is in omega (arith, k) in
    (there.note, ap (slice_get notes) at ∙ there.stands, there.brings_it)

-- how many of the notes bring an identifier, counted one by one
abbrev tally : List Note → ℕ
tally [] = 0
tally (note ∷ notes) = cond (is_bringing note) (1 + tally notes) (tally notes)

count_from : (place : ℕ) (notes : List Note) → length (brought_from place notes) ≡ tally notes
count_from place [] = refl
count_from place (Wrote own packet ∷ notes) = omega (arith, count_from (place + 1) notes)
count_from place (Accept own links packet ∷ notes) = omega (arith, count_from (place + 1) notes)
count_from place (Enter own packet ∷ notes) = omega (arith, count_from (place + 1) notes)
count_from place (Acked line own ∷ notes) = count_from (place + 1) notes
count_from place (Refused line own ∷ notes) = count_from (place + 1) notes
count_from place (Done link own ∷ notes) = count_from (place + 1) notes

pub held_count : (notes : List Note) → length (brought_by notes) ≡ held notes
unfolding brought_by
held_count notes = count_from 0 notes ∙ is_count_by tally is_bringing refl (λ x xs. refl) notes

pub on_ok : {T E : Type 0} (r : Result T E) (P : Type 0) → IsOk r → OnOk r P → P
on_ok (Ok x) P is holds = holds
on_ok (Err e) P is holds = absurd (cc is)

pub on_some : {T : Type 0} (r : Option T) (P : Type 0) (x : T) → r ≡ Some x → OnSome r P → P
on_some (Some y) P x is holds = holds
on_some None P x is holds = absurd (cc is)

cond_append : (b : Bool) (x : List ℕ × Entry) (xs ys : List (List ℕ × Entry)) → cond b (x ∷ (xs ++ ys)) (xs ++ ys) ≡ cond b (x ∷ xs) xs ++ ys
cond_append true x xs ys = refl
cond_append false x xs ys = refl

brought_push : (place : ℕ) (notes : List Note) (n : Note) → brought_from place (notes ++ n ∷ []) ≡ brought_from place notes ++ cond (is_bringing n) ((identifier_in n, entry_of (place + length notes) n) ∷ []) []
brought_push place [] n = let at : place ≡ place + 0 = omega arith in ap (λ (k : ℕ). cond (is_bringing n) ((identifier_in n, entry_of k n) ∷ []) []) at
brought_push place (m ∷ notes) n =
    let next : (place + 1) + length notes ≡ place + suc (length notes) = omega arith in
    let others = brought_push (place + 1) notes n ∙ ap (λ (k : ℕ). brought_from (place + 1) notes ++ cond (is_bringing n) ((identifier_in n, entry_of k n) ∷ []) []) next in
    (λ i. cond (is_bringing m) ((identifier_in m, entry_of place m) ∷ others i) (others i)) ∙ cond_append (is_bringing m) (identifier_in m, entry_of place m) (brought_from (place + 1) notes) _

pub brought_more : (notes : List Note) (n : Note) → is_bringing n ≡ true → brought_by (notes ++ n ∷ []) ≡ brought_by notes ++ (identifier_in n, entry_of (length notes) n) ∷ []
unfolding brought_by
brought_more notes n says =
    let at : 0 + length notes ≡ length notes = omega arith in
    brought_push 0 notes n ∙ (λ i. brought_from 0 notes ++ cond (says i) ((identifier_in n, entry_of (at i) n) ∷ []) [])

pub brought_same : (notes : List Note) (n : Note) → is_bringing n ≡ false → brought_by (notes ++ n ∷ []) ≡ brought_by notes
unfolding brought_by
brought_same notes n quiet =
    brought_push 0 notes n ∙ ap (λ (b : Bool). brought_from 0 notes ++ cond b ((identifier_in n, entry_of (0 + length notes) n) ∷ []) []) quiet ∙ append-nil (brought_from 0 notes)

pub none_from : (r : Option Entry) → is_some r ≡ false → r ≡ None
none_from None is = refl
none_from (Some x) is = absurd (cc is)

not_true : (b : Bool) → not b ≡ true → b ≡ false
not_true true is = absurd (cc is)
not_true false is = refl

unknown : (notes : List Note) (n : Note) → may_follow notes n ≡ true → is_bringing n ≡ true → knows notes (identifier_in n) ≡ false
unknown notes (Wrote own packet) new says = not_true (knows notes own) new
unknown notes (Accept own links packet) new says = not_true (knows notes own) new
unknown notes (Enter own packet) new says = not_true (knows notes own) new
unknown notes (Acked line own) new says = absurd (cc says)
unknown notes (Refused line own) new says = absurd (cc says)
unknown notes (Done link own) new says = absurd (cc says)

pub not_found : (config : Config) (notes : List Note) (n : Note) → is_next config notes n ≡ true → is_bringing n ≡ true → found_in (identifier_in n) (brought_by notes) ≡ None
not_found config notes n next says =
    none_from (found_in (identifier_in n) (brought_by notes)) (known_found notes (identifier_in n) ∙ unknown notes n (and_parts (keeps_form config n) (may_follow notes n) next).1 says)
