-- The edges after one of them has changed.
use Rattle.std.proofs.Common.{◌≡◌, inl, inr, ℕ, zero, suc, ◌+◌, ◌<◌, ◌≤◌, Bool, true, false, ◌&&◌, cond, eqb, ltb, List, [], ◌∷◌, ◌++◌, length, get_or, Option, Some, None, refl, sym, ap, subst, ◌∙◌, arith}
use Rattle.std.specs.Prelude.{slice_get, slice_set}
use Rattle.std.specs.Option.{option_copied}
use Rattle.std.proofs.Common.{Bor}
use Rattle.std.proofs.lemmas.Bool.{cases_lt, eqb-true, eq-eqb, lt-ltb, le-ltb}
use Rattle.std.proofs.lemmas.List.{append-nil}
use Rattle.std.proofs.lemmas.Option.{slice_get-get_or}
use Rattle.net_model.proofs.Members.{get-set, get-set_same}
use Rattle.net_model.specs.declared.note.Note.{Note}
use Rattle.node_notes.specs.Forms.{is_broker}
use Rattle.node_book.specs.Index.{Follow, hands}
use Rattle.node_book.specs.Records.{AreKept, IsEdge}
use Rattle.node_book.specs.declared.records.Records.{Records}
use Rattle.node_book.specs.declared.open.OpenPlaces.{OpenPlaces}

pub at_index : (edges : List OpenPlaces) (n : ℕ) (edge : OpenPlaces) → n < length edges → edge ≡ get_or edges n edge → slice_get edges n ≡ Some edge
at_index edges n edge lt is = slice_get-get_or edges n edge lt ∙ ap (λ (e : OpenPlaces). Some e) (sym is)

one_some : (a b : OpenPlaces) (n : ℕ) (edges : List OpenPlaces) → slice_get edges n ≡ Some a → slice_get edges n ≡ Some b → a ≡ b
one_some a b n edges one two = cc

-- what holds of each edge holds after one has changed
pub changed : (edges : List OpenPlaces) (n : ℕ) (new : OpenPlaces) (Q : ℕ → OpenPlaces → Type 0)
    → ((m : ℕ) (e : OpenPlaces) → slice_get edges m ≡ Some e → (m ≡ n → ⊥) → Q m e) → Q n new
    → (m : ℕ) (e : OpenPlaces) → slice_get (slice_set edges n new) m ≡ Some e → Q m e
changed edges n new Q others own m e is = by (eqb m n) refl
  where
    at_n : slice_get (slice_set edges n new) n ≡ Some e → new ≡ e
    at_n here = elim (get-set edges n n new) [
      | inl same ↦ one_some new e n (slice_set edges n new) (get-set_same edges n new e (sym same ∙ here)) here
      | inr both ↦ one_some new e n (slice_set edges n new) both.1 here
    ]

    by : (b : Bool) → eqb m n ≡ b → Q m e
    by true same =
        let m_is : m ≡ n = eqb-true m n same in
        let edge : new ≡ e = at_n (subst (λ (k : ℕ). slice_get (slice_set edges n new) k ≡ Some e) m_is is) in
        subst (λ (k : ℕ). Q k e) (sym m_is) (subst (λ (x : OpenPlaces). Q n x) edge own)
    by false differs =
        let apart : m ≡ n → ⊥ = λ same. (let clash = sym differs ∙ eq-eqb m n same in cc) in
        elim (get-set edges n m new) [ inl same ↦ others m e (sym same ∙ is) apart | inr both ↦ absurd (apart both.0) ]

pub follow_same : (edges : List OpenPlaces) (F G : ℕ → List ℕ) → Follow edges F → ((k : ℕ) → F k ≡ G k) → Follow edges G
follow_same edges F G follow same k e is = follow k e is ∙ same k

-- ---- a note is opened on the edges below a number

abbrev pub grown : Note → ℕ → (ℕ → List ℕ) → ℕ → ℕ → List ℕ
grown note place places number k = places k ++ cond (ltb k number && hands k note) (place ∷ []) []

not_below : (k number : ℕ) → number ≤ k → (b : Bool) → (ltb k number && b) ≡ false
not_below k number le b = ap (λ (x : Bool). x && b) (le-ltb k number le)

below : (k number : ℕ) → k < number → (b : Bool) → (ltb k number && b) ≡ b
below k number lt b = ap (λ (x : Bool). x && b) (lt-ltb k number lt)

pub grown_none : (note : Note) (place : ℕ) (places : ℕ → List ℕ) (k : ℕ) → places k ≡ grown note place places 0 k
grown_none note place places k = sym (ap (λ (b : Bool). places k ++ cond b (place ∷ []) []) (not_below k 0 (omega arith) (hands k note)) ∙ append-nil (places k))

pub grown_other : (note : Note) (place : ℕ) (places : ℕ → List ℕ) (number k : ℕ) → (k ≡ number → ⊥) → grown note place places number k ≡ grown note place places (number + 1) k
grown_other note place places number k apart =
    ap (λ (b : Bool). places k ++ cond b (place ∷ []) []) (elim (cases_lt k number) [
      | inl lt ↦ below k number lt (hands k note) ∙ sym (below k (number + 1) (omega (arith, lt)) (hands k note))
      | inr le ↦
          let lt : number < k = elim (cases_lt number k) [ inl more ↦ more | inr over ↦ absurd (apart (omega (arith, le, over))) ] in
          not_below k number le (hands k note) ∙ sym (not_below k (number + 1) (omega (arith, lt)) (hands k note))
    ])

pub grown_own : (note : Note) (place : ℕ) (places : ℕ → List ℕ) (number : ℕ) → grown note place places number number ++ cond (hands number note) (place ∷ []) [] ≡ grown note place places (number + 1) number
grown_own note place places number =
    let le : number ≤ number = omega arith in
    let lt : number < number + 1 = omega arith in
    let before : grown note place places number number ≡ places number = ap (λ (b : Bool). places number ++ cond b (place ∷ []) []) (not_below number number le (hands number note)) ∙ append-nil (places number) in
    ap (λ (l : List ℕ). l ++ cond (hands number note) (place ∷ []) []) before ∙ sym (ap (λ (b : Bool). places number ++ cond b (place ∷ []) []) (below number (number + 1) lt (hands number note)))

pub grown_all : (note : Note) (place : ℕ) (places : ℕ → List ℕ) (number k : ℕ) → k < number → grown note place places number k ≡ places k ++ cond (hands k note) (place ∷ []) []
grown_all note place places number k lt = ap (λ (b : Bool). places k ++ cond b (place ∷ []) []) (below k number lt (hands k note))

-- ---- an edge that was looked for

pub edge_at : (edges : List OpenPlaces) (n : ℕ) (r : Option (Bor OpenPlaces)) (edge : Bor OpenPlaces) → r ≡ Some edge → option_copied r ≡ slice_get edges n → slice_get edges n ≡ Some edge.now
edge_at edges n r edge is got = sym got ∙ ap option_copied is

found_within : (xs : List OpenPlaces) (k : ℕ) → k < length xs → slice_get xs k ≡ None → ⊥
found_within [] k lt none = omega (arith, lt)
found_within (x ∷ xs) zero lt none = cc
found_within (x ∷ xs) (suc k) lt none = found_within xs k (omega (arith, lt)) none

pub none_at : (edges : List OpenPlaces) (n : ℕ) (r : Option (Bor OpenPlaces)) → r ≡ None → option_copied r ≡ slice_get edges n → length edges ≤ n
none_at edges n r is got = by (slice_get edges n) refl
  where
    by : (o : Option OpenPlaces) → slice_get edges n ≡ o → length edges ≤ n
    by (Some e) there =
        let clash = sym (sym got ∙ ap option_copied is) ∙ there in
        absurd (cc clash)
    by None there = elim (cases_lt n (length edges)) [
      | inl lt ↦ absurd (found_within edges n lt there)
      | inr le ↦ le
    ]

pub no_edge : (records : Records) (r : Option (Bor OpenPlaces)) (number : ℕ) → AreKept records → IsEdge records.config number → r ≡ None → option_copied r ≡ slice_get records.index.edges.edges.items number
    → (is_broker records.config.kind ≡ true) × (length records.config.links ≤ number)
no_edge records r number kept (inl lt) is got = absurd (let past = none_at records.index.edges.edges.items number r is got in omega (arith, lt, past, kept.indexed.count))
no_edge records r number kept (inr broker) is got =
    let past = none_at records.index.edges.edges.items number r is got in
    (broker, omega (arith, past, kept.indexed.count))
