-- The names of a node's links are distinct.
use Rattle.std.proofs.Common.{◌≡◌, ◌≢◌, ℕ, zero, suc, ◌+◌, ◌%◌, ◌^◌, ◌<◌, ◌≤◌, Bool, true, false, List, [], ◌∷◌, ◌++◌, Some, length, inl, inr, refl, sym, ◌∙◌, ap, arith, append_assoc, length-append, eq-eqb}
use Rattle.std.specs.Prelude.{cond, codes, filter, slice_get, ◌==◌, ◌||◌}
use Rattle.std.specs.List.{list_any}
use Rattle.std.specs.Fmt.{decimal}
use Rattle.std.specs.Str.Parse.{digits_value}
use Rattle.std.proofs.lemmas.Fmt.{decimal_is_IsNumeral, decimal_by_steps}
use Rattle.std.proofs.lemmas.List.{append_cancel_left}
use Rattle.std.proofs.lemmas.Option.{slice_get_within}
use Rattle.net_model.specs.Draining.{IsProper}
use Rattle.voe_scenario.specs.declared.graph.Edge.{Edge}
use Rattle.voe_scenario.specs.declared.graph.Graph.{Graph}
use Rattle.voe_scenario.specs.Shapes.{config_of, edges_from, ends_of, link_name, links_behind, node_name, shape}
use Rattle.voe_net.specs.Nodes.{AreDistinct, names_of}
use Rattle.voe_net.proofs.Eaches.{map-get}

-- no byte is a dot
abbrev NoDot : List ℕ → Type 0
NoDot [] = Unit {0}
NoDot (b ∷ bs) = (b ≢ 46) × NoDot bs

NoDot-append : (xs ys : List ℕ) → NoDot xs → NoDot ys → NoDot (xs ++ ys)
NoDot-append [] ys first second = second
NoDot-append (x ∷ xs) ys first second = (first.0, NoDot-append xs ys first.1 second)

digits-no_dot : (n : ℕ) → n < 2 ^ 64 → NoDot (decimal n)
digits-no_dot n h = decimal_by_steps (λ _ text. NoDot text)
    (λ k small. ((λ e. omega arith), tt))
    (λ k ds big before. NoDot-append ds ((48 + k % 10) ∷ []) before ((λ e. omega arith), tt))
    n h

same-number : (m n : ℕ) → m < 2 ^ 64 → n < 2 ^ 64 → decimal m ≡ decimal n → m ≡ n
same-number m n a b e = sym (decimal_is_IsNumeral m a).1 ∙ ap (digits_value 10) e ∙ (decimal_is_IsNumeral n b).1

-- a text without a dot is none with one
has-dot : (xs ys rest : List ℕ) → NoDot xs → xs ≡ ys ++ 46 ∷ rest → ⊥
has-dot [] [] rest h e = cc
has-dot [] (y ∷ ys) rest h e = cc
has-dot (x ∷ xs) [] rest h e = h.0 cc
has-dot (x ∷ xs) (y ∷ ys) rest h e = let tail : xs ≡ ys ++ 46 ∷ rest = cc in has-dot xs ys rest h.1 tail

-- what stands behind the first dot
behind-dot : (xs ys left right : List ℕ) → NoDot xs → NoDot ys → xs ++ 46 ∷ left ≡ ys ++ 46 ∷ right → left ≡ right
behind-dot [] [] left right a b e = cc
behind-dot [] (y ∷ ys) left right a b e = absurd (b.0 cc)
behind-dot (x ∷ xs) [] left right a b e = absurd (a.0 cc)
behind-dot (x ∷ xs) (y ∷ ys) left right a b e = let tail : xs ++ 46 ∷ left ≡ ys ++ 46 ∷ right = cc in behind-dot xs ys left right a.1 b.1 tail

-- the two names are one
same-plain : (m n : ℕ) → m < 2 ^ 64 → n < 2 ^ 64 → node_name m ≡ node_name n → m ≡ n
same-plain m n a b e = same-number m n a b (append_cancel_left (codes "ivo://node/") (decimal m) (decimal n) e)

same-numbered : (k l m n : ℕ) → k < 2 ^ 64 → l < 2 ^ 64 → m < 2 ^ 64 → n < 2 ^ 64
    → node_name k ++ (codes "." ++ decimal m) ≡ node_name l ++ (codes "." ++ decimal n) → m ≡ n
same-numbered k l m n a b c d e =
    let left = append_assoc (codes "ivo://node/") (decimal k) (codes "." ++ decimal m) in
    let right = append_assoc (codes "ivo://node/") (decimal l) (codes "." ++ decimal n) in
    let tails = append_cancel_left (codes "ivo://node/") (decimal k ++ (codes "." ++ decimal m)) (decimal l ++ (codes "." ++ decimal n)) (sym left ∙ e ∙ right) in
    same-number m n c d (behind-dot (decimal k) (decimal l) (decimal m) (decimal n) (digits-no_dot k a) (digits-no_dot l b) tails)

not-numbered : (k l n : ℕ) → k < 2 ^ 64 → node_name k ≡ node_name l ++ (codes "." ++ decimal n) → ⊥
not-numbered k l n a e =
    let right = append_assoc (codes "ivo://node/") (decimal l) (codes "." ++ decimal n) in
    has-dot (decimal k) (decimal l) (decimal n) (digits-no_dot k a)
    (append_cancel_left (codes "ivo://node/") (decimal k) (decimal l ++ (codes "." ++ decimal n)) (e ∙ right))

-- an earlier edge leads to the node
abbrev leads : List ℕ → ℕ → Bool
leads earlier lower = list_any (λ other. other == lower) earlier

-- how one name is another, by whether earlier edges lead to their nodes
same-names : (first second : Bool) (k l m n : ℕ) → k < 2 ^ 64 → l < 2 ^ 64 → m < 2 ^ 64 → n < 2 ^ 64
    → cond first (node_name k ++ (codes "." ++ decimal m)) (node_name k) ≡ cond second (node_name l ++ (codes "." ++ decimal n)) (node_name l)
    → (m ≢ n) → (second ≡ false → k ≢ l) → ⊥
same-names true true k l m n a b c d e other apart = other (same-numbered k l m n a b c d e)
same-names true false k l m n a b c d e other apart = not-numbered l k m b (sym e)
same-names false true k l m n a b c d e other apart = not-numbered k l n a e
same-names false false k l m n a b c d e other apart = apart refl (same-plain k l a b e)

-- a link of a later place has another name than the first
first-apart : (earlier : List ℕ) (lower : ℕ) (between : List ℕ) (edges : List Edge) (n : ℕ) (name : List ℕ)
    → lower < 2 ^ 64 → ((k : ℕ) (edge : Edge) → slice_get edges k ≡ Some edge → edge.lower < 2 ^ 64) → length earlier + suc (length between) + length edges < 2 ^ 64
    → link_name earlier lower ≡ name → slice_get (names_of (links_behind (earlier ++ lower ∷ between) edges)) n ≡ Some name → ⊥
first-apart earlier lower between [] n name a all few is at = cc
first-apart earlier lower between (edge ∷ edges) zero name a all few is at =
    let same : link_name (earlier ++ lower ∷ between) edge.lower ≡ name = cc in
    let longer : length (earlier ++ lower ∷ between) ≡ length earlier + suc (length between) = length-append earlier (lower ∷ between) in
    same-names (leads earlier lower) (leads (earlier ++ lower ∷ between) edge.lower) lower edge.lower (length earlier) (length (earlier ++ lower ∷ between))
    a (all 0 edge refl) (omega arith) (omega arith) (is ∙ sym same)
    (λ e. omega arith)
    (λ none e. met earlier lower between edge.lower none e)
  where
    met : (earlier : List ℕ) (lower : ℕ) (between : List ℕ) (other : ℕ) → leads (earlier ++ lower ∷ between) other ≡ false → lower ≡ other → ⊥
    met [] lower between other none e = let here : (lower == other) ≡ true = eq-eqb lower other e in let gone = rw here at none in cc
    met (x ∷ xs) lower between other none e = met xs lower between other (or-right (x == other) (leads (xs ++ lower ∷ between) other) none) e
      where
        or-right : (p q : Bool) → (p || q) ≡ false → q ≡ false
        or-right true q h = cc
        or-right false q h = h
first-apart earlier lower between (edge ∷ edges) (suc n) name a all few is at =
    let longer = append_assoc earlier (lower ∷ between) (edge.lower ∷ []) in
    let count = length-append between (edge.lower ∷ []) in
    first-apart earlier lower (between ++ edge.lower ∷ []) edges n name a (λ k other. all (suc k) other) (omega arith) is
    (rw longer at at)

-- the names of links are distinct
pub names-distinct : (earlier : List ℕ) (edges : List Edge) → ((k : ℕ) (edge : Edge) → slice_get edges k ≡ Some edge → edge.lower < 2 ^ 64)
    → length earlier + length edges < 2 ^ 64 → AreDistinct (names_of (links_behind earlier edges))
names-distinct earlier [] all few m n name left right = cc
names-distinct earlier (edge ∷ edges) all few zero zero name left right = refl
names-distinct earlier (edge ∷ edges) all few zero (suc n) name left right =
    absurd (first-apart earlier edge.lower [] edges n name (all 0 edge refl) (λ k other. all (suc k) other) (omega arith) (cc) right)
names-distinct earlier (edge ∷ edges) all few (suc m) zero name left right =
    absurd (first-apart earlier edge.lower [] edges m name (all 0 edge refl) (λ k other. all (suc k) other) (omega arith) (cc) left)
names-distinct earlier (edge ∷ edges) all few (suc m) (suc n) name left right =
    let count = length-append earlier (edge.lower ∷ []) in
    ap suc (names-distinct (earlier ++ edge.lower ∷ []) edges (λ k other. all (suc k) other) (omega arith) m n name left right)

-- what passes a test is one of the list, which is no shorter
filter-get : {X : Type 0} (p : X → Bool) (xs : List X) (n : ℕ) (x : X) → slice_get (filter p xs) n ≡ Some x → (m : ℕ) × (slice_get xs m ≡ Some x)
filter-get p [] n x h = cc
filter-get p (y ∷ ys) n x h = by-test (p y) n (λ m at. filter-get p ys m x at) h
  where
    by-test : (b : Bool) (n : ℕ) → ((m : ℕ) → slice_get (filter p ys) m ≡ Some x → (k : ℕ) × (slice_get ys k ≡ Some x))
        → slice_get (cond b (y ∷ filter p ys) (filter p ys)) n ≡ Some x → (m : ℕ) × (slice_get (y ∷ ys) m ≡ Some x)
    by-test true zero rest h = (0, h)
    by-test true (suc n) rest h = let at = rest n h in (suc at.0, at.1)
    by-test false n rest h = let at = rest n h in (suc at.0, at.1)

filter-length : {X : Type 0} (p : X → Bool) (xs : List X) → length (filter p xs) ≤ length xs
filter-length p [] = omega arith
filter-length p (y ∷ ys) = by-test (p y) (filter-length p ys)
  where
    by-test : (b : Bool) → length (filter p ys) ≤ length ys → length (cond b (y ∷ filter p ys) (filter p ys)) ≤ length (y ∷ ys)
    by-test true rest = omega arith
    by-test false rest = omega arith

-- an edge leads to a node that is there
lower-within : (graph : Graph) → IsProper (shape graph) → (m : ℕ) (edge : Edge) → slice_get graph.edges m ≡ Some edge → edge.lower < length graph.nodes
lower-within graph proper m edge at = elim (proper.ends m (ends_of edge) (map-get ends_of graph.edges m edge at)) [
  | inl line ↦ slice_get_within graph.nodes edge.lower _ line.1
  | inr link ↦ elim link.1 [
    | inl broker ↦ slice_get_within graph.nodes edge.lower _ broker
    | inr subscriber ↦ slice_get_within graph.nodes edge.lower _ subscriber
  ]
]

pub config-distinct : (graph : Graph) (node : ℕ) → IsProper (shape graph) → length graph.nodes < 2 ^ 8 → length graph.edges < 2 ^ 16
    → AreDistinct (names_of (config_of graph node).links)
config-distinct graph node proper few edges =
    names-distinct [] (edges_from node graph.edges)
    (λ k edge at.
    let there = filter-get (λ other. other.upper == node) graph.edges k edge at in
    omega (arith, lower-within graph proper there.0 edge there.1))
    (omega (arith, filter-length (λ other. other.upper == node) graph.edges))
