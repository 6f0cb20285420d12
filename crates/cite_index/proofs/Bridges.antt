-- Ways over numbered edges are paths over the citations that the edges stand for.
use Rattle.std.proofs.Common.{◌≡◌, ◌∙◌, ap, sym, refl, subst, inl, inr, ◌⊎◌, ℕ, zero, suc, ◌<◌, List, [], ◌∷◌, ◌++◌, length, get_or, Some, Contains, All, append_assoc}
use Rattle.std.specs.List.{slice_get, AllZip}
use Rattle.std.proofs.lemmas.Option.{slice_get_within, same_Some, slice_get-get_or}
use Rattle.cite_index.specs.declared.triple.Triple.{Triple}
use Rattle.cite_index.specs.Names.{AreDistinct}
use Rattle.cite_index.specs.Reach.{IsConnected, IsJoined, IsMarked, Way}
use Rattle.cite_index.specs.Threads.{AreEdges, InThread, IsEdge, IsFront, IsLinked, Path}
use Rattle.cite_index.proofs.Naming.{at_front, at_of_contains, contains_of_at, none_is_some}

pub front_front : (a b c : List (List ℕ)) → IsFront a b → IsFront b c → IsFront a c
front_front a b c (m, e) (n, f) = (m ++ n, f ∙ (ap (λ (l : List (List ℕ)). l ++ n) e ∙ append_assoc a m n))

pub at_more : (old new : List (List ℕ)) (k : ℕ) (x : List ℕ) → IsFront old new → slice_get old k ≡ Some x → slice_get new k ≡ Some x
at_more old new k x (more, e) h = subst (λ (l : List (List ℕ)). slice_get l k ≡ Some x) (sym e) (at_front old more k x h)

pub edges_more : (old new : List (List ℕ)) → IsFront old new → (cites : List Triple) (edges : List (ℕ × ℕ)) → AreEdges old cites edges → AreEdges new cites edges
edges_more old new front [] [] h = h
edges_more old new front [] (e ∷ edges) h = h
edges_more old new front (t ∷ cites) [] h = h
edges_more old new front (t ∷ cites) (e ∷ edges) h = ((at_more old new e.0 t.citing front h.0.0, at_more old new e.1 t.cited front h.0.1), edges_more old new front cites edges h.1)

pub edge_push : (names : List (List ℕ)) (cites : List Triple) (edges : List (ℕ × ℕ)) (t : Triple) (e : ℕ × ℕ) → AreEdges names cites edges → IsEdge names t e → AreEdges names (cites ++ t ∷ []) (edges ++ e ∷ [])
edge_push names [] [] t e h one = (one, tt)
edge_push names [] (f ∷ edges) t e h one = absurd h
edge_push names (u ∷ cites) [] t e h one = absurd h
edge_push names (u ∷ cites) (f ∷ edges) t e h one = (h.0, edge_push names cites edges t e h.1 one)

edge_of : (names : List (List ℕ)) (cites : List Triple) (edges : List (ℕ × ℕ)) → AreEdges names cites edges → (k : ℕ) (t : Triple) → slice_get cites k ≡ Some t → (e : ℕ × ℕ) × (slice_get edges k ≡ Some e) × (IsEdge names t e)
edge_of names [] edges h k t is = absurd (none_is_some t is)
edge_of names (u ∷ cites) [] h k t is = absurd h
edge_of names (u ∷ cites) (e ∷ edges) h zero t is = let same : u ≡ t = same_Some u t is in (e, refl, subst (λ (v : Triple). IsEdge names v e) same h.0)
edge_of names (u ∷ cites) (e ∷ edges) h (suc k) t is = edge_of names cites edges h.1 k t is

triple_of : (names : List (List ℕ)) (cites : List Triple) (edges : List (ℕ × ℕ)) → AreEdges names cites edges → (k : ℕ) (e : ℕ × ℕ) → slice_get edges k ≡ Some e → (t : Triple) × (slice_get cites k ≡ Some t) × (IsEdge names t e)
triple_of names cites [] h k e is = absurd (none_is_some e is)
triple_of names [] (f ∷ edges) h k e is = absurd h
triple_of names (t ∷ cites) (f ∷ edges) h zero e is = let same : f ≡ e = same_Some f e is in (t, refl, subst (λ (v : ℕ × ℕ). IsEdge names t v) same h.0)
triple_of names (t ∷ cites) (f ∷ edges) h (suc k) e is = triple_of names cites edges h.1 k e is

pub edges_within : (names : List (List ℕ)) (cites : List Triple) (edges : List (ℕ × ℕ)) (count : ℕ) → count ≡ length names → AreEdges names cites edges → All (λ e. (e.0 < count) × (e.1 < count)) edges
edges_within names cites edges count same h k d in' =
    let e : ℕ × ℕ = get_or edges k d in
    let found = triple_of names cites edges h k e (slice_get-get_or edges k d in') in
    let first : e.0 < length names = slice_get_within names e.0 found.0.citing found.2.0 in
    let second : e.1 < length names = slice_get_within names e.1 found.0.cited found.2.1 in
    subst (λ (n : ℕ). (e.0 < n) × (e.1 < n)) (sym same) (first, second)

-- from numbers to identifiers
step_path : (names : List (List ℕ)) (cites : List Triple) (edges : List (ℕ × ℕ)) → AreEdges names cites edges → (c n : ℕ) (b : List ℕ) → slice_get names n ≡ Some b → IsJoined edges c n → (x : List ℕ) × (slice_get names c ≡ Some x) × IsLinked cites x b
step_path names cites edges same c n b at (inl h) =
    let here = at_of_contains edges (c, n) h in
    let found = triple_of names cites edges same here.0 (c, n) here.1 in
    let t : Triple = found.0 in
    let ends : IsEdge names t (c, n) = found.2 in
    (t.citing, ends.0, (t, contains_of_at cites here.0 t found.1, inl (refl, same_Some t.cited b (sym ends.1 ∙ at))))
step_path names cites edges same c n b at (inr h) =
    let here = at_of_contains edges (n, c) h in
    let found = triple_of names cites edges same here.0 (n, c) here.1 in
    let t : Triple = found.0 in
    let ends : IsEdge names t (n, c) = found.2 in
    (t.cited, ends.1, (t, contains_of_at cites here.0 t found.1, inr (same_Some t.citing b (sym ends.0 ∙ at), refl)))

more_path : (cites : List Triple) (a b x : List ℕ) (k : ℕ) → Path cites a x k → IsLinked cites x b → Path cites a b (suc k)
more_path cites a b x k p (t, has, ends) = (x, p, (t, has, ends))

pub path_of : (names : List (List ℕ)) (cites : List Triple) (edges : List (ℕ × ℕ)) → AreEdges names cites edges → (k m n : ℕ) (a b : List ℕ) → slice_get names m ≡ Some a → slice_get names n ≡ Some b → Way edges m n k → Path cites a b k
path_of names cites edges same zero m n a b at_a at_b w = same_Some a b (sym at_a ∙ (ap (slice_get names) w ∙ at_b))
path_of names cites edges same (suc k) m n a b at_a at_b (c, w, j) =
    let s = step_path names cites edges same c n b at_b j in
    more_path cites a b s.0 k (path_of names cites edges same k m c a s.0 at_a s.1 w) s.2

-- and back
step_way : (names : List (List ℕ)) (cites : List Triple) (edges : List (ℕ × ℕ)) → AreDistinct names → AreEdges names cites edges → (c : ℕ) (x b : List ℕ) → slice_get names c ≡ Some x → IsLinked cites x b → (n : ℕ) × (slice_get names n ≡ Some b) × IsJoined edges c n
step_way names cites edges distinct same c x b at (t, has, inl (one, other)) =
    let here = at_of_contains cites t has in
    let found = edge_of names cites edges same here.0 t here.1 in
    let e : ℕ × ℕ = found.0 in
    let ends : IsEdge names t e = found.2 in
    let first : e.0 ≡ c = distinct e.0 c x (ends.0 ∙ ap (λ (l : List ℕ). Some l) one) at in
    let in' : Contains edges e = contains_of_at edges here.0 e found.1 in
    (e.1, ends.1 ∙ ap (λ (l : List ℕ). Some l) other, inl (subst (λ (q : ℕ × ℕ). Contains edges q) (ap (λ (q : ℕ). (q, e.1)) first) in'))
step_way names cites edges distinct same c x b at (t, has, inr (one, other)) =
    let here = at_of_contains cites t has in
    let found = edge_of names cites edges same here.0 t here.1 in
    let e : ℕ × ℕ = found.0 in
    let ends : IsEdge names t e = found.2 in
    let second : e.1 ≡ c = distinct e.1 c x (ends.1 ∙ ap (λ (l : List ℕ). Some l) other) at in
    let in' : Contains edges e = contains_of_at edges here.0 e found.1 in
    (e.0, ends.0 ∙ ap (λ (l : List ℕ). Some l) one, inr (subst (λ (q : ℕ × ℕ). Contains edges q) (ap (λ (q : ℕ). (e.0, q)) second) in'))

more_way : (names : List (List ℕ)) (edges : List (ℕ × ℕ)) (m c k : ℕ) (b : List ℕ) → Way edges m c k → (n : ℕ) × (slice_get names n ≡ Some b) × IsJoined edges c n → (n : ℕ) × (slice_get names n ≡ Some b) × Way edges m n (suc k)
more_way names edges m c k b w r = (r.0, r.1, (c, w, r.2))

pub way_of : (names : List (List ℕ)) (cites : List Triple) (edges : List (ℕ × ℕ)) → AreDistinct names → AreEdges names cites edges → (k m : ℕ) (a b : List ℕ) → slice_get names m ≡ Some a → Path cites a b k → (n : ℕ) × (slice_get names n ≡ Some b) × Way edges m n k
way_of names cites edges distinct same zero m a b at p = (m, at ∙ ap (λ (l : List ℕ). Some l) p, refl)
way_of names cites edges distinct same (suc k) m a b at (x, p, l) =
    let r = way_of names cites edges distinct same k m a x at p in
    more_way names edges m r.0 k b r.2 (step_way names cites edges distinct same r.0 x b r.1 l)

-- what the marks say of identifiers
pub in_thread : (names : List (List ℕ)) (cites : List Triple) (edges : List (ℕ × ℕ)) → AreEdges names cites edges → (m n : ℕ) (i x : List ℕ) → slice_get names m ≡ Some i → slice_get names n ≡ Some x → IsConnected edges m n → InThread cites i x
in_thread names cites edges same m n i x at_i at_x (k, w) = (k, path_of names cites edges same k m n i x at_i at_x w)

join : (names : List (List ℕ)) (edges : List (ℕ × ℕ)) (m k : ℕ) (x : List ℕ) → (n : ℕ) × (slice_get names n ≡ Some x) × Way edges m n k → (n : ℕ) × (slice_get names n ≡ Some x) × IsConnected edges m n
join names edges m k x r = (r.0, r.1, (k, r.2))

pub thread_at : (names : List (List ℕ)) (cites : List Triple) (edges : List (ℕ × ℕ)) → AreDistinct names → AreEdges names cites edges → (m : ℕ) (i x : List ℕ) → slice_get names m ≡ Some i → InThread cites i x → (n : ℕ) × (slice_get names n ≡ Some x) × IsConnected edges m n
thread_at names cites edges distinct same m i x at (k, p) = join names edges m k x (way_of names cites edges distinct same k m i x at p)
