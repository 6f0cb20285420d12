-- What a walk over all tokens finds: the place where no sentence goes on, or all that was read.
use Rattle.std.proofs.Common.{◌≡◌, inl, inr, ℕ, suc, ◌<◌, List, [], ◌∷◌, ◌++◌, length, take, Option, Some, None, refl, sym, ◌∙◌, ap, subst, append_assoc, append-nil, arith}
use Rattle.filter_text.specs.Filter.{Path, Condition, found}
use Rattle.filter_tokens.specs.Token.{Placed}
use Rattle.filter_text.specs.Grammar.{Symbol, IsPath, IsCondition}
use Rattle.filter_text.specs.Reading.{symbol_of, symbols_of, next_token, place_of, GoesOn}
use Rattle.filter_text.specs.Machine.{State, Opening, Machine, nothing_read, beginning, advance, and_then, run, part_read, sentence_of, path_read, path_of_machine, path_to, refused, ended, walk, walk_on}
use Rattle.filter_text.proofs.Takes.{from, Behind, condition-runs, path-runs}
use Rattle.filter_text.proofs.Sound.{MachineOk, ResultOk, EndOk, PathOk, step-sound, end-sound, path-sound, completes}

run-append : (ts us : List Symbol) (m : Machine) → run (ts ++ us) m ≡ and_then (run ts m) (run us)
run-append [] us m = refl
run-append (t ∷ ts) us m = by_step (advance m.state t m.stack) (λ n. run-append ts us n)
  where
    by_step : (o : Option Machine) → ((n : Machine) → run (ts ++ us) n ≡ and_then (run ts n) (run us)) → and_then o (run (ts ++ us)) ≡ and_then (and_then o (run ts)) (run us)
    by_step None f = refl
    by_step (Some n) f = f n

-- a sentence is run to its end
record RunsWhole (ts : List Symbol) (c : Condition) : Type 0 where
  state : State
  runs : run ts beginning ≡ Some (from state [])
  is_part : Option Condition
  reads : part_read state ≡ Some c

sentence-runs : (ts : List Symbol) (c : Condition) → IsCondition ts c → RunsWhole ts c
sentence-runs ts c is =
    let r = condition-runs ts c None [] is in
    record { state = r.0; runs = ap (λ x. run x beginning) (sym (append-nil ts)) ∙ r.2 []; is_part = None; reads = r.1.done.reads ∙ ap Some r.1.same }

pub stopped : (ts : List Symbol) → run ts beginning ≡ None → GoesOn ts → ⊥
stopped ts e (rest, (c, is)) =
    let w = sentence-runs (ts ++ rest) c is in
    let bad : ◌≡◌ {A = Option Machine} None (Some (from w.state [])) = ap (λ o. and_then o (run rest)) (sym e) ∙ sym (run-append ts rest beginning) ∙ w.runs in
    cc

-- a machine that read all, and the sentence that it holds
pub sentence-found : (ts : List Symbol) (m : Machine) (c : Condition) → run ts beginning ≡ Some m → IsCondition ts c → sentence_of m ≡ Some c
sentence-found ts m c e is =
    let w = sentence-runs ts c is in
    let P : Machine → Type 0 = λ n. sentence_of n ≡ Some c in
    let same : from w.state [] ≡ m = (let both : Some (from w.state []) ≡ Some m = sym w.runs ∙ e in cc) in
    subst P same w.reads

pub sentence-part : (m : Machine) (ts : List Symbol) (c : Condition) → MachineOk m ts → sentence_of m ≡ Some c → IsCondition ts c
sentence-part m ts c ok e = by_stack m.state m.stack ok e
  where
    by_stack : (state : State) (stack : List Opening) → MachineOk (from state stack) ts → sentence_of (from state stack) ≡ Some c → IsCondition ts c
    by_stack state [] (front, ss, st, is, f) h =
        let same : ts ≡ ss = f ∙ ap (λ x. x ++ ss) st in
        subst (λ (x : List Symbol). IsCondition x c) (sym same) (let P : Option Condition → Type 0 = λ o. EndOk o ss in subst P h (end-sound state ss is))
    by_stack state (o ∷ os) k h = absurd (let bad : ⊥ = cc in bad)

pub path-part : (m : Machine) (ts : List Symbol) (p : Path) → MachineOk m ts → path_of_machine m ≡ Some p → IsPath ts p
path-part m ts p ok e = by_stack m.state m.stack ok e
  where
    by_stack : (state : State) (stack : List Opening) → MachineOk (from state stack) ts → path_of_machine (from state stack) ≡ Some p → IsPath ts p
    by_stack state [] (front, ss, st, is, f) h =
        let same : ts ≡ ss = f ∙ ap (λ x. x ++ ss) st in
        subst (λ (x : List Symbol). IsPath x p) (sym same) (let P : Option Path → Type 0 = λ o. PathOk o ss in subst P h (path-sound state ss is))
    by_stack state (o ∷ os) k h = absurd (let bad : ⊥ = cc in bad)

pub path-found : (ts : List Symbol) (m : Machine) (p : Path) → run ts beginning ≡ Some m → IsPath ts p → path_of_machine m ≡ Some p
path-found ts m p e is =
    let r = path-runs ts p nothing_read [] is in
    let runs : run ts beginning ≡ Some (from r.0 []) = ap (λ x. run x beginning) (sym (append-nil ts)) ∙ r.2 [] in
    let same : from r.0 [] ≡ m = (let both : Some (from r.0 []) ≡ Some m = sym runs ∙ e in cc) in
    let P : Machine → Type 0 = λ n. path_of_machine n ≡ Some p in
    subst P same (by_end r.0 r.1)
  where
    by_end : (st : State) → Behind nothing_read (found p) st → path_read st ≡ Some p
    by_end st (inl (way, test, cs, f, g)) = ap path_read f ∙ (let h : path_to way test cs ≡ p = cc in ap Some h)
    by_end st (inr f) = ap path_read f

pub one_path : (ts : List Symbol) (p q : Path) → IsPath ts p → IsPath ts q → p ≡ q
one_path ts p q a b =
    let r = path-runs ts p nothing_read [] a in
    let runs : run ts beginning ≡ Some (from r.0 []) = ap (λ x. run x beginning) (sym (append-nil ts)) ∙ r.2 [] in
    let f = path-found ts (from r.0 []) p runs a in
    let g = path-found ts (from r.0 []) q runs b in
    cc

-- ---- the walk

pub record Stops (ts : List Symbol) (ks : List Placed) (m : Machine) (place end : ℕ) : Type 0 where
  pub at : ℕ
  pub within : at < length ks
  pub is_place : place ≡ place_of ks at end
  pub front : GoesOn (ts ++ take at (symbols_of ks))
  pub stops : run (take (suc at) (symbols_of ks)) m ≡ None

pub walk-refused : (ks : List Placed) (m : Machine) (ts : List Symbol) (place end : ℕ) → MachineOk m ts → walk ks m ≡ refused place → Stops ts ks m place end
walk-refused [] m ts place end ok e = absurd (let bad : ⊥ = cc in bad)
walk-refused (k ∷ ks) m ts place end ok e = by_step (advance m.state (symbol_of k.token (next_token ks)) m.stack) refl (step-sound m.state (symbol_of k.token (next_token ks)) m.stack ok.0 ok.1 ok.2 ok.3) e (λ n. walk-refused ks n (ts ++ symbol_of k.token (next_token ks) ∷ []) place end)
  where
    by_step : (o : Option Machine) → advance m.state (symbol_of k.token (next_token ks)) m.stack ≡ o → ResultOk o (ok.0 ++ (ok.1 ++ symbol_of k.token (next_token ks) ∷ [])) → walk_on k.place o (walk ks) ≡ refused place →
        ((n : Machine) → MachineOk n (ts ++ symbol_of k.token (next_token ks) ∷ []) → walk ks n ≡ refused place → Stops (ts ++ symbol_of k.token (next_token ks) ∷ []) ks n place end) → Stops ts (k ∷ ks) m place end
    by_step None f r w others =
        record {
          at = 0;
          within = omega arith;
          is_place = (let same : k.place ≡ place = cc in sym same);
          front = subst GoesOn (sym (append-nil ts)) (completes m ts ok);
          stops = ap (λ o. and_then o (run [])) f;
        }
    by_step (Some n) f r w others =
        let x = symbol_of k.token (next_token ks) in
        let there : ok.0 ++ (ok.1 ++ x ∷ []) ≡ ts ++ x ∷ [] = sym (ap (λ y. y ++ x ∷ []) ok.4 ∙ append_assoc ok.0 ok.1 (x ∷ [])) in
        let next = others n (subst (λ (y : List Symbol). MachineOk n y) there r) w in
        record {
          at = suc next.at;
          within = (let h = next.within in omega arith);
          is_place = next.is_place;
          front = subst GoesOn (append_assoc ts (x ∷ []) (take next.at (symbols_of ks))) next.front;
          stops = ap (λ o. and_then o (run (take (suc next.at) (symbols_of ks)))) f ∙ next.stops;
        }

pub walk-ended : (ks : List Placed) (m n : Machine) (ts : List Symbol) → MachineOk m ts → walk ks m ≡ ended n → MachineOk n (ts ++ symbols_of ks) × (run (symbols_of ks) m ≡ Some n)
walk-ended [] m n ts ok e = (let same : m ≡ n = cc in subst (λ (y : Machine). MachineOk y (ts ++ [])) same (subst (λ (y : List Symbol). MachineOk m y) (sym (append-nil ts)) ok), (let same : m ≡ n = cc in ap Some same))
walk-ended (k ∷ ks) m n ts ok e = by_step (advance m.state (symbol_of k.token (next_token ks)) m.stack) refl (step-sound m.state (symbol_of k.token (next_token ks)) m.stack ok.0 ok.1 ok.2 ok.3) e (λ l. walk-ended ks l n (ts ++ symbol_of k.token (next_token ks) ∷ []))
  where
    by_step : (o : Option Machine) → advance m.state (symbol_of k.token (next_token ks)) m.stack ≡ o → ResultOk o (ok.0 ++ (ok.1 ++ symbol_of k.token (next_token ks) ∷ [])) → walk_on k.place o (walk ks) ≡ ended n →
        ((l : Machine) → MachineOk l (ts ++ symbol_of k.token (next_token ks) ∷ []) → walk ks l ≡ ended n → MachineOk n ((ts ++ symbol_of k.token (next_token ks) ∷ []) ++ symbols_of ks) × (run (symbols_of ks) l ≡ Some n)) →
        MachineOk n (ts ++ symbol_of k.token (next_token ks) ∷ symbols_of ks) × (and_then (advance m.state (symbol_of k.token (next_token ks)) m.stack) (run (symbols_of ks)) ≡ Some n)
    by_step None f r w others = absurd (let bad : ⊥ = cc in bad)
    by_step (Some l) f r w others =
        let x = symbol_of k.token (next_token ks) in
        let there : ok.0 ++ (ok.1 ++ x ∷ []) ≡ ts ++ x ∷ [] = sym (ap (λ y. y ++ x ∷ []) ok.4 ∙ append_assoc ok.0 ok.1 (x ∷ [])) in
        let next = others l (subst (λ (y : List Symbol). MachineOk l y) there r) w in
        (subst (λ (y : List Symbol). MachineOk n y) (append_assoc ts (x ∷ []) (symbols_of ks)) next.0, ap (λ o. and_then o (run (symbols_of ks))) f ∙ next.1)
