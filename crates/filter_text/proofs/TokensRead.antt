-- What the walk over the tokens says of them.
use Rattle.std.proofs.Common.{◌≡◌, ℕ, suc, ◌-◌, ◌<◌, ◌≤◌, Bool, true, false, List, [], ◌∷◌, ◌++◌, length, take, drop, Option, Some, None, refl, sym, ◌∙◌, ap, subst, append_assoc, append-nil, add-one, eqb-true, arith}
use Rattle.std.specs.Prelude.{is_some, cond, nat_eq}
use Rattle.std.proofs.lemmas.List.{take-append-drop}
use Rattle.filter_text.specs.Filter.{Text, Path, Condition}
use Rattle.filter_tokens.specs.Token.{Placed, IsCut}
use Rattle.filter_text.specs.Grammar.{Symbol, IsPath, IsCondition}
use Rattle.filter_text.specs.Reading.{symbols_of, place_of, first_outside, IsSentence, GoesOn, IsStop, IsTokenized, IsOfFilters, Reads, HasBadToken}
use Rattle.filter_text.specs.Refusal.{Refuses}
use Rattle.filter_text.specs.Phases.{ReadsTokens, RefusesTokens, IsRead, StopsWalk}
use Rattle.filter_tokens.specs.Scan.{cut_of}
use Rattle.filter_text.specs.Machine.{Machine, beginning, sentence_of, path_of_machine, Walked, refused, ended, walk, unfinished, path_or_condition}
use Rattle.filter_text.specs.declared.fault.FilterFault.{FilterFault}
use Rattle.filter_text.specs.declared.fault.FilterFault.TheVariants.{Length, BadToken, OutOfProfile, Syntax, TooDeep, NotPath, NoMemory}
use Rattle.filter_text.proofs.Sound.{completes, beginning-ok}
use Rattle.filter_text.proofs.Walks.{stopped, sentence-found, sentence-part, path-part, path-found, walk-refused, walk-ended}
use Rattle.filter_tokens.proofs.CutLaws.{cut-of, is-cut}

symbols-length : (ks : List Placed) → length (symbols_of ks) ≡ length ks
symbols-length [] = refl
symbols-length (k ∷ ks) = ap suc (symbols-length ks)

-- a front of a sentence goes on
pub front-goes_on : (ts : List Symbol) (n : ℕ) → GoesOn ts → GoesOn (take n ts)
front-goes_on ts n (rest, (c, is)) =
    (drop n ts ++ rest, (c, subst (λ (x : List Symbol). IsCondition x c) (ap (λ x. x ++ rest) (sym (take-append-drop n ts)) ∙ append_assoc (take n ts) (drop n ts) rest) is))

sentence-goes_on : (ts : List Symbol) → IsSentence ts → GoesOn ts
sentence-goes_on ts (c, is) = ([], (c, subst (λ (x : List Symbol). IsCondition x c) (sym (append-nil ts)) is))

pub stop-refused : (ks : List Placed) (end place : ℕ) → walk ks beginning ≡ refused place → IsStop ks end place
stop-refused ks end place e =
    let s = walk-refused ks beginning [] place end beginning-ok e in
    let never = stopped (take (suc s.at) (symbols_of ks)) s.stops in
    record {
      no_sentence = λ is. never (front-goes_on (symbols_of ks) (suc s.at) (sentence-goes_on (symbols_of ks) is));
      at = s.at;
      within = (let h = s.within in omega arith);
      front = s.front;
      stops = λ lt. rw add-one never;
      is_place = s.is_place;
    }

past-end : (ks : List Placed) (end : ℕ) → place_of ks (length ks) end ≡ end
past-end [] end = refl
past-end (k ∷ ks) end = past-end ks end

take-whole : (ts : List Symbol) → take (length ts) ts ≡ ts
take-whole [] = refl
take-whole (t ∷ ts) = ap (λ x. t ∷ x) (take-whole ts)

some-none : {A : Type 0} (o : Option A) (a : A) → o ≡ None → o ≡ Some a → ⊥
some-none o a e f = (let bad : None ≡ Some a = sym e ∙ f in cc)

pub stop-ended : (ks : List Placed) (end : ℕ) (m : Machine) → walk ks beginning ≡ ended m → sentence_of m ≡ None → IsStop ks end end
stop-ended ks end m e none =
    let w = walk-ended ks beginning m [] beginning-ok e in
    record {
      no_sentence = λ is. some-none (sentence_of m) is.0 none (sentence-found (symbols_of ks) m is.0 w.1 is.1);
      at = length ks;
      within = omega arith;
      front = subst GoesOn (sym (ap (λ n. take n (symbols_of ks)) (sym (symbols-length ks)) ∙ take-whole (symbols_of ks))) (completes m (symbols_of ks) w.0);
      stops = λ lt. absurd (let bad : ⊥ = omega arith in bad);
      is_place = sym (past-end ks end);
    }

pub sentence-ended : (ks : List Placed) (m : Machine) (c : Condition) → walk ks beginning ≡ ended m → sentence_of m ≡ Some c → IsSentence (symbols_of ks)
sentence-ended ks m c e f = (c, sentence-part m (symbols_of ks) c (walk-ended ks beginning m [] beginning-ok e).0 f)

pub path-ended : (ks : List Placed) (m : Machine) (p : Path) → walk ks beginning ≡ ended m → path_of_machine m ≡ Some p → IsPath (symbols_of ks) p
path-ended ks m p e f = path-part m (symbols_of ks) p (walk-ended ks beginning m [] beginning-ok e).0 f

pub no-path-ended : (ks : List Placed) (m : Machine) → walk ks beginning ≡ ended m → path_of_machine m ≡ None → (p : Path) → IsPath (symbols_of ks) p → ⊥
no-path-ended ks m e f p is = some-none (path_of_machine m) p f (path-found (symbols_of ks) m p (walk-ended ks beginning m [] beginning-ok e).1 is)

-- ---- the whole text

tokenized : (s : Text) (ks : List Placed) (rest : Text) → 0 < length s → length s ≤ 1024 → ◌≡◌ {A = List Placed × Text} (ks, rest) (cut_of s) → IsTokenized s ks (length s - length rest) rest
tokenized s ks rest some few e =
    let P : List Placed × Text → Type 0 = λ x. IsCut 0 s x.0 (length s - length x.1) x.1 in
    record { some = some; few = few; cut = subst P (sym e) (cut-of s) }

of-filters : (s : Text) (ks : List Placed) (rest : Text) → 0 < length s → length s ≤ 1024 → ◌≡◌ {A = List Placed × Text} (ks, rest) (cut_of s) → rest ≡ [] → first_outside ks ≡ None → IsOfFilters s ks
of-filters s ks rest some few e none inside =
    let P : Text → Type 0 = λ x. IsTokenized s ks (length s - length rest) x in
    record { end = length s - length rest; tokenized = subst P none (tokenized s ks rest some few e); inside = inside }

pub bad-token : (s : Text) (ks : List Placed) (rest : Text) → 0 < length s → length s ≤ 1024 → ◌≡◌ {A = List Placed × Text} (ks, rest) (cut_of s) → (rest ≡ [] → ⊥) → HasBadToken s (length s - length rest)
bad-token s ks rest some few e goes_on = record { tokens = ks; rest = rest; tokenized = tokenized s ks rest some few e; goes_on = goes_on }

pub reads-text : (s : Text) (ks : List Placed) (rest : Text) (f : Path) → 0 < length s → length s ≤ 1024 → ◌≡◌ {A = List Placed × Text} (ks, rest) (cut_of s) → rest ≡ [] → ReadsTokens f ks → Reads f s
reads-text s ks rest f some few e none r =
    record { tokens = ks; of_filters = of-filters s ks rest some few e none r.inside; spelled = r.spelled; is_path = r.is_path; shallow = r.shallow; is_filter = r.is_filter }

pub refuses-text : (s : Text) (ks : List Placed) (rest : Text) (fault : FilterFault) → 0 < length s → length s ≤ 1024 → ◌≡◌ {A = List Placed × Text} (ks, rest) (cut_of s) → rest ≡ [] →
    RefusesTokens ks (length s) fault → Refuses s fault
refuses-text s ks rest (Length place) some few e none r = absurd r
refuses-text s ks rest (BadToken place) some few e none r = absurd r
refuses-text s ks rest (OutOfProfile place) some few e none r =
    let P : Text → Type 0 = λ x. IsTokenized s ks (length s - length rest) x in
    record { tokens = ks; end = length s - length rest; tokenized = subst P none (tokenized s ks rest some few e); outside = r }
refuses-text s ks rest (Syntax place) some few e none r = record { tokens = ks; of_filters = of-filters s ks rest some few e none r.0; stop = r.1 }
refuses-text s ks rest (TooDeep place) some few e none r = record { tokens = ks; of_filters = of-filters s ks rest some few e none r.0; sentence = r.1; deep = r.2 }
refuses-text s ks rest (NotPath place) some few e none r =
    record { tokens = ks; of_filters = of-filters s ks rest some few e none r.0; sentence = r.1; shallow = r.2; no_path = r.3; is_place = r.4 }
refuses-text s ks rest NoMemory some few e none r = tt

-- ---- what the tokens are

pub unfinished-stops : (ks : List Placed) (end : ℕ) → IsRead (walk ks beginning) unfinished → IsStop ks end end
unfinished-stops ks end r = by_walk (walk ks beginning) refl r
  where
    by_walk : (w : Walked) → walk ks beginning ≡ w → IsRead w unfinished → IsStop ks end end
    by_walk (refused place) e h = absurd h
    by_walk (ended m) e h = by_sentence (sentence_of m) refl h
      where
        by_sentence : (o : Option Condition) → sentence_of m ≡ o → unfinished ≡ cond (is_some o) (path_or_condition (path_of_machine m)) unfinished → IsStop ks end end
        by_sentence None f g = stop-ended ks end m e f
        by_sentence (Some c) f g = absurd (by_path (path_of_machine m) g)
          where
            by_path : (o : Option Path) → unfinished ≡ path_or_condition o → ⊥
            by_path None h = cc
            by_path (Some p) h = cc

-- the tokens are a path or a condition, and which
pub record Sentences (ks : List Placed) (path : Option Path) : Type 0 where
  pub machine : Machine
  pub walks : walk ks beginning ≡ ended machine
  pub sentence : IsSentence (symbols_of ks)
  pub is_path : path_of_machine machine ≡ path

pub read-sentence : (ks : List Placed) (o : Option Path) → IsRead (walk ks beginning) (path_or_condition o) → Sentences ks o
read-sentence ks o r = by_walk (walk ks beginning) refl r
  where
    by_walk : (w : Walked) → walk ks beginning ≡ w → IsRead w (path_or_condition o) → Sentences ks o
    by_walk (refused place) e h = absurd h
    by_walk (ended m) e h = by_sentence (sentence_of m) refl h
      where
        by_sentence : (q : Option Condition) → sentence_of m ≡ q → path_or_condition o ≡ cond (is_some q) (path_or_condition (path_of_machine m)) unfinished → Sentences ks o
        by_sentence None f g = absurd (by_path o g)
          where
            by_path : (q : Option Path) → path_or_condition q ≡ unfinished → ⊥
            by_path None h = cc
            by_path (Some p) h = cc
        by_sentence (Some c) f g = record { machine = m; walks = e; sentence = sentence-ended ks m c e f; is_path = same (path_of_machine m) o (sym g) }
          where
            same : (a b : Option Path) → path_or_condition a ≡ path_or_condition b → a ≡ b
            same None None h = refl
            same (Some p) (Some q) h = (let i : p ≡ q = cc in ap Some i)
            same None (Some q) h = cc
            same (Some p) None h = cc

pub condition-no_path : (ks : List Placed) → Sentences ks None → (p : Path) → IsPath (symbols_of ks) p → ⊥
condition-no_path ks s = no-path-ended ks s.machine s.walks s.is_path

pub path-is : (ks : List Placed) (p : Path) → Sentences ks (Some p) → IsPath (symbols_of ks) p
path-is ks p s = path-ended ks s.machine p s.walks s.is_path

pub stops-walk : (ks : List Placed) (end : ℕ) (fault : FilterFault) → first_outside ks ≡ None → StopsWalk (walk ks beginning) fault → RefusesTokens ks end fault
stops-walk ks end (Length place) inside s = absurd s
stops-walk ks end (BadToken place) inside s = absurd s
stops-walk ks end (OutOfProfile place) inside s = absurd s
stops-walk ks end (Syntax place) inside s = (inside, stop-refused ks end place s)
stops-walk ks end (TooDeep place) inside s = absurd s
stops-walk ks end (NotPath place) inside s = absurd s
stops-walk ks end NoMemory inside s = tt

-- what is left of a text is not longer than the text
pub rest-within : (s : Text) (ks : List Placed) (rest : Text) → 0 < length s → length s ≤ 1024 → ◌≡◌ {A = List Placed × Text} (ks, rest) (cut_of s) → length rest ≤ length s
rest-within s ks rest some few e =
    let size = (is-cut (cut_of s).0 (length s) (length s) 0 s (length s - length (cut_of s).1) (cut_of s).1 (cut-of s) (omega arith) (omega arith)).1 in
    let same : rest ≡ (cut_of s).1 = ap (λ x. x.1) e in
    let sizes : length rest ≡ length (cut_of s).1 = ap length same in
    omega arith

pub nothing-some : (o : Option ℕ) → ((n : ℕ) → o ≡ Some n → ⊥) → o ≡ None
nothing-some None none = refl
nothing-some (Some n) none = absurd (none n refl)

pub some-bytes : (s : Text) (b : Bool) → b ≡ nat_eq (length s) 0 → b ≡ false → 0 < length s
some-bytes [] b e f = absurd (let bad : ⊥ = cc in bad)
some-bytes (x ∷ s) b e f = omega arith

pub no-bytes : (s : Text) (b : Bool) → b ≡ nat_eq (length s) 0 → b ≡ true → s ≡ []
no-bytes [] b e f = refl
no-bytes (x ∷ s) b e f = absurd (let zero_long : length (x ∷ s) ≡ 0 = eqb-true (length (x ∷ s)) 0 (sym e ∙ f) in let bad : ⊥ = omega arith in bad)

pub not-empty : (s : Text) (b : Bool) → b ≡ nat_eq (length s) 0 → b ≡ false → s ≡ [] → ⊥
not-empty s b e f g = let size : length s ≡ 0 = ap length g in let some = some-bytes s b e f in omega arith
