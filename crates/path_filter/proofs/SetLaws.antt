-- Sets of filters from lists of texts, one more text at a time.
use Rattle.std.proofs.Common.{◌≡◌, ◌≢◌, ◌⊎◌, ◌≤◌, ◌<◌, ℕ, zero, suc, List, [], ◌∷◌, ◌++◌, Option, Some, None, refl, sym, ◌∙◌, subst, ap, inl, inr, arith, length, take}
use Rattle.std.specs.List.{slice_get}
use Rattle.xml_lexer.specs.Characters.{Text}
use Rattle.filter_text.specs.View.{path_of}
use Rattle.filter_text.specs.Reading.{Reads}
use Rattle.filter_text.specs.Refusal.{Refuses}
use Rattle.filter_text.specs.declared.filter.Path.{Path}
use Rattle.filter_text.specs.declared.fault.FilterFault.{FilterFault}
use Rattle.filter_text.specs.declared.fault.FilterFault.TheVariants as faults
use Rattle.voe_tree.specs.declared.element.Element.{Element}
use Rattle.filter_text.specs.Filter as filter
use Rattle.path_filter.specs.Meaning.{Passes}
use Rattle.path_filter.specs.Sets.{AreRead, AreReadLeniently, Filters, OnePasses, RefusesSet, SetPasses, data_of, max_filters}
use Rattle.path_filter.specs.declared.set_fault.SetFault.{SetFault}
use Rattle.path_filter.specs.declared.set_fault.SetFault.TheVariants.{Refused, TooMany, NoMemory}

pub one_more : (fs : Filters) (texts : List Text) (f : Path) (s : Text) → AreRead fs texts → Reads (path_of f) s → AreRead (fs ++ Some f ∷ []) (texts ++ s ∷ [])
one_more [] [] f s before reads = (reads, tt)
one_more [] (t ∷ texts) f s before reads = absurd before
one_more (None ∷ fs) texts f s before reads = absurd before
one_more (Some g ∷ fs) [] f s before reads = absurd before
one_more (Some g ∷ fs) (t ∷ texts) f s before reads = (before.0, one_more fs texts f s before.1 reads)

pub one_more_leniently : (fs : Filters) (texts : List Text) (o : Option Path) (s : Text) → AreReadLeniently fs texts → AreReadLeniently (o ∷ []) (s ∷ []) → AreReadLeniently (fs ++ o ∷ []) (texts ++ s ∷ [])
one_more_leniently [] [] o s before last = last
one_more_leniently [] (t ∷ texts) o s before last = absurd before
one_more_leniently (None ∷ fs) [] o s before last = absurd before
one_more_leniently (Some g ∷ fs) [] o s before last = absurd before
one_more_leniently (None ∷ fs) (t ∷ texts) o s before last = (before.0, one_more_leniently fs texts o s before.1 last)
one_more_leniently (Some g ∷ fs) (t ∷ texts) o s before last = (before.0, one_more_leniently fs texts o s before.1 last)

-- ---- sets as data

pub read_once : ((s : Text) (f g : filter.Path) → Reads f s → Reads g s → f ≡ g) → (texts : List Text) (a b : Filters) → AreRead a texts → AreRead b texts → data_of a ≡ data_of b
read_once unique [] [] [] x y = refl
read_once unique [] [] (None ∷ b) x y = absurd y
read_once unique [] [] (Some g ∷ b) x y = absurd y
read_once unique [] (None ∷ a) b x y = absurd x
read_once unique [] (Some f ∷ a) b x y = absurd x
read_once unique (s ∷ texts) [] b x y = absurd x
read_once unique (s ∷ texts) (None ∷ a) b x y = absurd x
read_once unique (s ∷ texts) (Some f ∷ a) [] x y = absurd y
read_once unique (s ∷ texts) (Some f ∷ a) (None ∷ b) x y = absurd y
read_once unique (s ∷ texts) (Some f ∷ a) (Some g ∷ b) x y =
    ap (λ p. Some p ∷ data_of a) (unique s (path_of f) (path_of g) x.0 y.0) ∙ ap (λ ps. Some (path_of g) ∷ ps) (read_once unique texts a b x.1 y.1)

pub read_once_leniently : ((s : Text) (f g : filter.Path) → Reads f s → Reads g s → f ≡ g)
    → ((s : Text) (f : filter.Path) (fault : FilterFault) → Reads f s → Refuses s fault → fault ≡ faults.NoMemory)
    → (texts : List Text) (a b : Filters) → AreReadLeniently a texts → AreReadLeniently b texts → data_of a ≡ data_of b
read_once_leniently unique never [] [] [] x y = refl
read_once_leniently unique never [] [] (None ∷ b) x y = absurd y
read_once_leniently unique never [] [] (Some g ∷ b) x y = absurd y
read_once_leniently unique never [] (None ∷ a) b x y = absurd x
read_once_leniently unique never [] (Some f ∷ a) b x y = absurd x
read_once_leniently unique never (s ∷ texts) [] b x y = absurd x
read_once_leniently unique never (s ∷ texts) (None ∷ a) [] x y = absurd y
read_once_leniently unique never (s ∷ texts) (Some f ∷ a) [] x y = absurd y
read_once_leniently unique never (s ∷ texts) (None ∷ a) (None ∷ b) x y = ap (λ ps. None ∷ ps) (read_once_leniently unique never texts a b x.1 y.1)
read_once_leniently unique never (s ∷ texts) (None ∷ a) (Some g ∷ b) x y = let (fault, refused, other) = x.0 in absurd (other (never s (path_of g) fault y.0 refused))
read_once_leniently unique never (s ∷ texts) (Some f ∷ a) (None ∷ b) x y = let (fault, refused, other) = y.0 in absurd (other (never s (path_of f) fault x.0 refused))
read_once_leniently unique never (s ∷ texts) (Some f ∷ a) (Some g ∷ b) x y =
    ap (λ p. Some p ∷ data_of a) (unique s (path_of f) (path_of g) x.0 y.0) ∙ ap (λ ps. Some (path_of g) ∷ ps) (read_once_leniently unique never texts a b x.1 y.1)

-- ---- a set is read or refused, for one reason

read_at : (texts : List Text) (fs : Filters) (i : ℕ) (s : Text) → AreRead fs texts → slice_get texts i ≡ Some s → (f : filter.Path) × Reads f s
read_at [] fs i s are at = absurd (let bad : ⊥ = cc in bad)
read_at (t ∷ texts) [] i s are at = absurd are
read_at (t ∷ texts) (None ∷ fs) i s are at = absurd are
read_at (t ∷ texts) (Some f ∷ fs) zero s are at = let same : t ≡ s = cc in (path_of f, subst (Reads (path_of f)) same are.0)
read_at (t ∷ texts) (Some f ∷ fs) (suc i) s are at = read_at texts fs i s are.1 at

in_front : (texts : List Text) (n i : ℕ) → i < n → slice_get (take n texts) i ≡ slice_get texts i
in_front texts zero i lt = absurd (omega (arith, lt))
in_front [] (suc n) i lt = refl
in_front (t ∷ texts) (suc n) zero lt = refl
in_front (t ∷ texts) (suc n) (suc i) lt = in_front texts n i (omega (arith, lt))

-- A text of a set is not refused.
abbrev pub Never : Type 0
Never = (s : Text) (f : filter.Path) (fault : FilterFault) → Reads f s → Refuses s fault → fault ≡ faults.NoMemory

pub not_refused_set : Never → (texts : List Text) (set : Filters) (fault : SetFault) → length texts ≤ max_filters → AreRead set texts → RefusesSet texts fault → fault ≡ NoMemory
not_refused_set never texts set TooMany few are refused = absurd (omega (arith, few, refused))
not_refused_set never texts set (Refused at fault) few are refused =
    let (_, fs, before, s, there, refuses, other) = refused in
    let (f, reads) = read_at texts set at s are there in
    absurd (other (never s f fault reads refuses))
not_refused_set never texts set NoMemory few are refused = refl

-- The first of two texts that are refused is not read.
first_refused : Never → (texts : List Text) (fs : Filters) (i j : ℕ) (s : Text) (fault : FilterFault) → i < j → AreRead fs (take j texts) → slice_get texts i ≡ Some s → Refuses s fault
    → fault ≢ faults.NoMemory → ⊥
first_refused never texts fs i j s fault lt are there refuses other =
    let (f, reads) = read_at (take j texts) fs i s are (in_front texts j i lt ∙ there) in
    other (never s f fault reads refuses)

which : (i j : ℕ) → (i < j) ⊎ ((j < i) ⊎ (i ≡ j))
which i j = grind arith

pub one_set_refusal : Never → ((s : Text) (a b : FilterFault) → Refuses s a → Refuses s b → (a ≡ faults.NoMemory) ⊎ ((b ≡ faults.NoMemory) ⊎ (a ≡ b)))
    → (texts : List Text) (a b : SetFault) → RefusesSet texts a → RefusesSet texts b → (a ≡ NoMemory) ⊎ ((b ≡ NoMemory) ⊎ (a ≡ b))
one_set_refusal never one texts NoMemory b x y = inl refl
one_set_refusal never one texts TooMany NoMemory x y = inr (inl refl)
one_set_refusal never one texts (Refused i f) NoMemory x y = inr (inl refl)
one_set_refusal never one texts TooMany TooMany x y = inr (inr refl)
one_set_refusal never one texts TooMany (Refused j g) x y = absurd (omega (arith, x, y.0))
one_set_refusal never one texts (Refused i f) TooMany x y = absurd (omega (arith, x.0, y))
one_set_refusal never one texts (Refused i f) (Refused j g) x y =
    let (_, fs, before, s, there, refuses, other) = x in
    let (_, gs, also_before, t, also_there, also_refuses, also_other) = y in
    elim (which i j) [
      | inl less ↦ absurd (first_refused never texts gs i j s f less also_before there refuses other)
      | inr (inl more) ↦ absurd (first_refused never texts fs j i t g more before also_there also_refuses also_other)
      | inr (inr same) ↦
          (let is : t ≡ s = same_text _ _ _ (sym also_there ∙ ap (slice_get texts) (sym same)) there in
          elim (one s f g refuses (subst (λ r. Refuses r g) is also_refuses)) [
            | inl bad ↦ absurd (other bad)
            | inr (inl bad) ↦ absurd (also_other bad)
            | inr (inr fault) ↦ inr (inr (ap (λ n. Refused n f) same ∙ ap (Refused j) fault))
          ])
    ]
  where
    same_text : (o : Option Text) (t s : Text) → Some t ≡ o → o ≡ Some s → t ≡ s
    same_text o t s a b = cc

one_same : (a b : Filters) (root : Element) → data_of a ≡ data_of b → OnePasses a root → OnePasses b root
one_same [] b root e p = absurd p
one_same (x ∷ a) [] root e p = absurd (let absurdity : ⊥ = cc in absurdity)
one_same (None ∷ a) (None ∷ b) root e p = one_same a b root (let tails : data_of a ≡ data_of b = cc in tails) p
one_same (None ∷ a) (Some g ∷ b) root e p = absurd (let heads : None ≡ Some (path_of g) = cc in let absurdity : ⊥ = cc in absurdity)
one_same (Some f ∷ a) (None ∷ b) root e p = absurd (let heads : Some (path_of f) ≡ None = cc in let absurdity : ⊥ = cc in absurdity)
one_same (Some f ∷ a) (Some g ∷ b) root e (inl p) = inl (let same : path_of f ≡ path_of g = cc in subst (λ x. Passes x root) same p)
one_same (Some f ∷ a) (Some g ∷ b) root e (inr p) = inr (one_same a b root (let tails : data_of a ≡ data_of b = cc in tails) p)

pub passes_same : (a b : Filters) (root : Element) → data_of a ≡ data_of b → SetPasses a root → SetPasses b root
passes_same [] [] root e p = tt
passes_same [] (y ∷ b) root e p = absurd (let absurdity : ⊥ = cc in absurdity)
passes_same (x ∷ a) [] root e p = tt
passes_same (x ∷ a) (y ∷ b) root e p = one_same (x ∷ a) (y ∷ b) root e p
