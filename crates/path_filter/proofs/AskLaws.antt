-- What is asked stays asked.
use Rattle.std.proofs.Common.{◌≡◌, ℕ, suc, ◌≤◌, List, [], ◌∷◌, ◌-◌, length, drop, take, get_or, refl, sym, ◌∙◌, ap, arith}
use Rattle.path_filter.specs.Plan.{Check, Checks, any_of, all_of, not_so, here, anywhere, compared, no_more, more, CheckAsks, ChecksAsk, NextAsks, Asks, stage_checks}
use Rattle.voe_tree.specs.declared.element.Element.{Element}
use Rattle.path_filter.specs.declared.plan.Stage.{Stage}
use Rattle.path_filter.specs.declared.plan.Next.{Next}
use Rattle.path_filter.specs.declared.plan.Next.TheVariants as next

mutual
  pub check_asks-more : (P Q : ℕ → Type 0) → ((i : ℕ) → P i → Q i) → (k : Check) → CheckAsks P k → CheckAsks Q k
  check_asks-more P Q wider (any_of ks) asks = checks_ask-more P Q wider ks asks
  check_asks-more P Q wider (all_of ks) asks = checks_ask-more P Q wider ks asks
  check_asks-more P Q wider (not_so k) asks = check_asks-more P Q wider k asks
  check_asks-more P Q wider (here i) asks = wider i asks
  check_asks-more P Q wider (anywhere i) asks = tt
  check_asks-more P Q wider (compared a how b) asks = tt

  pub checks_ask-more : (P Q : ℕ → Type 0) → ((i : ℕ) → P i → Q i) → (ks : Checks) → ChecksAsk P ks → ChecksAsk Q ks
  checks_ask-more P Q wider no_more asks = tt
  checks_ask-more P Q wider (more k ks) asks = (check_asks-more P Q wider k asks.0, checks_ask-more P Q wider ks asks.1)

pub next_asks-more : (P Q : ℕ → Type 0) → ((i : ℕ) → P i → Q i) → (x : Next) → NextAsks P x → NextAsks Q x
next_asks-more P Q wider (next.On i) asks = wider i asks
next_asks-more P Q wider (next.Ends w) asks = tt

all-taken : {X : Type 0} (xs : List X) → take (length xs) xs ≡ xs
all-taken [] = refl
all-taken (x ∷ xs) = ap (λ ys. x ∷ ys) (all-taken xs)

-- a list by its first item and the others
pub first_and_rest : {X : Type 0} (xs : List X) (x : X) → 1 ≤ length xs → x ≡ get_or xs 0 x → xs ≡ x ∷ take (length xs - 1) (drop 1 xs)
first_and_rest [] x some is = absurd (omega (arith, some))
first_and_rest (y ∷ xs) x some is =
    let same : y ≡ x = sym is in
    let len : suc (length xs) - 1 ≡ length xs = omega arith in
    ap (λ z. z ∷ xs) same ∙ ap (λ ys. x ∷ ys) (sym (ap (λ n. take n xs) len ∙ all-taken xs))

pub asks-more : (P Q : ℕ → Type 0) → ((i : ℕ) → P i → Q i) → (c : Element) (i : ℕ) (x : Stage) → Asks P c i x → Asks Q c i x
asks-more P Q wider c i x asks = (
  (λ deeper. wider i (asks.0 deeper)),
  (λ of_elements meets. let both = asks.1 of_elements meets in (checks_ask-more P Q wider (stage_checks x) both.0, next_asks-more P Q wider x.next both.1)),
)
