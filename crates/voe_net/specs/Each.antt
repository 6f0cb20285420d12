-- Two lists, compared place by place.
use Rattle.std.specs.Prelude.{◌≡◌, ℕ, List, Some, length, slice_get}

-- as many of the one as of the other, and at each place the two are so related
pub record Each {A B : Type 0} (R : ℕ → A → B → Type 0) (xs : List A) (ys : List B) : Type 0 where
  pub same : length ys ≡ length xs
  pub each : (n : ℕ) (a : A) (b : B) → slice_get xs n ≡ Some a → slice_get ys n ≡ Some b → R n a b
