-- The first trial disks of a rack, lent out together.
use Rattle.std.specs.Prelude.{◌≡◌, ℕ, ◌<◌, ◌≤◌, List, None, length}
use Rattle.voevent_cli.specs.Racks.{AreFirst, Disks}

-- these are the first ones, they are lent out, and the others are as they were
pub record AreLent {T D : Type 0} (first : List T) (before now : Disks T D) : Type 0 where
  pub were : AreFirst before first
  pub gone : (k : ℕ) → k < length first → now.trial k ≡ None
  pub others : (k : ℕ) → length first ≤ k → now.trial k ≡ before.trial k
  pub real : now.real ≡ before.real
