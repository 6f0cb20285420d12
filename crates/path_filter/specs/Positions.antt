-- Sets of positions.
use Rattle.std.specs.Prelude.{◌≡◌, ℕ, ◌/◌, ◌%◌, slice_index}
use Rattle.std.specs.Int.{bit_at}
use Rattle.path_filter.specs.declared.positions.Positions.{Positions}

unfoldable pub Has : Positions → ℕ → Type 0
Has p i = bit_at (slice_index p.words (i / 64)) (i % 64) ≡ 1
