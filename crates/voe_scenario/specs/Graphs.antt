-- What the numbers of a line name.
use Rattle.std.specs.Prelude.{ℕ, Bool, true, false, List, Option, Some, None, slice_get, ◌&&◌, ◌||◌}
use Rattle.voe_values.specs.declared.kind.NodeKind.{NodeKind}
use Rattle.voe_values.specs.declared.kind.NodeKind.TheVariants.{Author, Broker, Subscriber}

abbrev pub same_kind : NodeKind → NodeKind → Bool
same_kind Author Author = true
same_kind Broker Broker = true
same_kind Subscriber Subscriber = true
same_kind _ _ = false

abbrev pub kind_is : Option NodeKind → NodeKind → Bool
kind_is None kind = false
kind_is (Some found) kind = same_kind found kind

-- there is a node of this number, and it is of this kind
unfoldable pub is_kind : List NodeKind → ℕ → NodeKind → Bool
is_kind nodes at kind = kind_is (slice_get nodes at) kind

-- a line leads from an author to a broker
abbrev pub joins_line : List NodeKind → ℕ → ℕ → Bool
joins_line nodes upper lower = is_kind nodes upper Author && is_kind nodes lower Broker

-- a link leads from a broker to a broker or a subscriber
abbrev pub joins_link : List NodeKind → ℕ → ℕ → Bool
joins_link nodes upper lower = is_kind nodes upper Broker && (is_kind nodes lower Broker || is_kind nodes lower Subscriber)
