use Rattle.std.proofs.Common.{◌≡◌, ◌-◌, ◌≤◌, length}
use denote.Shadow.{shadow}
use denote.Text.{Utf8}
use Rattle.filter_tokens.specs.TokenView.{placed_views}
use Rattle.filter_tokens.specs.Scan.{tokens_at, behind_tokens, cut_of}
use Rattle.filter_tokens.proofs.scan.tokens.Given as goal

abbrev pub invariant-loop : goal.invariant-loop
invariant-loop l =
    (behind_tokens (placed_views l.tokens.items) (tokens_at (length l.text - l.counter) (length l.text) l.rest) ≡ cut_of l.text)
    × (length l.rest ≤ length l.text) × shadow (Utf8 l.rest)
