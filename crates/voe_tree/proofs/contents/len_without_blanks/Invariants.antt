use Rattle.std.proofs.Common.{◌≡◌, ◌+◌, ◌-◌, ◌≤◌, ◌<◌, length, take, true}
use Rattle.std.specs.Prelude.{slice_index}
use Rattle.std.specs.List.{suffix_len}
use Rattle.xml_lexer.specs.Characters.{is_blank}
use Rattle.voe_tree.proofs.contents.len_without_blanks.Given as goal

abbrev pub decreases-loop-len : goal.decreases-loop-len
decreases-loop-len l = l.len

abbrev pub invariant-loop-len : goal.invariant-loop-len
invariant-loop-len l = record {
  counted : (length l.bytes - l.len) + suffix_len is_blank (take l.len l.bytes) ≡ suffix_len is_blank l.bytes;
  within : l.len ≤ length l.bytes;
  ends : l.len < length l.bytes → is_blank (slice_index l.bytes l.len) ≡ true;
}
