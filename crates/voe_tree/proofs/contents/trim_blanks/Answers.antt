use Rattle.voe_tree.proofs.Blanks.{boundary_behind_blanks}
use Rattle.voe_tree.proofs.contents.trim_blanks.Goals as goal

pub split_at-requires : goal.split_at-requires
split_at-requires c = boundary_behind_blanks _ _ _ c.utf8.text c.as_bytes.ensures.value c.blanks_len.ensures.value
