use Rattle.std.proofs.Common.{subst}
use Rattle.std.specs.Str.{IsUtf8}
use Rattle.vtp_messages.proofs.Names.{plain_name}
use Rattle.vtp_messages.proofs.write.is_plain_name.Goals as goal

pub returns : goal.returns
returns c = plain_name c.args.name.now (subst IsUtf8 c.as_str.ensures.text c.as_str.utf8) c.as_str.ensures.name
