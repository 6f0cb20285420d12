use Rattle.vtp_server.proofs.Heard.{if_ok_map}
use Rattle.vtp_server.proofs.spelling.spell.Goals as goal

pub returns : goal.returns
returns c = if_ok_map c.write.result _ _ (λ payload e. record { message = c.in_ok-message.message; is_so = c.in_ok-message.ensures; text = e }) c.write.ensures
