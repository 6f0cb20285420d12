use Rattle.std.proofs.Common.{◌≡◌, ◌++◌, ◌∷◌, [], List, ap, ◌∙◌}
use Rattle.vtp_server.specs.Speech.{filter_param}
use Rattle.voe_packet.specs.declared.param.Param.{Param}
use Rattle.vtp_server.proofs.Heard.{on_ok_map}
use Rattle.vtp_server.proofs.spelling.add_filter.Goals as goal

pub returns : goal.returns
returns c =
    let same : record { name = c.in_ok-name.name; value = c.in_ok-value.value } ≡ filter_param c.args.filter.now = λ i. record { name = c.in_ok-name.ensures i; value = c.in_ok-value.ensures i } in
    on_ok_map c.push_param.result _ _ (λ e. e ∙ ap (λ (p : Param). c.args.params.now ++ p ∷ []) same) c.push_param.ensures
