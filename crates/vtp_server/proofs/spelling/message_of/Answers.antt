use Rattle.std.proofs.Common.{ap, ◌∙◌}
use Rattle.vtp_server.specs.Speech.{params_of}
use Rattle.vtp_server.proofs.spelling.message_of.Goals as goal

pub returns : goal.returns
returns c = record {
  role = c.role_of.ensures;
  origin = c.in_ok-origin.ensures;
  response = c.in_ok-response.ensures;
  stamp = c.in_ok-stamp.ensures;
  params = c.in_ok-params.ensures ∙ ap (λ f. params_of f c.args.speech.now) c.as_slice.ensures;
  result = c.in_ok-result.ensures;
}
