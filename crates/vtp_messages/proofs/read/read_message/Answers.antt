-- Each part is what the tree has of it.
use Rattle.std.proofs.Common.{◌≡◌, ◌∙◌, sym, ap, true, arith}
use Rattle.vtp_messages.specs.Parts.{is_transport, role_of, origin_of, response_of, stamp_of, params_of, result_of}
use Rattle.vtp_messages.proofs.read.read_message.Goals as goal

pub returns : goal.returns
returns c =
    let stands : c.has_local.result ≡ true = grind (arith, c.if-not-has_local.false, c.if-not-has_local.ensures) in
    record {
      transport = ap is_transport (sym c.root-root.ensures.root) ∙ sym c.has_local.ensures ∙ stands;
      role = ap role_of (sym c.root-root.ensures.root) ∙ sym c.in-Some.ensures;
      origin = ap origin_of (sym c.root-root.ensures.root) ∙ sym c.in_ok-origin.ensures ∙ c.in-Some-2.is;
      response = ap response_of (sym c.root-root.ensures.root) ∙ sym c.in_ok-response.ensures;
      stamp = ap stamp_of (sym c.root-root.ensures.root) ∙ sym c.in_ok-stamp.ensures.text;
      params = ap params_of (sym c.root-root.ensures.root) ∙ sym c.in_ok-params.ensures;
      result = ap result_of (sym c.root-root.ensures.root) ∙ sym c.in_ok-result.ensures.text;
    }
