use Rattle.std.proofs.Common.{◌≡◌, true, false, sym, ◌∙◌, arith}
use Rattle.std.proofs.lemmas.Result.{err_from_is_err_and}
use Rattle.node_notes.specs.declared.fault.ReadFault.TheVariants.{Malformed}
use Rattle.node_notes.specs.Forms.{is_config}
use Rattle.node_notes.proofs.Payloads.{config_takes}
use Rattle.node_notes.proofs.Refusing.{fault_is, no_config, other_config}
use Rattle.node_notes.proofs.reading.read_config.Goals as goal

pub returns-in_err-config-clause-none : goal.returns-in_err-config-clause-none
returns-in_err-config-clause-none c is config keeps spelled =
    let p = err_from_is_err_and c.from_residual.result c.from_residual.ensures.1 in
    let refused = fault_is c.from_residual.result p.0 Malformed p.1 is in
    no_config c.args.payload.now c.in_err-config.field-0.0 (sym p.2 ∙ refused) c.in_err-config.ensures config keeps spelled

pub returns-then-not-is_config-clause-none : goal.returns-then-not-is_config-clause-none
returns-then-not-is_config-clause-none c is config keeps spelled =
    let breaks : is_config c.in_ok-config.config ≡ false = cc in
    other_config c.args.payload.now c.in_ok-config.config c.in_ok-config.ensures breaks config keeps spelled

pub returns-clause-found : goal.returns-clause-found
returns-clause-found c =
    let keeps : is_config c.in_ok-config.config ≡ true = cc in
    (keeps, config_takes c.args.payload.now c.in_ok-config.config (λ i. omega (arith, c.type_inv.payload i)) c.in_ok-config.ensures)
