use Rattle.std.proofs.Common.{◌≡◌, ◌∙◌, ap, subst, ℕ, List, Option, Some}
use Rattle.std.specs.Prelude.{◌↔◌}
use Rattle.std.specs.List.{slice_get}
use Rattle.cite_index.specs.Names.{number_in, plain}
use Rattle.cite_index.proofs.Naming.{finds, lookup_plain}
use Rattle.cite_index.proofs.names.Names.find.Goals as goal

pub returns : goal.returns
returns c =
    let entries = c.self.inside.numbers.entries in
    let found : c.copied.result ≡ number_in (plain entries) c.args.identifier.now =
    c.copied.ensures ∙ (c.get.ensures.value ∙ (lookup_plain c.as_bytes.result.now entries ∙ ap (number_in (plain entries)) (c.as_bytes.ensures.value ∙ c.as_str.ensures.text))) in
    finds entries c.self.inside.names.items c.args.self.now c.args.identifier.now c.copied.result c.self.view_is c.self.invariant found
