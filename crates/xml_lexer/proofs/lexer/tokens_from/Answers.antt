use Rattle.std.proofs.Common.{◌+◌, ◌-◌, length, sym, ◌∙◌, ap, arith, rules}
use Rattle.std.proofs.lemmas.List.{map-append}
use Rattle.std.specs.Prelude.{option_map}
use Rattle.xml_lexer.specs.View.{token_view, token_views}
use Rattle.xml_lexer.proofs.CuttingSteps.{behind-stop, behind-end, behind-more}
use Rattle.xml_lexer.proofs.lexer.tokens_from.Goals as goal

pub returns-in-None : goal.returns-in-None
returns-in-None c =
    behind-stop (token_views c.loop.tokens.items) (length c.args.text.now - c.loop.counter) c.loop.rest.now _
    (sym c.in_ok-token.ensures ∙ ap (option_map (λ x. (token_view x.0, x.1.now))) c.in-None.is) c.loop.invariant.0

pub loop-preserved : goal.loop-preserved
loop-preserved c =
    let read = sym c.in_ok-token.ensures ∙ ap (option_map (λ x. (token_view x.0, x.1.now))) c.in-Some.is in (
      rw (c.in_ok-push-in-Some.ensures.items, map-append)
          (behind-more (token_views c.loop.tokens.items) (length c.args.text.now - (c.loop.counter + 1)) (length c.args.text.now - c.loop.counter) c.loop.rest.now
          (token_view c.in-Some.found) c.in-Some.after.now _ (omega arith) read c.loop.invariant.0),
      search rules,
    )

pub returns : goal.returns
returns c = behind-end (token_views c.loop.tokens.items) (length c.args.text.now - c.loop.counter) c.loop.rest.now _ (omega arith) c.loop.invariant.0
