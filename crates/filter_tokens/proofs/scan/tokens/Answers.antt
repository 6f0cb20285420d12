use Rattle.std.proofs.Common.{◌+◌, ◌-◌, length, sym, ◌∙◌, ap, arith, rules}
use Rattle.std.proofs.lemmas.List.{map-append}
use Rattle.std.specs.Prelude.{option_map}
use Rattle.filter_tokens.specs.TokenView.{token_view, placed_views}
use Rattle.filter_tokens.proofs.CutLaws.{rest-short}
use Rattle.filter_tokens.proofs.CuttingSteps.{behind-stop, behind-end, behind-more}
use Rattle.filter_tokens.proofs.scan.tokens.Goals as goal

pub returns-in-None : goal.returns-in-None
returns-in-None c =
    behind-stop (placed_views c.loop.tokens.items) (length c.args.text.now - c.loop.counter) (length c.args.text.now) c.loop.rest.now _
    (sym c.token.ensures ∙ ap (option_map (λ x. (token_view x.0, x.1.now))) c.in-None.is) c.loop.invariant.0

pub loop-preserved : goal.loop-preserved
loop-preserved c =
    let read = sym c.token.ensures ∙ ap (option_map (λ x. (token_view x.0, x.1.now))) c.in-Some.is in
    let short = rest-short c.loop.rest.now (token_view c.in-Some.token) c.in-Some.behind.now read in
    let within = c.loop.invariant.1 in
    let same = c.skip_blanks-rest-in-Some.ensures in (
      rw (c.in_ok-push-in-Some.ensures.items, map-append, same)
          (behind-more (placed_views c.loop.tokens.items) (length c.args.text.now - (c.loop.counter + 1)) (length c.args.text.now - c.loop.counter) (length c.args.text.now) c.loop.rest.now
          (token_view c.in-Some.token) c.in-Some.behind.now _ (omega arith) read c.loop.invariant.0),
      rw same (omega arith),
      search rules,
    )

pub returns : goal.returns
returns c = behind-end (placed_views c.loop.tokens.items) (length c.args.text.now - c.loop.counter) (length c.args.text.now) c.loop.rest.now _ (omega arith) c.loop.invariant.0
