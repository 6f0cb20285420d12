use Rattle.std.proofs.Common.{◌+◌, List, drop, subst}
use Rattle.std.proofs.lemmas.List.{drop_all}
use Rattle.xml_lexer.specs.View.{token_view, token_views}
use Rattle.xml_lexer.specs.declared.token.Token.{Token as CodeToken}
use Rattle.voe_tree.specs.View.{state_of}
use Rattle.voe_tree.proofs.ReadLaws.{HasRead, has_read-nothing, has_read-more, tokens_from, root_or}
use Rattle.voe_tree.proofs.read.read_root.Goals as goal

pub loop-at-init : goal.loop-at-init
loop-at-init c = has_read-nothing (token_views c.args.tokens.now) (state_of c.new-nesting.result) c.new-nesting.ensures

pub loop-at-preserved : goal.loop-at-preserved
loop-at-preserved c =
    let tokens = c.args.tokens.now in
    let at = c.loop-at.at in
    let token = c.index-tokens-at.result in
    has_read-more (token_views tokens) (token_views (drop (at + 1) tokens)) (token_view token) at (state_of c.loop-at.nesting) (state_of c.take.new.self)
    (subst (λ (l : List CodeToken). HasRead (token_views tokens) (token_views l) at (state_of c.loop-at.nesting)) (tokens_from tokens at token c.loop-at-test.true c.index-tokens-at.is) c.loop-at.invariant)
    c.in_ok-take.ensures.kept c.in_ok-take.ensures.state

pub returns-clause-root : goal.returns-clause-root
returns-clause-root c =
    let tokens = c.args.tokens.now in
    root_or (token_views tokens) c.loop-at.at (state_of c.loop-at.nesting) c.into_root.result
    (subst (λ (l : List CodeToken). HasRead (token_views tokens) (token_views l) c.loop-at.at (state_of c.loop-at.nesting)) (drop_all c.loop-at.at tokens c.loop-at-test.false) c.loop-at.invariant)
    c.into_root.ensures.found c.into_root.ensures.kept
