use Rattle.std.proofs.Common.{◌≡◌, ℕ, ◌<◌, length, ap, subst, arith, ◌∙◌}
use Rattle.node_notes.specs.declared.config.Config.{Config}
use Rattle.node_book.specs.Book.{BookView}
use Rattle.voe_net.proofs.Joining.{IsBegunBelow, all_begun, begun_more, joined_itself, joined_twice, none_begun}
use Rattle.voe_net.proofs.making.begin_sessions.Goals as goal

pub loop-link-init : goal.loop-link-init
loop-link-init g c = record { same = joined_itself g.D.Disk c.args.end.now c.requires.up; begun = none_begun c.args.end.now c.requires.sessions }

pub loop-link-preserved : goal.loop-link-preserved
loop-link-preserved g c =
    let known = c.loop-link.invariant in
    let joined = c.begin_session.ensures.same in
    let count : c.len-link-end.result ≡ length c.args.end.now.config.links =
    c.len-link-end.ensures ∙ ap (λ (k : Config). length k.links) (c.config.ensures ∙ ap (λ (b : BookView g.row.D.Denot). b.config) c.book.ensures) in
    let same : length c.loop-link.end.config.links ≡ length c.args.end.now.config.links = ap (λ (k : Config). length k.links) known.same.config_is in
    let low : c.loop-link.link < length c.loop-link.end.config.links = omega (arith, c.loop-link-test.true, count, same) in
    record {
      same = joined_twice g.D.Disk c.args.end.now c.loop-link.end c.begin_session.new.end known.same joined;
      begun = begun_more c.loop-link.end c.begin_session.new.end c.loop-link.link known.begun low joined.config_is c.in_ok-begin_session.ensures.begun;
    }

pub returns-clause-begun : goal.returns-clause-begun
returns-clause-begun g c =
    let known = c.loop-link.invariant in
    let count : c.len-link-end.result ≡ length c.args.end.now.config.links =
    c.len-link-end.ensures ∙ ap (λ (k : Config). length k.links) (c.config.ensures ∙ ap (λ (b : BookView g.row.D.Denot). b.config) c.book.ensures) in
    let here : c.loop-link.link ≡ length c.args.end.now.config.links = omega (arith, c.loop-link-test.false, c.loop-link.auto.link-end, count) in
    all_begun c.loop-link.end c.args.end.now.config.links (ap (λ (k : Config). k.links) known.same.config_is)
    (subst (λ (n : ℕ). IsBegunBelow c.loop-link.end n) here known.begun)
