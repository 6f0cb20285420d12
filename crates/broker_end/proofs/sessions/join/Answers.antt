use Rattle.std.proofs.Common.{◌≡◌, ℕ, ◌<◌, List, length, Some, sym, ap, ◌∙◌, arith}
use Rattle.net_model.specs.Steps.{place_of_name}
use Rattle.node_notes.specs.declared.config.Config.{Config}
use Rattle.node_notes.specs.declared.config.LinkConfig.{LinkConfig}
use Rattle.node_book.specs.Book.{BookView}
use Rattle.broker_end.specs.Broker.{names_of}
use Rattle.broker_end.proofs.LastSessions.{name_within}
use Rattle.broker_end.proofs.Packets.{few_links}
use Rattle.broker_end.proofs.sessions.join.Goals as goal

within : (links given : List LinkConfig) (name : List ℕ) (link : ℕ) → given ≡ links → Some link ≡ place_of_name (names_of given) name 0 → link < length links
within links given name link same is =
    let place = sym is in
    let low = name_within given name 0 link place in
    let count = ap (λ (l : List LinkConfig). length l) same in
    omega (arith, low, count)

pub join-session-requires : goal.join-session-requires
join-session-requires g c =
    let end = c.args.end.now in
    let links : c.as_slice.result.now ≡ end.config.links = c.as_slice.ensures ∙ ap (λ (k : Config). k.links) (c.config.ensures ∙ ap (λ (b : BookView _). b.config) c.book.ensures) in
    let low = within end.config.links c.as_slice.result.now c.args.name.now c.in-Some.link links c.in-Some.ensures in
    omega (arith, low, c.requires.each)

pub overflow_cast-result : goal.overflow_cast-result
overflow_cast-result g c =
    let end = c.args.end.now in
    let links : c.as_slice.result.now ≡ end.config.links = c.as_slice.ensures ∙ ap (λ (k : Config). k.links) (c.config.ensures ∙ ap (λ (b : BookView _). b.config) c.book.ensures) in
    let low = within end.config.links c.as_slice.result.now c.args.name.now c.in-Some.link links c.in-Some.ensures in
    let few = few_links end.config c.requires.ready.sound.told.config_fits in
    omega (arith, low, few)
