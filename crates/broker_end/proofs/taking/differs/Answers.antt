use Rattle.std.proofs.Common.{◌≡◌, ℕ, List, Some, None, ap, ◌∙◌}
use Rattle.std.specs.Prelude.{Option, not}
use Rattle.std.specs.Str.{bytes_eq}
use Rattle.sha1.specs.Sha1.{sha1}
use Rattle.std.specs.Option.{option_map}
use Rattle.node_notes.specs.Held.{packet_held}
use Rattle.node_book.specs.Book.{BookView}
use Rattle.broker_end.proofs.Packets.{digest, held_differs, nothing_differs}
use Rattle.broker_end.proofs.taking.differs.Goals as goal

pub returns-in-None : goal.returns-in-None
returns-in-None g c = λ rules digests.
    let end = c.args.end.now in
    let held : packet_held c.book.result.now.notes c.as_slice.result.now ≡ packet_held end.notes c.args.identifier.now =
    ap (λ (k : BookView _). packet_held k.notes c.as_slice.result.now) c.book.ensures ∙ ap (λ (s : List ℕ). packet_held end.notes s) c.as_slice.ensures in
    let is : None ≡ option_map digest (packet_held end.notes c.args.identifier.now) = c.in-None.ensures ∙ ap (λ (h : Option (List ℕ)). option_map digest h) held in
    nothing_differs end.config rules end.notes c.args.identifier.now c.args.packet.now c.requires.kind c.requires.sound.told.in_order is

pub returns-in-Some : goal.returns-in-Some
returns-in-Some g c = λ rules digests.
    let end = c.args.end.now in
    let held : packet_held c.book.result.now.notes c.as_slice.result.now ≡ packet_held end.notes c.args.identifier.now =
    ap (λ (k : BookView _). packet_held k.notes c.as_slice.result.now) c.book.ensures ∙ ap (λ (s : List ℕ). packet_held end.notes s) c.as_slice.ensures in
    let is : Some c.in-Some.held ≡ option_map digest (packet_held end.notes c.args.identifier.now) = c.in-Some.ensures ∙ ap (λ (h : Option (List ℕ)). option_map digest h) held in
    let own : c.of.result.bytes ≡ sha1 c.args.packet.now = c.of.ensures ∙ ap sha1 c.as_slice-in-Some.ensures in
    let test : c.ne.result ≡ not (bytes_eq c.in-Some.held.bytes (sha1 c.args.packet.now)) = c.ne.ensures ∙ ap (λ (b : List ℕ). not (bytes_eq c.in-Some.held.bytes b)) own in
    test ∙ held_differs end.config rules end.notes c.args.identifier.now c.args.packet.now c.in-Some.held c.requires.kind c.requires.sound.told.in_order digests is
