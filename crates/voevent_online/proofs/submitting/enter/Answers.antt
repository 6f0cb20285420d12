use Rattle.std.proofs.Common.{◌≡◌, ◌<◌, ℕ, Bool, true, false, List, [], ◌∷◌, length, refl, sym, ap, ◌∙◌, subst, inl, inr, arith}
use Rattle.std.specs.Prelude.{IsTrue, ◌↔◌}
use Rattle.node_book.specs.Book.{BookView}
use Rattle.node_notes.specs.declared.config.Config.{Config}
use Rattle.node_notes.specs.declared.config.LinkConfig.{LinkConfig}
use Rattle.voevent_online.specs.Held.{holds_other}
use Rattle.voevent_online.proofs.WrittenPacket.{good_some, held_known}
use Rattle.voevent_online.proofs.submitting.enter.Goals as goal

some_links : (links : List LinkConfig) (empty : Bool) → IsTrue empty ↔ (links ≡ []) → empty ≡ false → 0 < length links
some_links [] empty exact is = absurd (let yes : IsTrue empty = exact.1 refl in let bad : true ≡ false = sym yes ∙ is in cc)
some_links (link ∷ links) empty exact is = omega arith

module _ {D : Type 0} where
  config_in : (book same : BookView D) → book ≡ same → book.config ≡ same.config
  config_in book same e = ap (λ (b : BookView D). b.config) e

  other_in : (book same : BookView D) (identifier slice packet : List ℕ) (other : Bool) → book ≡ same → slice ≡ packet → other ≡ holds_other book.notes identifier slice → other ≡ false → holds_other same.notes identifier packet ≡ false
  other_in book same identifier slice packet other at is so none =
      ap (λ (b : BookView D). holds_other b.notes identifier packet) (sym at) ∙ (ap (λ (p : List ℕ). holds_other book.notes identifier p) (sym is) ∙ (sym so ∙ none))

pub write_packet-requires-clause-some : goal.write_packet-requires-clause-some
write_packet-requires-clause-some g c = good_some c.args.packet c.args.identifier.now c.requires.good

pub settle-requires-clause-kind : goal.settle-requires-clause-kind
settle-requires-clause-kind g c = λ κs bounds. ap (λ (config : Config). config.kind) (c.in-Held.ensures c.args.identifier.now c.requires.good).same.config ∙ c.requires.kind

pub settle-requires-clause-known : goal.settle-requires-clause-known
settle-requires-clause-known g c = λ κs bounds. held_known g.W.D.Disk c.args.end.now c.write_packet.new.end c.args.identifier.now c.args.packet (c.in-Held.ensures c.args.identifier.now c.requires.good)

pub settle-requires-clause-order : goal.settle-requires-clause-order
settle-requires-clause-order g c = λ κs bounds. (c.in-Held.ensures c.args.identifier.now c.requires.good).sound.told.in_order

pub settle-requires-clause-line : goal.settle-requires-clause-line
settle-requires-clause-line g c = λ κs bounds.
    let old = c.args.end.now in
    let same : c.config.result.now ≡ old.config = c.config.ensures ∙ config_in c.book.result.now (record { disk = old.disk; config = old.config; notes = old.notes; down = old.down }) c.book.ensures in
    let some : 0 < length c.config.result.now.links = some_links c.config.result.now.links c.is_empty.result c.is_empty.ensures c.if-is_empty.false in
    let held = c.in-Held.ensures c.args.identifier.now c.requires.good in
    subst (λ (config : Config). 0 < length config.links) (same ∙ sym held.same.config) some

pub returns-in-Held-clause-becomes : goal.returns-in-Held-clause-becomes
returns-in-Held-clause-becomes g c =
    let old = c.args.end.now in
    let i = c.args.identifier.now in
    let moment = g.W.C.Clock.moment c.args.clock.now in
    let dialer = (g.W.World.parts c.args.world.now).dialer in
    inr (record {
      begun = record { end = c.write_packet.new.end; moment = moment; dialer = dialer };
      same_digest = other_in c.book-2.result.now (record { disk = old.disk; config = old.config; notes = old.notes; down = old.down }) i c.as_slice.result.now c.args.packet c.holds_other.result c.book-2.ensures c.as_slice.ensures c.holds_other.ensures c.if-holds_other.false;
      held = c.in-Held.ensures i c.requires.good;
      only_end = record { same_moment = refl; same_dialer = refl };
      settles = c.settle.ensures.settles;
    })

pub returns-in-Full-clause-becomes : goal.returns-in-Full-clause-becomes
returns-in-Full-clause-becomes g c = inl (c.in-Full.ensures c.args.identifier.now c.requires.good, record { same_moment = refl; same_dialer = refl })

pub returns-in-Down-clause-becomes : goal.returns-in-Down-clause-becomes
returns-in-Down-clause-becomes g c = inl (c.in-Down.ensures c.args.identifier.now c.requires.good, record { same_moment = refl; same_dialer = refl })

pub returns-in-NoMemory-clause-becomes : goal.returns-in-NoMemory-clause-becomes
returns-in-NoMemory-clause-becomes g c = inl (c.in-NoMemory.ensures c.args.identifier.now c.requires.good, record { same_moment = refl; same_dialer = refl })
