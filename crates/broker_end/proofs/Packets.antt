-- What a broker says to a packet, by its configuration and notes.
use Rattle.std.proofs.Common.{◌≡◌, ℕ, ◌≤◌, Bool, true, false, List, [], length, Some, None, refl, sym, ◌∙◌, ap, arith}
use Rattle.std.specs.Prelude.{Option, not}
use Rattle.std.specs.Option.{option_map}
use Rattle.std.specs.Str.{bytes_eq}
use Rattle.std.proofs.lemmas.Bool.{and_parts, leb-true}
use Rattle.sha1.specs.Sha1.{sha1}
use Rattle.voe_tree.specs.Document.{Spells}
use Rattle.voe_tree.specs.declared.element.Element.{Element}
use Rattle.voe_digest.specs.declared.Digest.{Digest}
use Rattle.voe_values.specs.declared.kind.NodeKind.TheVariants.{Broker}
use Rattle.net_model.specs.Notes.{differs, knows, passing}
use Rattle.net_model.specs.Rules.{NodeRules}
use Rattle.net_model.specs.Steps.{broker_judged, broker_packet}
use Rattle.net_model.specs.declared.note.Note.{Note}
use Rattle.net_model.specs.declared.step.Judged.{Judged}
use Rattle.net_model.specs.declared.step.Judged.TheVariants.{Good}
use Rattle.node_notes.specs.Forms.{are_rising, is_broker, is_config}
use Rattle.node_notes.specs.Held.{has_other_digest, packet_held}
use Rattle.node_notes.specs.Tells.{AreInOrder}
use Rattle.node_notes.specs.declared.config.Config.{Config}
use Rattle.node_notes.specs.declared.config.LinkConfig.{LinkConfig}
use Rattle.node_notes.proofs.Holding.{differs_is}
use Rattle.node_book.specs.Keeps.{has_room}
use Rattle.path_filter.specs.Sets.{Filters}
use Rattle.path_filter.specs.Links.{AreDecided, AreOf, ArePassing, PassesLinks}
use Rattle.path_filter.proofs.LinkBits.{decided_len}
use Rattle.path_filter.proofs.LinkPasses.{bit_at, numbers_rise, passes_bits, passing_is, sets_len}
use Rattle.voe_validity.specs.Judging.{IsJudged}
use Rattle.voe_validity.proofs.Once.{judged_once}
use Rattle.broker_end.specs.Broker.{AreRightForPacket, HasDigests}

-- ---- links

pub few_links : (config : Config) → is_config config ≡ true → length config.links ≤ 64
unfolding is_config
few_links config is = leb-true (length config.links) 64 (and_parts _ _ (and_parts _ _ is).0).1

pub few_sets : (config : Config) (sets : List Filters) → is_config config ≡ true → AreOf sets config.links → length sets ≤ 65536
few_sets config sets is are =
    let few = few_links config is in
    let same = sets_len sets config.links are in
    omega (arith, few, same)

pub links_rise : (links : List LinkConfig) (sets : List Filters) (root : Element) (numbers : List ℕ) → AreOf sets links → ArePassing numbers sets root
    → are_rising 0 (length links) numbers ≡ true
links_rise links sets root numbers are (bits, decided, is) =
    let one = decided_len bits sets root decided in
    let two = sets_len sets links are in
    ap (λ (l : List ℕ). are_rising 0 (length links) l) is ∙ numbers_rise bits 0 0 (length links) (omega arith) (omega (arith, one, two))

pub links_are : (rules : NodeRules) (links : List LinkConfig) (sets : List Filters) (root : Element) (packet numbers : List ℕ) → AreOf sets links → ArePassing numbers sets root
    → Spells root packet → PassesLinks links packet rules → numbers ≡ passing rules 0 (length links) packet
links_are rules links sets root packet numbers are (bits, decided, is) spells right =
    is ∙ sym (passing_is rules links sets bits root packet are decided spells right)

-- ---- rules

pub same_packet : (rules : NodeRules) (links : ℕ) (notes : List Note) (from_line : Bool) (packet : List ℕ) (judged : Judged) → IsJudged packet judged
    → IsJudged packet (rules.judge packet) → broker_packet rules links notes from_line packet ≡ broker_judged rules links notes from_line packet judged
same_packet rules links notes from_line packet judged one other =
    ap (λ (j : Judged). broker_judged rules links notes from_line packet j) (judged_once packet (rules.judge packet) judged other one)

-- rules that answer a packet as it is, and pass it over the links of these bits
abbrev pub rules_of : Config → Judged → List Bool → NodeRules
rules_of config judged bits = record { judge = λ bytes. judged; digest_of = λ bytes. sha1 bytes; passes = λ link bytes. bit_at bits link; has_room = has_room config }

pub right_where_old : (config : Config) (notes : List Note) (packet : List ℕ) (judged : Judged) → IsJudged packet judged
    → ((identifier : List ℕ) → judged ≡ Good identifier → knows notes identifier ≡ false → ⊥) → (rules : NodeRules) × AreRightForPacket config notes packet rules
right_where_old config notes packet judged is old = (
  rules_of config judged [],
  record {
    judge = is;
    digest_of = λ bytes. refl;
    has_room = λ ns note. refl;
    passes = λ identifier same new. absurd (old identifier same new);
  },
)

pub right_where_new : (config : Config) (notes : List Note) (packet : List ℕ) (judged : Judged) (sets : List Filters) (root : Element) (bits : List Bool)
    → IsJudged packet judged → AreOf sets config.links → AreDecided bits sets root → Spells root packet → (rules : NodeRules) × AreRightForPacket config notes packet rules
right_where_new config notes packet judged sets root bits is are decided spells = (
  rules_of config judged bits,
  record {
    judge = is;
    digest_of = λ bytes. refl;
    has_room = λ ns note. refl;
    passes = λ identifier same new. passes_bits config.links sets bits root packet are decided spells;
  },
)

-- ---- digests

abbrev pub digest : List ℕ → Digest
digest packet = record { bytes = sha1 packet }

none_held : (held : Option (List ℕ)) → None ≡ option_map digest held → held ≡ None
none_held None e = refl
none_held (Some p) e = absurd (cc)

some_held : (held : Option (List ℕ)) (d : Digest) → Some d ≡ option_map digest held → (p : List ℕ) × (held ≡ Some p) × (d.bytes ≡ sha1 p)
some_held None d e = absurd (cc)
some_held (Some p) d e = (p, refl, ap bytes_in e)
  where
    bytes_in : Option Digest → List ℕ
    bytes_in None = []
    bytes_in (Some x) = x.bytes

pub nothing_differs : (config : Config) (rules : NodeRules) (notes : List Note) (identifier packet : List ℕ) → config.kind ≡ Broker → AreInOrder config [] notes
    → None ≡ option_map digest (packet_held notes identifier) → false ≡ differs rules notes identifier packet
nothing_differs config rules notes identifier packet kind order e =
    sym (differs_is config rules notes identifier packet (ap is_broker kind) order
    ∙ ap (λ (h : Option (List ℕ)). has_other_digest rules.digest_of h packet) (none_held (packet_held notes identifier) e))

pub held_differs : (config : Config) (rules : NodeRules) (notes : List Note) (identifier packet : List ℕ) (d : Digest) → config.kind ≡ Broker → AreInOrder config [] notes
    → HasDigests rules → Some d ≡ option_map digest (packet_held notes identifier) → not (bytes_eq d.bytes (sha1 packet)) ≡ differs rules notes identifier packet
held_differs config rules notes identifier packet d kind order digests e =
    let held = some_held (packet_held notes identifier) d e in
    ap (λ (b : List ℕ). not (bytes_eq b (sha1 packet))) held.2
    ∙ ap (λ (b : List ℕ). not (bytes_eq b (sha1 packet))) (sym (digests held.0))
    ∙ ap (λ (b : List ℕ). not (bytes_eq (rules.digest_of held.0) b)) (sym (digests packet))
    ∙ sym (differs_is config rules notes identifier packet (ap is_broker kind) order
    ∙ ap (λ (h : Option (List ℕ)). has_other_digest rules.digest_of h packet) held.1)
