-- What keeps to its form has a spelling, of a length that a journal takes.
use Rattle.std.proofs.Common.{◌≡◌, ℕ, ◌+◌, ◌*◌, ◌<◌, ◌≤◌, Bool, true, ◌&&◌, ltb, List, [], ◌∷◌, ◌++◌, length, refl, arith, length-append}
use Rattle.std.specs.List.{list_all, flat_map, AllByRecursion}
use Rattle.std.proofs.lemmas.Bool.{leb-true, ltb-true, and_parts}
use Rattle.node_notes.specs.declared.config.Config.{Config}
use Rattle.node_notes.specs.declared.config.LinkConfig.{LinkConfig}
use Rattle.net_model.specs.declared.note.Note.{Note}
use Rattle.net_model.specs.declared.note.Note.TheVariants.{Wrote, Acked, Refused, Accept, Done, Enter}
use Rattle.node_notes.specs.Spelling.{number, name, packet, counted, brought, answered, accepted, note_payload, link_text, config_payload, IsShort, IsNumber, IsLinkText, HasSpelling, IsConfigText}
use Rattle.node_notes.specs.Forms.{is_name, is_identifier, is_filter, is_packet, are_rising, is_author, is_broker, is_subscriber, is_link, is_config, keeps_form}
use Rattle.node_notes.proofs.Texts.{name_small, identifier_small, filter_small, packet_small}
use Rattle.node_notes.proofs.Payloads.{LinkFits, ConfigFits}
use Rattle.node_notes.proofs.Rising.{rising_few, rising_fit}

-- each of a list
each_of : {X : Type 0} (test : X → Bool) (P : X → Type 0) → ((x : X) → test x ≡ true → P x) → (xs : List X) → list_all test xs ≡ true → AllByRecursion P xs
each_of test P holds [] is = tt
each_of test P holds (x ∷ xs) is =
    let a = and_parts (test x) (list_all test xs) is in
    (holds x a.0, each_of test P holds xs a.1)

filters_few : (links : List LinkConfig) (link : LinkConfig) → is_link link ≡ true → IsLinkText link
filters_few links link is =
    let a = and_parts (is_name link.name && _) (list_all is_filter link.filters) is in
    let b = and_parts (is_name link.name) _ a.0 in
    let named = name_small link.name b.0 in
    let few = leb-true (length link.filters) 16 b.1 in
    (omega (arith, named.1), (each_of is_filter IsShort (λ text is. let small = filter_small text is in omega (arith, small)) link.filters a.1, omega (arith, few)))

config_parts : (config : Config) → is_config config ≡ true → (length config.name ≤ 512) × (length config.links ≤ 64) × (list_all is_link config.links ≡ true)
unfolding is_config
config_parts config is =
    let a = and_parts (is_name config.name && _) (list_all is_link config.links) is in
    let b = and_parts (is_name config.name) _ a.0 in
    ((name_small config.name b.0).1, leb-true (length config.links) 64 b.1, a.1)

pub few_links : (config : Config) → is_config config ≡ true → length config.links ≤ 64
few_links config is = (config_parts config is).1

pub config_spells : (config : Config) → is_config config ≡ true → IsConfigText config
config_spells config is =
    let parts = config_parts config is in
    (omega (arith, parts.0), (each_of is_link IsLinkText (filters_few config.links) config.links parts.2, omega (arith, parts.1)))

link_fits : (link : LinkConfig) → is_link link ≡ true → LinkFits link
link_fits link is =
    let a = and_parts (is_name link.name && _) (list_all is_filter link.filters) is in
    let b = and_parts (is_name link.name) _ a.0 in
    (b.0, each_of is_filter (λ text. is_filter text ≡ true) (λ text is. is) link.filters a.1)

pub config_fits : (config : Config) → is_config config ≡ true → ConfigFits config
unfolding is_config
config_fits config is =
    let a = and_parts (is_name config.name && _) (list_all is_link config.links) is in
    let b = and_parts (is_name config.name) _ a.0 in
    (b.0, each_of is_link LinkFits link_fits config.links a.1)

-- the parts of a note's form
pub record IsBrought (identifier packet : List ℕ) : Type 0 where
  pub name : length identifier ≤ 512
  pub some : 1 ≤ length packet
  pub few : length packet ≤ 1048576

brought_parts : (kind : Bool) (identifier bytes : List ℕ) → (kind && is_identifier identifier && is_packet bytes) ≡ true → IsBrought identifier bytes
brought_parts kind identifier bytes is =
    let a = and_parts (kind && is_identifier identifier) (is_packet bytes) is in
    let b = and_parts kind (is_identifier identifier) a.0 in
    let p = packet_small bytes a.1 in
    record { name = identifier_small identifier b.1; some = p.0; few = p.1 }

pub record IsAnswered (edge : ℕ) (identifier : List ℕ) : Type 0 where
  pub name : length identifier ≤ 512
  pub edge_fits : edge < 64

answered_parts : (config : Config) (kind : Bool) (edge : ℕ) (identifier : List ℕ) → is_config config ≡ true → (kind && is_identifier identifier && ltb edge (length config.links)) ≡ true → IsAnswered edge identifier
answered_parts config kind edge identifier fits is =
    let a = and_parts (kind && is_identifier identifier) (ltb edge (length config.links)) is in
    let b = and_parts kind (is_identifier identifier) a.0 in
    let low = ltb-true edge (length config.links) a.1 in
    let few = few_links config fits in
    record { name = identifier_small identifier b.1; edge_fits = omega (arith, low, few) }

pub record IsAccepted (identifier : List ℕ) (links : List ℕ) (packet : List ℕ) : Type 0 where
  pub brought : IsBrought identifier packet
  pub links_fit : AllByRecursion IsNumber links
  pub few_links : length links ≤ 64

accepted_parts : (config : Config) (kind : Bool) (identifier links bytes : List ℕ) → is_config config ≡ true → (kind && is_identifier identifier && is_packet bytes && are_rising 0 (length config.links) links) ≡ true → IsAccepted identifier links bytes
accepted_parts config kind identifier links bytes fits is =
    let a = and_parts (kind && is_identifier identifier && is_packet bytes) (are_rising 0 (length config.links) links) is in
    let few = few_links config fits in
    let count = rising_few 0 (length config.links) links (omega arith) a.1 in
    record { brought = brought_parts kind identifier bytes a.0; links_fit = rising_fit 0 (length config.links) links few a.1; few_links = omega (arith, few, count) }

pub note_spells : (config : Config) (note : Note) → is_config config ≡ true → keeps_form config note ≡ true → HasSpelling note
unfolding keeps_form
note_spells config (Wrote identifier bytes) fits is = let p = brought_parts (is_author config.kind) identifier bytes is in (omega (arith, p.name), omega (arith, p.few))
note_spells config (Acked line identifier) fits is = let p = answered_parts config (is_author config.kind) line identifier fits is in (omega (arith, p.edge_fits), omega (arith, p.name))
note_spells config (Refused line identifier) fits is = let p = answered_parts config (is_author config.kind) line identifier fits is in (omega (arith, p.edge_fits), omega (arith, p.name))
note_spells config (Accept identifier links bytes) fits is =
    let p = accepted_parts config (is_broker config.kind) identifier links bytes fits is in
    (omega (arith, p.brought.name), (p.links_fit, omega (arith, p.few_links)), omega (arith, p.brought.few))
note_spells config (Done link identifier) fits is = let p = answered_parts config (is_broker config.kind) link identifier fits is in (omega (arith, p.edge_fits), omega (arith, p.name))
note_spells config (Enter identifier bytes) fits is = let p = brought_parts (is_subscriber config.kind) identifier bytes is in (omega (arith, p.name), omega (arith, p.few))

-- ---- sizes

length-number : (n : ℕ) → length (number n) ≡ 2
unfolding number
length-number n = refl

length-name : (text : List ℕ) → length (name text) ≡ length text + 2
unfolding name
length-name text = omega arith

length-packet : (bytes : List ℕ) → length (packet bytes) ≡ length bytes + 4
unfolding packet
length-packet bytes = omega arith

flat_small : {X : Type 0} (spell : X → List ℕ) (k : ℕ) (P : X → Type 0) → ((x : X) → P x → length (spell x) ≤ k) → (xs : List X) → AllByRecursion P xs → length (flat_map spell xs) ≤ length xs * k
flat_small spell k P small [] each = omega arith
flat_small spell k P small (x ∷ xs) each =
    let here = small x each.0 in
    let rest = flat_small spell k P small xs each.1 in
    omega (arith, here, rest, length-append (spell x) (flat_map spell xs))

length-counted : {X : Type 0} (spell : X → List ℕ) (xs : List X) → length (counted spell xs) ≡ length (flat_map spell xs) + 1
unfolding counted
length-counted spell xs = omega arith

pub length_brought : (identifier bytes : List ℕ) → length (brought identifier bytes) ≡ length identifier + length bytes + 6
unfolding brought
length_brought identifier bytes = omega (arith, length-append (name identifier) (packet bytes), length-name identifier, length-packet bytes)

pub length_answered : (edge : ℕ) (identifier : List ℕ) → length (answered edge identifier) ≡ length identifier + 4
unfolding answered
length_answered edge identifier = omega (arith, length-append (number edge) (name identifier), length-number edge, length-name identifier)

length-numbers : (links : List ℕ) → length (flat_map number links) ≡ 2 * length links
length-numbers [] = refl
length-numbers (link ∷ links) = omega (arith, length-append (number link) (flat_map number links), length-number link, length-numbers links)

pub length_accepted : (identifier links bytes : List ℕ) → length (accepted identifier links bytes) ≡ length identifier + length bytes + 7 + 2 * length links
unfolding accepted
length_accepted identifier links bytes =
    omega (arith, length-numbers links, length-append (name identifier) (counted number links ++ packet bytes), length-append (counted number links) (packet bytes), length-counted number links, length-name identifier, length-packet bytes)

-- a journal takes it
pub record IsSmall (payload : List ℕ) : Type 0 where
  pub some : 1 ≤ length payload
  pub few : length payload ≤ 1100000

pub note_small : (config : Config) (note : Note) → is_config config ≡ true → keeps_form config note ≡ true → IsSmall (note_payload note)
unfolding keeps_form
note_small config (Wrote identifier bytes) fits is = let p = brought_parts (is_author config.kind) identifier bytes is in record { some = omega arith; few = omega (arith, p.name, p.few, length_brought identifier bytes) }
note_small config (Acked line identifier) fits is = let p = answered_parts config (is_author config.kind) line identifier fits is in record { some = omega arith; few = omega (arith, p.name, length_answered line identifier) }
note_small config (Refused line identifier) fits is = let p = answered_parts config (is_author config.kind) line identifier fits is in record { some = omega arith; few = omega (arith, p.name, length_answered line identifier) }
note_small config (Accept identifier links bytes) fits is =
    let p = accepted_parts config (is_broker config.kind) identifier links bytes fits is in
    record { some = omega arith; few = omega (arith, p.brought.name, p.brought.few, p.few_links, length_accepted identifier links bytes) }
note_small config (Done link identifier) fits is = let p = answered_parts config (is_broker config.kind) link identifier fits is in record { some = omega arith; few = omega (arith, p.name, length_answered link identifier) }
note_small config (Enter identifier bytes) fits is = let p = brought_parts (is_subscriber config.kind) identifier bytes is in record { some = omega arith; few = omega (arith, p.name, p.few, length_brought identifier bytes) }

length-link_text : (link : LinkConfig) → is_link link ≡ true → length (link_text link) ≤ 16931
unfolding link_text
length-link_text link is =
    let a = and_parts (is_name link.name && _) (list_all is_filter link.filters) is in
    let b = and_parts (is_name link.name) _ a.0 in
    let named = name_small link.name b.0 in
    let few = leb-true (length link.filters) 16 b.1 in
    let flat = flat_small name 1026 (λ text. is_filter text ≡ true) (λ text is. let small = filter_small text is in omega (arith, small, length-name text)) link.filters (each_of is_filter (λ text. is_filter text ≡ true) (λ text is. is) link.filters a.1) in
    omega (arith, flat, few, named.1, length-append (name link.name) (counted name link.filters), length-counted name link.filters, length-name link.name)

pub config_small : (config : Config) → is_config config ≡ true → IsSmall (config_payload config)
config_small config is =
    let parts = config_parts config is in
    let flat = flat_small link_text 16931 (λ link. is_link link ≡ true) length-link_text config.links (each_of is_link (λ link. is_link link ≡ true) (λ link is. is) config.links parts.2) in
    record { some = omega arith; few = omega (arith, parts.0, parts.1, flat, length-append (name config.name) (counted link_text config.links), length-counted link_text config.links, length-name config.name) }
