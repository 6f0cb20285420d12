-- The citations of packets, and what they leave of a packet.
use Rattle.std.specs.Prelude.{ℕ, Bool, true, false, ◌&&◌, List, [], ◌∷◌, ◌++◌, map, filter, if◌then◌else◌}
use Rattle.std.specs.List.{flat_map, list_any}
use Rattle.std.specs.Str.{bytes_eq}
use Rattle.voe_values.specs.declared.citation.Cite.{Cite}
use Rattle.voe_values.specs.declared.citation.Cite.TheVariants.{Followup, Supersedes, Retraction}
use Rattle.voe_packet.specs.declared.packet.Citation.{Citation}
use Rattle.voe_packet.specs.declared.packet.Packet.{Packet}
use Rattle.cite_index.specs.declared.triple.Triple.{Triple}
use Rattle.cite_index.specs.declared.standing.Standing.{Standing}
use Rattle.cite_index.specs.declared.standing.Standing.TheVariants.{Current, Superseded, Retracted}

-- What is known of the packets that were added: their identifiers in the order of adding, and their citations.
pub record Known : Type 0 where
  pub added : List (List ℕ)
  pub cites : List Triple

-- one citation with both ends
abbrev pub triple_of : List ℕ → Citation → Triple
triple_of citing c = record { citing = citing; cited = c.identifier; kind = c.kind }

-- the citations of a packet, in their order
abbrev pub triples_of : Packet → List Triple
triples_of p = map (λ c. triple_of p.identifier c) p.citations

-- the citations of packets in order
abbrev pub cites_of : List Packet → List Triple
cites_of packets = flat_map triples_of packets

-- what is known of packets in order
abbrev pub known_of : List Packet → Known
known_of packets = record { added = map (λ p. p.identifier) packets; cites = cites_of packets }

-- a packet more
abbrev pub with_packet : Known → Packet → Known
with_packet k p = record { added = k.added ++ p.identifier ∷ []; cites = k.cites ++ triples_of p }

-- ---- who cites

abbrev pub is_of : List ℕ → Triple → Bool
is_of i t = bytes_eq t.cited i

-- who cites the identifier, and how, in the order of adding
abbrev pub citing : List Triple → List ℕ → List (List ℕ × Cite)
citing cites i = map (λ t. (t.citing, t.kind)) (filter (is_of i) cites)

-- ---- standing

abbrev pub is_retraction : Cite → Bool
is_retraction Retraction = true
is_retraction Followup = false
is_retraction Supersedes = false

abbrev pub is_supersession : Cite → Bool
is_supersession Supersedes = true
is_supersession Followup = false
is_supersession Retraction = false

abbrev pub retracts : List ℕ → Triple → Bool
retracts i t = is_of i t && is_retraction t.kind

abbrev pub supersedes : List ℕ → Triple → Bool
supersedes i t = is_of i t && is_supersession t.kind

-- A retraction counts most, wherever it stands.
abbrev pub standing : List Triple → List ℕ → Standing
standing cites i =
    if list_any (retracts i) cites then Retracted else (if list_any (supersedes i) cites then Superseded else Current)

-- what a citation more leaves of a standing
abbrev pub superseded : Standing → Standing
superseded Retracted = Retracted
superseded Superseded = Superseded
superseded Current = Superseded

abbrev pub after : Standing → Cite → Standing
after was Followup = was
after was Retraction = Retracted
after was Supersedes = superseded was
