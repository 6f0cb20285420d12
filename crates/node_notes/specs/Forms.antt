-- Which configurations and notes keep to their forms, and which note may stand behind others.
use Rattle.std.specs.Prelude.{ℕ, ◌+◌, Bool, true, false, ◌&&◌, not, nat_lt, nat_le, List, [], ◌∷◌, length, is_none}
use Rattle.std.specs.List.{list_all}
use Rattle.std.specs.Str.{is_utf8}
use Rattle.voe_values.specs.EndName.{is_end_name}
use Rattle.voe_values.specs.Identifier.{first_fault}
use Rattle.voe_values.specs.declared.kind.NodeKind.{NodeKind}
use Rattle.voe_values.specs.declared.kind.NodeKind.TheVariants.{Author, Broker, Subscriber}
use Rattle.net_model.specs.declared.note.Note.{Note}
use Rattle.net_model.specs.declared.note.Note.TheVariants.{Wrote, Acked, Refused, Accept, Done, Enter}
use Rattle.net_model.specs.Notes.{knows, is_open}
use Rattle.node_notes.specs.declared.config.Config.{Config}
use Rattle.node_notes.specs.declared.config.LinkConfig.{LinkConfig}

-- an end name in UTF-8
unfoldable pub is_name : List ℕ → Bool
is_name text = is_utf8 text && is_end_name text

-- an identifier of a packet, in UTF-8
unfoldable pub is_identifier : List ℕ → Bool
is_identifier text = is_utf8 text && is_none (first_fault text)

-- a filter's text: at most 1,024 bytes of UTF-8, or none
unfoldable pub is_filter : List ℕ → Bool
is_filter text = is_utf8 text && nat_le (length text) 1024

-- 1 to 1,048,576 bytes
unfoldable pub is_packet : List ℕ → Bool
is_packet bytes = nat_le 1 (length bytes) && nat_le (length bytes) 1048576

-- strictly rising numbers, each of them at least the first bound and below the second
unfoldable pub are_rising : ℕ → ℕ → List ℕ → Bool
are_rising from below [] = true
are_rising from below (link ∷ links) = nat_le from link && nat_lt link below && are_rising (link + 1) below links

abbrev pub is_author : NodeKind → Bool
is_author Author = true
is_author Broker = false
is_author Subscriber = false

abbrev pub is_broker : NodeKind → Bool
is_broker Author = false
is_broker Broker = true
is_broker Subscriber = false

abbrev pub is_subscriber : NodeKind → Bool
is_subscriber Author = false
is_subscriber Broker = false
is_subscriber Subscriber = true

-- a link or line: its name, and at most 16 filters
abbrev pub is_link : LinkConfig → Bool
is_link link = is_name link.name && nat_le (length link.filters) 16 && list_all is_filter link.filters

-- the form of a configuration: its name, and at most 64 links or lines
unfoldable pub is_config : Config → Bool
is_config config = is_name config.name && nat_le (length config.links) 64 && list_all is_link config.links

-- the form of a note under a configuration
unfoldable pub keeps_form : Config → Note → Bool
keeps_form config (Wrote identifier packet) = is_author config.kind && is_identifier identifier && is_packet packet
keeps_form config (Acked line identifier) = is_author config.kind && is_identifier identifier && nat_lt line (length config.links)
keeps_form config (Refused line identifier) = is_author config.kind && is_identifier identifier && nat_lt line (length config.links)
keeps_form config (Accept identifier links packet) =
    is_broker config.kind && is_identifier identifier && is_packet packet && are_rising 0 (length config.links) links
keeps_form config (Done link identifier) = is_broker config.kind && is_identifier identifier && nat_lt link (length config.links)
keeps_form config (Enter identifier packet) = is_subscriber config.kind && is_identifier identifier && is_packet packet

-- An identifier is brought once. An answer stands behind what it answers, once on its line or link.
abbrev pub may_follow : List Note → Note → Bool
may_follow notes (Wrote identifier packet) = not (knows notes identifier)
may_follow notes (Acked line identifier) = is_open notes line identifier
may_follow notes (Refused line identifier) = is_open notes line identifier
may_follow notes (Accept identifier links packet) = not (knows notes identifier)
may_follow notes (Done link identifier) = is_open notes link identifier
may_follow notes (Enter identifier packet) = not (knows notes identifier)

-- the note keeps to its form, and may stand behind these
abbrev pub is_next : Config → List Note → Note → Bool
is_next config notes note = keeps_form config note && may_follow notes note
