-- What an answer says.
use Rattle.std.specs.Prelude.{ℕ, Bool, true, false, cond, List, Option, Some, None}
use Rattle.net_model.specs.declared.state.Verdict.{Verdict}
use Rattle.net_model.specs.declared.state.Verdict.TheVariants.{Ack, Nak}
use Rattle.node_notes.specs.Forms.{is_identifier}
use Rattle.voe_net.specs.declared.heard.Heard.{Heard}

-- a packet is named where the name is an identifier
abbrev pub named_so : List ℕ → Bool → Option Heard
named_so name ack = cond (is_identifier name) (Some (record { identifier = name; ack = ack })) None

abbrev pub heard_of : Verdict → Option Heard
heard_of (Ack name) = named_so name true
heard_of (Nak (Some name) code) = named_so name false
heard_of (Nak None code) = None
