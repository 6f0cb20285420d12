-- The events that move packets and answers, and change no connection and no node.
use Rattle.std.specs.Prelude.{List, [], ◌∷◌}
use Rattle.net_model.specs.declared.scenario.Event.{Event}
use Rattle.net_model.specs.declared.scenario.Event.TheVariants.{Write, Send, Down, Up}

-- a packet is written, sent or delivered, or an answer is
abbrev pub IsTraffic : Event → Type 0
IsTraffic (Write author packet) = Unit {0}
IsTraffic (Send edge) = Unit {0}
IsTraffic (Down edge) = Unit {0}
IsTraffic (Up edge) = Unit {0}
IsTraffic _ = ⊥

-- each event is of this kind
abbrev pub AllTraffic : List Event → Type 0
AllTraffic [] = Unit {0}
AllTraffic (event ∷ events) = IsTraffic event × AllTraffic events
