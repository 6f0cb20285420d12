-- Lines of scenarios, judged by computing.
use Rattle.std.proofs.Common.{◌≡◌, ℕ, List, [], ◌∷◌, ◌++◌, Option, Some, None, codes, refl, replicate, map}
use Rattle.voe_values.specs.declared.citation.Role.TheVariants.{Test}
use Rattle.voe_values.specs.declared.kind.NodeKind.TheVariants.{Author, Broker, Subscriber}
use Rattle.voe_values.specs.Identifier.{first_fault}
use Rattle.net_model.specs.declared.scenario.Event.{Event}
use Rattle.net_model.specs.declared.scenario.Event.TheVariants.{Write, Cut, Connect, Crash, Reopen, Stop, Drain}
use Rattle.net_model.specs.declared.scenario.Inner.TheVariants.{Write as InWrite, Down as InDown}
use Rattle.std.specs.Fmt.{digits}
use Rattle.voe_scenario.specs.declared.scenario.Scenario.{Scenario}
use Rattle.voe_scenario.specs.Grammar.{says_event, says_filter, says_packet, said_of}
use Rattle.voe_scenario.specs.Graphs.{is_kind}
use Rattle.voe_scenario.specs.Refusals.{scenario_rules}
use Rattle.voe_scenario.specs.Rules.{least_that_holds}
use Rattle.voe_scenario.specs.Scenarios.{with_said_line}
use Rattle.voe_scenario.specs.Shapes.{config_of}
use Rattle.voe_scenario.specs.Words.{is_number}

-- what lines say, whose numbers may name nothing
said_events :
    map said_of (codes "write 0 7" ∷ codes "cut 3" ∷ codes "connect 3" ∷ codes "crash 2" ∷ codes "open 2" ∷ codes "stop 4 255 down 1" ∷ codes "stop 0 0 write 1 2" ∷ codes "drain" ∷ [])
    ≡ map (λ event. Some (says_event event)) (Write 0 7 ∷ Cut 3 ∷ Connect 3 ∷ Crash 2 ∷ Reopen 2 ∷ Stop 4 255 (InDown 1) ∷ Stop 0 0 (InWrite 1 2) ∷ Drain ∷ [])
unfolding said_of is_number
said_events = refl

said_nothing :
    map said_of (codes "stop 5 0 down 1" ∷ codes "stop 0 256 down 1" ∷ codes "stop 0 0 send 1" ∷ codes "stop 0 0 drain" ∷ codes "stop 0 0" ∷ codes "drain 0" ∷ codes "crash" ∷ codes "window 1" ∷ codes "filter 0" ∷ codes "filter 0 " ∷ codes "filter" ∷ codes "packet ivo://a/b#c test x" ∷ codes "packet ivo://a/b#c test " ∷ codes "packet ivo://a/b#c tests" ∷ codes "packet  test" ∷ codes "send 01" ∷ codes "send 10000000" ∷ [])
    ≡ replicate 17 None
unfolding said_of is_number
said_nothing = refl

said_filters : map said_of (codes "filter 2 //a[b = 'c']" ∷ codes "filter 0  " ∷ []) ≡ Some (says_filter 2 (codes "//a[b = 'c']")) ∷ Some (says_filter 0 (codes " ")) ∷ []
unfolding said_of is_number
said_filters = refl

said_packets :
    said_of (codes "packet ivo://a/b#c test x=1=2 y=")
    ≡ Some (says_packet (record {
      identifier = codes "ivo://a/b#c";
      role = Test;
      params = record { name = codes "x"; value = codes "1=2" } ∷ record { name = codes "y"; value = [] } ∷ [];
      citations = [];
    }))
unfolding said_of is_number
said_packets = refl

-- the least of the first five numbers by which each of these lines is refused, behind the lines that made this scenario
judged : Scenario → List (List ℕ) → List (Option ℕ)
judged before lines = map (λ line. least_that_holds (scenario_rules before line (said_of line))) lines

-- an author, a broker, a subscriber, a line, a link, a packet, and these events
small : List Event → Scenario
small events = record {
  graph = record {
    nodes = Author ∷ Broker ∷ Subscriber ∷ [];
    edges = record { upper = 0; lower = 1; filters = []; texts = [] } ∷ record { upper = 1; lower = 2; filters = []; texts = replicate 15 (codes "//a") } ∷ [];
    window = 1;
  };
  packets = codes "a" ∷ [];
  events = events;
}

judged_names :
    judged (small []) (codes "line 0 1" ∷ codes "line 1 2" ∷ codes "link 1 1" ∷ codes "link 0 1" ∷ codes "filter 1 //a" ∷ codes "filter 0 //a" ∷ codes "filter 2 //a" ∷ codes "write 0 0" ∷ codes "write 1 0" ∷ codes "write 0 1" ∷ codes "stop 0 0 write 1 0" ∷ codes "stop 0 0 up 2" ∷ codes "cut 1" ∷ codes "cut 2" ∷ codes "crash 2" ∷ codes "open 3" ∷ codes "drain" ∷ [])
    ≡ None ∷ Some 2 ∷ None ∷ Some 2 ∷ None ∷ Some 2 ∷ Some 2 ∷ None ∷ Some 2 ∷ Some 2 ∷ Some 2 ∷ Some 2 ∷ None ∷ Some 2 ∷ None ∷ Some 2 ∷ None ∷ []
unfolding said_of is_number is_kind judged small
judged_names = refl

judged_packets :
    judged (small []) (codes "packet ivo://a/b#c test" ∷ codes "packet b test" ∷ codes "packet b test =v" ∷ codes "packet ivo://a/b#c test =v" ∷ codes "packet ivo://a/b#c test a=" ∷ codes "packet ivo://a/b#c test a+=1" ∷ (codes "packet ivo://a/b#c" ++ replicate 501 97 ++ codes " test") ∷ (codes "packet ivo://a/b#c" ++ replicate 502 97 ++ codes " test") ∷ [])
    ≡ None ∷ Some 4 ∷ Some 4 ∷ Some 5 ∷ None ∷ Some 5 ∷ None ∷ Some 3 ∷ []
unfolding said_of is_number is_kind first_fault judged small
judged_packets = refl

judged_behind :
    judged (small (Drain ∷ [])) (codes "author" ∷ codes "filter 0 //a" ∷ codes "packet b test" ∷ codes "crash 9" ∷ codes "drain" ∷ [])
    ≡ Some 1 ∷ Some 1 ∷ Some 1 ∷ Some 2 ∷ None ∷ []
unfolding said_of is_number is_kind judged small
judged_behind = refl

-- a sixteenth filter, and a seventeenth
judged_filters : judged (with_said_line (small []) (codes "filter 1 /*")) (codes "filter 1 //a" ∷ codes "filter 0 //a" ∷ []) ≡ Some 3 ∷ Some 2 ∷ []
unfolding said_of is_number is_kind judged small
judged_filters = refl

-- two links to one node, and one to another
named_links :
    config_of (record {
      nodes = Broker ∷ Subscriber ∷ Broker ∷ [];
      edges = record { upper = 0; lower = 1; filters = []; texts = [] } ∷ record { upper = 2; lower = 1; filters = []; texts = [] } ∷ record { upper = 0; lower = 2; filters = []; texts = [] } ∷ record { upper = 0; lower = 1; filters = []; texts = codes "//a" ∷ [] } ∷ [];
      window = 1;
    }) 0
    ≡ record {
      kind = Broker;
      name = codes "ivo://node/0";
      links = record { name = codes "ivo://node/1"; filters = [] } ∷ record { name = codes "ivo://node/2"; filters = [] } ∷ record { name = codes "ivo://node/1.2"; filters = codes "//a" ∷ [] } ∷ [];
    }
unfolding digits
named_links = refl
