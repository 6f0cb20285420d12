-- There are right rules for each scenario.
use Rattle.std.proofs.Common.{ℕ, ◌<◌, Bool, false, List, length, refl}
use Rattle.std.specs.Prelude.{IsTrue, ◌↔◌}
use Rattle.net_model.specs.Laws.{IsIn}
use Rattle.net_model.specs.Rules.{Rules}
use Rattle.net_model.specs.declared.step.Judged.{Judged}
use Rattle.net_model.specs.declared.step.Judged.TheVariants.{BadTree}
use Rattle.node_book.specs.Keeps.{has_room}
use Rattle.path_filter.specs.Links.{LinkPasses}
use Rattle.sha1.specs.Sha1.{sha1}
use Rattle.voe_scenario.specs.Shapes.{config_of}
use Rattle.voe_scenario.specs.declared.scenario.Scenario.{Scenario}
use Rattle.voe_validity.specs.Judging.{IsJudged}
use Rattle.voevent_cli.specs.Nets.{AreRightFor, node_count}
use Rattle.voevent_cli.proofs.Choices.{CanBe, decided, each_number, each_text, so_can, then_can}

-- each packet of the scenario has a judgement
abbrev pub HasJudgements : Scenario → Type 0
HasJudgements scenario = (packet : List ℕ) → IsIn packet scenario.packets → (judged : Judged) × IsJudged packet judged

-- the bits tell of a node's links which of them pass each packet
abbrev Tells : Scenario → ℕ → (ℕ → List ℕ → Bool) → Type 0
Tells scenario n bits = (number : ℕ) → number < length (config_of scenario.graph n).links
    → (packet : List ℕ) → IsIn packet scenario.packets → IsTrue (bits number packet) ↔ LinkPasses (config_of scenario.graph n).links number packet

link_told : (scenario : Scenario) (n number : ℕ)
    → CanBe ((bits : List ℕ → Bool) × ((packet : List ℕ) → IsIn packet scenario.packets → IsTrue (bits packet) ↔ LinkPasses (config_of scenario.graph n).links number packet))
link_told scenario n number =
    each_text false (λ packet bit. IsTrue bit ↔ LinkPasses (config_of scenario.graph n).links number packet) scenario.packets
    (λ packet is. decided (LinkPasses (config_of scenario.graph n).links number packet))

node_told : (scenario : Scenario) (n : ℕ) → CanBe ((bits : ℕ → List ℕ → Bool) × Tells scenario n bits)
node_told scenario n =
    each_number (λ packet. false)
    (λ number bits. (packet : List ℕ) → IsIn packet scenario.packets → IsTrue (bits packet) ↔ LinkPasses (config_of scenario.graph n).links number packet)
    (length (config_of scenario.graph n).links) (λ number lt. link_told scenario n number)

all_told : (scenario : Scenario) → CanBe ((bits : ℕ → ℕ → List ℕ → Bool) × ((n : ℕ) → n < node_count scenario → Tells scenario n (bits n)))
all_told scenario = each_number (λ number packet. false) (Tells scenario) (node_count scenario) (λ n lt. node_told scenario n)

judged_all : (scenario : Scenario) → HasJudgements scenario
    → CanBe ((judge : List ℕ → Judged) × ((packet : List ℕ) → IsIn packet scenario.packets → IsJudged packet (judge packet)))
judged_all scenario judgements = each_text (BadTree 0) IsJudged scenario.packets (λ packet is never. never (judgements packet is))

-- of a scenario whose packets have judgements
pub right_rules : (scenario : Scenario) → HasJudgements scenario → ((rules : Rules) → AreRightFor scenario rules → ⊥) → ⊥
right_rules scenario judgements never =
    then_can (judged_all scenario judgements) (λ judges. so_can (all_told scenario) (λ told.
    let rules : Rules = record { judge = judges.0; digest_of = sha1; passes = told.0; has_room = λ n. has_room (config_of scenario.graph n) } in
    never rules (λ n lt. record {
      judge = judges.1;
      digest_of = λ bytes. refl;
      has_room = λ notes note. refl;
      passes = λ packet identifier is good number within. told.1 n lt number within packet is;
    })))
    (λ wrong. wrong)
