-- The scenario that a text is, whoever reads it, is sound.
use Rattle.std.proofs.Common.{◌≡◌, ℕ, ◌+◌, ◌≤◌, ◌||◌, Bool, true, false, cond, not, List, [], ◌∷◌, Option, Some, None, is_none, Ok, Err, length, map, nat_lt, refl, sym, ap, arith, subst}
use Rattle.std.proofs.lemmas.Bool.Decides.{nat_tests}
use Rattle.std.specs.Bool.{MatchBool}
use Rattle.std.specs.List.{All}
use Rattle.std.specs.Option.{MatchOption}
use Rattle.voe_values.specs.Identifier.{first_fault}
use Rattle.voe_scenario.specs.declared.scenario.Scenario.{Scenario}
use Rattle.voe_scenario.specs.Grammar.{Said, says_node, says_line, says_link, says_filter, says_packet, says_event, said_of}
use Rattle.voe_scenario.specs.Lines.{LinesRead, Refusal, is_passed_over, taken_with}
use Rattle.voe_scenario.specs.Refusals.{RefusesLine, filter_brought, is_misplaced, is_named, is_within, misnames_packet, passes_limit, scenario_rules}
use Rattle.voe_scenario.specs.Rules.{IsLeastBroken, IsRefusedFilter, least_that_holds}
use Rattle.voe_scenario.specs.Scenarios.{IsEdgeRead, IsScenarioOf, nothing_yet, unread, unread_edge, with_any, with_said_line}
use Rattle.voe_scenario.specs.Sound.{IsSound, IsSoundSoFar}
use Rattle.voe_scenario.specs.Taking.{BringsRead, MayStand, NamesPacket}
use Rattle.voe_scenario.specs.Words.{lines_of}
use Rattle.voe_scenario.proofs.Filled.{sound_filled, with_edges}
use Rattle.voe_scenario.proofs.Kept.{PacketsAreBounded, kept, nothing_sound}

-- ---- a line that isn't refused

-- none of the rules before the last is broken, and what is said of the last
none_broken : (least : Option ℕ) (Last : Type 0) → MatchOption least Last (λ number. None ≡ Some number) → (least ≡ None) × Last
none_broken None Last unrefused = (refl, unrefused)
none_broken (Some number) Last unrefused = cc

-- the first of some rules isn't broken, and no later one is
first_unbroken : (b : Bool) (number : ℕ) (later : Option ℕ) → cond b (Some number) later ≡ None → (b ≡ false) × (later ≡ None)
first_unbroken true number later is = cc
first_unbroken false number later is = (refl, is)

neither : (a b : Bool) → (a || b) ≡ false → (a ≡ false) × (b ≡ false)
neither true b is = cc
neither false true is = cc
neither false false is = (refl, refl)

unnegated : (b : Bool) → not b ≡ false → b ≡ true
unnegated true is = refl
unnegated false is = cc

is_none-true : {A : Type 0} (found : Option A) → is_none found ≡ true → found ≡ None
is_none-true None is = refl
is_none-true (Some x) is = cc

up_to : (m n : ℕ) → nat_lt m n ≡ false → n ≤ m
up_to m n is = grind (arith, nat_tests)

identified : (said : Said) → misnames_packet said ≡ false → NamesPacket said
identified (says_node kind) is = tt
identified (says_line upper lower) is = tt
identified (says_link upper lower) is = tt
identified (says_filter edge text) is = tt
identified (says_packet draft) is = is_none-true (first_fault draft.identifier) (unnegated (is_none (first_fault draft.identifier)) is)
identified (says_event event) is = tt

reads : (said : Said) → IsRefusedFilter (filter_brought (Some said)) None → BringsRead said
reads (says_node kind) last = tt
reads (says_line upper lower) last = tt
reads (says_link upper lower) last = tt
reads (says_filter edge text) last = last
reads (says_packet draft) last = tt
reads (says_event event) last = tt

may_stand : (before : Scenario) (line : List ℕ) (said : Said) → least_that_holds (scenario_rules before line (Some said)) ≡ None → MayStand before line said
may_stand before line said none =
    let first = first_unbroken (is_misplaced before said) 1 _ none in
    let second = first_unbroken (not (is_named before said)) 2 _ first.1 in
    let third = first_unbroken (passes_limit before line said) 3 _ second.1 in
    let fourth = first_unbroken (misnames_packet said) 4 _ third.1 in
    let limits = neither (nat_lt 2048 (length line)) (not (is_within before said)) third.0 in
    record {
      unbroken = none;
      placed = first.0;
      named = unnegated (is_named before said) second.0;
      within = unnegated (is_within before said) limits.1;
      short = up_to 2048 (length line) limits.0;
      identified = identified said fourth.0;
    }

said_sound : PacketsAreBounded → (before : Scenario) (line : List ℕ) (found : Option Said) → said_of line ≡ found
    → IsLeastBroken (scenario_rules before line found) (filter_brought found) None → IsSoundSoFar before → IsSoundSoFar (with_any before found)
said_sound bounded before line None is unrefused sound = sound
said_sound bounded before line (Some said) is unrefused sound =
    let unbroken = none_broken (least_that_holds (scenario_rules before line (Some said))) (IsRefusedFilter (filter_brought (Some said)) None) unrefused in
    kept bounded before line said sound (record { says = is; stands = may_stand before line said unbroken.0; reads = reads said unbroken.1 })

-- ---- all lines

taken_sound : PacketsAreBounded → (before : Scenario) (line : List ℕ) (passed : Bool) → MatchBool passed (◌≡◌ {A = Option ℕ} None None) (RefusesLine before line None)
    → IsSoundSoFar before → IsSoundSoFar (cond passed before (with_said_line before line))
taken_sound bounded before line true unrefused sound = sound
taken_sound bounded before line false unrefused sound = said_sound bounded before line (said_of line) refl unrefused sound

lines_sound : PacketsAreBounded → (before : Scenario) (place : ℕ) (lines : List (List ℕ)) (said : Scenario) → IsSoundSoFar before
    → LinesRead RefusesLine with_said_line before place lines (Ok said) → IsSoundSoFar said
unfolding LinesRead
lines_sound bounded before place [] said sound read = let is : said ≡ before = cc in rw is sound
lines_sound bounded before place (line ∷ lines) said sound (None, unrefused, others) =
    lines_sound bounded (taken_with with_said_line before line) (place + 1) lines said (taken_sound bounded before line (is_passed_over line) unrefused sound) others
lines_sound bounded before place (line ∷ lines) said sound (Some number, refused, is) = cc

text_sound : PacketsAreBounded → (long : Bool) (lines : List (List ℕ)) (refusal : Refusal) (said : Scenario)
    → MatchBool long (Ok said ≡ Err refusal) (LinesRead RefusesLine with_said_line nothing_yet 1 lines (Ok said)) → IsSoundSoFar said
text_sound bounded true lines refusal said read = cc
text_sound bounded false lines refusal said read = lines_sound bounded nothing_yet 1 lines said nothing_sound read

-- ---- the filters

filled : (said scenario : Scenario) → unread scenario ≡ unread said → All IsEdgeRead scenario.graph.edges → IsSoundSoFar said → IsSound scenario
filled said scenario same read sound =
    let edges : map unread_edge scenario.graph.edges ≡ map unread_edge said.graph.edges = ap (λ s. s.graph.edges) same in
    let is : with_edges said scenario.graph.edges ≡ scenario =
    ap (λ (s : Scenario). with_edges s scenario.graph.edges) (sym same) in
    subst IsSound is (sound_filled said scenario.graph.edges edges read sound)

pub accepted_sound : PacketsAreBounded → (text : List ℕ) (scenario : Scenario) → IsScenarioOf text (Ok scenario) → IsSound scenario
accepted_sound bounded text scenario (Ok said, lines, fills) =
    filled said scenario fills.0 fills.1 (text_sound bounded (nat_lt 33554432 (length text)) (lines_of text) (record { number = 3; line = 0 }) said lines)
accepted_sound bounded text scenario (Err refusal, lines, is) = absurd is
