-- Sessions, and the first link of a name.
use Rattle.std.proofs.Common.{◌≡◌, ℕ, ◌+◌, ◌<◌, ◌≤◌, suc, Bool, true, false, List, [], ◌∷◌, length, drop, get_or, Some, sym, ◌∙◌, ap, subst, arith, add-one, drop-cons}
use Rattle.std.specs.Prelude.{Option, cond, nat_lt}
use Rattle.std.specs.Str.{bytes_eq}
use Rattle.std.proofs.lemmas.Bool.Decides.{nat_tests}
use Rattle.net_model.specs.Notes.{is_open}
use Rattle.net_model.specs.Rules.{NodeRules}
use Rattle.net_model.specs.Steps.{adds, broker_acked, last_of, place_of_name, says, settles}
use Rattle.net_model.specs.declared.note.Note.{Note}
use Rattle.net_model.specs.declared.note.Note.TheVariants.{Done}
use Rattle.net_model.specs.declared.step.BrokerStep.TheVariants as b
use Rattle.node_notes.specs.declared.config.Config.{Config}
use Rattle.node_notes.specs.declared.config.LinkConfig.{LinkConfig}
use Rattle.node_book.specs.Keeps.{has_room}
use Rattle.node_book.specs.EndSteps.{HasRoomOf}
use Rattle.node_book.proofs.EndReplies.{open_settles}
use Rattle.broker_end.specs.Broker.{names_of}

-- one link more
pub next_name : (links : List LinkConfig) (name : List ℕ) (i : ℕ) (link : LinkConfig) → i < length links → link ≡ get_or links i link
    → place_of_name (names_of (drop i links)) name i ≡ cond (bytes_eq name link.name) (Some i) (place_of_name (names_of (drop (i + 1) links)) name (i + 1))
next_name links name i link low at =
    let next : drop i links ≡ link ∷ drop (i + 1) links = drop-cons links i link low ∙ ap (λ (l : LinkConfig). l ∷ drop (suc i) links) (sym at) ∙ ap (λ (n : ℕ). link ∷ drop n links) (sym (add-one i)) in
    ap (λ (l : List LinkConfig). place_of_name (names_of l) name i) next

not_lower : (a b : ℕ) → b ≤ a → nat_lt a b ≡ false
not_lower a b low = grind (arith, nat_tests)

-- what is owed in the link's last session is noted where there is room
pub acked_is : (rules : NodeRules) (config : Config) (notes : List Note) (sessions : List ℕ) (link session newer : ℕ) (identifier : List ℕ) → HasRoomOf config rules
    → newer ≡ last_of sessions link → newer ≤ session → is_open notes link identifier ≡ true
    → broker_acked rules notes sessions link session identifier ≡ adds (has_room config notes (Done link identifier)) (Done link identifier) b.Noted b.Full
acked_is rules config notes sessions link session newer identifier right last low opened =
    let test : nat_lt session (last_of sessions link) ≡ false = not_lower session (last_of sessions link) (subst (λ (n : ℕ). n ≤ session) last low) in
    ap (λ (t : Bool). cond t (says (b.Replaced (last_of sessions link))) (settles rules notes link identifier (Done link identifier) b.Noted b.Full b.Passed)) test
    ∙ open_settles rules config notes link identifier (Done link identifier) b.Noted b.Full b.Passed right opened

same_place : {a c : ℕ} → Some a ≡ Some c → a ≡ c
same_place x = cc

within_step : (t : Bool) (from place count : ℕ) (rest : Option ℕ) → (rest ≡ Some place → place < from + 1 + count) → cond t (Some from) rest ≡ Some place → place < from + suc count
within_step true from place count rest more is = let p = same_place is in omega (arith, p)
within_step false from place count rest more is = let p = more is in omega (arith, p)

-- the place of a name is one of the links
pub name_within : (links : List LinkConfig) (name : List ℕ) (from place : ℕ) → place_of_name (names_of links) name from ≡ Some place → place < from + length links
name_within [] name from place e = absurd (cc)
name_within (link ∷ links) name from place e =
    within_step (bytes_eq name link.name) from place (length links) (place_of_name (names_of links) name (from + 1)) (name_within links name (from + 1) place) e
