-- Why bytes are no document.
use Rattle.std.specs.Prelude.{◌≡◌, ℕ, List, Option, Some, true, false}
use Rattle.xml_lexer.specs.Characters.{Text}
use Rattle.xml_lexer.specs.Token.{Token}
use Rattle.xml_lexer.specs.Phases.{IsTokensOf, RefusesText, RefusesToken, RefusesMany}
use Rattle.voe_tree.specs.Rules.{Rule, unbalanced, too_deep, repeated_attribute, unbound_prefix, root_missing, after_root, refusal_of}
use Rattle.voe_tree.specs.declared.fault.TreeFault.{TreeFault}
use Rattle.voe_tree.specs.declared.fault.TreeFault.TheVariants.{NotText, BadToken, Doctype, TooManyTokens, Unbalanced, TooDeep, RepeatedAttribute, UnboundPrefix, RootMissing, AfterRoot, NoMemory}

-- the bytes are tokens of which that one is the first to break a rule, and that rule decides
abbrev pub BreaksAt : Text → Rule → ℕ → Type 0
BreaksAt bytes rule place = (ks : List Token) × IsTokensOf ks bytes × (refusal_of ks ≡ Some (rule, place))

-- What each fault says of the bytes. Want of memory says nothing.
abbrev pub RefusesTree : Text → TreeFault → Type 0
RefusesTree bytes (NotText place) = RefusesText bytes place
RefusesTree bytes (BadToken place) = RefusesToken bytes false place
RefusesTree bytes (Doctype place) = RefusesToken bytes true place
RefusesTree bytes TooManyTokens = RefusesMany bytes
RefusesTree bytes (Unbalanced place) = BreaksAt bytes unbalanced place
RefusesTree bytes (TooDeep place) = BreaksAt bytes too_deep place
RefusesTree bytes (RepeatedAttribute place) = BreaksAt bytes repeated_attribute place
RefusesTree bytes (UnboundPrefix place) = BreaksAt bytes unbound_prefix place
RefusesTree bytes RootMissing = (place : ℕ) × BreaksAt bytes root_missing place
RefusesTree bytes (AfterRoot place) = BreaksAt bytes after_root place
RefusesTree bytes NoMemory = Unit {0}

-- what each fault says of the tokens
abbrev pub RefusesTokens : List Token → TreeFault → Type 0
RefusesTokens ks (Unbalanced place) = refusal_of ks ≡ Some (unbalanced, place)
RefusesTokens ks (TooDeep place) = refusal_of ks ≡ Some (too_deep, place)
RefusesTokens ks (RepeatedAttribute place) = refusal_of ks ≡ Some (repeated_attribute, place)
RefusesTokens ks (UnboundPrefix place) = refusal_of ks ≡ Some (unbound_prefix, place)
RefusesTokens ks RootMissing = (place : ℕ) × (refusal_of ks ≡ Some (root_missing, place))
RefusesTokens ks (AfterRoot place) = refusal_of ks ≡ Some (after_root, place)
RefusesTokens ks NoMemory = Unit {0}
RefusesTokens ks (NotText place) = ⊥
RefusesTokens ks (BadToken place) = ⊥
RefusesTokens ks (Doctype place) = ⊥
RefusesTokens ks TooManyTokens = ⊥

-- the fault shows the rule that the token of this number breaks, or want of memory
abbrev pub Shows : ℕ → Option Rule → TreeFault → Type 0
Shows at broken (Unbalanced place) = (broken ≡ Some unbalanced) × (place ≡ at)
Shows at broken (TooDeep place) = (broken ≡ Some too_deep) × (place ≡ at)
Shows at broken (RepeatedAttribute place) = (broken ≡ Some repeated_attribute) × (place ≡ at)
Shows at broken (UnboundPrefix place) = (broken ≡ Some unbound_prefix) × (place ≡ at)
Shows at broken RootMissing = broken ≡ Some root_missing
Shows at broken (AfterRoot place) = (broken ≡ Some after_root) × (place ≡ at)
Shows at broken NoMemory = Unit {0}
Shows at broken (NotText place) = ⊥
Shows at broken (BadToken place) = ⊥
Shows at broken (Doctype place) = ⊥
Shows at broken TooManyTokens = ⊥
