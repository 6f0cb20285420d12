use Rattle.std.proofs.Common.{◌≡◌, ℕ, List, Some, None, true, false, refl, sym, ◌∙◌, ap}
use Rattle.xml_lexer.specs.Characters.{Text}
use Rattle.xml_lexer.specs.Token.{Token}
use Rattle.xml_lexer.specs.Phases.{without_mark, IsTokensOf}
use Rattle.xml_lexer.proofs.Cuts.{same_tokens}
use Rattle.xml_lexer.proofs.Exclusion.{text_first, token_first, many_first}
use Rattle.voe_tree.specs.Rules.{Rule, unbalanced, too_deep, repeated_attribute, unbound_prefix, root_missing, after_root, refusal_of}
use Rattle.voe_tree.specs.Document.{IsRootOf, Spells}
use Rattle.voe_tree.specs.Fault.{BreaksAt, RefusesTree}
use Rattle.voe_tree.specs.declared.element.Element.{Element}
use Rattle.voe_tree.specs.declared.fault.TreeFault.{TreeFault}
use Rattle.voe_tree.specs.declared.fault.TreeFault.TheVariants.{NotText, BadToken, Doctype, TooManyTokens, Unbalanced, TooDeep, RepeatedAttribute, UnboundPrefix, RootMissing, AfterRoot, NoMemory}
use Rattle.voe_tree.proofs.laws.spelled_is_not_refused.Goals as goal

unbroken_not_broken : (bytes : Text) (ks : List Token) (root : Element) (rule : Rule) (place : ℕ) → IsTokensOf ks bytes → IsRootOf root ks → BreaksAt bytes rule place → ⊥
unbroken_not_broken bytes ks root rule place t r (others, k, e) =
    let same_list : ks ≡ others = same_tokens (without_mark bytes) ks others t.1.1 k.1.1 in
    let bad : None ≡ Some (rule, place) = sym r.unbroken ∙ ap refusal_of same_list ∙ e in
    cc

not_refused : (bytes : Text) (root : Element) (fault : TreeFault) → Spells root bytes → RefusesTree bytes fault → fault ≡ NoMemory
not_refused bytes root (NotText place) (ks, t, r) f = absurd (text_first bytes place f t.0)
not_refused bytes root (BadToken place) (ks, t, r) f = absurd (token_first bytes false place ks f t.1)
not_refused bytes root (Doctype place) (ks, t, r) f = absurd (token_first bytes true place ks f t.1)
not_refused bytes root TooManyTokens (ks, t, r) f = absurd (many_first bytes ks f t)
not_refused bytes root (Unbalanced place) (ks, t, r) f = absurd (unbroken_not_broken bytes ks root unbalanced place t r f)
not_refused bytes root (TooDeep place) (ks, t, r) f = absurd (unbroken_not_broken bytes ks root too_deep place t r f)
not_refused bytes root (RepeatedAttribute place) (ks, t, r) f = absurd (unbroken_not_broken bytes ks root repeated_attribute place t r f)
not_refused bytes root (UnboundPrefix place) (ks, t, r) f = absurd (unbroken_not_broken bytes ks root unbound_prefix place t r f)
not_refused bytes root RootMissing (ks, t, r) f = absurd (unbroken_not_broken bytes ks root root_missing f.0 t r f.1)
not_refused bytes root (AfterRoot place) (ks, t, r) f = absurd (unbroken_not_broken bytes ks root after_root place t r f)
not_refused bytes root NoMemory s f = refl

pub returns : goal.returns
returns c = not_refused
