-- What the reading of tokens one by one gives.
use Rattle.std.proofs.Common.{◌≡◌, ◌+◌, ◌<◌, ℕ, suc, List, [], ◌∷◌, Some, None, length, drop, get_or, refl, sym, ◌∙◌, ap, subst, add-one}
use Rattle.std.specs.Prelude.{Result, Ok, Err, IfOk, IfErr, OnOk, option_map}
use Rattle.std.proofs.Math.Seq.{drop-cons}
use Rattle.xml_lexer.specs.Characters.{Text}
use Rattle.xml_lexer.specs.Token.{Token}
use Rattle.xml_lexer.specs.Phases.{IsTokensOf}
use Rattle.xml_lexer.specs.declared.token.Token.{Token as CodeToken}
use Rattle.voe_tree.specs.Rules.{Rule, unbalanced, too_deep, repeated_attribute, unbound_prefix, root_missing, after_root, end_rule, refusal_of}
use Rattle.voe_tree.specs.Reader.{State, IsTidy, outside, initial, after, breaks, opened_in, is_rooted, result_of}
use Rattle.voe_tree.specs.Document.{IsRootOf}
use Rattle.voe_tree.specs.Fault.{RefusesTokens, RefusesTree, Shows}
use Rattle.voe_tree.specs.declared.element.Element.{Element}
use Rattle.voe_tree.specs.declared.element.Node.TheVariants as tree
use Rattle.voe_tree.specs.declared.fault.TreeFault.{TreeFault}
use Rattle.voe_tree.specs.declared.fault.TreeFault.TheVariants.{NotText, BadToken, Doctype, TooManyTokens, Unbalanced, TooDeep, RepeatedAttribute, UnboundPrefix, RootMissing, AfterRoot, NoMemory}
use Rattle.voe_tree.proofs.ReaderSteps.{tidy-after, refusal_at, refusal_at-after, refusal_at-broken, result_of-after}
use Rattle.voe_tree.proofs.RootLaws.{root_of-result}

-- the tokens from one on
pub tokens_from : (tokens : List CodeToken) (i : ℕ) (token : CodeToken) → i < length tokens → token ≡ get_or tokens i token → drop i tokens ≡ token ∷ drop (i + 1) tokens
tokens_from tokens i token lt is = rw add-one (drop-cons tokens i token lt ∙ ap (λ t. t ∷ drop (suc i) tokens) (sym is))

-- what has been read, up to the token of this number
pub record HasRead (ks rest : List Token) (at : ℕ) (s : State) : Type 0 where
  pub tidy : IsTidy s.pending s.stack
  pub refusal : refusal_at s at rest ≡ refusal_of ks
  pub result : result_of s rest ≡ result_of initial ks

pub has_read-nothing : (ks : List Token) (s : State) → s ≡ initial → HasRead ks ks 0 s
has_read-nothing ks s e = subst (λ (x : State). HasRead ks ks 0 x) (sym e) (record { tidy = outside; refusal = refl; result = refl })

pub has_read-more : (ks rest : List Token) (k : Token) (at : ℕ) (s t : State) → HasRead ks (k ∷ rest) at s → breaks s k ≡ None → t ≡ after k s → HasRead ks rest (at + 1) t
has_read-more ks rest k at s t h n e =
    subst (λ (x : State). HasRead ks rest (at + 1) x) (sym e) (record {
      tidy = tidy-after k s h.tidy n;
      refusal = sym (refusal_at-after k s at rest h.tidy n) ∙ h.refusal;
      result = sym (result_of-after k s rest h.tidy n) ∙ h.result;
    })

broken_here : (ks rest : List Token) (k : Token) (at : ℕ) (s : State) (rule : Rule) (place : ℕ) → HasRead ks (k ∷ rest) at s → breaks s k ≡ Some rule → place ≡ at → refusal_of ks ≡ Some (rule, place)
broken_here ks rest k at s rule place h b e = sym h.refusal ∙ refusal_at-broken k s at rest rule b ∙ ap (λ n. Some (rule, n)) (sym e)

-- a token that breaks a rule
pub refuses_here : (ks rest : List Token) (k : Token) (at : ℕ) (s : State) (fault : TreeFault) → HasRead ks (k ∷ rest) at s → Shows at (breaks s k) fault → RefusesTokens ks fault
refuses_here ks rest k at s (Unbalanced place) h f = broken_here ks rest k at s unbalanced place h f.0 f.1
refuses_here ks rest k at s (TooDeep place) h f = broken_here ks rest k at s too_deep place h f.0 f.1
refuses_here ks rest k at s (RepeatedAttribute place) h f = broken_here ks rest k at s repeated_attribute place h f.0 f.1
refuses_here ks rest k at s (UnboundPrefix place) h f = broken_here ks rest k at s unbound_prefix place h f.0 f.1
refuses_here ks rest k at s RootMissing h f = (at, broken_here ks rest k at s root_missing at h f refl)
refuses_here ks rest k at s (AfterRoot place) h f = broken_here ks rest k at s after_root place h f.0 f.1
refuses_here ks rest k at s NoMemory h f = tt
refuses_here ks rest k at s (NotText place) h f = f
refuses_here ks rest k at s (BadToken place) h f = f
refuses_here ks rest k at s (Doctype place) h f = f
refuses_here ks rest k at s TooManyTokens h f = f

broken_end : (ks : List Token) (at : ℕ) (s : State) (rule : Rule) (place : ℕ) → HasRead ks [] at s → end_rule (opened_in s.stack) (is_rooted s.stack) ≡ Some rule → place ≡ at →
    refusal_of ks ≡ Some (rule, place)
broken_end ks at s rule place h b e = sym h.refusal ∙ ap (option_map (λ (r : Rule). (r, at))) b ∙ ap (λ n. Some (rule, n)) (sym e)

-- the end breaks a rule
pub refuses_end : (ks : List Token) (at : ℕ) (s : State) (fault : TreeFault) → HasRead ks [] at s → Shows at (end_rule (opened_in s.stack) (is_rooted s.stack)) fault → RefusesTokens ks fault
refuses_end ks at s (Unbalanced place) h f = broken_end ks at s unbalanced place h f.0 f.1
refuses_end ks at s (TooDeep place) h f = broken_end ks at s too_deep place h f.0 f.1
refuses_end ks at s (RepeatedAttribute place) h f = broken_end ks at s repeated_attribute place h f.0 f.1
refuses_end ks at s (UnboundPrefix place) h f = broken_end ks at s unbound_prefix place h f.0 f.1
refuses_end ks at s RootMissing h f = (at, broken_end ks at s root_missing at h f refl)
refuses_end ks at s (AfterRoot place) h f = broken_end ks at s after_root place h f.0 f.1
refuses_end ks at s NoMemory h f = tt
refuses_end ks at s (NotText place) h f = f
refuses_end ks at s (BadToken place) h f = f
refuses_end ks at s (Doctype place) h f = f
refuses_end ks at s TooManyTokens h f = f

-- the end breaks none
pub root_at_end : (ks : List Token) (at : ℕ) (s : State) (root : Element) → HasRead ks [] at s → end_rule (opened_in s.stack) (is_rooted s.stack) ≡ None →
    result_of s [] ≡ Some (tree.Element root ∷ []) → IsRootOf root ks
root_at_end ks at s root h n r = root_of-result ks root (sym h.refusal ∙ ap (option_map (λ (x : Rule). (x, at))) n) (sym h.result ∙ r)

-- what is refused of the tokens is refused of their bytes
pub refuses_bytes : (bytes : Text) (ks : List Token) (fault : TreeFault) → IsTokensOf ks bytes → RefusesTokens ks fault → RefusesTree bytes fault
refuses_bytes bytes ks (Unbalanced place) t f = (ks, t, f)
refuses_bytes bytes ks (TooDeep place) t f = (ks, t, f)
refuses_bytes bytes ks (RepeatedAttribute place) t f = (ks, t, f)
refuses_bytes bytes ks (UnboundPrefix place) t f = (ks, t, f)
refuses_bytes bytes ks RootMissing t f = (f.0, (ks, t, f.1))
refuses_bytes bytes ks (AfterRoot place) t f = (ks, t, f)
refuses_bytes bytes ks NoMemory t f = tt
refuses_bytes bytes ks (NotText place) t f = absurd f
refuses_bytes bytes ks (BadToken place) t f = absurd f
refuses_bytes bytes ks (Doctype place) t f = absurd f
refuses_bytes bytes ks TooManyTokens t f = absurd f

pub root_or : (ks : List Token) (at : ℕ) (s : State) (r : Result Element TreeFault) → HasRead ks [] at s → IfOk r (λ root. result_of s [] ≡ Some (tree.Element root ∷ [])) →
    OnOk r (end_rule (opened_in s.stack) (is_rooted s.stack) ≡ None) → IfOk r (λ root. IsRootOf root ks)
root_or ks at s (Ok root) h f n = root_at_end ks at s root h n f
root_or ks at s (Err fault) h f n = tt

pub fault_or : (ks : List Token) (at : ℕ) (s : State) (r : Result Element TreeFault) → HasRead ks [] at s →
    IfErr r (λ fault. Shows at (end_rule (opened_in s.stack) (is_rooted s.stack)) fault) → IfErr r (λ fault. RefusesTokens ks fault)
fault_or ks at s (Ok root) h f = tt
fault_or ks at s (Err fault) h f = refuses_end ks at s fault h f
