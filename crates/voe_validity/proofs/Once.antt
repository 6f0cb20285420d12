-- Bytes are judged to be one thing.
use Rattle.std.proofs.Common.{◌≡◌, ◌⊎◌, inl, inr, ℕ, Bool, true, false, List, Some, None, refl, sym, ◌∙◌, ap, subst}
use Rattle.std.specs.Prelude.{Option, cond, is_none}
use Rattle.xml_lexer.specs.Characters.{Text}
use Rattle.xml_lexer.specs.Token.{Token}
use Rattle.xml_lexer.specs.Phases.{without_mark, IsTokensOf, RefusesText, RefusesToken, RefusesMany}
use Rattle.xml_lexer.proofs.Cuts.{same_tokens}
use Rattle.xml_lexer.proofs.Exclusion.{text_first, token_first, token_place, many_first}
use Rattle.voe_values.specs.Identifier.{IsIdentifier, first_fault}
use Rattle.voe_tree.specs.Identifier.{if_identifier}
use Rattle.voe_tree.specs.Rules.{Rule, unbalanced, too_deep, repeated_attribute, unbound_prefix, root_missing, after_root, refusal_of}
use Rattle.voe_tree.specs.Document.{Spells}
use Rattle.voe_tree.specs.Fault.{BreaksAt, RefusesTree}
use Rattle.voe_tree.specs.declared.element.Element.{Element}
use Rattle.voe_tree.specs.declared.fault.TreeFault.{TreeFault}
use Rattle.voe_tree.specs.declared.fault.TreeFault.TheVariants.{NotText, BadToken, Doctype, TooManyTokens, Unbalanced, TooDeep, RepeatedAttribute, UnboundPrefix, RootMissing, AfterRoot, NoMemory}
use Rattle.voe_tree.specs.Document.{IsRootOf}
use Rattle.voe_tree.proofs.RootLaws.{same_root as same_built}
use Rattle.net_model.specs.declared.step.Judged.{Judged}
use Rattle.net_model.specs.declared.step.Judged.TheVariants.{BadTree, BadPacket, Good}
use Rattle.voe_validity.specs.Judging.{number_of_fault, IsJudgedRoot, IsJudged, SpellsOne}

abbrev rule_number : Rule → ℕ
rule_number unbalanced = 5
rule_number too_deep = 6
rule_number repeated_attribute = 7
rule_number unbound_prefix = 8
rule_number root_missing = 9
rule_number after_root = 10

-- in which turn bytes are refused, and under which number
abbrev Told : Text → ℕ → Type 0
Told bytes n =
    ((place : ℕ) × RefusesText bytes place × (Some 1 ≡ Some n))
    ⊎ (((doctype : Bool) × (place : ℕ) × RefusesToken bytes doctype place × (Some (cond doctype 4 2) ≡ Some n))
    ⊎ ((RefusesMany bytes × (Some 3 ≡ Some n))
    ⊎ ((rule : Rule) × (place : ℕ) × BreaksAt bytes rule place × (Some (rule_number rule) ≡ Some n))))

told : (bytes : Text) (fault : TreeFault) (n : ℕ) → RefusesTree bytes fault → number_of_fault fault ≡ Some n → Told bytes n
told bytes (NotText place) n r e = inl (place, r, e)
told bytes (BadToken place) n r e = inr (inl (false, place, r, e))
told bytes (Doctype place) n r e = inr (inl (true, place, r, e))
told bytes TooManyTokens n r e = inr (inr (inl (r, e)))
told bytes (Unbalanced place) n r e = inr (inr (inr (unbalanced, place, r, e)))
told bytes (TooDeep place) n r e = inr (inr (inr (too_deep, place, r, e)))
told bytes (RepeatedAttribute place) n r e = inr (inr (inr (repeated_attribute, place, r, e)))
told bytes (UnboundPrefix place) n r e = inr (inr (inr (unbound_prefix, place, r, e)))
told bytes RootMissing n r e = inr (inr (inr (root_missing, r.0, r.1, e)))
told bytes (AfterRoot place) n r e = inr (inr (inr (after_root, place, r, e)))
told bytes NoMemory n r e = absurd (cc)

same_numbers : {one other n m : ℕ} → one ≡ other → Some one ≡ Some n → Some other ≡ Some m → n ≡ m
same_numbers e p q = cc

text_not_token : (bytes : Text) (d : Bool) (p q : ℕ) → RefusesText bytes p → RefusesToken bytes d q → ⊥
text_not_token bytes d p q one other = text_first bytes p one other.0

text_not_many : (bytes : Text) (p : ℕ) → RefusesText bytes p → RefusesMany bytes → ⊥
text_not_many bytes p one other = text_first bytes p one other.0

text_not_broken : (bytes : Text) (rule : Rule) (p q : ℕ) → RefusesText bytes p → BreaksAt bytes rule q → ⊥
text_not_broken bytes rule p q one other = text_first bytes p one other.1.0

token_not_many : (bytes : Text) (d : Bool) (p : ℕ) → RefusesToken bytes d p → RefusesMany bytes → ⊥
token_not_many bytes d p one other = token_first bytes d p other.1 one other.2

token_not_broken : (bytes : Text) (d : Bool) (rule : Rule) (p q : ℕ) → RefusesToken bytes d p → BreaksAt bytes rule q → ⊥
token_not_broken bytes d rule p q one other = token_first bytes d p other.0 one other.1.1

many_not_broken : (bytes : Text) (rule : Rule) (q : ℕ) → RefusesMany bytes → BreaksAt bytes rule q → ⊥
many_not_broken bytes rule q one other = many_first bytes other.0 one other.1

abbrev number_in : Option (Rule × ℕ) → ℕ
number_in None = 0
number_in (Some broken) = rule_number broken.0

broken_once : (bytes : Text) (rule other : Rule) (p q : ℕ) → BreaksAt bytes rule p → BreaksAt bytes other q → rule_number rule ≡ rule_number other
broken_once bytes rule other p q (ks, t, e) (ls, u, f) =
    let same_list : ks ≡ ls = same_tokens (without_mark bytes) ks ls t.1.1 u.1.1 in
    ap number_in (sym e ∙ ap refusal_of same_list ∙ f)

same_told : (bytes : Text) (n m : ℕ) → Told bytes n → Told bytes m → n ≡ m
same_told bytes n m (inl (p, r, e)) (inl (q, s, f)) = same_numbers refl e f
same_told bytes n m (inl (p, r, e)) (inr (inl (d, q, s, f))) = absurd (text_not_token bytes d p q r s)
same_told bytes n m (inl (p, r, e)) (inr (inr (inl (s, f)))) = absurd (text_not_many bytes p r s)
same_told bytes n m (inl (p, r, e)) (inr (inr (inr (rule, q, s, f)))) = absurd (text_not_broken bytes rule p q r s)
same_told bytes n m (inr (inl (d, q, s, f))) (inl (p, r, e)) = absurd (text_not_token bytes d p q r s)
same_told bytes n m (inr (inl (d, q, s, f))) (inr (inl (k, p, r, e))) =
    same_numbers (ap (λ b. cond b 4 2) ((token_place bytes d k q p s r).0)) f e
same_told bytes n m (inr (inl (d, q, s, f))) (inr (inr (inl (r, e)))) = absurd (token_not_many bytes d q s r)
same_told bytes n m (inr (inl (d, q, s, f))) (inr (inr (inr (rule, p, r, e)))) = absurd (token_not_broken bytes d rule q p s r)
same_told bytes n m (inr (inr (inl (s, f)))) (inl (p, r, e)) = absurd (text_not_many bytes p r s)
same_told bytes n m (inr (inr (inl (s, f)))) (inr (inl (d, q, r, e))) = absurd (token_not_many bytes d q r s)
same_told bytes n m (inr (inr (inl (s, f)))) (inr (inr (inl (r, e)))) = same_numbers refl f e
same_told bytes n m (inr (inr (inl (s, f)))) (inr (inr (inr (rule, p, r, e)))) = absurd (many_not_broken bytes rule p s r)
same_told bytes n m (inr (inr (inr (rule, p, s, f)))) (inl (q, r, e)) = absurd (text_not_broken bytes rule q p r s)
same_told bytes n m (inr (inr (inr (rule, p, s, f)))) (inr (inl (d, q, r, e))) = absurd (token_not_broken bytes d rule q p r s)
same_told bytes n m (inr (inr (inr (rule, p, s, f)))) (inr (inr (inl (r, e)))) = absurd (many_not_broken bytes rule p r s)
same_told bytes n m (inr (inr (inr (rule, p, s, f)))) (inr (inr (inr (other, q, r, e)))) =
    same_numbers (broken_once bytes rule other p q s r) f e

same_root : (root : Element) (one other : Judged) → IsJudgedRoot root one → IsJudgedRoot root other → one ≡ other
same_root root (BadTree n) other j k = absurd j
same_root root (BadPacket n i) (BadTree m) j k = absurd k
same_root root (Good i) (BadTree m) j k = absurd k
same_root root (BadPacket n i) (BadPacket m k) j h = cc
same_root root (BadPacket n i) (Good k) j h = cc
same_root root (Good i) (BadPacket m k) j h = cc
same_root root (Good i) (Good k) j h = cc

one_tree : (bytes : Text) (a b : Element) → Spells a bytes → Spells b bytes → a ≡ b
one_tree bytes a b (ks, h, r) (others, k, s) =
    let same_list : ks ≡ others = same_tokens (without_mark bytes) ks others h.1.1 k.1.1 in
    same_built others a b (subst (λ (l : List Token). IsRootOf a l) same_list r) s

-- where there is a tree, the bytes are what it is
both_spelled : (packet : Text) (one other : Judged) → SpellsOne (λ root. IsJudgedRoot root one) packet → SpellsOne (λ root. IsJudgedRoot root other) packet → one ≡ other
both_spelled packet one other (a, s, j) (b, t, k) =
    same_root b one other (subst (λ (root : Element). IsJudgedRoot root one) (one_tree packet a b s t) j) k

none_is_not_some : {X : Type 0} {x : X} → None ≡ Some x → ⊥
none_is_not_some e = cc

unbroken_not_broken : (bytes : Text) (ks : List Token) (root : Element) (rule : Rule) (place : ℕ) → IsTokensOf ks bytes → IsRootOf root ks → BreaksAt bytes rule place → ⊥
unbroken_not_broken bytes ks root rule place t r (others, k, e) =
    let same_list : ks ≡ others = same_tokens (without_mark bytes) ks others t.1.1 k.1.1 in
    none_is_not_some (sym r.unbroken ∙ ap refusal_of same_list ∙ e)

spelled_not_told : (bytes : Text) (root : Element) (n : ℕ) → Spells root bytes → Told bytes n → ⊥
spelled_not_told bytes root n (ks, t, r) (inl (p, f, e)) = text_first bytes p f t.0
spelled_not_told bytes root n (ks, t, r) (inr (inl (d, p, f, e))) = token_first bytes d p ks f t.1
spelled_not_told bytes root n (ks, t, r) (inr (inr (inl (f, e)))) = many_first bytes ks f t
spelled_not_told bytes root n (ks, t, r) (inr (inr (inr (rule, p, f, e)))) = unbroken_not_broken bytes ks root rule p t r f

not_both : (packet : Text) (fault : TreeFault) (n : ℕ) (P : Element → Type 0) → RefusesTree packet fault → number_of_fault fault ≡ Some n → SpellsOne P packet → ⊥
not_both packet fault n P r e (root, s, j) = spelled_not_told packet root n s (told packet fault n r e)

pub judged_once : (packet : Text) (one other : Judged) → IsJudged packet one → IsJudged packet other → one ≡ other
judged_once packet (BadTree n) (BadTree m) (f, r, e) (g, s, h) = ap BadTree (same_told packet n m (told packet f n r e) (told packet g m s h))
judged_once packet (BadTree n) (BadPacket m i) (f, r, e) k = absurd (not_both packet f n (λ root. IsJudgedRoot root (BadPacket m i)) r e k)
judged_once packet (BadTree n) (Good i) (f, r, e) k = absurd (not_both packet f n (λ root. IsJudgedRoot root (Good i)) r e k)
judged_once packet (BadPacket m i) (BadTree n) k (f, r, e) = absurd (not_both packet f n (λ root. IsJudgedRoot root (BadPacket m i)) r e k)
judged_once packet (Good i) (BadTree n) k (f, r, e) = absurd (not_both packet f n (λ root. IsJudgedRoot root (Good i)) r e k)
judged_once packet (BadPacket m i) (BadPacket n k) one other = both_spelled packet (BadPacket m i) (BadPacket n k) one other
judged_once packet (BadPacket m i) (Good k) one other = both_spelled packet (BadPacket m i) (Good k) one other
judged_once packet (Good i) (BadPacket n k) one other = both_spelled packet (Good i) (BadPacket n k) one other
judged_once packet (Good i) (Good k) one other = both_spelled packet (Good i) (Good k) one other

-- what is taken for an identifier is one
named_by : (value identifier : Text) (found : Option (ℕ × ℕ)) → first_fault value ≡ found → Some identifier ≡ cond (is_none found) (Some value) None → IsIdentifier identifier
named_by value identifier None f e = subst (λ (s : Text). first_fault s ≡ None) (cc) f
named_by value identifier (Some fault) f e = absurd (cc)

named_text : (found : Option Text) (identifier : Text) → Some identifier ≡ if_identifier found → IsIdentifier identifier
named_text None identifier e = absurd (cc)
named_text (Some value) identifier e = named_by value identifier (first_fault value) refl e

pub good_is_named : (packet identifier : Text) → IsJudged packet (Good identifier) → IsIdentifier identifier
good_is_named packet identifier (root, s, j) = named_text _ identifier j.1
