-- Sets, bits and numbers, one more at a time.
use Rattle.std.proofs.Common.{◌≡◌, ℕ, ◌+◌, ◌<◌, suc, Bool, true, false, List, [], ◌∷◌, ◌++◌, length, take, drop, get_or, refl, sym, ◌∙◌, ap, subst, append_assoc, add-one, drop-cons}
use Rattle.std.specs.Prelude.{cond, IsTrue, ◌↔◌}
use Rattle.std.proofs.lemmas.List.{take_more}
use Rattle.voe_tree.specs.declared.element.Element.{Element}
use Rattle.node_notes.specs.declared.config.LinkConfig.{LinkConfig}
use Rattle.path_filter.specs.Sets.{AreRead, Filters, SetPasses}
use Rattle.path_filter.specs.Links.{AreDecided, AreOf, numbers_of}

push_bit : (bits : List Bool) (sets : List Filters) (bit : Bool) (set : Filters) (root : Element) → AreDecided bits sets root → IsTrue bit ↔ SetPasses set root
    → AreDecided (bits ++ bit ∷ []) (sets ++ set ∷ []) root
push_bit [] [] bit set root are is = (is, tt)
push_bit [] (other ∷ sets) bit set root are is = absurd are
push_bit (first ∷ bits) [] bit set root are is = absurd are
push_bit (first ∷ bits) (other ∷ sets) bit set root are is = (are.0, push_bit bits sets bit set root are.1 is)

-- one set more was decided
pub decided_more : (bits : List Bool) (sets : List Filters) (i : ℕ) (bit : Bool) (set : Filters) (root : Element) → i < length sets → set ≡ get_or sets i set
    → AreDecided bits (take i sets) root → IsTrue bit ↔ SetPasses set root → AreDecided (bits ++ bit ∷ []) (take (i + 1) sets) root
decided_more bits sets i bit set root low at are is =
    let more : take (i + 1) sets ≡ take i sets ++ set ∷ [] = take_more sets i set low ∙ ap (λ (s : Filters). take i sets ++ s ∷ []) (sym at) in
    subst (λ (l : List Filters). AreDecided (bits ++ bit ∷ []) l root) (sym more) (push_bit bits (take i sets) bit set root are is)

push_set : (sets : List Filters) (links : List LinkConfig) (set : Filters) (link : LinkConfig) → AreOf sets links → AreRead set link.filters
    → AreOf (sets ++ set ∷ []) (links ++ link ∷ [])
push_set [] [] set link are is = (is, tt)
push_set [] (other ∷ links) set link are is = absurd are
push_set (first ∷ sets) [] set link are is = absurd are
push_set (first ∷ sets) (other ∷ links) set link are is = (are.0, push_set sets links set link are.1 is)

-- the filters of one link more were read
pub read_more : (sets : List Filters) (links : List LinkConfig) (i : ℕ) (set : Filters) (link : LinkConfig) → i < length links → link ≡ get_or links i link
    → AreOf sets (take i links) → AreRead set link.filters → AreOf (sets ++ set ∷ []) (take (i + 1) links)
read_more sets links i set link low at are is =
    let more : take (i + 1) links ≡ take i links ++ link ∷ [] = take_more links i link low ∙ ap (λ (k : LinkConfig). take i links ++ k ∷ []) (sym at) in
    subst (λ (l : List LinkConfig). AreOf (sets ++ set ∷ []) l) (sym more) (push_set sets (take i links) set link are is)

-- one bit more: its number is added where it is set
pub numbers_more : (numbers : List ℕ) (bits : List Bool) (i : ℕ) (bit : Bool) → i < length bits → get_or bits i bit ≡ bit
    → numbers ++ numbers_of i (drop i bits) ≡ numbers_of 0 bits → cond bit (numbers ++ i ∷ []) numbers ++ numbers_of (i + 1) (drop (i + 1) bits) ≡ numbers_of 0 bits
numbers_more numbers bits i bit low at so_far =
    let next : drop i bits ≡ bit ∷ drop (i + 1) bits = drop-cons bits i bit low ∙ ap (λ (b : Bool). b ∷ drop (suc i) bits) at ∙ ap (λ (n : ℕ). bit ∷ drop n bits) (sym (add-one i)) in
    step bit (drop (i + 1) bits) (sym (ap (λ (l : List Bool). numbers ++ numbers_of i l) next) ∙ so_far)
  where
    step : (b : Bool) (rest : List Bool) → numbers ++ numbers_of i (b ∷ rest) ≡ numbers_of 0 bits → cond b (numbers ++ i ∷ []) numbers ++ numbers_of (i + 1) rest ≡ numbers_of 0 bits
    step true rest e = append_assoc numbers (i ∷ []) (numbers_of (i + 1) rest) ∙ e
    step false rest e = e

pub decided_len : (bits : List Bool) (sets : List Filters) (root : Element) → AreDecided bits sets root → length bits ≡ length sets
decided_len [] [] root are = refl
decided_len [] (set ∷ sets) root are = absurd are
decided_len (bit ∷ bits) [] root are = absurd are
decided_len (bit ∷ bits) (set ∷ sets) root are = ap suc (decided_len bits sets root are.1)
