-- The links that pass a packet are those that right rules pass it over.
use Rattle.std.proofs.Common.{◌≡◌, inl, inr, ℕ, ◌+◌, ◌<◌, ◌≤◌, zero, suc, Bool, true, false, List, [], ◌∷◌, length, Some, None, refl, sym, ◌∙◌, ap, subst, arith}
use Rattle.std.specs.Prelude.{cond, IsTrue, ◌↔◌, nat_le, nat_lt, ◌&&◌}
use Rattle.std.proofs.lemmas.Bool.{le-leb, lt-ltb}
use Rattle.xml_lexer.specs.Characters.{Text}
use Rattle.voe_tree.specs.Document.{Spells}
use Rattle.voe_tree.specs.declared.element.Element.{Element}
use Rattle.net_model.specs.Notes.{passing}
use Rattle.net_model.specs.Rules.{NodeRules}
use Rattle.node_notes.specs.Forms.{are_rising}
use Rattle.node_notes.specs.declared.config.LinkConfig.{LinkConfig}
use Rattle.filter_text.specs.View.{path_of}
use Rattle.filter_text.specs.Reading.{Reads}
use Rattle.filter_text.specs.declared.filter.Path.{Path}
use Rattle.path_filter.specs.Meaning.{Passes}
use Rattle.path_filter.specs.Sets.{AreRead, Filters, OnePasses, SetPasses}
use Rattle.path_filter.specs.Links.{AreDecided, AreOf, LinkPasses, PassesLinks, numbers_of}
use Rattle.path_filter.proofs.LinkBits.{decided_len}
use Rattle.path_filter.proofs.LinkUnique.{one_path, one_tree}

-- ---- texts spell one set

passes_same : (s : Text) (f g : Path) (root : Element) → Reads (path_of f) s → Reads (path_of g) s → Passes (path_of f) root → Passes (path_of g) root
passes_same s f g root a b passes = subst (λ p. Passes p root) (one_path s (path_of f) (path_of g) a b) passes

one_of : (a b : Filters) (texts : List Text) (root : Element) → AreRead a texts → AreRead b texts → OnePasses a root → OnePasses b root
one_of [] b texts root x y passes = absurd passes
one_of (None ∷ a) b texts root x y passes = absurd x
one_of (Some f ∷ a) b [] root x y passes = absurd x
one_of (Some f ∷ a) [] (s ∷ texts) root x y passes = absurd y
one_of (Some f ∷ a) (None ∷ b) (s ∷ texts) root x y passes = absurd y
one_of (Some f ∷ a) (Some g ∷ b) (s ∷ texts) root x y (inl passes) = inl (passes_same s f g root x.0 y.0 passes)
one_of (Some f ∷ a) (Some g ∷ b) (s ∷ texts) root x y (inr passes) = inr (one_of a b texts root x.1 y.1 passes)

pub one_set : (a b : Filters) (texts : List Text) (root : Element) → AreRead a texts → AreRead b texts → SetPasses a root → SetPasses b root
one_set [] [] texts root x y passes = tt
one_set [] (None ∷ b) [] root x y passes = absurd y
one_set [] (Some g ∷ b) [] root x y passes = absurd y
one_set [] (g ∷ b) (s ∷ texts) root x y passes = absurd x
one_set (f ∷ a) [] [] root x y passes = tt
one_set (f ∷ a) [] (s ∷ texts) root x y passes = absurd y
one_set (f ∷ a) (g ∷ b) texts root x y passes = one_of (f ∷ a) (g ∷ b) texts root x y passes

-- ---- bits and rules

-- the bit of a number
abbrev pub bit_at : List Bool → ℕ → Bool
bit_at [] number = false
bit_at (bit ∷ bits) zero = bit
bit_at (bit ∷ bits) (suc number) = bit_at bits number

-- the rules agree with these bits, from a number on
abbrev pub Agree : NodeRules → Text → ℕ → List Bool → Type 0
Agree rules packet number [] = Unit {0}
Agree rules packet number (bit ∷ bits) = (rules.passes number packet ≡ bit) × Agree rules packet (number + 1) bits

one_more : (number : ℕ) (b : Bool) (passed numbers : List ℕ) → passed ≡ numbers → cond b (number ∷ passed) passed ≡ cond b (number ∷ numbers) numbers
one_more number b passed numbers e = ap (λ (l : List ℕ). cond b (number ∷ l) l) e

pub passing_agrees : (rules : NodeRules) (packet : Text) (number : ℕ) (bits : List Bool) → Agree rules packet number bits
    → passing rules number (length bits) packet ≡ numbers_of number bits
passing_agrees rules packet number [] agree = refl
passing_agrees rules packet number (bit ∷ bits) (is, agree) =
    ap (λ (b : Bool). cond b (number ∷ passing rules (number + 1) (length bits) packet) (passing rules (number + 1) (length bits) packet)) is
    ∙ one_more number bit (passing rules (number + 1) (length bits) packet) (numbers_of (number + 1) bits) (passing_agrees rules packet (number + 1) bits agree)

pub bool_is : (a b : Bool) → IsTrue a ↔ IsTrue b → a ≡ b
bool_is true true is = refl
bool_is true false is = absurd (let bad : false ≡ true = is.0 refl in cc)
bool_is false true is = absurd (let bad : false ≡ true = is.1 refl in cc)
bool_is false false is = refl

some_same : (a b : LinkConfig) → Some a ≡ Some b → a ≡ b
some_same a b e = cc

-- whether a link passes a packet is whether its set passes the packet's tree
head_bit : (link : LinkConfig) (links : List LinkConfig) (set : Filters) (bit : Bool) (root : Element) (packet : Text) → AreRead set link.filters
    → IsTrue bit ↔ SetPasses set root → Spells root packet → IsTrue bit ↔ LinkPasses (link ∷ links) 0 packet
head_bit link links set bit root packet read is spells = (
  λ b. (link, refl, set, read, (root, spells, is.0 b)),
  λ (other, at, found, found_read, (tree, found_spells, passes)).
      let same : link ≡ other = some_same link other at in
      let its : AreRead found link.filters = subst (λ (l : LinkConfig). AreRead found l.filters) (sym same) found_read in
      let here : SetPasses found root = subst (λ (t : Element). SetPasses found t) (one_tree packet tree root found_spells spells) passes in
      is.1 (one_set found set link.filters root its read here),
)

pub passes_bits : (links : List LinkConfig) (sets : List Filters) (bits : List Bool) (root : Element) (packet : Text) → AreOf sets links → AreDecided bits sets root
    → Spells root packet → (number : ℕ) → number < length links → IsTrue (bit_at bits number) ↔ LinkPasses links number packet
passes_bits [] sets bits root packet are decided spells number low = absurd (omega (arith, low))
passes_bits (link ∷ links) [] bits root packet are decided spells number low = absurd are
passes_bits (link ∷ links) (set ∷ sets) [] root packet are decided spells number low = absurd decided
passes_bits (link ∷ links) (set ∷ sets) (bit ∷ bits) root packet are decided spells zero low = head_bit link links set bit root packet are.0 decided.0 spells
passes_bits (link ∷ links) (set ∷ sets) (bit ∷ bits) root packet are decided spells (suc number) low =
    passes_bits links sets bits root packet are.1 decided.1 spells number (omega (arith, low))

agree_from : (rules : NodeRules) (packet : Text) (bits : List Bool) (number : ℕ) → ((k : ℕ) → k < length bits → rules.passes (number + k) packet ≡ bit_at bits k)
    → Agree rules packet number bits
agree_from rules packet [] number is = tt
agree_from rules packet (bit ∷ bits) number is =
    let first : number + 0 ≡ number = omega arith in (
      subst (λ (n : ℕ). rules.passes n packet ≡ bit) first (is 0 (omega arith)),
      agree_from rules packet bits (number + 1) (λ k low.
          let next : number + suc k ≡ number + 1 + k = omega arith in
          subst (λ (n : ℕ). rules.passes n packet ≡ bit_at bits k) next (is (suc k) (omega (arith, low)))),
    )

links_len : (sets : List Filters) (links : List LinkConfig) → AreOf sets links → length sets ≡ length links
links_len [] [] are = refl
links_len [] (link ∷ links) are = absurd are
links_len (set ∷ sets) [] are = absurd are
links_len (set ∷ sets) (link ∷ links) are = ap suc (links_len sets links are.1)

pub sets_len : (sets : List Filters) (links : List LinkConfig) → AreOf sets links → length sets ≡ length links
sets_len sets links are = links_len sets links are

-- the numbers of the links that pass a packet are those that right rules give
pub passing_is : (rules : NodeRules) (links : List LinkConfig) (sets : List Filters) (bits : List Bool) (root : Element) (packet : Text) → AreOf sets links
    → AreDecided bits sets root → Spells root packet → PassesLinks links packet rules → passing rules 0 (length links) packet ≡ numbers_of 0 bits
passing_is rules links sets bits root packet are decided spells right =
    let len : length bits ≡ length links = decided_len bits sets root decided ∙ links_len sets links are in
    let agree : Agree rules packet 0 bits = agree_from rules packet bits 0 (λ k low.
    let first : 0 + k ≡ k = omega arith in
    let fits : k < length links = omega (arith, low, len) in
    let both = right k fits in
    let own = passes_bits links sets bits root packet are decided spells k fits in
    ap (λ (n : ℕ). rules.passes n packet) first ∙ bool_is (rules.passes k packet) (bit_at bits k) (λ t. own.1 (both.0 t), λ t. both.1 (own.0 t))) in
    ap (λ (n : ℕ). passing rules 0 n packet) (sym len) ∙ passing_agrees rules packet 0 bits agree

both_true : (a b : Bool) → a ≡ true → b ≡ true → (a && b) ≡ true
both_true a b e f = rw (e, f) refl

-- they rise, and are numbers of links
pub numbers_rise : (bits : List Bool) (number from below : ℕ) → from ≤ number → number + length bits ≤ below → are_rising from below (numbers_of number bits) ≡ true
unfolding are_rising
numbers_rise [] number from below low high = refl
numbers_rise (true ∷ bits) number from below low high =
    both_true (nat_le from number && nat_lt number below) _
    (both_true (nat_le from number) (nat_lt number below) (le-leb from number low) (lt-ltb number below (omega (arith, high))))
    (numbers_rise bits (number + 1) (number + 1) below (omega arith) (omega (arith, high)))
numbers_rise (false ∷ bits) number from below low high = numbers_rise bits (number + 1) from below (omega (arith, low)) (omega (arith, high))
