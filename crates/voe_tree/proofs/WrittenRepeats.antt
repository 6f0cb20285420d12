-- No attribute of a written tag repeats another.
use Rattle.std.proofs.Common.{◌≡◌, ℕ, ◌+◌, ◌<◌, ◌^◌, Bool, true, false, List, [], ◌∷◌, ◌++◌, length, map, refl, sym, ◌∙◌, ap, arith, append_assoc}
use Rattle.std.specs.Prelude.{◌||◌, nat_lt, if◌then◌else◌, decimal, codes}
use Rattle.std.specs.List.{list_any}
use Rattle.std.proofs.lemmas.Bool.{both_ways, and_from, and_parts}
use Rattle.std.proofs.lemmas.Fmt.{decimal_injective}
use Rattle.xml_lexer.specs.Characters.{Text, has_prefix}
use Rattle.xml_lexer.specs.Token.{Spelled}
use Rattle.xml_lexer.specs.Spelling.{same}
use Rattle.voe_tree.specs.Pairs.{has_pair}
use Rattle.voe_tree.specs.Shape.{same_attribute}
use Rattle.voe_tree.specs.Names.{Bindings, is_declaration, is_declared_name, local_of, named_attributes, namespace, prefix_of}
use Rattle.voe_tree.specs.Rules.{repeats, same_named, same_spelled}
use Rattle.voe_tree.specs.declared.element.Attribute.{Attribute}
use Rattle.voe_tree.specs.Canonical.{default_declaration, numbered_declarations, numbered_spaces, written_attribute, written_attributes, written_value}
use Rattle.voe_tree.proofs.WrittenNames.{is-same, same-is}
use Rattle.voe_tree.proofs.WrittenBindings.{numbered_name, numbered_name-declared}
use Rattle.voe_tree.proofs.WrittenAttributes.{ReadsAs}
use Rattle.voe_tree.proofs.WrittenTags.{AllRead, named_attributes-written}

-- a test is false where it contradicts
pub false_since : (b : Bool) → (b ≡ true → ⊥) → b ≡ false
false_since true refuted = absurd (refuted refl)
false_since false refuted = refl

or_parts : (a b : Bool) → (a || b) ≡ false → (a ≡ false) × (b ≡ false)
or_parts true b h = cc
or_parts false b h = (refl, h)

pub or_from : (a b : Bool) → a ≡ false → b ≡ false → (a || b) ≡ false
or_from true b h k = cc
or_from false b h k = k

-- ---- the attributes

-- attributes whose written names are the same are the same
names_apart : (bindings : Bindings) (spaces : List Text) (a b : Attribute) → ReadsAs bindings spaces a → ReadsAs bindings spaces b → same_attribute a b ≡ false →
    same_spelled (written_attribute spaces a) (written_attribute spaces b) ≡ false
names_apart bindings spaces a b one two apart =
    false_since (same_spelled (written_attribute spaces a) (written_attribute spaces b)) (λ e.
    let names : (written_attribute spaces a).name ≡ (written_attribute spaces b).name = same-is (written_attribute spaces a).name (written_attribute spaces b).name e in
    let in_space : a.space ≡ b.space =
    sym one.space ∙ ap (λ (n : Text). if has_prefix n then namespace bindings (prefix_of n) else []) names ∙ two.space in
    let by_name : a.local ≡ b.local = sym one.local ∙ ap local_of names ∙ two.local in
    both_ways (same_attribute a b) apart (and_from (same a.space b.space) (same a.local b.local) (is-same a.space b.space in_space) (is-same a.local b.local by_name)))

apart_from : (bindings : Bindings) (spaces : List Text) (a : Attribute) (more : List Attribute) → ReadsAs bindings spaces a → AllRead bindings spaces more →
    list_any (same_attribute a) more ≡ false → list_any (same_spelled (written_attribute spaces a)) (map (written_attribute spaces) more) ≡ false
apart_from bindings spaces a [] one all h = refl
apart_from bindings spaces a (b ∷ more) one all h =
    let parts = or_parts (same_attribute a b) (list_any (same_attribute a) more) h in
    or_from (same_spelled (written_attribute spaces a) (written_attribute spaces b)) (list_any (same_spelled (written_attribute spaces a)) (map (written_attribute spaces) more))
    (names_apart bindings spaces a b one all.0 parts.0) (apart_from bindings spaces a more one all.1 parts.1)

pub attributes_apart : (bindings : Bindings) (spaces : List Text) (attributes : List Attribute) → AllRead bindings spaces attributes → has_pair same_attribute attributes ≡ false →
    has_pair same_spelled (map (written_attribute spaces) attributes) ≡ false
attributes_apart bindings spaces [] all h = refl
attributes_apart bindings spaces (a ∷ more) all h =
    let parts = or_parts (list_any (same_attribute a) more) (has_pair same_attribute more) h in
    or_from (list_any (same_spelled (written_attribute spaces a)) (map (written_attribute spaces) more)) (has_pair same_spelled (map (written_attribute spaces) more))
    (apart_from bindings spaces a more all.0 all.1 parts.0) (attributes_apart bindings spaces more all.1 parts.1)

-- ---- the declarations

pub declared_apart : (d : Spelled) → is_declaration d ≡ true → (bindings : Bindings) (spaces : List Text) (attributes : List Attribute) → AllRead bindings spaces attributes →
    list_any (same_spelled d) (map (written_attribute spaces) attributes) ≡ false
declared_apart d declared bindings spaces [] all = refl
declared_apart d declared bindings spaces (a ∷ more) all =
    or_from (same_spelled d (written_attribute spaces a)) (list_any (same_spelled d) (map (written_attribute spaces) more))
    (false_since (same_spelled d (written_attribute spaces a)) (λ e.
    both_ways (is_declaration (written_attribute spaces a)) all.0.undeclared
    (ap is_declared_name (sym (same-is d.name (written_attribute spaces a).name e)) ∙ declared)))
    (declared_apart d declared bindings spaces more all.1)

abbrev number_declared : ℕ → Text → Spelled
number_declared n space = record { name = numbered_name n; value = written_value space }

numbered_apart : (m n : ℕ) (one : Text) (spaces : List Text) → m < n → n + length spaces < 2 ^ 64 → (others : List Spelled) →
    list_any (same_spelled (number_declared m one)) others ≡ false → list_any (same_spelled (number_declared m one)) (numbered_declarations n spaces ++ others) ≡ false
numbered_apart m n one [] less small others h = h
numbered_apart m n one (space ∷ more) less small others h =
    or_from (same_spelled (number_declared m one) (number_declared n space)) (list_any (same_spelled (number_declared m one)) (numbered_declarations (n + 1) more ++ others))
    (false_since (same_spelled (number_declared m one) (number_declared n space)) (λ e.
    let equal : m ≡ n = decimal_injective m n (omega arith) (omega arith) (same-is (decimal m) (decimal n) e) in omega arith))
    (numbered_apart m (n + 1) one more (omega arith) (omega arith) others h)

numbered_pairs : (n : ℕ) (spaces : List Text) → n + length spaces < 2 ^ 64 →
    (bindings : Bindings) (all_spaces : List Text) (attributes : List Attribute) → AllRead bindings all_spaces attributes → has_pair same_attribute attributes ≡ false →
    has_pair same_spelled (numbered_declarations n spaces ++ map (written_attribute all_spaces) attributes) ≡ false
numbered_pairs n [] small bindings all_spaces attributes all h = attributes_apart bindings all_spaces attributes all h
numbered_pairs n (space ∷ more) small bindings all_spaces attributes all h =
    or_from (list_any (same_spelled (number_declared n space)) (numbered_declarations (n + 1) more ++ map (written_attribute all_spaces) attributes))
    (has_pair same_spelled (numbered_declarations (n + 1) more ++ map (written_attribute all_spaces) attributes))
    (numbered_apart n (n + 1) space more (omega arith) (omega arith) (map (written_attribute all_spaces) attributes)
    (declared_apart (number_declared n space) (numbered_name-declared n (written_value space)) bindings all_spaces attributes all))
    (numbered_pairs (n + 1) more (omega arith) bindings all_spaces attributes all h)

abbrev default_declared : Text → Spelled
default_declared space = record { name = codes "xmlns"; value = written_value space }

default_apart : (space : Text) (n : ℕ) (spaces : List Text) (others : List Spelled) → list_any (same_spelled (default_declared space)) others ≡ false →
    list_any (same_spelled (default_declared space)) (numbered_declarations n spaces ++ others) ≡ false
default_apart space n [] others h = h
default_apart space n (one ∷ more) others h = default_apart space (n + 1) more others h

spelled_pairs : (bindings : Bindings) (default space : Text) (attributes : List Attribute) → length (numbered_spaces attributes) < 2 ^ 64 →
    AllRead bindings (numbered_spaces attributes) attributes → has_pair same_attribute attributes ≡ false →
    has_pair same_spelled (written_attributes default space attributes) ≡ false
spelled_pairs bindings default space attributes small all h =
    let numbered : has_pair same_spelled (numbered_declarations 0 (numbered_spaces attributes) ++ map (written_attribute (numbered_spaces attributes)) attributes) ≡ false =
    numbered_pairs 0 (numbered_spaces attributes) (omega arith) bindings (numbered_spaces attributes) attributes all h in
    let both : (t : Bool) → has_pair same_spelled ((if t then [] else default_declared space ∷ []) ++ (numbered_declarations 0 (numbered_spaces attributes) ++ map (written_attribute (numbered_spaces attributes)) attributes)) ≡ false =
    λ t. elim t as (λ u. has_pair same_spelled ((if u then [] else default_declared space ∷ []) ++ (numbered_declarations 0 (numbered_spaces attributes) ++ map (written_attribute (numbered_spaces attributes)) attributes)) ≡ false) [
      | true ↦ numbered
      | false ↦ or_from (list_any (same_spelled (default_declared space)) (numbered_declarations 0 (numbered_spaces attributes) ++ map (written_attribute (numbered_spaces attributes)) attributes))
          (has_pair same_spelled (numbered_declarations 0 (numbered_spaces attributes) ++ map (written_attribute (numbered_spaces attributes)) attributes))
          (default_apart space 0 (numbered_spaces attributes) (map (written_attribute (numbered_spaces attributes)) attributes)
          (declared_apart (default_declared space) refl bindings (numbered_spaces attributes) attributes all))
          numbered
    ] in
    ap (has_pair same_spelled) (append_assoc (default_declaration default space) (numbered_declarations 0 (numbered_spaces attributes)) (map (written_attribute (numbered_spaces attributes)) attributes))
    ∙ both (same space default)

-- ---- namespaces

named_any : (a : Attribute) (more : List Attribute) → list_any (same_attribute a) more ≡ false → list_any (same_named a) more ≡ false
named_any a [] h = refl
named_any a (b ∷ more) h =
    let parts = or_parts (same_attribute a b) (list_any (same_attribute a) more) h in
    or_from (same_named a b) (list_any (same_named a) more)
    (false_since (same_named a b) (λ e. both_ways (same_attribute a b) parts.0 (and_parts (nat_lt 0 (length a.space)) (same_attribute a b) e).1))
    (named_any a more parts.1)

pub named_pairs : (attributes : List Attribute) → has_pair same_attribute attributes ≡ false → has_pair same_named attributes ≡ false
named_pairs [] h = refl
named_pairs (a ∷ more) h =
    let parts = or_parts (list_any (same_attribute a) more) (has_pair same_attribute more) h in
    or_from (list_any (same_named a) more) (has_pair same_named more) (named_any a more parts.0) (named_pairs more parts.1)

pub repeats-written : (bindings : Bindings) (default space : Text) (attributes : List Attribute) → length (numbered_spaces attributes) < 2 ^ 64 →
    AllRead bindings (numbered_spaces attributes) attributes → has_pair same_attribute attributes ≡ false →
    repeats bindings (written_attributes default space attributes) ≡ false
repeats-written bindings default space attributes small all h =
    or_from (has_pair same_spelled (written_attributes default space attributes)) (has_pair same_named (named_attributes bindings (written_attributes default space attributes)))
    (spelled_pairs bindings default space attributes small all h)
    (ap (has_pair same_named) (named_attributes-written bindings default space attributes all) ∙ named_pairs attributes h)
