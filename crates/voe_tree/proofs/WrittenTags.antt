-- The start tag of an element as it is written breaks no rule, and reads as its names.
use Rattle.std.proofs.Common.{◌≡◌, ℕ, ◌+◌, ◌<◌, ◌^◌, Bool, true, false, List, [], ◌∷◌, ◌++◌, length, map, refl, sym, ◌∙◌, ap, arith, zero-add}
use Rattle.std.specs.Prelude.{◌||◌, not, if◌then◌else◌, Option, unwrap_or, codes}
use Rattle.std.specs.List.{list_all, list_any, position_or_len}
use Rattle.std.proofs.lemmas.Bool.{and_parts}
use Rattle.std.proofs.lemmas.List.Sums.{prefix_len-le-length}
use Rattle.xml_lexer.specs.Characters.{Text}
use Rattle.xml_lexer.specs.Token.{Spelled}
use Rattle.xml_lexer.specs.Spelling.{same}
use Rattle.voe_tree.specs.Shape.{attribute_keeps}
use Rattle.voe_tree.specs.Names.{Bindings, declare, declared_prefix, is_bound, is_declaration, local_of, lookup, named_attribute, named_attributes, prefix_of, read_value, undeclaring}
use Rattle.voe_tree.specs.Rules.{unbound_in}
use Rattle.voe_tree.specs.declared.element.Attribute.{Attribute}
use Rattle.voe_tree.specs.Canonical.{default_declaration, numbered_declarations, numbered_spaces, written_attribute, written_attributes, written_value}
use Rattle.voe_tree.proofs.WrittenNames.{number_prefix}
use Rattle.voe_tree.proofs.WrittenValues.{read_value-written}
use Rattle.voe_tree.proofs.WrittenBindings.{HasDefault, declare-append, default-declared, lookup-numbered, lookup-unnumbered, numbered_name-declared}
use Rattle.voe_tree.proofs.WrittenAttributes.{BindsNumbers, ReadsAs, reads_as}
use Rattle.voe_tree.proofs.WrittenSpaces.{HasNumbers, numbered_spaces-have}

-- all of the attributes read as they are
abbrev pub AllRead : Bindings → List Text → List Attribute → Type 0
AllRead bindings spaces [] = Unit {0}
AllRead bindings spaces (a ∷ more) = ReadsAs bindings spaces a × AllRead bindings spaces more

pub all_read : (bindings : Bindings) (spaces : List Text) (attributes : List Attribute) → list_all attribute_keeps attributes ≡ true → BindsNumbers spaces bindings →
    HasNumbers spaces attributes → length spaces < 2 ^ 64 → AllRead bindings spaces attributes
all_read bindings spaces [] keeps binds has small = tt
all_read bindings spaces (a ∷ more) keeps binds has small =
    let parts = and_parts (attribute_keeps a) (list_all attribute_keeps more) keeps in (
      reads_as bindings spaces a parts.0 binds has.0 (omega (arith, prefix_len-le-length (λ s. not (same a.space s)) spaces)),
      all_read bindings spaces more parts.1 binds has.1 small,
    )

-- ---- the bindings

-- the bindings with those that the declarations of a written tag make
abbrev pub inside_tag : Text → Text → List Attribute → Bindings → Bindings
inside_tag default space attributes bindings =
    declare (numbered_declarations 0 (numbered_spaces attributes)) (declare (default_declaration default space) bindings)

pub declare-attributes : (bindings other : Bindings) (spaces : List Text) (attributes : List Attribute) → AllRead other spaces attributes →
    declare (map (written_attribute spaces) attributes) bindings ≡ bindings
declare-attributes bindings other spaces [] all = refl
declare-attributes bindings other spaces (a ∷ more) all =
    ap (λ b. declare (map (written_attribute spaces) more) (if b then (declared_prefix (written_attribute spaces a).name, read_value (written_value a.value)) ∷ bindings else bindings)) all.0.undeclared
    ∙ declare-attributes bindings other spaces more all.1

pub inside_tag-is : (default space : Text) (attributes : List Attribute) (bindings : Bindings) →
    AllRead (inside_tag default space attributes bindings) (numbered_spaces attributes) attributes →
    declare (written_attributes default space attributes) bindings ≡ inside_tag default space attributes bindings
inside_tag-is default space attributes bindings all =
    declare-append (default_declaration default space ++ numbered_declarations 0 (numbered_spaces attributes)) (map (written_attribute (numbered_spaces attributes)) attributes) bindings
    ∙ ap (declare (map (written_attribute (numbered_spaces attributes)) attributes))
    (declare-append (default_declaration default space) (numbered_declarations 0 (numbered_spaces attributes)) bindings)
    ∙ declare-attributes (inside_tag default space attributes bindings) (inside_tag default space attributes bindings) (numbered_spaces attributes) attributes all

pub inside_tag-default : (default space : Text) (attributes : List Attribute) (bindings : Bindings) → HasDefault bindings default →
    HasDefault (inside_tag default space attributes bindings) space
inside_tag-default default space attributes bindings has =
    ap (λ (o : Option Text). unwrap_or o [])
    (lookup-unnumbered (numbered_spaces attributes) 0 [] (declare (default_declaration default space) bindings) (λ m low high. refl))
    ∙ default-declared default space bindings has

inside_tag-numbers : (default space : Text) (attributes : List Attribute) (bindings : Bindings) → length (numbered_spaces attributes) < 2 ^ 64 →
    BindsNumbers (numbered_spaces attributes) (inside_tag default space attributes bindings)
inside_tag-numbers default space attributes bindings small x has =
    ap (λ n. lookup (number_prefix n) (inside_tag default space attributes bindings)) (sym (zero-add (position_or_len (same x) (numbered_spaces attributes))))
    ∙ lookup-numbered x (numbered_spaces attributes) 0 (declare (default_declaration default space) bindings) has (omega arith)

pub inside_tag-reads : (default space : Text) (attributes : List Attribute) (bindings : Bindings) → list_all attribute_keeps attributes ≡ true →
    length (numbered_spaces attributes) < 2 ^ 64 →
    AllRead (inside_tag default space attributes bindings) (numbered_spaces attributes) attributes
inside_tag-reads default space attributes bindings keeps small =
    all_read (inside_tag default space attributes bindings) (numbered_spaces attributes) attributes keeps
    (inside_tag-numbers default space attributes bindings small) (numbered_spaces-have attributes) small

-- ---- the attributes

undeclaring-append : (some more : List Spelled) → undeclaring (some ++ more) ≡ undeclaring some ++ undeclaring more
undeclaring-append [] more = refl
undeclaring-append (a ∷ some) more =
    let both : (t : Bool) → is_declaration a ≡ t → undeclaring ((a ∷ some) ++ more) ≡ undeclaring (a ∷ some) ++ undeclaring more =
    λ t. elim t as (λ u. is_declaration a ≡ u → undeclaring ((a ∷ some) ++ more) ≡ undeclaring (a ∷ some) ++ undeclaring more)
    [ true ↦ λ e. rw e (undeclaring-append some more) | false ↦ λ e. rw e (ap (λ l. a ∷ l) (undeclaring-append some more)) ] in
    both (is_declaration a) refl

undeclaring-default : (default space : Text) → undeclaring (default_declaration default space) ≡ []
undeclaring-default default space =
    let both : (t : Bool) → undeclaring (if t then [] else record { name = codes "xmlns"; value = written_value space } ∷ []) ≡ [] =
    λ t. elim t as (λ u. undeclaring (if u then [] else record { name = codes "xmlns"; value = written_value space } ∷ []) ≡ []) [ true ↦ refl | false ↦ refl ] in
    both (same space default)

undeclaring-numbered : (n : ℕ) (spaces : List Text) → undeclaring (numbered_declarations n spaces) ≡ []
undeclaring-numbered n [] = refl
undeclaring-numbered n (space ∷ more) = rw (numbered_name-declared n (written_value space)) (undeclaring-numbered (n + 1) more)

pub undeclaring-attributes : (bindings : Bindings) (spaces : List Text) (attributes : List Attribute) → AllRead bindings spaces attributes →
    undeclaring (map (written_attribute spaces) attributes) ≡ map (written_attribute spaces) attributes
undeclaring-attributes bindings spaces [] all = refl
undeclaring-attributes bindings spaces (a ∷ more) all =
    let not_one : is_declaration (written_attribute spaces a) ≡ false = all.0.undeclared in
    rw not_one (ap (λ l. written_attribute spaces a ∷ l) (undeclaring-attributes bindings spaces more all.1))

pub undeclaring-written : (bindings : Bindings) (default space : Text) (attributes : List Attribute) → AllRead bindings (numbered_spaces attributes) attributes →
    undeclaring (written_attributes default space attributes) ≡ map (written_attribute (numbered_spaces attributes)) attributes
undeclaring-written bindings default space attributes all =
    undeclaring-append (default_declaration default space ++ numbered_declarations 0 (numbered_spaces attributes)) (map (written_attribute (numbered_spaces attributes)) attributes)
    ∙ ap (λ l. l ++ undeclaring (map (written_attribute (numbered_spaces attributes)) attributes))
    (undeclaring-append (default_declaration default space) (numbered_declarations 0 (numbered_spaces attributes))
    ∙ ap (λ l. l ++ undeclaring (numbered_declarations 0 (numbered_spaces attributes))) (undeclaring-default default space)
    ∙ undeclaring-numbered 0 (numbered_spaces attributes))
    ∙ undeclaring-attributes bindings (numbered_spaces attributes) attributes all

named_written : (bindings : Bindings) (spaces : List Text) (a : Attribute) → ReadsAs bindings spaces a → named_attribute bindings (written_attribute spaces a) ≡ a
named_written bindings spaces a reads =
    ap (λ s. record { space = s; local = local_of (written_attribute spaces a).name; value = read_value (written_value a.value) }) reads.space
    ∙ ap (λ l. record { space = a.space; local = l; value = read_value (written_value a.value) }) reads.local
    ∙ ap (λ v. record { space = a.space; local = a.local; value = v }) (read_value-written a.value)

pub map_named : (bindings : Bindings) (spaces : List Text) (attributes : List Attribute) → AllRead bindings spaces attributes →
    map (named_attribute bindings) (map (written_attribute spaces) attributes) ≡ attributes
map_named bindings spaces [] all = refl
map_named bindings spaces (a ∷ more) all =
    ap (λ b. b ∷ map (named_attribute bindings) (map (written_attribute spaces) more)) (named_written bindings spaces a all.0)
    ∙ ap (λ l. a ∷ l) (map_named bindings spaces more all.1)

pub named_attributes-written : (bindings : Bindings) (default space : Text) (attributes : List Attribute) → AllRead bindings (numbered_spaces attributes) attributes →
    named_attributes bindings (written_attributes default space attributes) ≡ attributes
named_attributes-written bindings default space attributes all =
    ap (map (named_attribute bindings)) (undeclaring-written bindings default space attributes all)
    ∙ map_named bindings (numbered_spaces attributes) attributes all

-- ---- no prefix is unbound

pub bound_all : (bindings : Bindings) (spaces : List Text) (attributes : List Attribute) → AllRead bindings spaces attributes →
    list_any (λ (a : Spelled). not (is_bound bindings (prefix_of a.name))) (map (written_attribute spaces) attributes) ≡ false
bound_all bindings spaces [] all = refl
bound_all bindings spaces (a ∷ more) all =
    ap (λ b. not b || list_any (λ (a : Spelled). not (is_bound bindings (prefix_of a.name))) (map (written_attribute spaces) more)) all.0.bound
    ∙ bound_all bindings spaces more all.1

pub unbound_in-written : (bindings : Bindings) (default space : Text) (attributes : List Attribute) → AllRead bindings (numbered_spaces attributes) attributes →
    unbound_in bindings (written_attributes default space attributes) ≡ false
unbound_in-written bindings default space attributes all =
    ap (list_any (λ (a : Spelled). not (is_bound bindings (prefix_of a.name)))) (undeclaring-written bindings default space attributes all)
    ∙ bound_all bindings (numbered_spaces attributes) attributes all
