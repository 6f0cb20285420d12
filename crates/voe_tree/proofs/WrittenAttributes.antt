-- An attribute as it is written reads as the attribute.
use Rattle.std.proofs.Common.{◌≡◌, ℕ, ◌<◌, ◌^◌, Bool, true, false, List, [], ◌∷◌, ◌++◌, length, refl, sym, ◌∙◌, ap, subst, arith, append_assoc}
use Rattle.std.specs.Prelude.{◌==◌, ◌||◌, ◌&&◌, not, nat_lt, if◌then◌else◌, Option, Some, unwrap_or, decimal, codes}
use Rattle.std.specs.List.{list_any, position_or_len}
use Rattle.std.proofs.lemmas.Bool.{both_ways, and_parts, eqb-true, not-true, lt-ltb}
use Rattle.xml_lexer.specs.Characters.{Text, has_prefix, is_name, is_spelled_name}
use Rattle.xml_lexer.specs.Spelling.{same}
use Rattle.voe_tree.specs.Texts.{is_xml_text}
use Rattle.voe_tree.specs.Shape.{attribute_keeps, is_local_name, is_xmlns}
use Rattle.voe_tree.specs.Names.{Bindings, is_bound, is_declaration, is_declared_name, local_of, lookup, named_attribute, namespace, prefix_of, xml_namespace}
use Rattle.voe_tree.specs.declared.element.Attribute.{Attribute}
use Rattle.voe_tree.specs.Canonical.{is_numbered, written_attribute, written_prefix}
use Rattle.voe_tree.proofs.WrittenNames.{alone-has, alone-local, alone-prefix, alone-spelled, same-is, number_prefix, number_prefix-name, with-has, with-local, with-prefix, with-spelled}

-- the bindings give each of the namespaces by its number
abbrev pub BindsNumbers : List Text → Bindings → Type 0
BindsNumbers spaces bindings =
    (x : Text) → list_any (same x) spaces ≡ true → lookup (number_prefix (position_or_len (same x) spaces)) bindings ≡ Some x

-- what a written attribute reads as
pub record ReadsAs (bindings : Bindings) (spaces : List Text) (a : Attribute) : Type 0 where
  pub spelled : is_spelled_name (written_attribute spaces a).name ≡ true
  pub undeclared : is_declaration (written_attribute spaces a) ≡ false
  pub space : (named_attribute bindings (written_attribute spaces a)).space ≡ a.space
  pub local : local_of (written_attribute spaces a).name ≡ a.local
  pub bound : is_bound bindings (prefix_of (written_attribute spaces a).name) ≡ true

-- what a name reads as
abbrev NameReads : Bindings → Text → Text → Text → Type 0
NameReads bindings space local name =
    (is_spelled_name name ≡ true) × (is_declared_name name ≡ false) × ((if has_prefix name then namespace bindings (prefix_of name) else []) ≡ space)
    × (local_of name ≡ local) × (is_bound bindings (prefix_of name) ≡ true)

no_length : (s : Text) → (length s == 0) ≡ true → s ≡ []
no_length [] h = refl
no_length (x ∷ s) h = absurd (let none : length (x ∷ s) ≡ 0 = eqb-true (length (x ∷ s)) 0 h in omega arith)

-- a name without a prefix
alone_reads : (bindings : Bindings) (space local : Text) (name : Text) → name ≡ local → is_name local ≡ true → same local (codes "xmlns") ≡ false → space ≡ [] →
    NameReads bindings space local name
alone_reads bindings space local name is named other none =
    subst (NameReads bindings space local) (sym is) (
      alone-spelled local named,
      ap (λ b. b || same (prefix_of local) (codes "xmlns")) other ∙ ap (λ p. same p (codes "xmlns")) (alone-prefix local named),
      ap (λ b. if b then namespace bindings (prefix_of local) else []) (alone-has local named) ∙ sym none,
      alone-local local named,
      ap (λ p. is_bound bindings p) (alone-prefix local named),
    )

some_length : (s : Text) → (length s == 0) ≡ false → 0 < length s
some_length [] h = absurd (both_ways (length {A = ℕ} [] == 0) h refl)
some_length (x ∷ s) h = omega arith

or_right : (a b : Bool) → b ≡ true → (a || b) ≡ true
or_right true b h = refl
or_right false b h = h

pub bound_to : (bindings : Bindings) (prefix space : Text) → namespace bindings prefix ≡ space → (length space == 0) ≡ false → is_bound bindings prefix ≡ true
bound_to bindings prefix space has some =
    or_right (length prefix == 0) (nat_lt 0 (length (namespace bindings prefix)))
    (ap (λ s. nat_lt 0 (length s)) has ∙ lt-ltb 0 (length space) (some_length space some))

-- a name with a prefix that is bound to the namespace
with_reads : (bindings : Bindings) (space local prefix : Text) (name : Text) → name ≡ prefix ++ 58 ∷ local → is_name prefix ≡ true → is_name local ≡ true →
    same (prefix ++ 58 ∷ local) (codes "xmlns") ≡ false → same prefix (codes "xmlns") ≡ false → namespace bindings prefix ≡ space → (length space == 0) ≡ false →
    NameReads bindings space local name
with_reads bindings space local prefix name is named_prefix named other_name other_prefix has some =
    subst (NameReads bindings space local) (sym is) (
      with-spelled prefix local named_prefix named,
      ap (λ b. b || same (prefix_of (prefix ++ 58 ∷ local)) (codes "xmlns")) other_name
          ∙ ap (λ p. same p (codes "xmlns")) (with-prefix prefix local named_prefix) ∙ other_prefix,
      ap (λ b. if b then namespace bindings (prefix_of (prefix ++ 58 ∷ local)) else []) (with-has prefix local named_prefix)
          ∙ ap (namespace bindings) (with-prefix prefix local named_prefix) ∙ has,
      with-local prefix local named_prefix,
      ap (is_bound bindings) (with-prefix prefix local named_prefix) ∙ bound_to bindings prefix space has some,
    )

abbrev written_name : List Text → Attribute → Text
written_name spaces a = written_prefix spaces a.space ++ a.local

in_none : (bindings : Bindings) (spaces : List Text) (a : Attribute) → is_name a.local ≡ true → is_xmlns a ≡ false → (length a.space == 0) ≡ true →
    NameReads bindings a.space a.local (written_name spaces a)
in_none bindings spaces a named other e =
    alone_reads bindings a.space a.local (written_name spaces a)
    (ap (λ b. (if b then [] else (if same a.space xml_namespace then codes "xml:" else codes "a" ++ decimal (position_or_len (same a.space) spaces) ++ codes ":")) ++ a.local) e)
    named (ap (λ b. b && same a.local (codes "xmlns")) (sym e) ∙ other) (no_length a.space e)

in_xml : (bindings : Bindings) (spaces : List Text) (a : Attribute) → is_name a.local ≡ true → (length a.space == 0) ≡ false → same a.space xml_namespace ≡ true →
    NameReads bindings a.space a.local (written_name spaces a)
in_xml bindings spaces a named some e =
    with_reads bindings a.space a.local (codes "xml") (written_name spaces a)
    (ap (λ b. (if b then [] else (if same a.space xml_namespace then codes "xml:" else codes "a" ++ decimal (position_or_len (same a.space) spaces) ++ codes ":")) ++ a.local) some
    ∙ ap (λ b. (if b then codes "xml:" else codes "a" ++ decimal (position_or_len (same a.space) spaces) ++ codes ":") ++ a.local) e)
    refl named refl refl (sym (same-is a.space xml_namespace e)) some

in_numbered : (bindings : Bindings) (spaces : List Text) (a : Attribute) → is_name a.local ≡ true → (length a.space == 0) ≡ false → same a.space xml_namespace ≡ false →
    lookup (number_prefix (position_or_len (same a.space) spaces)) bindings ≡ Some a.space → position_or_len (same a.space) spaces < 2 ^ 64 →
    NameReads bindings a.space a.local (written_name spaces a)
in_numbered bindings spaces a named some other binds small =
    with_reads bindings a.space a.local (number_prefix (position_or_len (same a.space) spaces)) (written_name spaces a)
    (ap (λ b. (if b then [] else (if same a.space xml_namespace then codes "xml:" else codes "a" ++ decimal (position_or_len (same a.space) spaces) ++ codes ":")) ++ a.local) some
    ∙ ap (λ b. (if b then codes "xml:" else codes "a" ++ decimal (position_or_len (same a.space) spaces) ++ codes ":") ++ a.local) other
    ∙ append_assoc (number_prefix (position_or_len (same a.space) spaces)) (58 ∷ []) a.local)
    (number_prefix-name (position_or_len (same a.space) spaces) small) named refl refl (ap (λ (o : Option Text). unwrap_or o []) binds) some

name_reads : (bindings : Bindings) (spaces : List Text) (a : Attribute) → is_name a.local ≡ true → is_xmlns a ≡ false → BindsNumbers spaces bindings →
    (is_numbered a.space ≡ true → list_any (same a.space) spaces ≡ true) → position_or_len (same a.space) spaces < 2 ^ 64 →
    (t u : Bool) → (length a.space == 0) ≡ t → same a.space xml_namespace ≡ u → NameReads bindings a.space a.local (written_name spaces a)
name_reads bindings spaces a named other binds has small true u e f = in_none bindings spaces a named other e
name_reads bindings spaces a named other binds has small false true e f = in_xml bindings spaces a named e f
name_reads bindings spaces a named other binds has small false false e f =
    in_numbered bindings spaces a named e f (binds a.space (has (ap (λ b. not (b || same a.space xml_namespace)) e ∙ ap not f))) small

pub reads_as : (bindings : Bindings) (spaces : List Text) (a : Attribute) → attribute_keeps a ≡ true → BindsNumbers spaces bindings →
    (is_numbered a.space ≡ true → list_any (same a.space) spaces ≡ true) → position_or_len (same a.space) spaces < 2 ^ 64 → ReadsAs bindings spaces a
reads_as bindings spaces a keeps binds has small =
    let parts = and_parts (is_xml_text a.space && is_local_name a.local && is_xml_text a.value) (not (is_xmlns a)) keeps in
    let texts = and_parts (is_xml_text a.space && is_local_name a.local) (is_xml_text a.value) parts.0 in
    let names = and_parts (is_xml_text a.space) (is_local_name a.local) texts.0 in
    let named : is_name a.local ≡ true = (and_parts (is_name a.local) (is_xml_text a.local) names.1).0 in
    let other : is_xmlns a ≡ false = not-true (is_xmlns a) parts.1 in
    let facts : NameReads bindings a.space a.local (written_name spaces a) =
    name_reads bindings spaces a named other binds has small (length a.space == 0) (same a.space xml_namespace) refl refl in
    record { spelled = facts.0; undeclared = facts.1; space = facts.2; local = facts.3; bound = facts.4 }
