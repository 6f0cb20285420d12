-- The rules that tokens may break, and which of them decides.
use Rattle.std.specs.Prelude.{ℕ, ◌+◌, ◌&&◌, ◌||◌, Bool, true, false, not, nat_le, nat_lt, if◌then◌else◌, List, [], ◌∷◌, length, Option, Some, None, option_map}
use Rattle.std.specs.List.{list_all, list_any}
use Rattle.xml_lexer.specs.Characters.{Text, is_blank}
use Rattle.xml_lexer.specs.Token.{Token, cdata, start, end, reference, text, Spelled}
use Rattle.xml_lexer.specs.Spelling.{same}
use Rattle.voe_tree.specs.Pairs.{has_pair}
use Rattle.voe_tree.specs.Shape.{max_depth, same_attribute}
use Rattle.voe_tree.specs.Names.{Bindings, declare, prefix_of, named_attributes, is_bound, undeclaring}
use Rattle.voe_tree.specs.declared.element.Attribute.{Attribute}

-- the rules in the order in which they decide at one token
pub data Rule : Type 0 where
  unbalanced : Rule
  too_deep : Rule
  repeated_attribute : Rule
  unbound_prefix : Rule
  root_missing : Rule
  after_root : Rule

-- The elements that are open, the innermost first: each by its name as spelled, and the bindings in it.
abbrev pub Open : Type 0
Open = List (Text × Bindings)

abbrev pub bindings_in : Open → Bindings
bindings_in [] = []
bindings_in (e ∷ opened) = e.1

abbrev pub is_none_open : Open → Bool
is_none_open [] = true
is_none_open (e ∷ opened) = false

abbrev pub without_innermost : Open → Open
without_innermost [] = []
without_innermost (e ∷ opened) = opened

abbrev pub after_token : Open → Token → Open
after_token opened (start name given false) = (name, declare given (bindings_in opened)) ∷ opened
after_token opened (end name) = without_innermost opened
after_token opened _ = opened

abbrev pub is_start : Token → Bool
is_start (start name given is_empty) = true
is_start _ = false

abbrev pub is_innermost : Text → Open → Bool
is_innermost name [] = false
is_innermost name (e ∷ opened) = same e.0 name

abbrev pub same_spelled : Spelled → Spelled → Bool
same_spelled a b = same a.name b.name

-- attributes in a namespace, which agree in it and in the local name
abbrev pub same_named : Attribute → Attribute → Bool
same_named a b = nat_lt 0 (length a.space) && same_attribute a b

-- Declarations of namespaces count where names are compared as spelled.
abbrev pub repeats : Bindings → List Spelled → Bool
repeats bindings given = has_pair same_spelled given || has_pair same_named (named_attributes bindings given)

-- the prefix of an attribute that is no declaration is not bound
abbrev pub unbound_in : Bindings → List Spelled → Bool
unbound_in bindings given = list_any (λ a. not (is_bound bindings (prefix_of a.name))) (undeclaring given)

-- the same, or the element's prefix is not bound
abbrev pub names_unbound : Bindings → Text → List Spelled → Bool
names_unbound bindings name given = not (is_bound bindings (prefix_of name)) || unbound_in bindings given

-- what may stand only in the root: a reference, a CDATA, or a text that is not all blanks
abbrev pub is_content : Token → Bool
is_content (text run) = not (list_all is_blank run)
is_content (cdata run) = true
is_content (reference c) = true
is_content _ = false

-- what a token outside the root breaks, before a start tag or behind one
abbrev pub outside_rule : Bool → Token → Option Rule
outside_rule false k = if is_content k then Some root_missing else None
outside_rule true k = if is_start k || is_content k then Some after_root else None

abbrev pub start_rule : Open → Text → List Spelled → Option Rule
start_rule opened name given =
    let inside = declare given (bindings_in opened) in
    if nat_le max_depth (length opened) then Some too_deep
    else (if repeats inside given then Some repeated_attribute
    else (if names_unbound inside name given then Some unbound_prefix else None))

abbrev pub or_else : {A : Type 0} → Option A → Option A → Option A
or_else None other = other
or_else (Some a) other = Some a

abbrev pub own_rule : Open → Token → Option Rule
own_rule opened (end name) = if is_innermost name opened then None else Some unbalanced
own_rule opened (start name given is_empty) = start_rule opened name given
own_rule opened _ = None

-- the least rule that the token breaks, where these elements are open, and a start tag came before or not
abbrev pub broken_rule : Open → Bool → Token → Option Rule
broken_rule opened rooted k =
    or_else (own_rule opened k) (if is_none_open opened then outside_rule rooted k else None)

-- the rule that is broken at the end
abbrev pub end_rule : Open → Bool → Option Rule
end_rule opened rooted = if is_none_open opened then (if rooted then None else Some root_missing) else Some unbalanced

-- the first token that breaks a rule, by its number, or else the end, with the least rule that is broken there
abbrev pub refusal_from : Open → Bool → ℕ → List Token → Option (Rule × ℕ)
refusal_from opened rooted place [] = option_map (λ rule. (rule, place)) (end_rule opened rooted)
refusal_from opened rooted place (k ∷ ks) =
    or_else (option_map (λ rule. (rule, place)) (broken_rule opened rooted k))
    (refusal_from (after_token opened k) (rooted || is_start k) (place + 1) ks)

abbrev pub refusal_of : List Token → Option (Rule × ℕ)
refusal_of ks = refusal_from [] false 0 ks
