-- The bindings of levels, looked up from the innermost.
use Rattle.std.proofs.Common.{◌≡◌, true, false, cond, List, [], ◌∷◌, ◌++◌, reverse, Option, Some, None, refl, sym, ◌∙◌, ap}
use Rattle.std.proofs.lemmas.List.{reverse-append}
use Rattle.xml_lexer.specs.Characters.{Text}
use Rattle.xml_lexer.specs.Spelling.{same}
use Rattle.std.specs.Prelude.{unwrap_or, codes}
use Rattle.voe_tree.specs.Names.{Bindings, lookup, namespace}
use Rattle.voe_tree.specs.Rules.{or_else}
use Rattle.voe_tree.specs.declared.level.Level.{Level}
use Rattle.voe_tree.specs.Reader.{bindings_at}
use Rattle.voe_tree.specs.View.{own_bindings, bindings_around, stack_from}
use Rattle.voe_tree.proofs.Stacks.{bindings_at-stack}

pub lookup-append : (prefix : Text) (a b : Bindings) → lookup prefix (a ++ b) ≡ or_else (lookup prefix a) (lookup prefix b)
lookup-append prefix [] b = refl
lookup-append prefix (x ∷ a) b =
    elim (same x.0 prefix) as (λ t. cond t (Some x.1) (lookup prefix (a ++ b)) ≡ or_else (cond t (Some x.1) (lookup prefix a)) (lookup prefix b))
    [ true ↦ refl | false ↦ lookup-append prefix a b ]

bindings_around-last : (front : List Level) (last : Level) → bindings_around (reverse (front ++ last ∷ [])) ≡ own_bindings last ++ bindings_around (reverse front)
bindings_around-last front last = rw reverse-append refl

lookup_around-last : (prefix : Text) (front : List Level) (last : Level) →
    lookup prefix (bindings_around (reverse (front ++ last ∷ []))) ≡ or_else (lookup prefix (own_bindings last)) (lookup prefix (bindings_around (reverse front)))
lookup_around-last prefix front last = ap (lookup prefix) (bindings_around-last front last) ∙ lookup-append prefix (own_bindings last) (bindings_around (reverse front))

pub around-found : (prefix : Text) (levels front : List Level) (last : Level) (found : Text) → levels ≡ front ++ last ∷ [] → lookup prefix (own_bindings last) ≡ Some found →
    Some found ≡ lookup prefix (bindings_around (reverse levels))
around-found prefix levels front last found e h =
    ap (λ o. or_else o (lookup prefix (bindings_around (reverse front)))) (sym h) ∙ sym (lookup_around-last prefix front last) ∙ ap (λ l. lookup prefix (bindings_around (reverse l))) (sym e)

pub around-further : (prefix : Text) (levels front : List Level) (last : Level) → levels ≡ front ++ last ∷ [] → lookup prefix (own_bindings last) ≡ None →
    lookup prefix (bindings_around (reverse front)) ≡ lookup prefix (bindings_around (reverse levels))
around-further prefix levels front last e h =
    ap (λ o. or_else o (lookup prefix (bindings_around (reverse front)))) (sym h) ∙ sym (lookup_around-last prefix front last) ∙ ap (λ l. lookup prefix (bindings_around (reverse l))) (sym e)

-- what the innermost level and those around it bind
pub lookup-here : (prefix : Text) (level : Level) (parents : List Level) →
    lookup prefix (bindings_at (stack_from level (reverse parents))) ≡ or_else (lookup prefix (own_bindings level)) (lookup prefix (bindings_around (reverse parents)))
lookup-here prefix level parents =
    ap (lookup prefix) (bindings_at-stack level (reverse parents)) ∙ lookup-append prefix (own_bindings level) (bindings_around (reverse parents))

-- ---- the namespace of a prefix

pub space-own : (prefix : Text) (own here : Bindings) (found : Text) → same prefix (codes "xml") ≡ false → lookup prefix own ≡ Some found → found ≡ namespace (own ++ here) prefix
space-own prefix own here found other h =
    rw other (ap (λ o. unwrap_or (or_else o (lookup prefix here)) []) (sym h) ∙ ap (λ o. unwrap_or o []) (sym (lookup-append prefix own here)))

pub space-here : (prefix : Text) (own here : Bindings) (o : Option Text) → same prefix (codes "xml") ≡ false → lookup prefix own ≡ None → lookup prefix here ≡ o →
    unwrap_or o [] ≡ namespace (own ++ here) prefix
space-here prefix own here o other none h =
    rw other (ap (λ x. unwrap_or x []) (sym h) ∙ ap (λ x. unwrap_or (or_else x (lookup prefix here)) []) (sym none) ∙ ap (λ x. unwrap_or x []) (sym (lookup-append prefix own here)))
