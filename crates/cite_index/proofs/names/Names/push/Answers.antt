use Rattle.std.proofs.Common.{◌≡◌, ◌∙◌, ap, sym, subst, ℕ, Bool, List, [], ◌∷◌, ◌++◌, None, Some, length, rules, arith}
use Rattle.std.specs.Global.{Vec}
use Rattle.std.specs.List.{slice_get}
use Rattle.std.specs.Map.{lookup}
use Rattle.std.specs.Str.{bytes_eq}
use Rattle.std.proofs.lemmas.List.{map_push}
use Rattle.indexmap.specs.IndexMap.{insert_entry}
use Rattle.indexmap.proofs.CallerLemmas.{insert_entry-new}
use Rattle.cite_index.specs.Names.{AreNumbers, number_in, plain}
use Rattle.cite_index.proofs.Naming.{lookup_plain, not_numbered, numbers_more, on_ok}
use Rattle.cite_index.proofs.names.Names.push.Goals as goal

pub invariant_of-self-2 : goal.invariant_of-self-2
invariant_of-self-2 c =
    let eq : Vec ℕ → Vec ℕ → Bool = λ x y. bytes_eq x.items y.items in
    let entries = c.self.inside.numbers.entries in
    let names = c.self.inside.names.items in
    let x = c.args.identifier.now in
    let new : (n : ℕ) → slice_get names n ≡ Some x → ⊥ = subst (λ (l : List (List ℕ)). (n : ℕ) → slice_get l n ≡ Some x → ⊥) (sym c.self.view_is) c.requires in
    let key : c.in-Ok.key.items ≡ x = c.in-Ok.ensures.items ∙ (c.as_bytes.ensures.value ∙ c.as_str.ensures.text) in
    let count : c.len-at.result ≡ length names = omega (arith, c.len-at.ensures, c.self.inside.names.ok.0) in
    let none : lookup (eq c.in-Ok.key) entries ≡ None = lookup_plain c.in-Ok.key.items entries ∙ (ap (number_in (plain entries)) key ∙ not_numbered entries names x c.self.invariant new) in
    let done : c.insert.new.self.entries ≡ insert_entry eq entries c.in-Ok.key c.len-at.result = search rules in
    let added : plain c.insert.new.self.entries ≡ plain entries ++ (x, length names) ∷ [] =
    ap plain (done ∙ insert_entry-new eq c.self.inside.numbers c.in-Ok.key c.len-at.result none)
    ∙ (map_push (λ (e : Vec ℕ × ℕ). (e.0.items, e.1)) entries (c.in-Ok.key, c.len-at.result)
    ∙ ap (λ (q : List ℕ × ℕ). plain entries ++ q ∷ []) (ap (λ (k : List ℕ). (k, c.len-at.result)) key ∙ ap (λ (n : ℕ). (x, n)) count)) in
    let pushed : c.push.new.self.items ≡ names ++ x ∷ [] = search rules in
    subst (λ (l : List (List ℕ)). AreNumbers c.insert.new.self.entries l) (sym pushed) (numbers_more entries c.insert.new.self.entries names x c.self.invariant new added)
