-- What a valid packet has for its parts.
use Rattle.std.proofs.Common.{◌≡◌, Bool, true, List, [], ◌∷◌, ◌++◌, refl, ◌∙◌, ap}
use Rattle.std.specs.Prelude.{◌&&◌, codes}
use Rattle.std.specs.List.{flat_map}
use Rattle.std.proofs.lemmas.Bool.{and_parts}
use Rattle.std.proofs.lemmas.List.Concat.{flat_map-cons}
use Rattle.voe_tree.specs.Contents.{children_called}
use Rattle.voe_tree.specs.Places.{places}
use Rattle.voe_tree.specs.Validity.{citations_of, cited_in, is_valid, meets_V01, meets_V02, meets_V03, meets_V04, meets_V05, meets_V06, meets_V07, meets_V08, meets_V09, meets_V10, meets_V11, meets_V12}
use Rattle.voe_tree.specs.declared.element.Element.{Element}

single : (es : List Element) → flat_map (places []) es ≡ es
single [] = refl
single (e ∷ es) = flat_map-cons (places []) e es ∙ ap (λ l. e ∷ l) (single es)

cited_places : (sections : List Element) → flat_map (places (codes "EventIVORN" ∷ [])) sections ≡ cited_in sections
cited_places [] = refl
cited_places (s ∷ ss) =
    flat_map-cons (places (codes "EventIVORN" ∷ [])) s ss
    ∙ ap (λ l. l ++ flat_map (places (codes "EventIVORN" ∷ [])) ss) (single (children_called s (codes "EventIVORN")))
    ∙ ap (λ l. children_called s (codes "EventIVORN") ++ l) (cited_places ss)

-- the citations are where that path leads
pub citation_places : (root : Element) → places (codes "Citations" ∷ codes "EventIVORN" ∷ []) root ≡ citations_of root
citation_places root = cited_places (children_called root (codes "Citations"))

-- the third of twelve, and the last
ends : (a b c d e f g h i j k l : Bool) → (a && (b && (c && (d && (e && (f && (g && (h && (i && (j && (k && (l && true)))))))))))) ≡ true → (c ≡ true) × (l ≡ true)
ends a b c d e f g h i j k l p =
    let p3 = and_parts c (d && (e && (f && (g && (h && (i && (j && (k && (l && true))))))))) (and_parts b (c && (d && (e && (f && (g && (h && (i && (j && (k && (l && true)))))))))) (and_parts a (b && (c && (d && (e && (f && (g && (h && (i && (j && (k && (l && true))))))))))) p).1).1 in
    let p6 = and_parts f (g && (h && (i && (j && (k && (l && true)))))) (and_parts e (f && (g && (h && (i && (j && (k && (l && true))))))) (and_parts d (e && (f && (g && (h && (i && (j && (k && (l && true)))))))) p3.1).1).1 in
    let p9 = and_parts i (j && (k && (l && true))) (and_parts h (i && (j && (k && (l && true)))) (and_parts g (h && (i && (j && (k && (l && true))))) p6.1).1).1 in
    (p3.0, (and_parts l true (and_parts k (l && true) (and_parts j (k && (l && true)) p9.1).1).1).0)

pub valid_parts : (root : Element) → is_valid root ≡ true → (meets_V03 root ≡ true) × (meets_V12 root ≡ true)
valid_parts root h =
    ends (meets_V01 root) (meets_V02 root) (meets_V03 root) (meets_V04 root) (meets_V05 root) (meets_V06 root) (meets_V07 root) (meets_V08 root) (meets_V09 root) (meets_V10 root) (meets_V11 root) (meets_V12 root) h
