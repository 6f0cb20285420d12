-- The tokens of an element, by its layers, and what is too large.
use Rattle.std.proofs.Common.{◌≡◌, ℕ, ◌+◌, ◌<◌, ◌≤◌, zero, suc, Bool, true, false, List, [], ◌∷◌, ◌++◌, length, map, drop, get_or, refl, sym, ◌∙◌, ap, subst, arith, add-one, append_assoc, append-nil, length-append}
use Rattle.std.specs.Prelude.{◌==◌, ◌&&◌, nat_le, Result, Ok, Err, IfErr}
use Rattle.std.specs.Result.{IsErrAnd}
use Rattle.std.specs.List.{list_all}
use Rattle.std.proofs.lemmas.List.{drop_all, length-map}
use Rattle.std.proofs.lemmas.List.Folds.{list_all-append}
use Rattle.std.proofs.Math.Seq.{drop-cons}
use Rattle.std.proofs.lemmas.Bool.{and_parts, and_from, leb-true, le-leb, both_ways}
use Rattle.xml_lexer.specs.Characters.{Text}
use Rattle.xml_lexer.specs.Phases.{max_tokens}
use Rattle.xml_lexer.specs.Token.{Token, start, end}
use Rattle.voe_tree.specs.Canonical.{InDefault, all_in, all_written, element_tokens, end_tag, is_narrow, max_bytes, node_tokens, text_tokens, tokens_in, tokens_of, written, written_attributes}
use Rattle.voe_tree.specs.Writing.{Exceeds, fits}
use Rattle.voe_tree.specs.declared.element.Element.{Element, fold_out-Element}
use Rattle.voe_tree.specs.declared.element.Node.{Node}
use Rattle.voe_tree.specs.declared.write.WriteFault.{WriteFault}
use Rattle.voe_tree.specs.declared.write.WriteFault.TheVariants.{TooLarge, NoMemory}
use Rattle.voe_tree.proofs.WrittenRuns.{all_written-append}
use Rattle.voe_tree.specs.declared.element.Node.TheOpen.{Node-F}
use Rattle.voe_tree.specs.declared.element.Node.TheFolds.{fold-roll-Node}
use Rattle.voe_tree.specs.declared.element.Node.TheVariants as tree

pub tokens_of-layer : (e : Element) (default : Text) →
    tokens_of e default ≡ start e.local (written_attributes default e.space e.attributes) (length e.children == 0)
    ∷ all_in e.space (map tokens_in e.children) ++ end_tag (length e.children == 0) e.local
tokens_of-layer e default =
    ap (λ (f : InDefault). f default) (fold_out-Element InDefault InDefault node_tokens element_tokens e)
    ∙ ap (λ (n : ℕ). start e.local (written_attributes default e.space e.attributes) (n == 0) ∷ all_in e.space (map tokens_in e.children) ++ end_tag (n == 0) e.local)
    (length-map e.children tokens_in)

pub tokens_in-element : (e : Element) (default : Text) → tokens_in (tree.Element e) default ≡ tokens_of e default
tokens_in-element e default =
    ap (λ (f : InDefault). f default) (ap tokens_in (sym (tree.rolls-Element e)) ∙ fold-roll-Node InDefault InDefault node_tokens element_tokens (Node-F.Element e))

pub tokens_in-text : (t default : Text) → tokens_in (tree.Text t) default ≡ text_tokens t
tokens_in-text t default =
    ap (λ (f : InDefault). f default) (ap tokens_in (sym (tree.rolls-Text t)) ∙ fold-roll-Node InDefault InDefault node_tokens element_tokens (Node-F.Text t))

-- ---- bounds

stays_within : (x y z w m n : ℕ) (p q : Bool) → (nat_le x m && nat_le y n && p) ≡ true → z ≤ x → w ≤ y → (p ≡ true → q ≡ true) →
    (nat_le z m && nat_le w n && q) ≡ true
stays_within x y z w m n p q h low few narrow =
    let parts = and_parts (nat_le x m && nat_le y n) p h in
    let sizes = and_parts (nat_le x m) (nat_le y n) parts.0 in
    let one : z ≤ m = omega (arith, leb-true x m sizes.0, low) in
    let two : w ≤ n = omega (arith, leb-true y n sizes.1, few) in
    and_from (nat_le z m && nat_le w n) q (and_from (nat_le z m) (nat_le w n) (le-leb z m one) (le-leb w n two)) (narrow parts.1)

-- what holds something too large is too large
pub exceeds_around : (bytes tokens before_bytes before_tokens : ℕ) (ks all : List Token) → fits bytes tokens ks ≡ false →
    bytes + length (all_written ks) ≤ before_bytes + length (all_written all) → tokens + length ks ≤ before_tokens + length all →
    (list_all is_narrow all ≡ true → list_all is_narrow ks ≡ true) → fits before_bytes before_tokens all ≡ false
exceeds_around bytes tokens before_bytes before_tokens ks all large low few narrow =
    let both : (t : Bool) → fits before_bytes before_tokens all ≡ t → fits before_bytes before_tokens all ≡ false =
    λ t. elim t as (λ u. fits before_bytes before_tokens all ≡ u → fits before_bytes before_tokens all ≡ false) [
      | true ↦ λ e. absurd (both_ways (fits bytes tokens ks) large (stays_within _ _ _ _ max_bytes max_tokens (list_all is_narrow all) (list_all is_narrow ks) e low few narrow))
      | false ↦ λ e. e
    ] in
    both (fits before_bytes before_tokens all) refl

exceeds_whole : (fault : WriteFault) (bytes tokens before_bytes before_tokens : ℕ) (ks all : List Token) → Exceeds fault bytes tokens ks →
    bytes + length (all_written ks) ≤ before_bytes + length (all_written all) → tokens + length ks ≤ before_tokens + length all →
    (list_all is_narrow all ≡ true → list_all is_narrow ks ≡ true) → Exceeds fault before_bytes before_tokens all
exceeds_whole TooLarge bytes tokens before_bytes before_tokens ks all large low few narrow =
    exceeds_around bytes tokens before_bytes before_tokens ks all large low few narrow
exceeds_whole NoMemory bytes tokens before_bytes before_tokens ks all large low few narrow = tt

pub passed_on : {T : Type 0} (r : Result T WriteFault) (fault : WriteFault) (bytes tokens before_bytes before_tokens : ℕ) (ks all : List Token) → IsErrAnd r (λ f. f ≡ fault) → Exceeds fault bytes tokens ks →
    bytes + length (all_written ks) ≤ before_bytes + length (all_written all) → tokens + length ks ≤ before_tokens + length all →
    (list_all is_narrow all ≡ true → list_all is_narrow ks ≡ true) → IfErr r (λ f. Exceeds f before_bytes before_tokens all)
passed_on (Ok x) fault bytes tokens before_bytes before_tokens ks all is large low few narrow = tt
passed_on (Err f) fault bytes tokens before_bytes before_tokens ks all is large low few narrow =
    exceeds_whole f bytes tokens before_bytes before_tokens ks all (subst (λ g. Exceeds g bytes tokens ks) (sym is) large) low few narrow

-- ---- one more node

-- the tokens of the nodes from the i-th on
abbrev pub tokens_from : Text → List Node → ℕ → List Token
tokens_from space items i = all_in space (map tokens_in (drop i items))

pub node_first : (items : List Node) (i : ℕ) (node : Node) (space : Text) → i < length items → node ≡ get_or items i node →
    tokens_from space items i ≡ tokens_in node space ++ tokens_from space items (i + 1)
node_first items i node space lt is =
    ap (λ ns. all_in space (map tokens_in ns)) (drop-cons items i node lt ∙ ap (λ n. n ∷ drop (suc i) items) (sym is))
    ∙ ap (λ n. tokens_in node space ++ tokens_from space items n) (sym (add-one i))

pub node_bytes : (items : List Node) (i : ℕ) (node : Node) (space : Text) (ks : List Token) → i < length items → node ≡ get_or items i node → tokens_in node space ≡ ks →
    (whole before after : Text) → before ++ all_written (tokens_from space items i) ≡ whole → after ≡ before ++ all_written ks →
    after ++ all_written (tokens_from space items (i + 1)) ≡ whole
node_bytes items i node space ks lt is tokens whole before after so_far put =
    ap (λ s. s ++ all_written (tokens_from space items (i + 1))) put
    ∙ append_assoc before (all_written ks) (all_written (tokens_from space items (i + 1)))
    ∙ ap (λ s. before ++ s) (sym (ap all_written (node_first items i node space lt is ∙ ap (λ l. l ++ tokens_from space items (i + 1)) tokens)
    ∙ all_written-append ks (tokens_from space items (i + 1))))
    ∙ so_far

pub node_counts : (items : List Node) (i : ℕ) (node : Node) (space : Text) (ks : List Token) → i < length items → node ≡ get_or items i node → tokens_in node space ≡ ks →
    (whole before after : ℕ) → before + length (tokens_from space items i) ≡ whole → after ≡ before + length ks →
    after + length (tokens_from space items (i + 1)) ≡ whole
node_counts items i node space ks lt is tokens whole before after so_far put =
    let one : length (tokens_from space items i) ≡ length ks + length (tokens_from space items (i + 1)) =
    ap (λ (l : List Token). length l) (node_first items i node space lt is ∙ ap (λ l. l ++ tokens_from space items (i + 1)) tokens)
    ∙ length-append ks (tokens_from space items (i + 1)) in
    omega arith

pub node_narrow : (items : List Node) (i : ℕ) (node : Node) (space : Text) (ks : List Token) → i < length items → node ≡ get_or items i node → tokens_in node space ≡ ks →
    (whole : Type 0) → (list_all is_narrow (tokens_from space items i) ≡ true → whole) → list_all is_narrow ks ≡ true →
    list_all is_narrow (tokens_from space items (i + 1)) ≡ true → whole
node_narrow items i node space ks lt is tokens whole so_far narrow more =
    so_far (ap (list_all is_narrow) (node_first items i node space lt is ∙ ap (λ l. l ++ tokens_from space items (i + 1)) tokens)
    ∙ list_all-append is_narrow ks (tokens_from space items (i + 1))
    ∙ and_from (list_all is_narrow ks) (list_all is_narrow (tokens_from space items (i + 1))) narrow more)

-- some of the nodes' tokens are as narrow as all
rest_narrow : (space : Text) (items : List Node) (i : ℕ) → list_all is_narrow (all_in space (map tokens_in items)) ≡ true → list_all is_narrow (tokens_from space items i) ≡ true
rest_narrow space items zero h = h
rest_narrow space [] (suc i) h = h
rest_narrow space (n ∷ items) (suc i) h =
    rest_narrow space items i (and_parts (list_all is_narrow (tokens_in n space)) (list_all is_narrow (all_in space (map tokens_in items)))
    (sym (list_all-append is_narrow (tokens_in n space) (all_in space (map tokens_in items))) ∙ h)).1

-- a node that is too large makes its element so
pub node_exceeds : {T : Type 0} (r : Result T WriteFault) (fault : WriteFault) (e : Element) (default : Text) (items : List Node) (i : ℕ) (node : Node) (ks : List Token) →
    i < length items → node ≡ get_or items i node → tokens_in node e.space ≡ ks → items ≡ e.children →
    (old tagged before : Text) (old_count tagged_count before_count : ℕ) →
    tagged ≡ old ++ written (start e.local (written_attributes default e.space e.attributes) (length e.children == 0)) → tagged_count ≡ old_count + 1 →
    before ++ all_written (tokens_from e.space items i) ≡ tagged ++ all_written (all_in e.space (map tokens_in items)) →
    before_count + length (tokens_from e.space items i) ≡ tagged_count + length (all_in e.space (map tokens_in items)) →
    IsErrAnd r (λ f. f ≡ fault) → Exceeds fault (length before) before_count ks → IfErr r (λ f. Exceeds f (length old) old_count (tokens_of e default))
node_exceeds r fault e default items i node ks lt is tokens same old tagged before old_count tagged_count before_count tag tag_count so_far so_many passes large =
    let first : tokens_from e.space items i ≡ ks ++ tokens_from e.space items (i + 1) =
    node_first items i node e.space lt is ∙ ap (λ l. l ++ tokens_from e.space items (i + 1)) tokens in
    let kids = all_in e.space (map tokens_in items) in
    let begin = start e.local (written_attributes default e.space e.attributes) (length e.children == 0) in
    let finish = end_tag (length e.children == 0) e.local in
    let whole : tokens_of e default ≡ begin ∷ kids ++ finish =
    tokens_of-layer e default ∙ ap (λ ns. begin ∷ all_in e.space (map tokens_in ns) ++ finish) (sym same) in
    let written_whole : length (all_written (tokens_of e default)) ≡ length (written begin) + (length (all_written kids) + length (all_written finish)) =
    ap (λ l. length (all_written l)) whole ∙ length-append (written begin) (all_written (kids ++ finish))
    ∙ ap (λ s. length (written begin) + length s) (all_written-append kids finish)
    ∙ ap (λ n. length (written begin) + n) (length-append (all_written kids) (all_written finish)) in
    let written_before : length before + (length (all_written ks) + length (all_written (tokens_from e.space items (i + 1)))) ≡ length tagged + length (all_written kids) =
    ap (λ n. length before + n) (sym (length-append (all_written ks) (all_written (tokens_from e.space items (i + 1)))))
    ∙ ap (λ s. length before + length s) (sym (ap all_written first ∙ all_written-append ks (tokens_from e.space items (i + 1))))
    ∙ sym (length-append before (all_written (tokens_from e.space items i))) ∙ ap (λ (s : Text). length s) so_far ∙ length-append tagged (all_written kids) in
    let tagged_len : length tagged ≡ length old + length (written begin) = ap (λ (s : Text). length s) tag ∙ length-append old (written begin) in
    let count_whole : length (tokens_of e default) ≡ suc (length kids + length finish) =
    ap (λ (l : List Token). length l) whole ∙ ap (λ n. suc n) (length-append kids finish) in
    let count_first : length (tokens_from e.space items i) ≡ length ks + length (tokens_from e.space items (i + 1)) =
    ap (λ (l : List Token). length l) first ∙ length-append ks (tokens_from e.space items (i + 1)) in
    let narrow_whole : list_all is_narrow (tokens_of e default) ≡ true → list_all is_narrow ks ≡ true =
    λ h. (and_parts (list_all is_narrow ks) (list_all is_narrow (tokens_from e.space items (i + 1)))
    (sym (list_all-append is_narrow ks (tokens_from e.space items (i + 1))) ∙ ap (list_all is_narrow) (sym first)
    ∙ rest_narrow e.space items i (and_parts (list_all is_narrow kids) (list_all is_narrow finish)
    (sym (list_all-append is_narrow kids finish) ∙ (and_parts (is_narrow begin) (list_all is_narrow (kids ++ finish)) (ap (list_all is_narrow) (sym whole) ∙ h)).1)).0)).0 in
    passed_on r fault (length before) before_count (length old) old_count ks (tokens_of e default) passes large (omega arith) (omega arith) narrow_whole

-- ---- the end

element_tokens-end : (e : Element) (default : Text) (items : List Node) → items ≡ e.children → (length e.children == 0) ≡ false →
    tokens_of e default ≡ start e.local (written_attributes default e.space e.attributes) (length e.children == 0) ∷ all_in e.space (map tokens_in items) ++ end e.local ∷ []
element_tokens-end e default items same some =
    tokens_of-layer e default
    ∙ ap (λ b. start e.local (written_attributes default e.space e.attributes) (length e.children == 0) ∷ all_in e.space (map tokens_in e.children) ++ end_tag b e.local) some
    ∙ ap (λ ns. start e.local (written_attributes default e.space e.attributes) (length e.children == 0) ∷ all_in e.space (map tokens_in ns) ++ end e.local ∷ []) (sym same)

pub element_bytes : (e : Element) (default : Text) (items : List Node) (i : ℕ) → items ≡ e.children → (length e.children == 0) ≡ false → length items ≤ i →
    (old tagged looped ended : Text) →
    tagged ≡ old ++ written (start e.local (written_attributes default e.space e.attributes) (length e.children == 0)) →
    looped ++ all_written (tokens_from e.space items i) ≡ tagged ++ all_written (all_in e.space (map tokens_in items)) →
    ended ≡ looped ++ written (end e.local) → ended ≡ old ++ all_written (tokens_of e default)
element_bytes e default items i same some past old tagged looped ended tag all put =
    let begin = start e.local (written_attributes default e.space e.attributes) (length e.children == 0) in
    let kids = all_in e.space (map tokens_in items) in
    let none : tokens_from e.space items i ≡ [] = ap (λ ns. all_in e.space (map tokens_in ns)) (drop_all i items past) in
    let looped_is : looped ≡ (old ++ written begin) ++ all_written kids =
    sym (append-nil looped) ∙ ap (λ l. looped ++ all_written l) (sym none) ∙ all ∙ ap (λ s. s ++ all_written kids) tag in
    put ∙ ap (λ s. s ++ written (end e.local)) looped_is
    ∙ append_assoc (old ++ written begin) (all_written kids) (written (end e.local))
    ∙ append_assoc old (written begin) (all_written kids ++ written (end e.local))
    ∙ ap (λ s. old ++ (written begin ++ (all_written kids ++ s))) (sym (append-nil (written (end e.local))))
    ∙ ap (λ s. old ++ (written begin ++ s)) (sym (all_written-append kids (end e.local ∷ [])))
    ∙ ap (λ l. old ++ all_written l) (sym (element_tokens-end e default items same some))

pub element_counts : (e : Element) (default : Text) (items : List Node) (i : ℕ) → items ≡ e.children → (length e.children == 0) ≡ false → length items ≤ i →
    (old tagged looped ended : ℕ) → tagged ≡ old + 1 →
    looped + length (tokens_from e.space items i) ≡ tagged + length (all_in e.space (map tokens_in items)) →
    ended ≡ looped + 1 → ended ≡ old + length (tokens_of e default)
element_counts e default items i same some past old tagged looped ended tag all put =
    let none : length (tokens_from e.space items i) ≡ 0 = ap (λ ns. length (all_in e.space (map tokens_in ns))) (drop_all i items past) in
    let whole : length (tokens_of e default) ≡ suc (length (all_in e.space (map tokens_in items)) + 1) =
    ap (λ (l : List Token). length l) (element_tokens-end e default items same some)
    ∙ ap (λ n. suc n) (length-append (all_in e.space (map tokens_in items)) (end e.local ∷ [])) in
    omega arith

pub element_narrow : (e : Element) (default : Text) (items : List Node) (i : ℕ) → items ≡ e.children → (length e.children == 0) ≡ false → length items ≤ i →
    is_narrow (start e.local (written_attributes default e.space e.attributes) (length e.children == 0)) ≡ true →
    (list_all is_narrow (tokens_from e.space items i) ≡ true → list_all is_narrow (all_in e.space (map tokens_in items)) ≡ true) →
    list_all is_narrow (tokens_of e default) ≡ true
element_narrow e default items i same some past tag all =
    let none : list_all is_narrow (tokens_from e.space items i) ≡ true = ap (λ ns. list_all is_narrow (all_in e.space (map tokens_in ns))) (drop_all i items past) in
    let kids = all_in e.space (map tokens_in items) in
    ap (list_all is_narrow) (element_tokens-end e default items same some)
    ∙ and_from (is_narrow (start e.local (written_attributes default e.space e.attributes) (length e.children == 0))) (list_all is_narrow (kids ++ end e.local ∷ [])) tag
    (list_all-append is_narrow kids (end e.local ∷ []) ∙ and_from (list_all is_narrow kids) true (all none) refl)
