-- The least broken row of a packet, by the table of its rows.
use Rattle.std.proofs.Common.{◌≡◌, ℕ, ◌+◌, suc, Bool, true, false, List, [], ◌∷◌, refl, ap, sym, ◌∙◌, arith}
use Rattle.std.specs.Prelude.{not, nat_lt, if◌then◌else◌, Option, Some, None, is_none, option_map, map}
use Rattle.std.specs.List.{list_all}
use Rattle.std.proofs.lemmas.Bool.Decides.{nat_tests}
use Rattle.voe_tree.specs.declared.element.Element.{Element}
use Rattle.voe_tree.specs.Validity.{is_valid, least_broken_in, least_broken_row}
use Rattle.rule_table.specs.declared.row_test.RowTest.{RowTest}
use Rattle.rule_table.specs.declared.row_test.RowTest.TheVariants.{RootNamed, RootVersion, RootIdentifier, RootRole, AtMostOne, CiteKinds, CiteIdentifiers}
use Rattle.rule_table.specs.declared.section.Section.TheVariants.{Who, What, WhereWhen, How, Why, Citations}
use Rattle.rule_table.specs.Meaning.{meets, first_break}

abbrev pub packet_rows : List RowTest
packet_rows = RootNamed ∷ RootVersion ∷ RootIdentifier ∷ RootRole ∷ AtMostOne Who ∷ AtMostOne What ∷ AtMostOne WhereWhen
    ∷ AtMostOne How ∷ AtMostOne Why ∷ AtMostOne Citations ∷ CiteKinds ∷ CiteIdentifiers ∷ []

numbered : (t : Bool) (n p : ℕ) → option_map (λ k. (1 + n) + k) (if t then Some p else None) ≡ option_map (λ k. n + k) (if t then Some (1 + p) else None)
numbered true n p = ap Some (omega arith)
numbered false n p = refl

suc_tests : (p len : ℕ) → nat_lt (1 + p) (suc len) ≡ nat_lt p len
suc_tests p len = grind (arith, nat_tests)

first_tests : (len : ℕ) → nat_lt 0 (suc len) ≡ true
first_tests len = grind (arith, nat_tests)

step : (met : Bool) (bs : List Bool) (n p len : ℕ) →
    least_broken_in (1 + n) bs ≡ option_map (λ k. (1 + n) + k) (if nat_lt p len then Some p else None) →
    least_broken_in n (met ∷ bs)
    ≡ option_map (λ k. n + k) (if nat_lt (if not (not met) then 1 + p else 0) (suc len) then Some (if not (not met) then 1 + p else 0) else None)
step true bs n p len h = h ∙ (rw (suc_tests p len) (numbered (nat_lt p len) n p))
step false bs n p len h = rw (first_tests len) (ap Some (omega arith))

least_is : (rows : List RowTest) (root : Element) (n : ℕ) →
    least_broken_in n (map (λ row. meets row root) rows) ≡ option_map (λ k. n + k) (first_break rows root)
least_is [] root n = refl
least_is (row ∷ rows) root n = step (meets row root) _ n _ _ (least_is rows root (1 + n))

none_broken : (bs : List Bool) (n : ℕ) → is_none (least_broken_in n bs) ≡ list_all (λ b. b) bs
none_broken [] n = refl
none_broken (true ∷ bs) n = none_broken bs (1 + n)
none_broken (false ∷ bs) n = refl

least_of_packet_rows : (root : Element) → least_broken_row root ≡ option_map (λ k. 1 + k) (first_break packet_rows root)
least_of_packet_rows root = least_is packet_rows root 1

valid_by_least : (root : Element) → is_valid root ≡ is_none (least_broken_row root)
valid_by_least root = sym (none_broken (map (λ row. meets row root) packet_rows) 1)

-- what the table of the packet's rows finds is the least broken row
pub of_packet_rows : (root : Element) (found : Option ℕ) → found ≡ first_break packet_rows root →
    (least_broken_row root ≡ option_map (λ k. 1 + k) found) × (is_valid root ≡ is_none found)
of_packet_rows root None h =
    let e : least_broken_row root ≡ None = least_of_packet_rows root ∙ rw (← h) refl in
    (e, valid_by_least root ∙ rw e refl)
of_packet_rows root (Some place) h =
    let e : least_broken_row root ≡ Some (1 + place) = least_of_packet_rows root ∙ rw (← h) refl in
    (e, valid_by_least root ∙ rw e refl)
