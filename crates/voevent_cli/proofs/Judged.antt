-- The packets of a scenario are good ones.
use Rattle.std.proofs.Common.{◌≡◌, ℕ, ◌+◌, Bool, true, false, ◌&&◌, List, [], ◌∷◌, map, Some, None, refl, sym, ap, subst}
use Rattle.std.specs.Prelude.{IsTrue, if◌then◌else◌}
use Rattle.std.specs.List.{All, list_all}
use Rattle.net_model.specs.Laws.{IsIn}
use Rattle.net_model.specs.declared.step.Judged.{Judged}
use Rattle.net_model.specs.declared.step.Judged.TheVariants.{Good}
use Rattle.voe_tree.specs.Document.{Spells}
use Rattle.voe_tree.specs.Identifier.{identifier_of, is_identifier}
use Rattle.voe_tree.specs.Validity.{is_valid, least_broken_in, least_broken_row, rows}
use Rattle.voe_tree.specs.declared.element.Element.{Element}
use Rattle.voe_packet.specs.Drafts.{draft_root, fits_packet, has_identifier, has_identifiers, has_xml_texts, packet_text}
use Rattle.voe_packet.specs.declared.draft.Draft.{Draft}
use Rattle.voe_scenario.specs.Sound.{IsDrafted}
use Rattle.voe_validity.specs.Judging.{IsJudged}
use Rattle.voevent_cli.proofs.Places.{each_in}

-- what the laws of drafts say
pub record DraftLaws : Type 0 where
  pub spells : (d : Draft) → IsTrue (has_identifiers d) → IsTrue (has_xml_texts d) → IsTrue (fits_packet d) → Spells (draft_root d) (packet_text d)
  pub valid : (d : Draft) → IsTrue (has_identifiers d) → IsTrue (is_valid (draft_root d))

both : (a b : Bool) → (a && b) ≡ true → (a ≡ true) × (b ≡ true)
both true b e = (refl, e)
both false b e = absurd (cc)

-- a tree that meets all rows breaks none
unbroken : (n : ℕ) (of : List (Element → Bool)) (root : Element) → list_all (λ row. row root) of ≡ true → least_broken_in n (map (λ (row : Element → Bool). row root) of) ≡ None
unbroken n [] root all = refl
unbroken n (row ∷ more) root all =
    let parts = both (row root) (list_all (λ other. other root) more) all in
    subst (λ b. least_broken_in n (b ∷ map (λ (other : Element → Bool). other root) more) ≡ None) (sym parts.0) (unbroken (1 + n) more root parts.1)

valid_root : (root : Element) → is_valid root ≡ true → least_broken_row root ≡ None
valid_root root valid = unbroken 1 rows root valid

-- the identifier of a draft is that of its tree
named : (d : Draft) → has_identifiers d ≡ true → Some d.identifier ≡ identifier_of (draft_root d)
named d are =
    let parts = both (is_identifier d.identifier) (list_all has_identifier d.citations) are in
    sym (ap (λ b. if b then Some d.identifier else None) parts.0)

pub drafted_good : DraftLaws → (packet : List ℕ) → IsDrafted packet → (judged : Judged) × IsJudged packet judged
drafted_good laws packet is =
    let d = is.draft in (
      Good d.identifier,
      subst (λ p. IsJudged p (Good d.identifier)) (sym is.written)
          (draft_root d, laws.spells d is.identifiers is.texts is.fits, (valid_root (draft_root d) (laws.valid d is.identifiers), named d is.identifiers)),
    )

-- each packet has a judgement
pub all_judged : DraftLaws → (packets : List (List ℕ)) → All IsDrafted packets → (packet : List ℕ) → IsIn packet packets → (judged : Judged) × IsJudged packet judged
all_judged laws packets drafted packet is = drafted_good laws packet (each_in IsDrafted packets packet drafted is)
