-- What is written of a draft spells a valid packet with its parts, or is refused exactly where it is too large.
use Rattle.std.proofs.Common.{◌≡◌, ℕ, Bool, true, false, length, refl, sym, ◌∙◌, ap, subst}
use Rattle.std.specs.Prelude.{◌&&◌, not, Result, Ok, Err, IfErr, IfOk, IsTrue, MatchResult, codes}
use Rattle.std.proofs.lemmas.Bool.{and_from}
use Rattle.xml_lexer.specs.Characters.{Text, is_name}
use Rattle.xml_lexer.specs.Spelling.{same}
use Rattle.voe_tree.specs.Texts.{is_xml_text}
use Rattle.voe_tree.specs.Shape.{is_local_name}
use Rattle.voe_tree.specs.Canonical.{is_short}
use Rattle.voe_tree.specs.Document.{Spells}
use Rattle.voe_tree.specs.Prefixed.{is_prefix}
use Rattle.voe_tree.specs.Writing.{are_few}
use Rattle.voe_tree.specs.declared.write.WriteFault.{WriteFault}
use Rattle.voe_tree.specs.declared.write.WriteFault.TheVariants.{TooLarge}
use Rattle.voe_tree.proofs.PrefixedDocument.{prefixed-spells}
use Rattle.voe_tree.proofs.WrittenXml.{ascii_xml}
use Rattle.voe_packet.specs.Drafts.{RefusesDraft, draft_root, fits_packet, has_identifiers, has_xml_texts, packet_text, packet_tokens}
use Rattle.voe_packet.specs.DraftTokens.{draft_tokens}
use Rattle.voe_packet.specs.declared.draft.Draft.{Draft}
use Rattle.voe_packet.proofs.DraftTrees.{draft-well_formed}
use Rattle.voe_packet.proofs.Written.{fits-is, packet-prefixed}

voe_prefix : is_prefix (codes "voe") ≡ true
voe_prefix = and_from (is_local_name (codes "voe") && not (same (codes "voe") (codes "xml"))) true (and_from (is_local_name (codes "voe")) true (and_from (is_name (codes "voe")) (is_xml_text (codes "voe")) refl (ascii_xml (codes "voe") refl)) refl) refl

pub draft-spells : (d : Draft) → has_identifiers d ≡ true → has_xml_texts d ≡ true → fits_packet d ≡ true → Spells (draft_root d) (packet_text d)
draft-spells d named texts fits =
    subst (Spells (draft_root d)) (packet-prefixed d)
    (prefixed-spells (codes "voe") (draft_root d) voe_prefix refl (draft-well_formed d named texts)
    (ap (λ s. is_short (length s) (packet_tokens d)) (packet-prefixed d) ∙ fits))

-- ---- what the writer ends with

few-fits : (d : Draft) (bytes : Text) (tokens : ℕ) (t : Bool) → bytes ≡ packet_text d → tokens ≡ length (draft_tokens d) → are_few (length bytes) tokens ≡ t → fits_packet d ≡ t
few-fits d bytes tokens t text count h =
    fits-is d ∙ ap (λ s. are_few (length s) (length (draft_tokens d))) (sym text) ∙ ap (are_few (length bytes)) (sym count) ∙ h

pub finished_text : (r : Result Text WriteFault) (d : Draft) (bytes : Text) (tokens : ℕ) → bytes ≡ packet_text d → tokens ≡ length (draft_tokens d) →
    IfOk r (λ b. (b ≡ bytes) × IsTrue (are_few (length bytes) tokens)) → IfErr r (λ f. (f ≡ TooLarge) × (are_few (length bytes) tokens ≡ false)) →
    MatchResult r (λ b. (b ≡ packet_text d) × IsTrue (fits_packet d)) (λ f. RefusesDraft d f)
finished_text (Ok b) d bytes tokens text count few many = (few.0 ∙ text, few-fits d bytes tokens true text count few.1)
finished_text (Err f) d bytes tokens text count few many = subst (RefusesDraft d) (sym many.0) (few-fits d bytes tokens false text count many.1)

pub finished_spells : (r : Result Text WriteFault) (d : Draft) → has_identifiers d ≡ true → has_xml_texts d ≡ true →
    MatchResult r (λ b. (b ≡ packet_text d) × IsTrue (fits_packet d)) (λ f. RefusesDraft d f) → IfOk r (λ b. Spells (draft_root d) b)
finished_spells (Ok b) d named texts h = subst (Spells (draft_root d)) (sym h.0) (draft-spells d named texts h.1)
finished_spells (Err f) d named texts h = tt

pub where_ok : (r : Result Text WriteFault) (P : Type 0) → P → IfOk r (λ b. P)
where_ok (Ok b) P h = h
where_ok (Err f) P h = tt
