use Rattle.std.proofs.Common.{◌≡◌, true, ◌+◌, ◌++◌, length, sym, ◌∙◌, ap}
use Rattle.std.specs.List.{list_all}
use Rattle.std.proofs.lemmas.Bool.{and_from}
use Rattle.voe_tree.specs.Canonical.{all_written}
use Rattle.voe_tree.specs.Identifier.{is_identifier}
use Rattle.voe_tree.specs.Validity.{is_valid}
use Rattle.voe_packet.specs.Parts.{packet_of}
use Rattle.voe_packet.specs.Drafts.{draft_root, drafted_packet, has_identifier, has_identifiers, packet_text}
use Rattle.voe_packet.specs.DraftTokens.{cited_tokens, draft_tokens, what_tokens}
use Rattle.voe_packet.proofs.DraftTrees.{draft-parts, draft-valid}
use Rattle.voe_packet.proofs.Spelled.{finished_spells, finished_text, where_ok}
use Rattle.voe_packet.proofs.Written.{counted_whole, written_whole}
use Rattle.voe_packet.proofs.draft.write_packet.Goals as goal

-- the identifiers of the draft are such, since the writer was lent them
named : (c : goal.After-finished) → has_identifiers c.args.draft.now ≡ true
named c =
    and_from (is_identifier c.args.draft.now.identifier) (list_all has_identifier c.args.draft.now.citations) c.in_ok-write_root.ensures.identifier
    (ap (list_all has_identifier) (sym c.as_slice-2.ensures) ∙ c.in_ok-write_citations.ensures.identifiers)

pub returns-clause-text : goal.returns-clause-text
returns-clause-text c =
    let text : c.end_tag.new.self.bytes.items ≡ packet_text c.args.draft.now =
    written_whole c.args.draft.now c.new-writer.result.bytes.items c.write_root.new.writer.bytes.items c.write_params.new.writer.bytes.items
    c.write_citations.new.writer.bytes.items c.end_tag.new.self.bytes.items c.new-writer.ensures.bytes c.in_ok-write_root.ensures.bytes
    (c.in_ok-write_params.ensures.bytes ∙ ap (λ ps. c.write_root.new.writer.bytes.items ++ all_written (what_tokens ps)) c.as_slice.ensures)
    (c.in_ok-write_citations.ensures.bytes ∙ ap (λ cs. c.write_params.new.writer.bytes.items ++ all_written (cited_tokens cs)) c.as_slice-2.ensures)
    c.in_ok-end_tag.ensures.bytes in
    let count : c.end_tag.new.self.tokens ≡ length (draft_tokens c.args.draft.now) =
    counted_whole c.args.draft.now c.new-writer.result.tokens c.write_root.new.writer.tokens c.write_params.new.writer.tokens
    c.write_citations.new.writer.tokens c.end_tag.new.self.tokens c.new-writer.ensures.tokens c.in_ok-write_root.ensures.tokens
    (c.in_ok-write_params.ensures.tokens ∙ ap (λ ps. c.write_root.new.writer.tokens + length (what_tokens ps)) c.as_slice.ensures)
    (c.in_ok-write_citations.ensures.tokens ∙ ap (λ cs. c.write_params.new.writer.tokens + length (cited_tokens cs)) c.as_slice-2.ensures)
    c.in_ok-end_tag.ensures.tokens in
    finished_text c.finished.result c.args.draft.now c.end_tag.new.self.bytes.items c.end_tag.new.self.tokens text count c.finished.ensures.few c.finished.ensures.many

pub returns-clause-spells : goal.returns-clause-spells
returns-clause-spells c = finished_spells c.finished.result c.args.draft.now (named c) c.requires (returns-clause-text c)

pub returns-clause-valid : goal.returns-clause-valid
returns-clause-valid c = where_ok c.finished.result (is_valid (draft_root c.args.draft.now) ≡ true) (draft-valid c.args.draft.now (named c))

pub returns-clause-parts : goal.returns-clause-parts
returns-clause-parts c = where_ok c.finished.result (packet_of (draft_root c.args.draft.now) ≡ drafted_packet c.args.draft.now) (draft-parts c.args.draft.now (named c))
