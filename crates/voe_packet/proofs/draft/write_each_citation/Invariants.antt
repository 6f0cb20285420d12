use Rattle.std.proofs.Common.{◌≡◌, ◌+◌, ◌++◌, true, drop, length}
use Rattle.std.specs.List.{flat_map, list_all}
use Rattle.voe_tree.specs.Canonical.{all_written}
use Rattle.voe_packet.specs.Drafts.{has_identifier}
use Rattle.voe_packet.specs.DraftTokens.{citation_tokens}
use Rattle.voe_packet.proofs.draft.write_each_citation.Given as goal

abbrev pub invariant-loop-citation : goal.invariant-loop-citation
invariant-loop-citation l = record {
  bytes : l.writer.bytes.items ++ all_written (flat_map citation_tokens (drop l.citation-index l.citations))
      ≡ l.initial.writer.bytes.items ++ all_written (flat_map citation_tokens l.citations);
  tokens : l.writer.tokens + length (flat_map citation_tokens (drop l.citation-index l.citations)) ≡ l.initial.writer.tokens + length (flat_map citation_tokens l.citations);
  identifiers : list_all has_identifier (drop l.citation-index l.citations) ≡ true → list_all has_identifier l.citations ≡ true;
}
