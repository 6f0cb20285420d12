use Rattle.voe_packet.proofs.Written.{citation_bytes, citation_counts, citation_named}
use Rattle.voe_packet.proofs.draft.write_each_citation.Goals as goal

pub loop-citation-preserved : goal.loop-citation-preserved
loop-citation-preserved c = record {
  bytes = citation_bytes c.args.citations.now c.loop-citation.citation-index c.citation-item.result c.loop-citation-test.true c.citation-item.is _
      c.loop-citation.writer.bytes.items c.write_citation.new.writer.bytes.items c.loop-citation.invariant.bytes c.in_ok-write_citation.ensures.bytes;
  tokens = citation_counts c.args.citations.now c.loop-citation.citation-index c.citation-item.result c.loop-citation-test.true c.citation-item.is _
      c.loop-citation.writer.tokens c.write_citation.new.writer.tokens c.loop-citation.invariant.tokens c.in_ok-write_citation.ensures.tokens;
  identifiers = citation_named c.args.citations.now c.loop-citation.citation-index c.citation-item.result c.loop-citation-test.true c.citation-item.is
      c.in_ok-write_citation.ensures.identifier c.loop-citation.invariant.identifiers;
}
