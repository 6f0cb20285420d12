use Rattle.std.proofs.Common.{◌+◌, ◌-◌, sym, ◌∙◌, arith, rules}
use Rattle.std.proofs.lemmas.List.{map-append}
use Rattle.xml_lexer.specs.Scan.{tag_end_at, attribute_at}
use Rattle.xml_lexer.specs.View.{all_spelled, spelled}
use Rattle.xml_lexer.proofs.Options.{none_read, some_read}
use Rattle.xml_lexer.proofs.AttributeSteps.{front-end, front-no_blank, front-bad, front-more, front-last}
use Rattle.xml_lexer.proofs.scan.attributes.Goals as goal

pub returns-in-Some : goal.returns-in-Some
returns-in-Some c =
    let h = some_read (λ x. (x.0, x.1.now)) c.tag_end.result (tag_end_at c.skip_blanks-ahead.result.now) _ c.tag_end.ensures c.in-Some.is in
    front-end (all_spelled c.loop.attributes.items) (64 - c.loop.counter) c.loop.rest.now c.in-Some.is_empty c.in-Some.after.now _
    (rw (← c.skip_blanks-ahead.ensures) h) c.loop.invariant.0

pub returns-then-not-starts_with_blank : goal.returns-then-not-starts_with_blank
returns-then-not-starts_with_blank c =
    let h = none_read (λ x. (x.0, x.1.now)) c.tag_end.result (tag_end_at c.skip_blanks-ahead.result.now) c.tag_end.ensures c.in_default.not-Some in
    front-no_blank (all_spelled c.loop.attributes.items) (64 - c.loop.counter) c.loop.rest.now _
    (rw (← c.skip_blanks-ahead.ensures) h) (sym c.starts_with_blank.ensures ∙ c.if-not-starts_with_blank.true) c.loop.invariant.0

pub returns-in_default-attribute : goal.returns-in_default-attribute
returns-in_default-attribute c =
    let h = none_read (λ x. (x.0, x.1.now)) c.tag_end.result (tag_end_at c.skip_blanks-ahead.result.now) c.tag_end.ensures c.in_default.not-Some in
    let a = none_read (λ x. (spelled x.0, x.1.now)) c.attribute.result (attribute_at c.skip_blanks-ahead.result.now) c.attribute.ensures c.in_default-attribute.not-Some in
    front-bad (all_spelled c.loop.attributes.items) (64 - c.loop.counter) c.loop.rest.now _
    (rw (← c.skip_blanks-ahead.ensures) h) (rw (← c.skip_blanks-ahead.ensures) a) c.loop.invariant.0

pub loop-preserved : goal.loop-preserved
loop-preserved c =
    let h = none_read (λ x. (x.0, x.1.now)) c.tag_end.result (tag_end_at c.skip_blanks-ahead.result.now) c.tag_end.ensures c.in_default.not-Some in
    let a = some_read (λ x. (spelled x.0, x.1.now)) c.attribute.result (attribute_at c.skip_blanks-ahead.result.now) _ c.attribute.ensures c.in-Some-attribute.is in (
      rw (c.in_ok-push.ensures.items, map-append)
          (front-more (all_spelled c.loop.attributes.items) (64 - (c.loop.counter + 1)) (64 - c.loop.counter) c.loop.rest.now (spelled c.in-Some-attribute.attribute)
          c.in-Some-attribute.after.now _ (omega arith)
          (rw (← c.skip_blanks-ahead.ensures) h) (sym c.starts_with_blank.ensures ∙ c.if-not-starts_with_blank.false) (rw (← c.skip_blanks-ahead.ensures) a) c.loop.invariant.0),
      search rules,
    )

pub returns-in-None : goal.returns-in-None
returns-in-None c =
    let h = none_read (λ x. (x.0, x.1.now)) c.tag_end-2.result (tag_end_at c.skip_blanks.result.now) c.tag_end-2.ensures (λ x e. (let f = sym c.in-None.is ∙ e in cc)) in
    front-last (all_spelled c.loop.attributes.items) (64 - c.loop.counter) c.loop.rest.now _ (omega arith) (rw (← c.skip_blanks.ensures) h) c.loop.invariant.0

pub returns : goal.returns
returns c =
    let h = some_read (λ x. (x.0, x.1.now)) c.tag_end-2.result (tag_end_at c.skip_blanks.result.now) _ c.tag_end-2.ensures c.in-Some-tag_end.is in
    front-end (all_spelled c.loop.attributes.items) (64 - c.loop.counter) c.loop.rest.now c.in-Some-tag_end.is_empty c.in-Some-tag_end.after.now _
    (rw (← c.skip_blanks.ensures) h) c.loop.invariant.0
