use Rattle.std.proofs.Common.{None, Some, refl, sym, ◌∙◌}
use Rattle.filter_text.specs.Machine.{beginning, walk, unfinished, condition, a_path}
use Rattle.filter_text.specs.Phases.{IsRead}
use Rattle.filter_tokens.specs.TokenView.{placed_views}
use Rattle.filter_text.specs.View.{path_of}
use Rattle.filter_text.proofs.TokensRead.{nothing-some, stops-walk, unfinished-stops, read-sentence, condition-no_path, path-is}
use Rattle.filter_text.proofs.read.read_tokens.Goals as goal

pub returns-in-Err-clause-cause : goal.returns-in-Err-clause-cause
returns-in-Err-clause-cause c =
    let inside = sym c.first_outside.ensures ∙ nothing-some c.first_outside.result c.in_default.not-Some in
    stops-walk (placed_views c.args.tokens.now) c.args.end c.in-Err.fault inside c.in-Err.ensures

pub returns-in-Ok-Unfinished-clause-cause : goal.returns-in-Ok-Unfinished-clause-cause
returns-in-Ok-Unfinished-clause-cause c =
    let inside = sym c.first_outside.ensures ∙ nothing-some c.first_outside.result c.in_default.not-Some in
    let read : IsRead (walk (placed_views c.args.tokens.now) beginning) unfinished = rw c.in-Ok-Unfinished.field-0-is at c.in-Ok-Unfinished.ensures in
    (inside, unfinished-stops (placed_views c.args.tokens.now) c.args.end read)

pub returns-in-Some-first_too_deep-clause-cause : goal.returns-in-Some-first_too_deep-clause-cause
returns-in-Some-first_too_deep-clause-cause c =
    let inside = sym c.first_outside.ensures ∙ nothing-some c.first_outside.result c.in_default.not-Some in
    let read : IsRead (walk (placed_views c.args.tokens.now) beginning) condition = rw c.in-Ok-Condition.field-0-is at c.in-Ok-Condition.ensures in
    (inside, (read-sentence (placed_views c.args.tokens.now) None read).sentence, sym c.first_too_deep.ensures ∙ c.in-Some-first_too_deep.is)

pub returns-in-None-clause-cause : goal.returns-in-None-clause-cause
returns-in-None-clause-cause c =
    let inside = sym c.first_outside.ensures ∙ nothing-some c.first_outside.result c.in_default.not-Some in
    let read : IsRead (walk (placed_views c.args.tokens.now) beginning) condition = rw c.in-Ok-Condition.field-0-is at c.in-Ok-Condition.ensures in
    let s = read-sentence (placed_views c.args.tokens.now) None read in
    (inside, s.sentence, sym c.first_too_deep.ensures ∙ c.in-None.is, condition-no_path (placed_views c.args.tokens.now) s, refl)

pub returns-in-Some-first_too_deep-2-clause-cause : goal.returns-in-Some-first_too_deep-2-clause-cause
returns-in-Some-first_too_deep-2-clause-cause c =
    let inside = sym c.first_outside.ensures ∙ nothing-some c.first_outside.result c.in_default.not-Some in
    let read : IsRead (walk (placed_views c.args.tokens.now) beginning) (a_path (path_of c.in-Ok-Path.path)) = rw c.in-Ok-Path.field-0-is at c.in-Ok-Path.ensures in
    (inside, (read-sentence (placed_views c.args.tokens.now) (Some (path_of c.in-Ok-Path.path)) read).sentence, sym c.first_too_deep-in-Ok-Path.ensures ∙ c.in-Some-first_too_deep-2.is)

pub returns-in-None-first_too_deep-clause-cause : goal.returns-in-None-first_too_deep-clause-cause
returns-in-None-first_too_deep-clause-cause c =
    let inside = sym c.first_outside.ensures ∙ nothing-some c.first_outside.result c.in_default.not-Some in
    let read : IsRead (walk (placed_views c.args.tokens.now) beginning) (a_path (path_of c.in-Ok-Path.path)) = rw c.in-Ok-Path.field-0-is at c.in-Ok-Path.ensures in
    let s = read-sentence (placed_views c.args.tokens.now) (Some (path_of c.in-Ok-Path.path)) read in
    record {
      inside = inside;
      spelled = path_of c.in-Ok-Path.path;
      is_path = path-is (placed_views c.args.tokens.now) (path_of c.in-Ok-Path.path) s;
      shallow = sym c.first_too_deep-in-Ok-Path.ensures ∙ c.in-None-first_too_deep.is;
      is_filter = c.at_document.ensures.value;
    }
