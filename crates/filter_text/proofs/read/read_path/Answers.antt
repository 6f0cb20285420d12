use Rattle.std.proofs.Common.{◌≡◌, ◌<◌, ◌≤◌, List, [], length, Result, Ok, Err, subst, arith}
use Rattle.std.specs.Prelude.{IfOk, IfErr, MatchResult}
use Rattle.filter_text.specs.Filter.{Text}
use Rattle.filter_tokens.specs.Token.{Placed}
use Rattle.filter_text.specs.Phases.{ReadsTokens, RefusesTokens}
use Rattle.filter_text.specs.Reading.{Reads}
use Rattle.filter_text.specs.Refusal.{Refuses}
use Rattle.filter_tokens.specs.Scan.{cut_of}
use Rattle.filter_text.specs.Size.{IsSmall}
use Rattle.filter_tokens.specs.TokenView.{placed_views}
use Rattle.filter_text.specs.View.{path_of}
use Rattle.filter_tokens.specs.declared.token.Placed.{Placed as CodePlaced}
use Rattle.filter_text.specs.declared.filter.Path.{Path as CodePath}
use Rattle.filter_text.specs.declared.fault.FilterFault.{FilterFault}
use Rattle.filter_text.proofs.TokensRead.{bad-token, reads-text, refuses-text, rest-within, some-bytes, no-bytes, not-empty}
use Rattle.filter_text.proofs.Exclusion.{small}
use Rattle.filter_text.proofs.read.read_path.Goals as goal

read-ok : (s : Text) (ks : List Placed) (rest : Text) (r : Result CodePath FilterFault) → 0 < length s → length s ≤ 1024 → ◌≡◌ {A = List Placed × Text} (ks, rest) (cut_of s) → rest ≡ [] →
    MatchResult r (λ p. ReadsTokens (path_of p) ks) (λ fault. RefusesTokens ks (length s) fault) → IfOk r (λ p. Reads (path_of p) s)
read-ok s ks rest (Ok p) some few e none h = reads-text s ks rest (path_of p) some few e none h
read-ok s ks rest (Err fault) some few e none h = tt

read-err : (s : Text) (ks : List Placed) (rest : Text) (r : Result CodePath FilterFault) → 0 < length s → length s ≤ 1024 → ◌≡◌ {A = List Placed × Text} (ks, rest) (cut_of s) → rest ≡ [] →
    MatchResult r (λ p. ReadsTokens (path_of p) ks) (λ fault. RefusesTokens ks (length s) fault) → IfErr r (λ fault. Refuses s fault)
read-err s ks rest (Ok p) some few e none h = tt
read-err s ks rest (Err fault) some few e none h = refuses-text s ks rest fault some few e none h

pub overflow_sub-place : goal.overflow_sub-place
overflow_sub-place c = rest-within c.args.text.now (placed_views c.in_ok-tokens.tokens.items) c.in_ok-tokens.rest.now (some-bytes c.args.text.now c.is_empty.result c.is_empty.ensures c.if-is_empty.false) (omega arith) c.in_ok-tokens.ensures

pub returns-then-not-is_empty-clause-refuses : goal.returns-then-not-is_empty-clause-refuses
returns-then-not-is_empty-clause-refuses c = bad-token c.args.text.now (placed_views c.in_ok-tokens.tokens.items) c.in_ok-tokens.rest.now (some-bytes c.args.text.now c.is_empty.result c.is_empty.ensures c.if-is_empty.false) (omega arith) c.in_ok-tokens.ensures (not-empty c.in_ok-tokens.rest.now c.is_empty-2.result c.is_empty-2.ensures c.if-not-is_empty.true)

pub returns-clause-reads : goal.returns-clause-reads
returns-clause-reads c = read-ok c.args.text.now (placed_views c.in_ok-tokens.tokens.items) c.in_ok-tokens.rest.now c.read_tokens.result (some-bytes c.args.text.now c.is_empty.result c.is_empty.ensures c.if-is_empty.false) (omega arith) c.in_ok-tokens.ensures
    (no-bytes c.in_ok-tokens.rest.now c.is_empty-2.result c.is_empty-2.ensures c.if-not-is_empty.false)
    (subst (λ (x : List CodePlaced). MatchResult c.read_tokens.result (λ p. ReadsTokens (path_of p) (placed_views x)) (λ fault. RefusesTokens (placed_views x) (length c.args.text.now) fault)) c.as_slice.ensures.value c.read_tokens.ensures.cause)

pub returns-clause-refuses : goal.returns-clause-refuses
returns-clause-refuses c = read-err c.args.text.now (placed_views c.in_ok-tokens.tokens.items) c.in_ok-tokens.rest.now c.read_tokens.result (some-bytes c.args.text.now c.is_empty.result c.is_empty.ensures c.if-is_empty.false) (omega arith) c.in_ok-tokens.ensures
    (no-bytes c.in_ok-tokens.rest.now c.is_empty-2.result c.is_empty-2.ensures c.if-not-is_empty.false)
    (subst (λ (x : List CodePlaced). MatchResult c.read_tokens.result (λ p. ReadsTokens (path_of p) (placed_views x)) (λ fault. RefusesTokens (placed_views x) (length c.args.text.now) fault)) c.as_slice.ensures.value c.read_tokens.ensures.cause)

read-small : (s : Text) (r : Result CodePath FilterFault) → IfOk r (λ p. Reads (path_of p) s) → IfOk r (λ p. IsSmall (path_of p))
read-small s (Ok p) h = small s (path_of p) h
read-small s (Err fault) h = tt

pub returns-clause-small : goal.returns-clause-small
returns-clause-small c =
    read-small c.args.text.now c.read_tokens.result
    (read-ok c.args.text.now (placed_views c.in_ok-tokens.tokens.items) c.in_ok-tokens.rest.now c.read_tokens.result (some-bytes c.args.text.now c.is_empty.result c.is_empty.ensures c.if-is_empty.false) (omega arith) c.in_ok-tokens.ensures
    (no-bytes c.in_ok-tokens.rest.now c.is_empty-2.result c.is_empty-2.ensures c.if-not-is_empty.false)
    (subst (λ (x : List CodePlaced). MatchResult c.read_tokens.result (λ p. ReadsTokens (path_of p) (placed_views x)) (λ fault. RefusesTokens (placed_views x) (length c.args.text.now) fault)) c.as_slice.ensures.value c.read_tokens.ensures.cause))
