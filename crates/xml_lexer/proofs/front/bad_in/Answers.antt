use Rattle.std.proofs.Common.{◌≡◌, ◌-◌, take, drop, true, sym, ◌∙◌}
use Rattle.std.specs.List.{list_all}
use Rattle.xml_lexer.specs.Scan.{is_clear}
use Rattle.xml_lexer.proofs.Fronts.{clear_chunk}
use Rattle.xml_lexer.proofs.front.bad_in.Goals as goal

pub returns-then-are_clear-clause-value : goal.returns-then-are_clear-clause-value
returns-then-are_clear-clause-value c =
    let clear : list_all is_clear (take (c.args.end - c.args.from) (drop c.args.from c.args.bytes.now)) ≡ true = sym c.are_clear.ensures ∙ c.if-are_clear.true in
    clear_chunk c.args.bytes.now c.args.from c.args.end c.requires.low c.requires.high clear
