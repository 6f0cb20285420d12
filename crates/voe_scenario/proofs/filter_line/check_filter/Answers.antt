-- What is refused as a path is no filter.
use Rattle.voe_scenario.proofs.filter_line.check_filter.Goals as goal

pub returns-in-Err-clause-refused : goal.returns-in-Err-clause-refused
returns-in-Err-clause-refused c =
    c.line_fault.ensures c.args.text.now
    (λ isnt filter. isnt (c.read_is_not_refused.ensures c.args.text.now filter.0 _ filter.1 c.in-Err.ensures.refuses))
