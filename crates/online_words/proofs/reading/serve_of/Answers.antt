use Rattle.std.proofs.Common.{inr, rules}
use Rattle.clap.specs.Matches.{found_of}
use Rattle.clap.specs.Walk.{rows_of}
use Rattle.online_words.proofs.Asking.{no_serve}
use Rattle.online_words.proofs.reading.serve_of.Goals as goal

pub returns-in_default-count_of : goal.returns-in_default-count_of
returns-in_default-count_of c = no_serve (rows_of (found_of c.args.found.now)) (inr (inr (inr (search rules))))
