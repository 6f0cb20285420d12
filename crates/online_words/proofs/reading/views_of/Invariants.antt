use Rattle.std.proofs.Common.{◌≡◌, ◌++◌, drop, map}
use Rattle.online_words.proofs.reading.views_of.Given as goal

abbrev pub invariant-loop-word : goal.invariant-loop-word
invariant-loop-word l = map (λ s. s.now) l.views.items ++ drop l.word-index l.words ≡ l.words
