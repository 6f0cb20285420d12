use Rattle.std.proofs.Common.{◌≡◌, ◌++◌, drop, map}
use Rattle.online_words.proofs.reading.texts_of.Given as goal

abbrev pub invariant-loop-word : goal.invariant-loop-word
invariant-loop-word l = l.texts.items ++ map (λ s. s.now) (drop l.word-index l.words) ≡ map (λ s. s.now) l.words
