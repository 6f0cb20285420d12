-- Words one after another.
use Rattle.std.proofs.Common.{◌≡◌, ℕ, List, [], ◌∷◌, Option, Some, None, IfNone, IfSome, Bor}
use Rattle.voe_scenario.specs.Statements.{words_in}
use Rattle.voe_scenario.specs.Words.{words_of}

pub words_in-cut : (text word : List ℕ) (behind : Option (Bor (List ℕ))) → IfNone behind (words_of text ≡ word ∷ [])
    → IfSome behind (λ rest. words_of text ≡ word ∷ words_of rest.now) → words_of text ≡ word ∷ words_in behind
words_in-cut text word None last first = last
words_in-cut text word (Some rest) last first = first
