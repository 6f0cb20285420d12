-- The table of the bytes of names has the rule's answer at each byte.
use Rattle.std.proofs.Common.{◌≡◌, ◌<◌, ◌&&◌, ◌⊎◌, inl, inr, ℕ, zero, suc, Bool, true, false, cond, get_or, refl, arith}
use Rattle.std.specs.Prelude.{not}
use Rattle.xml_lexer.specs.Scan.{in_name}
use Rattle.xml_lexer.proofs.Runs.{both}
use Rattle.xml_lexer.specs.declared.characters.TheConstants.{IN_NAME}

abbrev agrees : Bool → Bool → Bool
agrees a b = cond a b (not b)

agreed : (a b : Bool) → agrees a b ≡ true → a ≡ b
agreed true true h = refl
agreed true false h = cc
agreed false true h = cc
agreed false false h = refl

abbrev agrees_below : ℕ → Bool
agrees_below zero = true
agrees_below (suc n) = agrees (get_or IN_NAME n false) (in_name n) && agrees_below n

at : (n b : ℕ) → agrees_below n ≡ true → b < n → get_or IN_NAME b false ≡ in_name b
at zero b h lt = absurd (omega arith)
at (suc n) b h lt =
    let t = both (agrees (get_or IN_NAME n false) (in_name n)) (agrees_below n) h in
    elim (last_or_before b n lt) [ inl e ↦ rw e (agreed _ _ t.0) | inr before ↦ at n b t.1 before ]
  where
    last_or_before : (b n : ℕ) → b < suc n → (b ≡ n) ⊎ (b < n)
    last_or_before b n lt = grind arith

pub in_table : (b : ℕ) → b < 256 → get_or IN_NAME b false ≡ in_name b
in_table b lt = at 256 b refl lt
