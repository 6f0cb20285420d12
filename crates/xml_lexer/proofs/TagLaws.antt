-- Tags are read exactly where they are spelled.
use Rattle.std.proofs.Common.{◌≡◌, true, ◌∷◌, ◌++◌, Some, refl, ◌∙◌, ap}
use Rattle.std.specs.List.{prefix_len}
use Rattle.xml_lexer.specs.Characters.{Text, is_blank, is_spelled_name}
use Rattle.xml_lexer.specs.Spelling.{AreBlanks}
use Rattle.xml_lexer.specs.Scan.{in_name, name_at, byte_at, skip_blanks, end_tag_at}
use Rattle.xml_lexer.proofs.Runs.{bind-then, same_pair, byte_at-some}
use Rattle.xml_lexer.proofs.NameLaws.{name-stops, name_at-complete, name_at-sound, skip_blanks-complete, skip_blanks-sound}

pub end_tag_at-complete : (name gap rest : Text) → is_spelled_name name ≡ true → AreBlanks gap → end_tag_at (name ++ (gap ++ (62 ∷ rest))) ≡ Some (name, rest)
unfolding end_tag_at
end_tag_at-complete name gap rest spelled blanks =
    rw (name_at-complete name (gap ++ (62 ∷ rest)) spelled (name-stops gap 62 rest blanks refl), skip_blanks-complete gap (62 ∷ rest) blanks refl) refl

pub end_tag_at-sound : (s name rest : Text) → end_tag_at s ≡ Some (name, rest) → (gap : Text) × (is_spelled_name name ≡ true) × AreBlanks gap × (s ≡ name ++ (gap ++ (62 ∷ rest)))
unfolding end_tag_at
end_tag_at-sound s name rest h =
    bind-then (name_at s) _ _ h (λ x named h1.
    bind-then (byte_at 62 (skip_blanks x.1)) _ _ h1 (λ r closed h2.
    let same = same_pair x.0 name r rest h2 in
    joined x.0 x.1 r same.0 same.1 (name_at-sound s x.0 x.1 named) (skip_blanks-sound x.1) (byte_at-some 62 (skip_blanks x.1) r closed)))
  where
    joined : (n behind r : Text) → n ≡ name → r ≡ rest → (is_spelled_name n ≡ true) × (s ≡ n ++ behind) × (prefix_len in_name behind ≡ 0) →
        (gap : Text) × AreBlanks gap × (behind ≡ gap ++ skip_blanks behind) × (prefix_len is_blank (skip_blanks behind) ≡ 0) → skip_blanks behind ≡ 62 ∷ r →
        (gap : Text) × (is_spelled_name name ≡ true) × AreBlanks gap × (s ≡ name ++ (gap ++ (62 ∷ rest)))
    joined n behind r e1 e2 a b c = (b.0, rw (← e1) a.0, b.1, a.1 ∙ ap (λ u. u ++ behind) e1 ∙ ap (λ u. name ++ u) (b.2 ∙ ap (λ u. b.0 ++ u) (c ∙ ap (λ u. 62 ∷ u) e2)))
