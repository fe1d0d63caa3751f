-- Texts that are made piece by piece: the pieces stand behind the text that was there.
use Rattle.std.proofs.Common.{◌≡◌, ◌∙◌, ◌++◌, ℕ, List, ap, append_assoc}

pub three_behind : (old a b c : List ℕ) → ((old ++ a) ++ b) ++ c ≡ old ++ (a ++ b ++ c)
three_behind old a b c = ap (λ (t : List ℕ). t ++ c) (append_assoc old a b) ∙ append_assoc old (a ++ b) c

pub four_behind : (old a b c d : List ℕ) → (((old ++ a) ++ b) ++ c) ++ d ≡ old ++ (a ++ b ++ c ++ d)
four_behind old a b c d = ap (λ (t : List ℕ). t ++ d) (three_behind old a b c) ∙ append_assoc old (a ++ b ++ c) d

pub five_behind : (old a b c d e : List ℕ) → ((((old ++ a) ++ b) ++ c) ++ d) ++ e ≡ old ++ (a ++ b ++ c ++ d ++ e)
five_behind old a b c d e = ap (λ (t : List ℕ). t ++ e) (four_behind old a b c d) ∙ append_assoc old (a ++ b ++ c ++ d) e
