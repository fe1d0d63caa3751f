-- Texts of seven pieces: they stand behind the text that was there.
use Rattle.std.proofs.Common.{◌≡◌, ◌∙◌, ◌++◌, ℕ, List, ap, append_assoc}
use Rattle.clr_plan_answers.proofs.PieceLemmas.{five_behind}

six_behind : (old a b c d e f : List ℕ) → (((((old ++ a) ++ b) ++ c) ++ d) ++ e) ++ f ≡ old ++ (a ++ b ++ c ++ d ++ e ++ f)
six_behind old a b c d e f = ap (λ (t : List ℕ). t ++ f) (five_behind old a b c d e) ∙ append_assoc old (a ++ b ++ c ++ d ++ e) f

pub seven_behind : (old a b c d e f g : List ℕ) → ((((((old ++ a) ++ b) ++ c) ++ d) ++ e) ++ f) ++ g ≡ old ++ (a ++ b ++ c ++ d ++ e ++ f ++ g)
seven_behind old a b c d e f g = ap (λ (t : List ℕ). t ++ g) (six_behind old a b c d e f) ∙ append_assoc old (a ++ b ++ c ++ d ++ e ++ f) g
