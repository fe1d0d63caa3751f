-- Texts on one line.
use Rattle.std.proofs.Common.{◌≡◌, ◌≢◌, ◌∙◌, ℕ, suc, ◌<◌, Bool, true, false, List, [], ◌∷◌, ◌++◌, ◌==◌, length, get_or, refl, ap, cond, arith, eqb-true}
use Rattle.clr_plan_map.specs.Sentences.{byte_before, end_before, one_line}

byte_by : (is : Bool) (b : ℕ) (rest : List ℕ) → (b == 10) ≡ is → b ≢ 10 → cond is (end_before rest) (b ∷ []) ≡ b ∷ []
byte_by true b rest same other = absurd (other (eqb-true b 10 same))
byte_by false b rest _ _ = refl

byte_stays : (b : ℕ) (rest : List ℕ) → b ≢ 10 → byte_before b rest ≡ b ∷ []
byte_stays b rest other = byte_by (b == 10) b rest refl other

-- a byte that is no line end stays before the rest
byte_first : (b : ℕ) (rest : List ℕ) → b ≢ 10 → one_line (b ∷ rest) ≡ b ∷ one_line rest
byte_first b rest other = ap (λ (front : List ℕ). front ++ one_line rest) (byte_stays b rest other)

-- a text without a line end stands on one line as it is
pub line_stays : (line : List ℕ) → ((i : ℕ) → i < length line → get_or line i 0 ≢ 10) → one_line line ≡ line
line_stays [] _ = refl
line_stays (b ∷ line) none =
    byte_first b line (none 0 (omega arith)) ∙ ap (λ (more : List ℕ). b ∷ more) (line_stays line (λ i below. none (suc i) (omega (arith, below))))

-- a line, its end, and what stands behind it
pub line_and_rest : (line behind : List ℕ) → ((i : ℕ) → i < length line → get_or line i 0 ≢ 10)
    → one_line (line ++ 10 ∷ behind) ≡ line ++ (end_before behind ++ one_line behind)
line_and_rest [] behind none = refl
line_and_rest (b ∷ line) behind none =
    byte_first b (line ++ 10 ∷ behind) (none 0 (omega arith))
    ∙ ap (λ (more : List ℕ). b ∷ more) (line_and_rest line behind (λ i below. none (suc i) (omega (arith, below))))
