-- Texts on one line.
use Rattle.std.proofs.Common.{◌≡◌, ◌≢◌, ◌∙◌, ℕ, suc, ◌<◌, Bool, true, false, List, [], ◌∷◌, ◌++◌, ◌==◌, length, map, get_or, refl, ap, cond, arith, eqb-true}
use Rattle.std.proofs.lemmas.List.{map-append}
use Rattle.clr_phrases.specs.Rows.{byte_on_one_line}

byte_by : (is : Bool) (b : ℕ) → (b == 10) ≡ is → b ≢ 10 → cond is 32 b ≡ b
byte_by true b same other = absurd (other (eqb-true b 10 same))
byte_by false b _ _ = refl

byte_stays : (b : ℕ) → b ≢ 10 → byte_on_one_line b ≡ b
byte_stays b other = byte_by (b == 10) b refl other

-- a text without a line end stands on one line as it is
pub line_stays : (line : List ℕ) → ((i : ℕ) → i < length line → get_or line i 0 ≢ 10) → map byte_on_one_line line ≡ line
line_stays [] _ = refl
line_stays (b ∷ line) none =
    let here : byte_on_one_line b ≡ b = byte_stays b (none 0 (omega arith)) in
    let rest = line_stays line (λ i below. none (suc i) (omega (arith, below))) in
    cc

-- a line, its end, and what stands behind it
pub line_and_rest : (line behind : List ℕ) → ((i : ℕ) → i < length line → get_or line i 0 ≢ 10)
    → map byte_on_one_line (line ++ 10 ∷ behind) ≡ line ++ 32 ∷ map byte_on_one_line behind
line_and_rest line behind none = map-append byte_on_one_line line (10 ∷ behind) ∙ ap (λ front. front ++ 32 ∷ map byte_on_one_line behind) (line_stays line none)
