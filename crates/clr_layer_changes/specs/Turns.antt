-- Something that changes with each item of a list.
use Rattle.std.specs.Prelude.{ℕ, ◌+◌, List, [], ◌∷◌, Result, Ok}
use Rattle.clr_readings.specs.Readings.{◌>>=◌}

-- what is left of something after each item with its number, from n on, up to the first fault
unfoldable pub after_each : {X S E : Type 0} → (ℕ → S → X → Result S E) → ℕ → S → List X → Result S E
after_each f n s [] = Ok s
after_each f n s (x ∷ xs) = f n s x >>= λ next. after_each f (n + 1) next xs
