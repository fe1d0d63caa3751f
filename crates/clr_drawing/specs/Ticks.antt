-- Ticks at the multiples of a step. What leaves 64 bits stops at their limit.
use Rattle.std.specs.Prelude.{ℕ, ℤ, pos, ◌+ℤ◌, ◌-ℤ◌, ◌*ℤ◌, List, [], ◌∷◌, filter, map, int_le, int_lt, if◌then◌else◌}
use Rattle.std.specs.Int.{int_rem_euclid}
use Rattle.std.specs.List.{range_with_len}
use Rattle.std.specs.Ordering.{int_eq}
use Rattle.clr_svg.specs.Lengths.{stopped}
use Rattle.clr_drawing.specs.declared.round_numbers.TheConstants.{MOST_TICKS}

-- how far a number is beyond the multiple of a step before it
unfoldable pub beyond : ℤ → ℤ → ℤ
beyond number step = if int_lt (pos 0) step then int_rem_euclid number step else pos 0

-- the least multiple of a step that is at least a number
unfoldable pub first_tick : ℤ → ℤ → ℤ
first_tick low step = if int_eq (beyond low step) (pos 0) then low else stopped (low +ℤ stopped (step -ℤ beyond low step))

unfoldable pub tick_at : ℤ → ℤ → ℕ → ℤ
tick_at first step n = stopped (first +ℤ stopped (step *ℤ pos n))

-- a number, if it is at most another
abbrev pub up_to : ℤ → ℤ → List ℤ
up_to high n = if int_le n high then n ∷ [] else []

-- of the first so many multiples of a step from a number on those that are at most another
unfoldable pub first_ticks : ℤ → ℤ → ℤ → ℕ → List ℤ
first_ticks low high step count = filter (λ tick. int_le tick high) (map (tick_at (first_tick low step) step) (range_with_len 0 count))

abbrev pub ticks_of : ℤ → ℤ → ℤ → List ℤ
ticks_of low high step = first_ticks low high step MOST_TICKS
