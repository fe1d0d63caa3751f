use Rattle.std.proofs.Common.{◌≡◌, ◌+◌, ◌++◌, [], ℕ, ℤ, arith, refl}
use Rattle.std.specs.Prelude.{int_le}
use Rattle.std.proofs.lemmas.List.FromFn.{filter_of_map_range_with_len_more}
use Rattle.clr_drawing.specs.Ticks.{first_tick, first_ticks, tick_at, up_to}

-- one tick more
pub next_tick : (low high step : ℤ) (n : ℕ) → first_ticks low high step (n + 1) ≡ first_ticks low high step n
    ++ up_to high (tick_at (first_tick low step) step n)
unfolding first_ticks
next_tick low high step n = filter_of_map_range_with_len_more (λ tick. int_le tick high) (tick_at (first_tick low step) step) 0 n n (omega arith)

pub no_tick : (low high step : ℤ) → first_ticks low high step 0 ≡ []
unfolding first_ticks
no_tick low high step = refl
