-- The greatest sizes of what is computed from coordinates in range.
use Rattle.std.specs.Prelude.{ℕ, ◌*◌}
use Rattle.clr_rows.specs.declared.limits.TheConstants.{GREATEST_COORDINATE}

-- the greatest difference of two coordinates
abbrev pub greatest_difference : ℕ
greatest_difference = 2 * GREATEST_COORDINATE

-- the greatest product of two differences
abbrev pub greatest_product : ℕ
greatest_product = greatest_difference * greatest_difference
