use Rattle.std.proofs.Common.{◌≡◌, ◌<◌, ◌+◌, ℕ, false, Some}
use Rattle.clr_rows.specs.Parts.{part_of}
use Rattle.clr_row_versions.specs.Serving.{is_on_part}
use Rattle.clr_row_versions.proofs.serving.is_on_shape.Given as goal

-- the place is a point of none of the parts so far
abbrev pub invariant-loop-position : goal.invariant-loop-position
invariant-loop-position l = (j : ℕ) → j < l.position → is_on_part (Some l.place) (part_of l.shape (j + 1)) ≡ false
