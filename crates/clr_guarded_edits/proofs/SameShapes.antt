-- The test of shapes tells whether they are the same.
use Rattle.std.proofs.Common.{◌≡◌, [], true, Option, Some, None, ap, subst}
use Rattle.std.specs.Prelude.{Decides}
use Rattle.clr_rows.specs.declared.places.Shape.{Shape}
use Rattle.clr_rows.specs.declared.places.Shape.TheVariants.{Bare}
use Rattle.clr_rows.specs.declared.rows.Row.{Row}
use Rattle.clr_rows.specs.Same.{same, same_shape}
use Rattle.clr_rows.proofs.SameLemmas.{same_is, same_itself}

-- a row with this shape alone
row_of : Shape → Option Row
row_of shape = Some (record { values = []; shape = shape })

shape_in : Option Row → Shape
shape_in None = Bare
shape_in (Some row) = row.shape

pub shape_decides : (a b : Shape) → Decides (same_shape a b) (a ≡ b)
unfolding same row_of shape_in
shape_decides a b = (λ e. ap shape_in (same_is (row_of a) (row_of b) e), λ e. subst (λ (s : Shape). same_shape a s ≡ true) e (same_itself (row_of a)))
