use Rattle.std.proofs.Common.{◌≡◌, Option, Some, None, [], ap, subst, true}
use Rattle.std.specs.Bool.{Decides}
use Rattle.clr_rows.specs.declared.places.Shape.{Shape}
use Rattle.clr_rows.specs.declared.places.Shape.TheVariants.{Bare}
use Rattle.clr_rows.specs.declared.rows.Row.{Row}
use Rattle.clr_rows.specs.Same.{same, same_shape}
use Rattle.clr_rows.proofs.SameLemmas.{same_is, same_itself}

-- a row of no values
abbrev row_of : Shape → Row
row_of s = record { values = []; shape = s }

shape_in : Option Row → Shape
shape_in None = Bare
shape_in (Some row) = row.shape

-- two shapes are the same where they are one
pub shapes_decide : (s t : Shape) → Decides (same_shape s t) (s ≡ t)
unfolding same shape_in
shapes_decide s t = (
  λ e. ap shape_in (same_is (Some (row_of s)) (Some (row_of t)) e),
  λ e. subst (λ (u : Shape). same_shape s u ≡ true) e (same_itself (Some (row_of s))),
)
