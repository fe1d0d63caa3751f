-- The side of a line that a point is on, and the distance of two points.
use Rattle.std.specs.Prelude.{◌≡◌, ℤ, pos, ◌+ℤ◌, ◌-ℤ◌, ◌*ℤ◌, ◌<ℤ◌, ◌⊎◌}
use Rattle.clr_rows.specs.declared.places.Place.{Place}

-- the cross product of b - a and c - a: positive where c is to the left of the line from a to b,
-- negative to the right, 0 on it
abbrev pub cross_product : Place → Place → Place → ℤ
cross_product a b c = (b.x -ℤ a.x) *ℤ (c.y -ℤ a.y) -ℤ (b.y -ℤ a.y) *ℤ (c.x -ℤ a.x)

-- both numbers are positive, or both negative
abbrev pub SameSign : ℤ → ℤ → Type 0
SameSign m n = ((pos 0 <ℤ m) × (pos 0 <ℤ n)) ⊎ ((m <ℤ pos 0) × (n <ℤ pos 0))

-- c and d are strictly on one side of the line from a to b
abbrev pub OnOneSide : Place → Place → Place → Place → Type 0
OnOneSide a b c d = SameSign (cross_product a b c) (cross_product a b d)

-- one of the segments a-b and c-d has both ends of the other strictly on one side
abbrev pub AreParted : Place → Place → Place → Place → Type 0
AreParted a b c d = OnOneSide a b c d ⊎ OnOneSide c d a b

-- c and d are on the line from a to b
abbrev pub AreCollinear : Place → Place → Place → Place → Type 0
AreCollinear a b c d = (cross_product a b c ≡ pos 0) × (cross_product a b d ≡ pos 0)

-- the square of the distance of p and q
abbrev pub squared_distance : Place → Place → ℤ
squared_distance p q = (q.x -ℤ p.x) *ℤ (q.x -ℤ p.x) +ℤ (q.y -ℤ p.y) *ℤ (q.y -ℤ p.y)
