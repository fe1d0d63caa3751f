-- Tests of points of segments that compute: they try the shares s / d for every d up to a limit.
use Rattle.std.specs.Prelude.{ℕ, zero, suc, ◌+◌, ◌*◌, pos, ◌-ℤ◌, ◌*ℤ◌, unsigned_abs, Bool, true, not, ◌&&◌, ◌||◌, nat_lt, nat_le, nat_eq}
use Rattle.std.specs.Ordering.{int_eq}
use Rattle.clr_rows.specs.declared.places.Place.{Place}
use Rattle.clr_segments.specs.Segments.{part_way}

-- some number up to most passes the test
unfoldable pub any_up_to : ℕ → (ℕ → Bool) → Bool
any_up_to zero test = test 0
any_up_to (suc most) test = any_up_to most test || test (suc most)

-- how far apart two places are along both axes together
unfoldable pub axis_distance : Place → Place → ℕ
axis_distance p q = unsigned_abs (q.x -ℤ p.x) + unsigned_abs (q.y -ℤ p.y)

-- whether x stands s / d of the way from p to q
unfoldable pub is_point_at : Place → Place → Place → ℕ → ℕ → Bool
is_point_at x p q d s =
    nat_lt 0 d && nat_le s d && int_eq (part_way d s p.x q.x) (pos d *ℤ x.x)
    && int_eq (part_way d s p.y q.y) (pos d *ℤ x.y)

-- whether x is a point of the segment from p to q
unfoldable pub lies_on : Place → Place → Place → Bool
lies_on x p q = any_up_to (axis_distance p q) (λ d. any_up_to d (λ s. is_point_at x p q d s))

-- whether one point stands s / d of the way from p to q, and t / d of the way from r to u
unfoldable pub is_common_point : Place → Place → Place → Place → ℕ → ℕ → ℕ → Bool
is_common_point p q r u d s t =
    nat_lt 0 d && nat_le s d && nat_le t d && int_eq (part_way d s p.x q.x) (part_way d t r.x u.x)
    && int_eq (part_way d s p.y q.y) (part_way d t r.y u.y)

-- whether some common point of p-q and r-u stands at a share s / d of p-q that passes the test
unfoldable pub any_common_point : Place → Place → Place → Place → (ℕ → ℕ → Bool) → Bool
any_common_point p q r u test = any_up_to (axis_distance p q * axis_distance r u)
    (λ d. any_up_to d (λ s. any_up_to d (λ t. is_common_point p q r u d s t && test d s)))

-- whether the segments p-q and r-u have a common point
unfoldable pub have_common_point : Place → Place → Place → Place → Bool
have_common_point p q r u = any_common_point p q r u (λ d s. true)

-- whether the segments p-q and r-u have two common points that differ
unfoldable pub have_two_common_points : Place → Place → Place → Place → Bool
have_two_common_points p q r u = any_common_point p q r u
    (λ d s. any_common_point p q r u (λ d' s'. not (nat_eq (s * d') (s' * d))))
