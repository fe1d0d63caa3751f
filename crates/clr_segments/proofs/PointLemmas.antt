-- A place is on a segment exactly where its turn is 0 and it is in the segment's box.
use Rattle.std.proofs.Common.{◌≡◌, ◌≢◌, ◌↔◌, Bool, IsTrue, ℕ, ℤ, pos, ◌+ℤ◌, ◌-ℤ◌, ◌*ℤ◌, ◌+◌, ◌<◌, ◌≤◌, unsigned_abs, arith, ap}
use Rattle.std.specs.Int.{int_min, int_max}
use Rattle.clr_rows.specs.declared.places.Place.{Place}
use Rattle.clr_rows.specs.Places.{Differ}
use Rattle.clr_segments.proofs.Integers.{linear, expand, cancel_eq, cancel_le, difference_apart, by_same}
use Rattle.clr_segments.proofs.Shares.{det, other_coordinate}
use Rattle.clr_segments.proofs.AxisLemmas.{number_at, part_way-boxed}
use Rattle.clr_segments.proofs.Crossings.{mirror_of, mirrored_line}
use Rattle.clr_segments.specs.declared.boxes.Bounds.{Bounds}
use Rattle.clr_segments.specs.Segments.{part_way, PointAt, LiesOn}
use Rattle.clr_segments.specs.Turns.{cross_product}
use Rattle.clr_segments.specs.Bounding.{Between, InBox, box_between}

-- ---- the equation of a place on a segment in one coordinate
share_from_way : (d s : ℕ) (p q x : ℤ) → part_way d s p q ≡ pos d *ℤ x → pos s *ℤ (q -ℤ p) ≡ pos d *ℤ (x -ℤ p)
share_from_way d s p q x e = let expanded = simp expand at e in simp expand (omega (arith, linear, expanded))

way_from_share : (d s : ℕ) (p q x : ℤ) → pos s *ℤ (q -ℤ p) ≡ pos d *ℤ (x -ℤ p) → part_way d s p q ≡ pos d *ℤ x
way_from_share d s p q x e = let expanded = simp expand at e in simp expand (omega (arith, linear, expanded))

-- ---- on the segment, so on the line and in the box
no_turn : (ux uy wx wy : ℤ) (d s : ℕ) → 0 < d → pos s *ℤ ux ≡ pos d *ℤ wx → pos s *ℤ uy ≡ pos d *ℤ wy → det ux uy wx wy ≡ pos 0
no_turn ux uy wx wy d s h e f =
    let by_uy = simp expand at (ap (λ (z : ℤ). uy *ℤ z) e) in
    let by_ux = simp expand at (ap (λ (z : ℤ). ux *ℤ z) f) in
    cancel_eq d (det ux uy wx wy) (pos 0) h (simp expand (omega (arith, linear, by_uy, by_ux)))

pub point_on_line : (x p q : Place) → LiesOn x p q → cross_product p q x ≡ pos 0
point_on_line x p q (d, s, h) =
    no_turn (q.x -ℤ p.x) (q.y -ℤ p.y) (x.x -ℤ p.x) (x.y -ℤ p.y) d s h.positive
    (share_from_way d s p.x q.x x.x h.equal_x) (share_from_way d s p.y q.y x.y h.equal_y)

pub between_ends : (d s : ℕ) (p q x : ℤ) → 0 < d → s ≤ d → part_way d s p q ≡ pos d *ℤ x → Between (int_min p q) x (int_max p q)
between_ends d s p q x h k e =
    let b = part_way-boxed d s p q k in
    (cancel_le d (int_min p q) x h (omega (arith, linear, b.0)), cancel_le d x (int_max p q) h (omega (arith, linear, b.1)))

pub point_boxed : (x p q : Place) → LiesOn x p q → InBox x (box_between p q)
point_boxed x p q (d, s, h) = (between_ends d s p.x q.x x.x h.positive h.on_segment h.equal_x, between_ends d s p.y q.y x.y h.positive h.on_segment h.equal_y)

-- ---- on the line and in the box, so on the segment
-- the other coordinate follows
other_share : (ux uy wx wy : ℤ) (d s : ℕ) → ux ≢ pos 0 → det ux uy wx wy ≡ pos 0 → pos s *ℤ ux ≡ pos d *ℤ wx → pos s *ℤ uy ≡ pos d *ℤ wy
other_share ux uy wx wy d s long e h =
    let in_x : pos s *ℤ ux ≡ pos d *ℤ wx +ℤ pos 0 *ℤ wx = simp expand (omega (arith, linear, simp expand at h)) in
    let in_y = other_coordinate ux uy wx wy wx wy (pos s) (pos d) (pos 0) long e e in_x in
    let expanded = simp expand at in_y in
    simp expand (omega (arith, linear, expanded))

-- x is a point of the segment by a d of at most so many
abbrev pub LiesOnWithin : ℕ → Place → Place → Place → Type 0
LiesOnWithin most x p q = (d : ℕ) × (s : ℕ) × PointAt x p q d s × (d ≤ most)

on_segment_by_x : (x p q : Place) → p.x ≢ q.x → cross_product p q x ≡ pos 0 → Between (int_min p.x q.x) x.x (int_max p.x q.x)
    → LiesOnWithin (unsigned_abs (q.x -ℤ p.x)) x p q
on_segment_by_x x p q n e b =
    let a = number_at x.x p.x q.x n b in (
      a.0,
      a.1,
      record {
        positive = a.2.positive;
        on_segment = a.2.on_segment;
        equal_x = a.2.equal;
        equal_y = way_from_share a.0 a.1 p.y q.y x.y
            (other_share (q.x -ℤ p.x) (q.y -ℤ p.y) (x.x -ℤ p.x) (x.y -ℤ p.y) a.0 a.1 (difference_apart p.x q.x n) e
            (share_from_way a.0 a.1 p.x q.x x.x a.2.equal));
      },
      rw a.3 (omega arith),
    )

on_segment_mirrored : (most : ℕ) (x p q : Place) → LiesOnWithin most (mirror_of x) (mirror_of p) (mirror_of q) → LiesOnWithin most x p q
on_segment_mirrored most x p q (d, s, h, b) = (d, s, record { positive = h.positive; on_segment = h.on_segment; equal_x = h.equal_y; equal_y = h.equal_x }, b)

looser : (most more : ℕ) (x p q : Place) → most ≤ more → LiesOnWithin most x p q → LiesOnWithin more x p q
looser most more x p q h (d, s, k, b) = (d, s, k, omega arith)

pub point_on_segment : (x p q : Place) → Differ p q → cross_product p q x ≡ pos 0 → InBox x (box_between p q)
    → LiesOnWithin (unsigned_abs (q.x -ℤ p.x) + unsigned_abs (q.y -ℤ p.y)) x p q
point_on_segment x p q l e b = by_same p.x q.x
    (λ n. looser (unsigned_abs (q.x -ℤ p.x)) (unsigned_abs (q.x -ℤ p.x) + unsigned_abs (q.y -ℤ p.y)) x p q (omega arith) (on_segment_by_x x p q n e b.0))
    (λ same. looser (unsigned_abs (q.y -ℤ p.y)) (unsigned_abs (q.x -ℤ p.x) + unsigned_abs (q.y -ℤ p.y)) x p q (omega arith)
    (on_segment_mirrored (unsigned_abs (q.y -ℤ p.y)) x p q (on_segment_by_x (mirror_of x) (mirror_of p) (mirror_of q) (l same) (mirrored_line p q x e) b.1)))

-- ---- the two answers of the code
pub tested_by_box : (x p q : Place) (b : Bounds) (t : Bool) → Differ p q → cross_product p q x ≡ pos 0 → b ≡ box_between p q → IsTrue t ↔ InBox x b
    → IsTrue t ↔ LiesOn x p q
tested_by_box x p q b t l e same h = (λ k. let a = point_on_segment x p q l e (rw same at (h.0 k)) in (a.0, a.1, a.2), λ k. h.1 (rw same (point_boxed x p q k)))

pub refused_by_turn : (x p q : Place) (t : Bool) → cross_product p q x ≢ pos 0 → ¬ (IsTrue t) → IsTrue t ↔ LiesOn x p q
refused_by_turn x p q t n f = (λ k. absurd (f k), λ k. absurd (n (point_on_line x p q k)))
