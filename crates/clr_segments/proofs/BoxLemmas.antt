-- The least box of a segment, and boxes that touch.
use Rattle.std.proofs.Common.{◌≡◌, ◌↔◌, Bool, IsTrue, ℕ, ℤ, pos, negsuc, ◌+ℤ◌, ◌-ℤ◌, ◌*ℤ◌, ◌*◌, ◌<◌, ◌≤ℤ◌, ◌<ℤ◌, arith, refl, unsigned_abs, mul-le-mul}
use Rattle.std.proofs.lemmas.Int.{ints, int_min_is, int_max_is}
use Rattle.std.specs.Int.{int_min, int_max}
use Rattle.clr_rows.specs.declared.places.Place.{Place}
use Rattle.clr_segments.proofs.Integers.{linear, expand, cancel_le}
use Rattle.clr_segments.proofs.AxisLemmas.{part_way-boxed}
use Rattle.clr_segments.specs.declared.boxes.Bounds.{Bounds}
use Rattle.clr_segments.specs.Segments.{part_way, SomeCommonPoint}
use Rattle.clr_segments.specs.Turns.{squared_distance}
use Rattle.clr_segments.specs.Bounding.{Between, PointInBox, BoxesTouch, HoldsSegment, IsWithin, IsLeastBox, box_between, grown_box}

-- ---- the least box of a segment
pub box_between-holds : (a b : Place) → HoldsSegment a b (box_between a b)
box_between-holds a b d s positive on = (part_way-boxed d s a.x b.x on, part_way-boxed d s a.y b.y on)

-- a range that holds both ends, the shares 0 and 1, reaches as far as they do
ends_between : (low high p q : ℤ) → Between (pos 1 *ℤ low) (part_way 1 0 p q) (pos 1 *ℤ high) → Between (pos 1 *ℤ low) (part_way 1 1 p q) (pos 1 *ℤ high)
    → (low ≤ℤ int_min p q) × (int_max p q ≤ℤ high)
ends_between low high p q first second =
    let start : part_way 1 0 p q ≡ pos 1 *ℤ p = simp expand (omega (arith, linear)) in
    let end : part_way 1 1 p q ≡ pos 1 *ℤ q = simp expand (omega (arith, linear)) in
    let a : low ≤ℤ p = cancel_le 1 low p (omega arith) (rw start at first.0) in
    let b : p ≤ℤ high = cancel_le 1 p high (omega arith) (rw start at first.1) in
    let c : low ≤ℤ q = cancel_le 1 low q (omega arith) (rw end at second.0) in
    let d : q ≤ℤ high = cancel_le 1 q high (omega arith) (rw end at second.1) in
    (omega (arith, linear, int_min_is p q), omega (arith, linear, int_max_is p q))

pub box_between-least : (a b : Place) → IsLeastBox a b (box_between a b)
box_between-least a b = record { holds = box_between-holds a b; least = within }
  where
    within : (e : Bounds) → HoldsSegment a b e → IsWithin (box_between a b) e
    within e h =
        let start = h 1 0 (omega arith) (omega arith) in
        let end = h 1 1 (omega arith) (omega arith) in
        let x = ends_between e.least.x e.most.x a.x b.x start.0 end.0 in
        let y = ends_between e.least.y e.most.y a.y b.y start.1 end.1 in
        record { left = x.0; right = x.1; below = y.0; above = y.1 }

-- the box that the code puts together
pub least_box_by : (a b : Place) (left below right above : ℤ) → left ≡ int_min a.x b.x → below ≡ int_min a.y b.y → right ≡ int_max a.x b.x → above
    ≡ int_max a.y b.y → IsLeastBox a b (record { least = record { x = left; y = below }; most = record { x = right; y = above } })
least_box_by a b left below right above e f g h = rw (e, f, g, h) (box_between-least a b)

-- ---- a common number of two ranges, times d, gives a whole one
abbrev pub RangesTouch : ℤ → ℤ → ℤ → ℤ → Type 0
RangesTouch low high low' high' = (x : ℤ) × Between low x high × Between low' x high'

pub range_whole : (d : ℕ) (m low high low' high' : ℤ) → 0 < d → Between (pos d *ℤ low) m (pos d *ℤ high) → Between (pos d *ℤ low') m (pos d *ℤ high')
    → RangesTouch low high low' high'
range_whole d m low high low' high' p h k =
    let a : low ≤ℤ high = cancel_le d low high p (omega (arith, linear, h.0, h.1)) in
    let b : low ≤ℤ high' = cancel_le d low high' p (omega (arith, linear, h.0, k.1)) in
    let c : low' ≤ℤ high = cancel_le d low' high p (omega (arith, linear, k.0, h.1)) in
    let e : low' ≤ℤ high' = cancel_le d low' high' p (omega (arith, linear, k.0, k.1)) in
    let most = int_max_is low low' in
    (int_max low low', (omega (arith, linear, most), omega (arith, linear, most)), (omega (arith, linear, most), omega (arith, linear, most)))

-- the greater of the lower ends is at most the lesser of the upper ends
pub ranges_touch_by : (low high low' high' m n : ℤ) (t : Bool) → m ≡ int_max low low' → n ≡ int_min high high' → IsTrue t ↔ (m ≤ℤ n)
    → IsTrue t ↔ RangesTouch low high low' high'
ranges_touch_by low high low' high' m n t e f h =
    let most = int_max_is low low' in
    let least = int_min_is high high' in
    (there, λ w. h.1 (let first = w.1 in let second = w.2 in omega (arith, linear)))
  where
    there : IsTrue t → RangesTouch low high low' high'
    there k =
        let at_most : m ≤ℤ n = h.0 k in
        let most = int_max_is low low' in
        let least = int_min_is high high' in
        (m, (omega (arith, linear), omega (arith, linear)), (omega (arith, linear), omega (arith, linear)))

pub touch_by_ranges : (b c : Bounds) → RangesTouch b.least.x b.most.x c.least.x c.most.x → RangesTouch b.least.y b.most.y c.least.y c.most.y → BoxesTouch b c
touch_by_ranges b c x y = (record { x = x.0; y = y.0 }, (x.1, y.1), (x.2, y.2))

-- two boxes touch exactly where their ranges do on both axes
pub touch_on_both : {P : Type 0} (b c : Bounds) → P ↔ RangesTouch b.least.x b.most.x c.least.x c.most.x × RangesTouch b.least.y b.most.y c.least.y c.most.y
    → P ↔ BoxesTouch b c
touch_on_both b c h = (
  λ p. let w = h.0 p in touch_by_ranges b c w.0 w.1,
  λ w. h.1 ((w.0.x, w.1.0, w.2.0), (w.0.y, w.1.1, w.2.1)),
)

pub shared_whole : (b c : Bounds) (d : ℕ) (m n : ℤ) → 0 < d → PointInBox d m n b → PointInBox d m n c → BoxesTouch b c
shared_whole b c d m n p h k =
    touch_by_ranges b c (range_whole d m b.least.x b.most.x c.least.x c.most.x p h.0 k.0) (range_whole d n b.least.y b.most.y c.least.y c.most.y p h.1 k.1)

-- the boxes of two segments with a common point touch
pub segments_touch : (p q r u : Place) → SomeCommonPoint p q r u → BoxesTouch (box_between p q) (box_between r u)
segments_touch p q r u (d, s, t, h) =
    shared_whole (box_between p q) (box_between r u) d (part_way d s p.x q.x) (part_way d s p.y q.y) h.positive
    (box_between-holds p q d s h.positive h.on_first)
    (rw (h.equal_x, h.equal_y) (box_between-holds r u d t h.positive h.on_second))

-- ---- points nearer than d
square-size : (x : ℤ) → x *ℤ x ≡ pos (unsigned_abs x * unsigned_abs x)
square-size (pos n) = refl
square-size (negsuc n) = refl

smaller : (m d : ℕ) → m * m < d * d → m < d
smaller m d h = grind (arith, mul-le-mul)

near_in_one : (x y : ℤ) (d : ℕ) → (x *ℤ x +ℤ y *ℤ y) <ℤ (pos d *ℤ pos d) → unsigned_abs x < d
near_in_one x y d h = smaller (unsigned_abs x) d (omega (arith, linear, square-size x, square-size y, h))

near_in_other : (x y : ℤ) (d : ℕ) → (x *ℤ x +ℤ y *ℤ y) <ℤ (pos d *ℤ pos d) → unsigned_abs y < d
near_in_other x y d h = smaller (unsigned_abs y) d (omega (arith, linear, square-size x, square-size y, h))

-- x is in its own range and in y's, each grown by d
grown_touch : (x y : ℤ) (d : ℕ) → unsigned_abs (y -ℤ x) < d → RangesTouch (int_min x x -ℤ pos d) (int_max x x +ℤ pos d) (int_min y y -ℤ pos d)
    (int_max y y +ℤ pos d)
grown_touch x y d h =
    (x, (omega (arith, ints, int_min_is x x), omega (arith, ints, int_max_is x x)), (omega (arith, ints, int_min_is y y), omega (arith, ints, int_max_is y y)))

natural_touch : (p q : Place) (d : ℕ) → squared_distance p q <ℤ (pos d *ℤ pos d)
    → BoxesTouch (grown_box (box_between p p) (pos d)) (grown_box (box_between q q) (pos d))
natural_touch p q d h =
    touch_by_ranges (grown_box (box_between p p) (pos d)) (grown_box (box_between q q) (pos d))
    (grown_touch p.x q.x d (near_in_one (q.x -ℤ p.x) (q.y -ℤ p.y) d h))
    (grown_touch p.y q.y d (near_in_other (q.x -ℤ p.x) (q.y -ℤ p.y) d h))

pub near_touch : (p q : Place) (d : ℤ) → pos 1 ≤ℤ d → squared_distance p q <ℤ (d *ℤ d)
    → BoxesTouch (grown_box (box_between p p) d) (grown_box (box_between q q) d)
near_touch p q (pos d) f h = natural_touch p q d h
near_touch p q (negsuc d) f h = absurd (omega (arith, linear))
