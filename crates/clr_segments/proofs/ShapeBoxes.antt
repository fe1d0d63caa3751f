-- The least box of a shape, and the parts and points that it holds.
use Rattle.std.proofs.Common.{◌≡◌, ℕ, zero, suc, List, [], ◌∷◌, Some, ap, subst, arith}
use Rattle.std.specs.Prelude.{slice_get}
use Rattle.std.proofs.lemmas.Int.{int_min_is, int_max_is}
use Rattle.std.proofs.lemmas.Option.{same_Some}
use Rattle.clr_rows.specs.declared.places.Place.{Place}
use Rattle.clr_rows.specs.declared.places.Shape.{Shape}
use Rattle.clr_rows.specs.declared.places.Shape.TheVariants.{Bare, At, Line, Chain}
use Rattle.clr_rows.specs.Parts.{vertices_of, part_of}
use Rattle.clr_rows.proofs.PartLemmas.{path_part}
use Rattle.clr_segments.specs.declared.boxes.Bounds.{Bounds}
use Rattle.clr_segments.specs.Segments.{part_way, SomeCommonPoint}
use Rattle.clr_segments.specs.Bounding.{InBox, BoxesTouch, HoldsSegment, HoldsPlaces, IsWithin, IsLeastBoxOf, box_between, box_with, box_with_all, box_of_shape}
use Rattle.clr_segments.proofs.Integers.{linear}
use Rattle.clr_segments.proofs.AxisLemmas.{part_way-above, part_way-below}
use Rattle.clr_segments.proofs.BoxLemmas.{shared_whole}

-- ---- boxes within boxes
itself : (b : Bounds) → IsWithin b b
itself b = record { left = omega (arith, linear); right = omega (arith, linear); below = omega (arith, linear); above = omega (arith, linear) }

further : (b c e : Bounds) → IsWithin b c → IsWithin c e → IsWithin b e
further b c e h k = record { left = omega (arith, linear); right = omega (arith, linear); below = omega (arith, linear); above = omega (arith, linear) }

kept_in : (p : Place) (b c : Bounds) → IsWithin b c → InBox p b → InBox p c
kept_in p b c h k = (
  (omega (arith, linear, k.0.0, h.left), omega (arith, linear, k.0.1, h.right)),
  (omega (arith, linear, k.1.0, h.below), omega (arith, linear, k.1.1, h.above)),
)

box_with-holds : (b : Bounds) (p : Place) → IsWithin b (box_with b p)
box_with-holds b p =
    let left = int_min_is b.least.x p.x in
    let below = int_min_is b.least.y p.y in
    let right = int_max_is b.most.x p.x in
    let above = int_max_is b.most.y p.y in
    record {
      left = omega (arith, linear, left);
      right = omega (arith, linear, right);
      below = omega (arith, linear, below);
      above =
          omega (arith, linear, above);
    }

box_with-place : (b : Bounds) (p : Place) → InBox p (box_with b p)
box_with-place b p =
    let left = int_min_is b.least.x p.x in
    let below = int_min_is b.least.y p.y in
    let right = int_max_is b.most.x p.x in
    let above = int_max_is b.most.y p.y in
    ((omega (arith, linear, left), omega (arith, linear, right)), (omega (arith, linear, below), omega (arith, linear, above)))

box_with-least : (b e : Bounds) (p : Place) → IsWithin b e → InBox p e → IsWithin (box_with b p) e
box_with-least b e p h k =
    let left = int_min_is b.least.x p.x in
    let below = int_min_is b.least.y p.y in
    let right = int_max_is b.most.x p.x in
    let above = int_max_is b.most.y p.y in
    record {
      left = omega (arith, linear, left, h.left, k.0.0);
      right = omega (arith, linear, right, h.right, k.0.1);
      below = omega (arith, linear, below, h.below, k.1.0);
      above = omega (arith, linear, above, h.above, k.1.1);
    }

ends_in : (a b : Place) → InBox a (box_between a b) × InBox b (box_between a b)
ends_in a b =
    let left = int_min_is a.x b.x in
    let below = int_min_is a.y b.y in
    let right = int_max_is a.x b.x in
    let above = int_max_is a.y b.y in (
      ((omega (arith, linear, left), omega (arith, linear, right)), (omega (arith, linear, below), omega (arith, linear, above))),
      ((omega (arith, linear, left), omega (arith, linear, right)), (omega (arith, linear, below), omega (arith, linear, above))),
    )

between-least : (a b : Place) (e : Bounds) → InBox a e → InBox b e → IsWithin (box_between a b) e
between-least a b e h k =
    let left = int_min_is a.x b.x in
    let below = int_min_is a.y b.y in
    let right = int_max_is a.x b.x in
    let above = int_max_is a.y b.y in
    record {
      left = omega (arith, linear, left, h.0.0, k.0.0);
      right = omega (arith, linear, right, h.0.1, k.0.1);
      below = omega (arith, linear, below, h.1.0, k.1.0);
      above = omega (arith, linear, above, h.1.1, k.1.1);
    }

-- ---- a box widened to places
grows : (b : Bounds) (ps : List Place) → IsWithin b (box_with_all b ps)
grows b [] = itself b
grows b (p ∷ ps) = further b (box_with b p) (box_with_all (box_with b p) ps) (box_with-holds b p) (grows (box_with b p) ps)

holds_all : (b : Bounds) (ps : List Place) → HoldsPlaces ps (box_with_all b ps)
holds_all b [] = tt
holds_all b (p ∷ ps) = (kept_in p (box_with b p) (box_with_all (box_with b p) ps) (grows (box_with b p) ps) (box_with-place b p), holds_all (box_with b p) ps)

least_all : (b e : Bounds) (ps : List Place) → IsWithin b e → HoldsPlaces ps e → IsWithin (box_with_all b ps) e
least_all b e [] h k = h
least_all b e (p ∷ ps) h k = least_all (box_with b p) e ps (box_with-least b e p h k.0) k.1

-- ---- the box of a shape
pub shape_boxed : (shape : Shape) (b : Bounds) → box_of_shape shape ≡ Some b → IsLeastBoxOf (vertices_of shape) b
shape_boxed Bare b is = cc
shape_boxed (At p) b is = subst (λ e. IsLeastBoxOf (p ∷ []) e) (same_Some (box_between p p) b is)
    (record { holds = ((ends_in p p).0, tt); least = λ e h. between-least p p e h.0 h.0 })
shape_boxed (Line p q) b is = subst (λ e. IsLeastBoxOf (p ∷ q ∷ []) e) (same_Some (box_between p q) b is)
    (record { holds = ((ends_in p q).0, ((ends_in p q).1, tt)); least = λ e h. between-least p q e h.0 h.1.0 })
shape_boxed (Chain []) b is = cc
shape_boxed (Chain (p ∷ ps)) b is =
    let own = box_between p p in
    subst (λ e. IsLeastBoxOf (p ∷ ps) e) (same_Some (box_with_all own ps) b is) (record {
      holds = (kept_in p own (box_with_all own ps) (grows own ps) (ends_in p p).0, holds_all own ps);
      least = λ e h. least_all own e ps (between-least p p e h.0 h.0) h.1;
    })

each_in : (places : List Place) (b : Bounds) (i : ℕ) (p : Place) → HoldsPlaces places b → slice_get places i ≡ Some p → InBox p b
each_in [] b i p h is = cc
each_in (q ∷ qs) b zero p h is = subst (λ (r : Place). InBox r b) (same_Some q p is) h.0
each_in (q ∷ qs) b (suc i) p h is = each_in qs b i p h.1 is

-- the ends of a part are vertices
part_vertices : (shape : Shape) (n : ℕ) (p q : Place) (b : Bounds) → part_of shape n ≡ Some (p, q) → HoldsPlaces (vertices_of shape) b → InBox p b × InBox q b
part_vertices shape zero p q b at h = cc
part_vertices Bare (suc n) p q b at h = cc
part_vertices (At r) (suc n) p q b at h = cc
part_vertices (Line r u) (suc zero) p q b at h =
    let same = same_Some (r, u) (p, q) at in
    (subst (λ (e : Place). InBox e b) (ap (λ (e : Place × Place). e.0) same) h.0, subst (λ (e : Place). InBox e b) (ap (λ (e : Place × Place). e.1) same) h.1.0)
part_vertices (Line r u) (suc (suc n)) p q b at h = cc
part_vertices (Chain vertices) (suc n) p q b at h =
    let ends = path_part vertices n (p, q) at in
    (each_in vertices b n p h ends.0, each_in vertices b (suc n) q h ends.1)

holds_between : (p q : Place) (b : Bounds) → InBox p b → InBox q b → HoldsSegment p q b
holds_between p q b h k = λ d s positive on. (
  (part_way-above d s p.x q.x b.least.x on h.0.0 k.0.0, part_way-below d s p.x q.x b.most.x on h.0.1 k.0.1),
  (part_way-above d s p.y q.y b.least.y on h.1.0 k.1.0, part_way-below d s p.y q.y b.most.y on h.1.1 k.1.1),
)

pub part_boxed : (shape : Shape) (n : ℕ) (p q : Place) (b : Bounds) → part_of shape n ≡ Some (p, q) → box_of_shape shape ≡ Some b → IsWithin (box_between p q) b
    × HoldsSegment p q b
part_boxed shape n p q b at is =
    let ends = part_vertices shape n p q b at (shape_boxed shape b is).holds in
    (between-least p q b ends.0 ends.1, holds_between p q b ends.0 ends.1)

pub shapes_touch : (s t : Shape) (m n : ℕ) (p q r u : Place) (b c : Bounds) → part_of s m ≡ Some (p, q) → part_of t n ≡ Some (r, u) → SomeCommonPoint p q r u
    → box_of_shape s ≡ Some b → box_of_shape t ≡ Some c → BoxesTouch b c
shapes_touch s t m n p q r u b c first second (d, i, j, h) is are =
    shared_whole b c d (part_way d i p.x q.x) (part_way d i p.y q.y) h.positive
    ((part_boxed s m p q b first is).1 d i h.positive h.on_first)
    (rw (h.equal_x, h.equal_y) ((part_boxed t n r u c second are).1 d j h.positive h.on_second))
