-- Squares of distances, and what is told of their roots.
use Rattle.std.proofs.Common.{◌≡◌, ℕ, ℤ, pos, negsuc, ◌+ℤ◌, ◌-ℤ◌, ◌*ℤ◌, ◌+◌, ◌*◌, ◌≤◌, ◌≤ℤ◌, ◌<ℤ◌, ◌∙◌, ◌++◌, List, Option, Some, None, append_assoc, unsigned_abs, arith, ap, refl, sym, mul-le-mul, le_trans}
use Rattle.clr_rows.specs.declared.limits.TheConstants.{GREATEST_COORDINATE}
use Rattle.clr_rows.specs.declared.places.Place.{Place}
use Rattle.clr_segments.specs.Turns.{squared_distance}
use Rattle.clr_segments.proofs.Integers.{linear}
use Rattle.clr_segments.proofs.Words64.{coordinate_fits, two_words, word_value}
use Rattle.clr_whereabouts.specs.declared.gaps.Gap.{Gap}
use Rattle.clr_whereabouts.specs.Gaps.{IsGapBetween, IsGapOfSquare}

-- the sum of two squares, by their sizes
sum_of_squares : (x y : ℤ) → pos (unsigned_abs x * unsigned_abs x + unsigned_abs y * unsigned_abs y) ≡ x *ℤ x +ℤ y *ℤ y
sum_of_squares (pos a) (pos b) = refl
sum_of_squares (pos a) (negsuc b) = refl
sum_of_squares (negsuc a) (pos b) = refl
sum_of_squares (negsuc a) (negsuc b) = refl

-- a distance on an axis, by the words of its ends
pub axis_is : (x y : ℤ) (d : ℕ) → unsigned_abs x ≤ GREATEST_COORDINATE → unsigned_abs y ≤ GREATEST_COORDINATE
    → d ≡ unsigned_abs (word_value x -ℤ word_value y) → d ≡ unsigned_abs (x -ℤ y)
axis_is x y d h k e = e ∙ ap unsigned_abs (two_words (λ (a b : ℤ). a -ℤ b) x y (coordinate_fits x h) (coordinate_fits y k))

pub squares_are : (p q : Place) (m n a b : ℕ) → m ≡ a * a → n ≡ b * b → a ≡ unsigned_abs (q.x -ℤ p.x) → b ≡ unsigned_abs (q.y -ℤ p.y)
    → pos (m + n) ≡ squared_distance p q
squares_are p q m n a b e f g h = rw (e, f, g, h) (sum_of_squares (q.x -ℤ p.x) (q.y -ℤ p.y))

-- a distance that is no less than d isn't less in its square
is_far : (square d : ℤ) (n : ℕ) → square ≡ pos n → pos 1 ≤ℤ d → unsigned_abs d * unsigned_abs d ≤ n → ¬ (square <ℤ (d *ℤ d))
is_far square (pos k) n e least far less = let below : pos n <ℤ pos (k * k) = rw e at less in omega (arith, linear, below, far)
is_far square (negsuc k) n e least far less = omega (arith, linear, least)

-- a root that isn't less than d has no lesser square
pub no_less : (n r : ℕ) (d : ℤ) → r * r ≤ n → d ≤ℤ pos r → pos 1 ≤ℤ d → unsigned_abs d * unsigned_abs d ≤ n
no_less n r (pos k) small most least = let sizes : k ≤ r = omega (arith, linear) in le_trans (mul-le-mul sizes sizes) small
no_less n r (negsuc k) small most least = absurd (omega (arith, linear, least))

-- what is told of two points, by what is told of the square of their distance
pub gap_by : (p q : Place) (n : ℕ) (d : ℤ) (gap : Option Gap) → pos n ≡ squared_distance p q → IsGapOfSquare n d gap → IsGapBetween p q d gap
gap_by p q n d (Some gap) e is = (n, sym e, is)
gap_by p q n d None e is = λ near. is_far (squared_distance p q) d n (sym e) near.least (is near.least) near.nearer

-- five pieces of a text, one behind another
pub five_pieces : (old a b c d e v w x y z : List ℕ) → v ≡ old ++ a → w ≡ v ++ b → x ≡ w ++ c → y ≡ x ++ d → z ≡ y ++ e
    → z ≡ old ++ (a ++ b ++ c ++ d ++ e)
five_pieces old a b c d e v w x y z f g h i j = rw (j, i, h, g, f) (simp append_assoc)
