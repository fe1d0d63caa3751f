-- The squares of a box: how many they are, and that they are those that meet it.
use Rattle.std.proofs.Common.{◌≡◌, ◌↔◌, ℕ, zero, suc, ◌+◌, ◌*◌, ◌<◌, ◌≤◌, ℤ, pos, negsuc, ◌+ℤ◌, ◌-ℤ◌, ◌*ℤ◌, ◌≤ℤ◌, ◌<ℤ◌, [], ◌∷◌, length, inl, inr, refl, subst}
use Rattle.std.proofs.Common.{subst₂, arith, length-append, Contains, All}
use Rattle.std.proofs.lemmas.Bool.{cases_lt}
use Rattle.std.proofs.lemmas.Int.{ints, by_lt_z}
use Rattle.std.proofs.lemmas.List.Elements.{Contains-append_left, Contains-append_right, Contains-push, All-nil, All-append, All-push, All-weaker, All-contains}
use borrow.Author.Differences.{up, down}
use Rattle.clr_rows.specs.declared.places.Place.{Place}
use Rattle.clr_segments.proofs.Integers.{linear, natural}
use Rattle.clr_segments.specs.declared.boxes.Bounds.{Bounds}
use Rattle.clr_segments.specs.Bounding.{Between, InBox}
use Rattle.clr_spots.specs.declared.spots.Spot.{Spot}
use Rattle.clr_spots.specs.declared.spots.Spot.TheVariants.{Square, Values}
use Rattle.clr_spots.specs.Spots.{SquareMeets, square_of, span, column_of_squares, grid_of_squares, squares_of}

-- ---- how many
length_of_column : (i j : ℤ) (n : ℕ) → length (column_of_squares i j n) ≡ n
length_of_column i j zero = refl
length_of_column i j (suc n) = rw (length-append (column_of_squares i j n) (Square i (j +ℤ pos n) ∷ []), length_of_column i j n) (omega arith)

length_of_grid : (i j : ℤ) (m n : ℕ) → length (grid_of_squares i j m n) ≡ m * n
length_of_grid i j zero n = omega arith
length_of_grid i j (suc m) n = rw (
  length-append (grid_of_squares i j m n) (column_of_squares (i +ℤ pos m) j n),
  length_of_grid i j m n,
  length_of_column
      (i +ℤ pos m) j n,
) (omega arith)

pub count_of_squares : (b : Bounds) → length (squares_of b) ≡ span b.least.x b.most.x * span b.least.y b.most.y
unfolding squares_of
count_of_squares b = length_of_grid (square_of b.least.x) (square_of b.least.y) (span b.least.x b.most.x) (span b.least.y b.most.y)

-- ---- the square of a coordinate
floor_is : (z : ℤ) → (up (square_of z) * 100000 + down z ≤ down (square_of z) * 100000 + up z)
    × (down (square_of z) * 100000 + up z < up (square_of z) * 100000 + down z + 100000)
floor_is (pos n) = omega arith
floor_is (negsuc n) = omega arith

square_order : (x y : ℤ) → x ≤ℤ y → square_of x ≤ℤ square_of y
square_order x y h = omega (arith, linear, floor_is x, floor_is y)

square_by_steps : (k x : ℤ) → (k *ℤ pos 100000) ≤ℤ x → x <ℤ (k *ℤ pos 100000 +ℤ pos 100000) → square_of x ≡ k
square_by_steps k x h g = omega (arith, ints, floor_is x)

-- some number from low to high is in each square between theirs
some_in_square : (low high k : ℤ) → low ≤ℤ high → Between (square_of low) k (square_of high) → (x : ℤ) × Between low x high × (square_of x ≡ k)
some_in_square low high k h w = by_lt_z low (k *ℤ pos 100000)
    (λ below. (
      k *ℤ pos 100000,
      (omega (arith, linear), omega (arith, ints, floor_is high, w.1)),
      square_by_steps k (k *ℤ pos 100000) (omega (arith, linear))
          (omega (arith, linear)),
    ))
    (λ above. (low, (omega (arith, linear), h), square_by_steps k low above (omega (arith, ints, floor_is low, w.0))))

-- ---- what a grid has
in_column : (i j : ℤ) (n k : ℕ) → k < n → Contains (column_of_squares i j n) (Square i (j +ℤ pos k))
in_column i j zero k h = absurd (omega arith)
in_column i j (suc n) k h = elim (cases_lt k n) [
  | inl less ↦ Contains-append_left (column_of_squares i j n) (Square i (j +ℤ pos n) ∷ []) (Square i (j +ℤ pos k)) (in_column i j n k less)
  | inr more ↦ let last : n ≡ k = omega arith in subst (λ (z : ℕ). Contains (column_of_squares i j (suc n)) (Square i (j +ℤ pos z))) last
      (Contains-push (column_of_squares i j n) (Square i (j +ℤ pos n)))
]

in_grid : (i j : ℤ) (m n k l : ℕ) → k < m → l < n → Contains (grid_of_squares i j m n) (Square (i +ℤ pos k) (j +ℤ pos l))
in_grid i j zero n k l h g = absurd (omega arith)
in_grid i j (suc m) n k l h g = elim (cases_lt k m) [
  | inl less ↦ Contains-append_left (grid_of_squares i j m n) (column_of_squares (i +ℤ pos m) j n) (Square (i +ℤ pos k) (j +ℤ pos l))
      (in_grid i j m n k l less g)
  | inr more ↦ let last : m ≡ k = omega arith in subst (λ (z : ℕ). Contains (grid_of_squares i j (suc m) n) (Square (i +ℤ pos z) (j +ℤ pos l))) last
      (Contains-append_right (grid_of_squares i j m n) (column_of_squares (i +ℤ pos m) j n) (Square (i +ℤ pos m) (j +ℤ pos l)) (in_column (i +ℤ pos m) j n l g))
]

-- a is less than m steps above i
abbrev Reaches : ℤ → ℕ → ℤ → Type 0
Reaches i m a = Between i a (i +ℤ pos m -ℤ pos 1)

steps_to : (i a : ℤ) → i ≤ℤ a → i +ℤ pos (up (a -ℤ i)) ≡ a
steps_to i a h = let whole = natural (a -ℤ i) (omega (arith, linear)) in rw (← whole) (omega (arith, linear))

steps_below : (i a : ℤ) (m : ℕ) → Reaches i m a → up (a -ℤ i) < m
steps_below i a m h = let whole = natural (a -ℤ i) (omega (arith, linear, h.0)) in omega (arith, linear, whole, h.1)

in_reach : (i j a b : ℤ) (m n : ℕ) → Reaches i m a → Reaches j n b → Contains (grid_of_squares i j m n) (Square a b)
in_reach i j a b m n h g = subst₂ (λ (x y : ℤ). Contains (grid_of_squares i j m n) (Square x y)) (steps_to i a h.0) (steps_to j b g.0)
    (in_grid i j m n (up (a -ℤ i)) (up (b -ℤ j)) (steps_below i a m h) (steps_below j b n g))

-- ---- no other spot is a square of the box
abbrev Inside : ℤ → ℤ → ℕ → ℕ → Spot → Type 0
Inside i j m n (Square a b) = Reaches i m a × Reaches j n b
Inside i j m n (Values vs) = ⊥

higher : (i j : ℤ) (n : ℕ) (s : Spot) → Inside i j 1 n s → Inside i j 1 (suc n) s
higher i j n (Square a b) h = (h.0, (h.1.0, let most = h.1.1 in omega (arith, linear)))
higher i j n (Values vs) h = h

column_inside : (i j : ℤ) (n : ℕ) → All (Inside i j 1 n) (column_of_squares i j n)
column_inside i j zero = All-nil (Inside i j 1 zero)
column_inside i j (suc n) = All-push (Inside i j 1 (suc n)) (column_of_squares i j n) (Square i (j +ℤ pos n))
    (All-weaker (Inside i j 1 n) (Inside i j 1 (suc n)) (higher i j n) (column_of_squares i j n) (column_inside i j n))
    ((omega (arith, linear), omega (arith, linear)), (omega (arith, linear), omega (arith, linear)))

wider : (i j : ℤ) (m n : ℕ) (s : Spot) → Inside i j m n s → Inside i j (suc m) n s
wider i j m n (Square a b) h = ((h.0.0, let most = h.0.1 in omega (arith, linear)), h.1)
wider i j m n (Values vs) h = h

last_column : (i j : ℤ) (m n : ℕ) (s : Spot) → Inside (i +ℤ pos m) j 1 n s → Inside i j (suc m) n s
last_column i j m n (Square a b) h = ((let least = h.0.0 in omega (arith, linear), let most = h.0.1 in omega (arith, linear)), h.1)
last_column i j m n (Values vs) h = h

grid_inside : (i j : ℤ) (m n : ℕ) → All (Inside i j m n) (grid_of_squares i j m n)
grid_inside i j zero n = All-nil (Inside i j zero n)
grid_inside i j (suc m) n = All-append (Inside i j (suc m) n) (grid_of_squares i j m n) (column_of_squares (i +ℤ pos m) j n)
    (All-weaker (Inside i j m n) (Inside i j (suc m) n) (wider i j m n) (grid_of_squares i j m n) (grid_inside i j m n))
    (All-weaker (Inside (i +ℤ pos m) j 1 n) (Inside i j (suc m) n) (last_column i j m n) (column_of_squares (i +ℤ pos m) j n) (column_inside (i +ℤ pos m) j n))

-- ---- the squares of a box
span_reaches : (low x high : ℤ) → Between low x high → Reaches (square_of low) (span low high) (square_of x)
span_reaches low x high h =
    let from : square_of low ≤ℤ square_of x = square_order low x h.0 in
    let to : square_of x ≤ℤ square_of high = square_order x high h.1 in
    (from, omega (arith, ints))

pub place_listed : (p : Place) (b : Bounds) → InBox p b → Contains (squares_of b) (Square (square_of p.x) (square_of p.y))
unfolding squares_of
place_listed p b h = in_reach (square_of b.least.x) (square_of b.least.y) (square_of p.x) (square_of p.y) (span b.least.x b.most.x) (span b.least.y b.most.y)
    (span_reaches b.least.x p.x b.most.x h.0) (span_reaches b.least.y p.y b.most.y h.1)

within_span : (low high k : ℤ) → low ≤ℤ high → Reaches (square_of low) (span low high) k → Between (square_of low) k (square_of high)
within_span low high k h w = let order : square_of low ≤ℤ square_of high = square_order low high h in let most = w.1 in (w.0, omega (arith, ints))

listed_inside : (b : Bounds) (i j : ℤ) → Contains (squares_of b) (Square i j) → Inside (square_of b.least.x) (square_of b.least.y) (span b.least.x b.most.x)
    (span b.least.y b.most.y) (Square i j)
unfolding squares_of
listed_inside b i j c =
    let inside = Inside (square_of b.least.x) (square_of b.least.y) (span b.least.x b.most.x) (span b.least.y b.most.y) in
    All-contains inside (squares_of b) (Square i j) (grid_inside (square_of b.least.x) (square_of b.least.y) (span b.least.x b.most.x)
    (span b.least.y b.most.y)) c

pub squares_of_box : (b : Bounds) (i j : ℤ) → b.least.x ≤ℤ b.most.x → b.least.y ≤ℤ b.most.y → Contains (squares_of b) (Square i j) ↔ SquareMeets i j b
squares_of_box b i j h g = (there, back)
  where
    there : Contains (squares_of b) (Square i j) → SquareMeets i j b
    there c =
        let inside = listed_inside b i j c in
        let x = some_in_square b.least.x b.most.x i h (within_span b.least.x b.most.x i h inside.0) in
        let y = some_in_square b.least.y b.most.y j g (within_span b.least.y b.most.y j g inside.1) in
        (record { x = x.0; y = y.0 }, (x.1, y.1), x.2, y.2)

    back : SquareMeets i j b → Contains (squares_of b) (Square i j)
    back w = subst₂ (λ (x y : ℤ). Contains (squares_of b) (Square x y)) w.2 w.3 (place_listed w.0 b w.1)
