-- The spots of a row under a rule: squares of the plane, or lists of values. Rows that stand in one need share one.
use Rattle.std.specs.Prelude.{◌≡◌, ℕ, zero, suc, ◌+◌, ℤ, pos, ◌+ℤ◌, ◌-ℤ◌, Bool, true, false, not, List, [], ◌∷◌, ◌++◌, ◌||◌, ◌&&◌}
use Rattle.std.specs.Prelude.{length, map, filter, nat_lt, Option, Some, None, unsigned_abs, slice_get, if◌then◌else◌}
use Rattle.std.specs.Int.{int_div_euclid}
use Rattle.std.specs.List.{fold, list_any, filter_map}
use Rattle.clr_rows.specs.declared.places.Place.{Place}
use Rattle.clr_rows.specs.declared.places.Shape.{Shape}
use Rattle.clr_rows.specs.declared.places.Shape.TheVariants.{At}
use Rattle.clr_rows.specs.Held.{Held}
use Rattle.clr_rows.specs.Parts.{parts_of}
use Rattle.clr_segments.specs.declared.boxes.Bounds.{Bounds}
use Rattle.clr_segments.specs.Bounding.{InBox, box_between, grown_box}
use Rattle.clr_rules.specs.declared.columns.Col.{Col}
use Rattle.clr_spots.specs.declared.limits.TheConstants.{SQUARE_SIDE, MOST_SPOTS}
use Rattle.clr_rules.specs.declared.rules.Rule.{Rule}
use Rattle.clr_rules.specs.declared.rules.Rule.TheVariants.{Unique, Partner, EndNode, Crossing, Near}
use Rattle.clr_spots.specs.declared.spots.Spot.{Spot}
use Rattle.clr_spots.specs.declared.spots.Spot.TheVariants.{Square, Values}
use Rattle.clr_rules.specs.Sides.{is_of_side, has_role, field, point_of, end_of}
use Rattle.clr_spots.specs.SpotOrder.{same_spot}

-- squares ------------------------------------------------------------------------------------

-- the number of the square that a coordinate is in, rounded down
abbrev pub square_of : ℤ → ℤ
square_of x = int_div_euclid x SQUARE_SIDE

-- n squares upwards from (i, j)
abbrev pub column_of_squares : ℤ → ℤ → ℕ → List Spot
column_of_squares i j zero = []
column_of_squares i j (suc n) = column_of_squares i j n ++ Square i (j +ℤ pos n) ∷ []

-- m such columns, from (i, j) to the right
abbrev pub grid_of_squares : ℤ → ℤ → ℕ → ℕ → List Spot
grid_of_squares i j zero n = []
grid_of_squares i j (suc m) n = grid_of_squares i j m n ++ column_of_squares (i +ℤ pos m) j n

-- how many squares the coordinates from low to high are in
abbrev pub span : ℤ → ℤ → ℕ
span low high = unsigned_abs (square_of high -ℤ square_of low) + 1

-- all squares that meet a box
unfoldable pub squares_of : Bounds → List Spot
squares_of b = grid_of_squares (square_of b.least.x) (square_of b.least.y) (span b.least.x b.most.x) (span b.least.y b.most.y)

-- some place of the box is in the square (i, j)
abbrev pub SquareMeets : ℤ → ℤ → Bounds → Type 0
SquareMeets i j b = (p : Place) × InBox p b × (square_of p.x ≡ i) × (square_of p.y ≡ j)

-- rows ---------------------------------------------------------------------------------------

-- the box of each part of a shape
abbrev pub boxes_of_parts : Shape → List Bounds
boxes_of_parts shape = map (λ e. box_between e.0 e.1) (parts_of shape)

-- the boxes of a shape: of a point, or of each part
abbrev pub boxes_in : Shape → List Bounds
boxes_in (At p) = box_between p p ∷ []
boxes_in shape = boxes_of_parts shape

abbrev pub boxes_of : Held → List Bounds
boxes_of s = boxes_in s.1.shape

abbrev pub square_at : Option Place → List Spot
square_at None = []
square_at (Some p) = Square (square_of p.x) (square_of p.y) ∷ []

-- all squares that meet the box of a point, grown by d on each side
abbrev pub squares_near : ℤ → Option Place → List Spot
squares_near d None = []
squares_near d (Some p) = squares_of (grown_box (box_between p p) d)

-- the values of a row in some columns
abbrev pub values_in : Held → List Col → Spot
values_in s columns = Values (filter_map (field s) columns)

-- the spots of a role, where the row has it
abbrev pub in_role : Bool → List Spot → List Spot
in_role true spots = spots
in_role false spots = []

-- the spots of both lists, each once
abbrev pub union : List Spot → List Spot → List Spot
union xs ys = xs ++ filter (λ y. not (list_any (λ x. same_spot x y) xs)) ys

-- all squares that meet some of the boxes, each once
unfoldable pub squares_of_all : List Bounds → List Spot
squares_of_all boxes = fold (λ xs b. union xs (squares_of b)) [] boxes

-- the spots of a row over its roles in a rule
unfoldable pub all_spots : Rule → Held → List Spot
all_spots (Unique subject columns) s = in_role (is_of_side subject s) (values_in s columns ∷ [])
all_spots (Partner subject columns server server_columns) s =
    union (in_role (is_of_side subject s) (values_in s columns ∷ [])) (in_role (is_of_side server s) (values_in s server_columns ∷ []))
all_spots (EndNode subject tip server) s =
    union (in_role (is_of_side subject s) (square_at (end_of tip s))) (in_role (is_of_side server s) (square_at (point_of s)))
all_spots (Crossing a b server) s = in_role (is_of_side a s || is_of_side b s || is_of_side server s) (squares_of_all (boxes_of s))
all_spots (Near a b d) s = in_role (is_of_side a s || is_of_side b s) (squares_near d (point_of s))

-- there are more spots than the most
abbrev pub are_many : List Spot → Bool
are_many spots = nat_lt MOST_SPOTS (length spots)

-- the list of spots, empty where they are more than the most
abbrev pub unless_many : List Spot → List Spot
unless_many spots = if are_many spots then [] else spots

-- a row of too many spots
unfoldable pub is_wide : Rule → Held → Bool
is_wide rule s = are_many (all_spots rule s)

-- the spots that a row is found by: none where it is wide
unfoldable pub spots : Rule → Held → List Spot
spots rule s = unless_many (all_spots rule s)

abbrev pub have_common_spot : List Spot → List Spot → Bool
have_common_spot xs ys = list_any (λ x. list_any (same_spot x) ys) xs

-- two rows share a spot, or one of them is wide
unfoldable pub share : Rule → Held → Held → Bool
share rule s t = is_wide rule s || is_wide rule t || have_common_spot (spots rule s) (spots rule t)

-- the spots of a row under the rule of a number
abbrev pub spots_by : Option Rule → Held → List Spot
spots_by None s = []
spots_by (Some rule) s = spots rule s

abbrev pub is_wide_by : Option Rule → Held → Bool
is_wide_by None s = false
is_wide_by (Some rule) s = is_wide rule s

abbrev pub share_by : Option Rule → Held → Held → Bool
share_by None s t = false
share_by (Some rule) s t = share rule s t

unfoldable pub spots_under : List Rule → ℕ → Held → List Spot
spots_under rules number s = spots_by (slice_get rules number) s

unfoldable pub is_wide_under : List Rule → ℕ → Held → Bool
is_wide_under rules number s = is_wide_by (slice_get rules number) s

unfoldable pub share_under : List Rule → ℕ → Held → Held → Bool
share_under rules number s t = share_by (slice_get rules number) s t

-- both rows have a role in the rule, and they share
abbrev pub are_sharing : List Rule → ℕ → Held → Held → Bool
are_sharing rules number s t = has_role rules number s && (has_role rules number t && share_under rules number s t)
