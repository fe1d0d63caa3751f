-- The squares of several boxes have those of each box.
use Rattle.std.proofs.Common.{inl, inr, List, [], ◌∷◌, sym, subst}
use Rattle.std.specs.List.{fold}
use Rattle.clr_segments.specs.declared.boxes.Bounds.{Bounds}
use Rattle.clr_spots.specs.declared.spots.Spot.{Spot}
use Rattle.clr_spots.specs.Spots.{squares_of, squares_of_all, union}
use Rattle.clr_rules.proofs.Elements.{Among}
use Rattle.clr_spots.proofs.SharedSpots.{Listed, joined_front, joined_back}

abbrev pub add_squares : List Spot → Bounds → List Spot
add_squares xs b = union xs (squares_of b)

listed_before : (x : Spot) (xs : List Spot) (bs : List Bounds) → Listed x xs → Listed x (fold add_squares xs bs)
listed_before x xs [] h = h
listed_before x xs (b ∷ bs) h = listed_before x (union xs (squares_of b)) bs (joined_front x xs (squares_of b) h)

listed_among : (x : Spot) (b : Bounds) (xs : List Spot) (bs : List Bounds) → Among b bs → Listed x (squares_of b) → Listed x (fold add_squares xs bs)
listed_among x b xs [] k h = absurd k
listed_among x b xs (c ∷ bs) (inl same) h = listed_before x (union xs (squares_of c)) bs
    (joined_back x xs (squares_of c) (subst (λ (e : Bounds). Listed x (squares_of e)) (sym same) h))
listed_among x b xs (c ∷ bs) (inr k) h = listed_among x b (union xs (squares_of c)) bs k h

-- a square of one of the boxes
pub listed_in_boxes : (x : Spot) (b : Bounds) (bs : List Bounds) → Among b bs → Listed x (squares_of b) → Listed x (squares_of_all bs)
unfolding squares_of_all
listed_in_boxes x b bs k h = listed_among x b [] bs k h
