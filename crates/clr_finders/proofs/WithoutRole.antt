-- A row that has no role in a rule has no spots under it, and isn't of the side that serves.
use Rattle.std.proofs.Common.{◌≡◌, ◌∙◌, ℕ, Bool, false, ◌||◌, List, [], ◌∷◌, Option, Some, slice_get, sym, ap, ap₂}
use Rattle.std.proofs.lemmas.Bool.{or_from, or_parts}
use Rattle.clr_rows.specs.Held.{Held}
use Rattle.clr_rules.specs.declared.rules.Rule.{Rule}
use Rattle.clr_rules.specs.declared.rules.Rule.TheVariants.{Unique, Partner, EndNode, Crossing, Near}
use Rattle.clr_rules.specs.Sides.{is_of, is_of_side, end_of, has_role, has_role_by, has_role_in, point_of, sides}
use Rattle.clr_spots.specs.declared.spots.Spot.{Spot}
use Rattle.clr_spots.specs.Spots.{all_spots, are_many, boxes_of, in_role, is_wide, is_wide_by, is_wide_under, spots, spots_by, spots_under, square_at}
use Rattle.clr_spots.specs.Spots.{squares_near, squares_of_all, union, unless_many, values_in}
use Rattle.clr_finders.specs.Sharing.{may_serve_by, may_serve_under, rule_spots}
use Rattle.clr_finders.specs.declared.row_spots.RuleSpots.{RuleSpots}

-- a row without a role is of none of the sides
of_no_side : (rule : Rule) (s : Held) → has_role_in rule s ≡ false → (is_of (sides rule).alone s ≡ false) × (is_of (sides rule).first s ≡ false)
    × (is_of (sides rule).second s ≡ false) × (is_of (sides rule).server s ≡ false)
unfolding has_role_in
of_no_side rule s e =
    let (subjects, server) = or_parts (is_of (sides rule).alone s || is_of (sides rule).first s || is_of (sides rule).second s) (is_of (sides rule).server s) e
    in
    let (both, second) = or_parts (is_of (sides rule).alone s || is_of (sides rule).first s) (is_of (sides rule).second s) subjects in
    let (alone, first) = or_parts (is_of (sides rule).alone s) (is_of (sides rule).first s) both in
    (alone, first, second, server)

-- two roles, of which the row has neither
of_neither : (x y : Bool) (xs ys : List Spot) → x ≡ false → y ≡ false → union (in_role x xs) (in_role y ys) ≡ []
of_neither x y xs ys = ap₂ (λ (a b : Bool). union (in_role a xs) (in_role b ys))

no_spots : (rule : Rule) (s : Held) → has_role_in rule s ≡ false → all_spots rule s ≡ []
unfolding all_spots
no_spots (Unique subject columns) s e =
    let (alone, first, second, server) = of_no_side (Unique subject columns) s e in
    ap (λ (b : Bool). in_role b (values_in s columns ∷ [])) first
no_spots (Partner subject columns others server_columns) s e =
    let (alone, first, second, server) = of_no_side (Partner subject columns others server_columns) s e in
    of_neither (is_of_side subject s) (is_of_side others s) (values_in s columns ∷ []) (values_in s server_columns ∷ []) alone server
no_spots (EndNode subject tip others) s e =
    let (alone, first, second, server) = of_no_side (EndNode subject tip others) s e in
    of_neither (is_of_side subject s) (is_of_side others s) (square_at (end_of tip s)) (square_at (point_of s)) alone server
no_spots (Crossing a b others) s e =
    let (alone, first, second, server) = of_no_side (Crossing a b others) s e in
    ap (λ (b : Bool). in_role b (squares_of_all (boxes_of s))) (or_from (is_of_side a s || is_of_side b s) (is_of_side others s)
    (or_from (is_of_side a s) (is_of_side b s) first second) server)
no_spots (Near a b d) s e =
    let (alone, first, second, server) = of_no_side (Near a b d) s e in
    ap (λ (b : Bool). in_role b (squares_near d (point_of s))) (or_from (is_of_side a s) (is_of_side b s) first second)

-- what is kept of a row, by all its spots
abbrev kept : List Spot → Bool → Bool → RuleSpots
kept all role serving = record { spots = record { list = unless_many all; wide = are_many all }; has_role = role; may_serve = serving }

abbrev kept_by : Option Rule → Held → RuleSpots
kept_by o s = record { spots = record { list = spots_by o s; wide = is_wide_by o s }; has_role = has_role_by o s; may_serve = may_serve_by o s }

kept_without_role : (rule : Rule) (s : Held) → has_role_in rule s ≡ false → kept_by (Some rule) s ≡ kept [] false false
unfolding spots is_wide
kept_without_role rule s e =
    let (alone, first, second, server) = of_no_side rule s e in
    ap (λ all. kept all (has_role_in rule s) (is_of (sides rule).server s)) (no_spots rule s e) ∙ ap₂ (λ (a b : Bool). kept [] a b) e server

pub without_role : (rules : List Rule) (number : ℕ) (s : Held) (rule : Rule) (r : RuleSpots) → slice_get rules number ≡ Some rule
    → has_role_in rule s ≡ false → r.spots.list ≡ [] → r.spots.wide ≡ false → r.has_role ≡ false → r.may_serve ≡ false → r ≡ rule_spots rules number s
unfolding rule_spots spots_under is_wide_under has_role may_serve_under
without_role rules number s rule r at e list wide role serving =
    let none : r ≡ kept [] false false =
    ap₂ (λ (xs : List Spot) (b : Bool). record { spots = record { list = xs; wide = b }; has_role = r.has_role; may_serve = r.may_serve }) list wide
    ∙ ap₂ (λ (a b : Bool). kept [] a b) role serving in
    none ∙ sym (ap (λ o. kept_by o s) at ∙ kept_without_role rule s e)
