-- Tests whether values, rows, and rows or none are the same.
use Rattle.std.specs.Prelude.{Bool, true, false, List, [], ◌∷◌, ◌&&◌, Option, Some, None}
use Rattle.std.specs.Ordering.{int_eq}
use Rattle.std.specs.Str.{bytes_eq}
use Rattle.clr_rows.specs.declared.places.Place.{Place}
use Rattle.clr_rows.specs.declared.places.Shape.{Shape}
use Rattle.clr_rows.specs.declared.places.Shape.TheVariants.{Bare, At, Line, Chain}
use Rattle.clr_rows.specs.declared.rows.Value.{Value}
use Rattle.clr_rows.specs.declared.rows.Value.TheVariants.{Int, Words}
use Rattle.clr_rows.specs.declared.rows.Row.{Row}

abbrev pub same_value : Value → Value → Bool
same_value (Int a) (Int b) = int_eq a b
same_value (Words a) (Words b) = bytes_eq a b
same_value (Int a) (Words b) = false
same_value (Words a) (Int b) = false

abbrev pub same_values : List Value → List Value → Bool
same_values [] [] = true
same_values [] (w ∷ ws) = false
same_values (v ∷ vs) [] = false
same_values (v ∷ vs) (w ∷ ws) = same_value v w && same_values vs ws

abbrev pub same_place : Place → Place → Bool
same_place a b = int_eq a.x b.x && int_eq a.y b.y

abbrev pub same_places : List Place → List Place → Bool
same_places [] [] = true
same_places [] (q ∷ qs) = false
same_places (p ∷ ps) [] = false
same_places (p ∷ ps) (q ∷ qs) = same_place p q && same_places ps qs

abbrev pub same_shape : Shape → Shape → Bool
same_shape Bare Bare = true
same_shape (At a) (At b) = same_place a b
same_shape (Line a b) (Line c d) = same_place a c && same_place b d
same_shape (Chain ps) (Chain qs) = same_places ps qs
same_shape _ _ = false

abbrev pub same_row : Row → Row → Bool
same_row a b = same_values a.values b.values && same_shape a.shape b.shape

-- whether two rows are the same, a missing row counting as a value of its own
unfoldable pub same : Option Row → Option Row → Bool
same None None = true
same None (Some b) = false
same (Some a) None = false
same (Some a) (Some b) = same_row a b
