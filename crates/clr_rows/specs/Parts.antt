-- The vertices of a shape, and its parts: the segments that it is made of, each by its two ends.
use Rattle.std.specs.Prelude.{ℕ, zero, suc, List, [], ◌∷◌, drop, Option, None, slice_get}
use Rattle.std.specs.List.{zip}
use Rattle.clr_rows.specs.declared.places.Place.{Place}
use Rattle.clr_rows.specs.declared.places.Shape.{Shape}
use Rattle.clr_rows.specs.declared.places.Shape.TheVariants.{Bare, At, Line, Chain}

abbrev pub vertices_of : Shape → List Place
vertices_of Bare = []
vertices_of (At p) = p ∷ []
vertices_of (Line p q) = p ∷ q ∷ []
vertices_of (Chain vertices) = vertices

-- each vertex of a path with the next
abbrev pub path_parts : List Place → List (Place × Place)
path_parts vertices = zip vertices (drop 1 vertices)

-- a segment is its own part, and a point has none
abbrev pub parts_of : Shape → List (Place × Place)
parts_of Bare = []
parts_of (At p) = []
parts_of (Line p q) = (p, q) ∷ []
parts_of (Chain vertices) = path_parts vertices

-- the part of this number, counted from 1, or none
abbrev pub part_of : Shape → ℕ → Option (Place × Place)
part_of shape zero = None
part_of shape (suc n) = slice_get (parts_of shape) n
