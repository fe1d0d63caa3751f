-- Places in metres.
use Rattle.std.specs.Prelude.{ℕ, List, ◌++◌, codes}
use Rattle.clr_rows.specs.declared.places.Place.{Place}
use Rattle.clr_metres.specs.Metres.{metres_text}

-- the coordinates of a place in parentheses
abbrev pub place_text : Place → List ℕ
place_text p = codes "(" ++ metres_text p.x ++ codes ", " ++ metres_text p.y ++ codes ")"
