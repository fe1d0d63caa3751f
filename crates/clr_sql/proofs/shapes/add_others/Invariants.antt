use Rattle.std.proofs.Common.{◌≡◌, ◌++◌, take}
use Rattle.std.specs.List.{flat_map}
use Rattle.clr_layer_text.specs.Wkt.{next_text}
use Rattle.clr_sql.proofs.shapes.add_others.Given as goal

-- the places so far are added
abbrev pub invariant-loop-place : goal.invariant-loop-place
invariant-loop-place l = l.text.items ≡ l.initial.text.items ++ flat_map next_text (take l.place-index l.places)
