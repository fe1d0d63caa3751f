use Rattle.std.proofs.Common.{◌≡◌, ◌++◌, take}
use Rattle.std.specs.List.{flat_map}
use Rattle.clr_geojson.specs.Features.{after_comma, place_text}
use Rattle.clr_geojson.proofs.shapes.add_further.Given as goal

-- the places so far are added
abbrev pub invariant-loop-place : goal.invariant-loop-place
invariant-loop-place l = l.text.items ≡ l.initial.text.items ++ flat_map (after_comma place_text) (take l.place-index l.places)
