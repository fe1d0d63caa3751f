use Rattle.std.proofs.Common.{◌≡◌, ◌++◌, take}
use Rattle.std.specs.List.{flat_map}
use Rattle.clr_geojson.specs.Features.{after_comma, property_text}
use Rattle.clr_geojson.proofs.properties.add_further.Given as goal

-- the properties so far are added
abbrev pub invariant-loop-property : goal.invariant-loop-property
invariant-loop-property l = l.text.items ≡ l.initial.text.items ++ flat_map (after_comma property_text) (take l.property-index l.properties)
