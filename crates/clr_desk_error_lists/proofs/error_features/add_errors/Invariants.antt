use Rattle.std.proofs.Common.{◌≡◌, ◌++◌, map, take}
use Rattle.std.specs.List.{flat_map}
use Rattle.clr_geojson.specs.Collections.{line_with_comma}
use Rattle.clr_desk_error_lists.specs.ErrorFeatures.{error_feature}
use Rattle.clr_desk_error_lists.proofs.error_features.add_errors.Given as goal

-- the features of the errors so far are added
abbrev pub invariant-loop-error : goal.invariant-loop-error
invariant-loop-error l = l.text.items ≡ l.initial.text.items ++ flat_map line_with_comma (map (error_feature l.office) (take l.error-index l.errors))
