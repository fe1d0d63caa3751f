use Rattle.std.proofs.Common.{◌≡◌, ◌++◌, List, ℕ, map, take, string_bytes}
use Rattle.std.specs.List.{flat_map}
use Rattle.clr_geojson.specs.Features.{after_comma}
use Rattle.clr_plan_features.proofs.turns.add_others.Given as goal

-- the names so far are added
abbrev pub invariant-loop-name : goal.invariant-loop-name
invariant-loop-name l =
    string_bytes l.text ≡ string_bytes l.initial.text ++ flat_map (after_comma (λ (name : List ℕ). name)) (map (λ name. name.now) (take l.name-index l.names))
