use Rattle.std.proofs.Common.{◌≡◌, ◌++◌, map, take}
use Rattle.std.specs.List.{flat_map, zip}
use Rattle.clr_guarded_edits.specs.SqlTexts.{assigned}
use Rattle.clr_guarded_edits.proofs.assignments.add_assigned_values.Given as goal

-- the assignments so far are added
abbrev pub invariant-loop-at : goal.invariant-loop-at
invariant-loop-at l = map (λ piece. piece.items) l.pieces.items
    ≡ map (λ piece. piece.items) l.initial.pieces.items ++ flat_map assigned (take l.at (zip l.columns (zip l.old l.new)))
