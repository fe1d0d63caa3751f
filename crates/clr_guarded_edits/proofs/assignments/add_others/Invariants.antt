use Rattle.std.proofs.Common.{◌≡◌, ◌++◌, codes, map, take}
use Rattle.std.specs.List.{flat_map}
use Rattle.clr_guarded_edits.proofs.assignments.add_others.Given as goal

-- the pieces so far are added
abbrev pub invariant-loop-piece : goal.invariant-loop-piece
invariant-loop-piece l = l.text.items
    ≡ l.initial.text.items ++ flat_map (λ other. codes ", " ++ other) (map (λ piece. piece.items) (take l.piece-index l.pieces))
