use Rattle.std.proofs.Common.{◌≡◌, ◌++◌, codes, string_bytes, take}
use Rattle.std.specs.List.{flat_map}
use Rattle.clr_plan_causes.specs.Badges.{column_name}
use Rattle.clr_plan_causes.proofs.badges.add_others.Given as goal

-- the columns so far are added
abbrev pub invariant-loop-column : goal.invariant-loop-column
invariant-loop-column l = string_bytes l.text
    ≡ string_bytes l.initial.text ++ flat_map (λ other. codes ", " ++ column_name l.schema l.table other) (take l.column-index l.columns)
