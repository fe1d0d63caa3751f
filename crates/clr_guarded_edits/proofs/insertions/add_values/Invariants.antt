use Rattle.std.proofs.Common.{◌≡◌, ◌++◌, take}
use Rattle.std.specs.List.{flat_map}
use Rattle.clr_guarded_edits.specs.SqlTexts.{with_comma}
use Rattle.clr_guarded_edits.proofs.insertions.add_values.Given as goal

-- the values so far are added
abbrev pub invariant-loop-value : goal.invariant-loop-value
invariant-loop-value l = l.text.items ≡ l.initial.text.items ++ flat_map with_comma (take l.value-index l.values)
