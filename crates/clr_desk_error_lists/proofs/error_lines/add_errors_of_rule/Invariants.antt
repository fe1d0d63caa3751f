use Rattle.std.proofs.Common.{◌≡◌, ◌++◌, take}
use Rattle.std.specs.List.{flat_map}
use Rattle.clr_desk_error_lists.specs.ErrorLines.{error_of_rule}
use Rattle.clr_desk_error_lists.proofs.error_lines.add_errors_of_rule.Given as goal

-- those of the errors so far that are of the rule are added
abbrev pub invariant-loop-error : goal.invariant-loop-error
invariant-loop-error l = l.text.items ≡ l.initial.text.items ++ flat_map (error_of_rule l.office l.number) (take l.error-index l.errors)
