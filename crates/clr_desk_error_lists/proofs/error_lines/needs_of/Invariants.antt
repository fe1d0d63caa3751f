use Rattle.std.proofs.Common.{◌≡◌, map, take}
use Rattle.clr_desk_error_lists.proofs.error_lines.needs_of.Given as goal

-- the needs of the errors so far
abbrev pub invariant-loop-error : goal.invariant-loop-error
invariant-loop-error l = map (λ e. e.need) (take l.error-index l.errors) ≡ l.needs.items
