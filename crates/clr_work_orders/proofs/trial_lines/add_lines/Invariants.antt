use Rattle.std.proofs.Common.{◌≡◌, ◌++◌, take}
use Rattle.std.specs.List.{flat_map}
use Rattle.clr_work_orders.specs.WorkOrders.{trial_text}
use Rattle.clr_work_orders.proofs.trial_lines.add_lines.Given as goal

-- the lines so far
abbrev pub invariant-loop-trial : goal.invariant-loop-trial
invariant-loop-trial l = l.text.items ≡ l.fn.text.items ++ flat_map (trial_text l.is_cleared) (take l.trial-index l.trials)
