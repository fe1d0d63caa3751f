use Rattle.std.proofs.Common.{◌≡◌, map, take}
use Rattle.clr_merge_sets.specs.MergeSetNames.{merge_set}
use Rattle.clr_work_orders.specs.Trials.{AreTrials}
use Rattle.clr_work_orders.proofs.trials.try_all.Given as goal

-- the trials of the actions so far, and the office as it was
abbrev pub invariant-loop-action : goal.invariant-loop-action
invariant-loop-action l =
    AreTrials l.fn.office (merge_set l.fn.root (map (λ name. name.now) l.fn.names)) l.fn.order (take l.action-index l.actions) l.trials.items
    × (l.office ≡ l.fn.office)
