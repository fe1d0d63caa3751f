use Rattle.std.proofs.Common.{◌≡◌, [], take}
use Rattle.std.specs.List.{fold}
use Rattle.clr_layer_reports.specs.Reports.{with_kind}
use Rattle.clr_layer_reports.proofs.counts.kinds_of.Given as goal

-- the first of each kind among the faults so far
abbrev pub invariant-loop-found : goal.invariant-loop-found
invariant-loop-found l = l.kinds.items ≡ fold with_kind [] (take l.found-index l.faults)
