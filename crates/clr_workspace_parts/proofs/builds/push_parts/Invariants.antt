use Rattle.std.proofs.Common.{◌≡◌, suc, take, None}
use Rattle.clr_deltas.specs.Deltas.{wholes}
use Rattle.clr_workspace_parts.specs.Parts.{list_of, part_name_fault_at, first_below}
use Rattle.clr_workspace_parts.proofs.builds.push_parts.Given as goal

-- LIVE and the parts so far stand, and none of them has a fault
abbrev pub invariant-loop-at : goal.invariant-loop-at
invariant-loop-at l = record {
  made : wholes l.live l.map ≡ take (suc l.at) (list_of l.live l.parts);
  clear : first_below (part_name_fault_at (list_of l.live l.parts)) l.at ≡ None;
}
