use Rattle.std.proofs.Common.{map, take}
use Rattle.clr_foot.specs.Scenes.{model_of, setting_of}
use Rattle.clr_groups.specs.declared.group_needs.GroupNeed.{GroupNeed}
use Rattle.clr_plan.proofs.EntryLaws.{AreEntriesOf}
use Rattle.clr_plan.proofs.group_picks.pick_by_group.Given as goal

-- the entries of the needs so far
abbrev pub invariant-loop-touched : goal.invariant-loop-touched
invariant-loop-touched g l = AreEntriesOf (setting_of (model_of g.V.RowView.content l.scene))
    (take l.touched-index (map (λ (x : GroupNeed). x.need) l.needs)) l.list.items
