use Rattle.std.proofs.Common.{◌≡◌, ◌++◌, take}
use Rattle.std.specs.List.{flat_map}
use Rattle.clr_merge_sets.specs.MemberChanges.{set_of}
use Rattle.clr_work_orders.specs.Remedies.{bringing}
use Rattle.clr_work_orders.proofs.bringing.add_bringing_all.Given as goal

-- the actions of the members so far
abbrev pub invariant-loop-member : goal.invariant-loop-member
invariant-loop-member l = l.list.items ≡ l.initial.list.items
    ++ flat_map (bringing l.setting.office.now (set_of l.setting.members.now) l.side l.place l.table) (take l.member-index l.members)
