use Rattle.std.proofs.Common.{◌≡◌, ◌++◌, drop, map}
use Rattle.std.specs.List.{enumerate_from}
use Rattle.clr_merge_sets.specs.MemberChanges.{set_of}
use Rattle.clr_plan_page.specs.Designs.{design_shown, designs_shown}
use Rattle.clr_page_parts.specs.Shown.{shown}
use Rattle.clr_plan_page.proofs.designs.add_designs.Given as goal

-- what is shown so far, with the designs that are left, is all of them
abbrev pub invariant-loop-at : goal.invariant-loop-at
invariant-loop-at l =
    let tables = l.setting.office.now.schema in
    let members = (set_of l.setting.members.now).members in
    map shown l.section.blocks.items ++ map (design_shown tables members) (enumerate_from l.at (drop l.at l.sets))
    ≡ map shown l.initial.section.blocks.items ++ designs_shown tables members l.sets
