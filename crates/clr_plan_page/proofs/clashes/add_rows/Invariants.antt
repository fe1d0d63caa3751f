use Rattle.std.proofs.Common.{◌≡◌, ◌++◌, map, take}
use Rattle.clr_html.specs.Words.{words_of_row}
use Rattle.clr_merge_sets.specs.MemberChanges.{set_of}
use Rattle.clr_plan_page.specs.Clashes.{clash_row}
use Rattle.clr_plan_page.proofs.clashes.add_rows.Given as goal

-- the rows of the sets so far are added
abbrev pub invariant-loop-clash : goal.invariant-loop-clash
invariant-loop-clash l = map words_of_row l.rows.items
    ≡ map words_of_row l.initial.rows.items
    ++ map (clash_row l.setting.office.now (set_of l.setting.members.now)) (take l.clash-index l.clashes)
