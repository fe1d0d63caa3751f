use Rattle.std.proofs.Common.{◌≡◌, ◌++◌, map, take}
use Rattle.clr_html.specs.Words.{words_of_row}
use Rattle.clr_merge_sets.specs.MemberChanges.{set_of}
use Rattle.clr_plan_page.specs.Needs.{entry_row}
use Rattle.clr_plan_page.proofs.needs.add_entries.Given as goal

-- the rows of the entries so far are added
abbrev pub invariant-loop-entry : goal.invariant-loop-entry
invariant-loop-entry l = map words_of_row l.rows.items
    ≡ map words_of_row l.initial.rows.items
    ++ map (entry_row l.setting.office.now (set_of l.setting.members.now).members l.setting.members.now.changes.items) (take l.entry-index l.entries)
