use Rattle.std.proofs.Common.{◌≡◌, ◌++◌, ◌-◌, length, map, take}
use Rattle.std.specs.FinMap as finite
use Rattle.clr_html.specs.Words.{words_of_row}
use Rattle.clr_plan_page.specs.Designs.{change_row}
use Rattle.clr_plan_page.proofs.designs.first_changes.Given as goal

-- the rows so far, with those of the changes that are still to be told, are the first 400
abbrev pub invariant-loop-cell : goal.invariant-loop-cell
invariant-loop-cell l =
    let row = change_row l.setting.office.now.schema in
    map words_of_row l.rows.items ++ map row (take (400 - length l.rows.items) l.cell-iterator) ≡ map row (take 400 (finite.entries l.set))
