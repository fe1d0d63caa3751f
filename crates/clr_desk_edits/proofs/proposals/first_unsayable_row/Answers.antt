use Rattle.std.proofs.Common.{◌≡◌, ◌∙◌, ap, rules, sym, false, true}
use Rattle.std.specs.Map.Iter.{deref_pair}
use Rattle.std.proofs.lemmas.Map.Iter.{rest_all, rest_more}
use Rattle.clr_desk_edits.specs.Proposals.{first_unsayable_row, is_sayable_row}
use Rattle.clr_desk_edits.proofs.Firsts.{no_row, row_here, rows_behind}
use Rattle.clr_desk_edits.proofs.proposals.first_unsayable_row.Goals as goal

pub returns-then-not-is_sayable_row : goal.returns-then-not-is_sayable_row
returns-then-not-is_sayable_row c =
    let left = c.next.new.self in
    let rows = c.loop-cell.cell-iterator in
    let rest = rest_more deref_pair rows left c.next.result (c.in-Some.cell, c.in-Some.row) c.in-Some.is c.next.ensures.steps in
    let unsayable : is_sayable_row c.in-Some.row.now ≡ false = search rules in
    sym (row_here rows left (c.in-Some.cell.now, c.in-Some.row.now) rest unsayable) ∙ c.loop-cell.invariant

pub loop-cell-preserved : goal.loop-cell-preserved
loop-cell-preserved c =
    let left = c.next.new.self in
    let rows = c.loop-cell.cell-iterator in
    let rest = rest_more deref_pair rows left c.next.result (c.in-Some.cell, c.in-Some.row) c.in-Some.is c.next.ensures.steps in
    let sayable : is_sayable_row c.in-Some.row.now ≡ true = search rules in
    sym (rows_behind rows left (c.in-Some.cell.now, c.in-Some.row.now) rest sayable) ∙ c.loop-cell.invariant

pub returns : goal.returns
returns c =
    let rows = c.loop-cell.cell-iterator in
    let none_left = rest_all deref_pair rows c.next.new.self c.next.result c.in-None.is c.next.ensures.steps in
    sym (ap first_unsayable_row none_left ∙ no_row) ∙ c.loop-cell.invariant
