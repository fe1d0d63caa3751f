use Rattle.std.proofs.Common.{◌≤◌, arith, length, length-take-le, sym, take_all}
use Rattle.clr_plan_page.proofs.needs.first_entries.Goals as goal

pub slice_bounds-result-end : goal.slice_bounds-result-end
slice_bounds-result-end c =
    let enough : 400 ≤ length c.args.entries.now = omega arith in
    sym (length-take-le 400 c.args.entries.now enough)

pub returns-then-entries-le-MOST_NEEDS : goal.returns-then-entries-le-MOST_NEEDS
returns-then-entries-le-MOST_NEEDS c =
    let few : length c.args.entries.now ≤ 400 = omega arith in
    sym (take_all 400 c.args.entries.now few)
