use Rattle.std.proofs.lemmas.Result.{IfOk-weaker}
use Rattle.clr_desk_clashes.specs.Clashes.{of_found}
use Rattle.clr_desk_clashes.proofs.ShownSets.{lines_decide}
use Rattle.clr_desk_clashes.proofs.clashes.print_of_merge_set.Goals as goal

pub returns-in-Ok : goal.returns-in-Ok
returns-in-Ok c =
    let found = c.in-Ok.found in
    let sets = c.in-Ok.ensures.exact in
    IfOk-weaker c.found_print.result _ _ (λ print is. of_found found c.in-Ok.ensures.found sets (lines_decide c.args.office.now _ found sets) is)
    c.found_print.ensures
