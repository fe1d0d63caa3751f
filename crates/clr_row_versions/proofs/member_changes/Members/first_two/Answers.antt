use Rattle.std.proofs.Common.{◌∙◌, Some, None, length, subst, sym}
use Rattle.clr_row_versions.proofs.ChangerSteps.{are_changers, found_at}
use Rattle.clr_row_versions.proofs.Searches.{changer_below, sets_of}
use Rattle.clr_row_versions.proofs.SharedCells.{AreTwoOf, first_two, none_is_apart, one_is_apart}
use Rattle.clr_row_versions.proofs.member_changes.Members.first_two.Goals as goal

pub returns-in_err-changers : goal.returns-in_err-changers
returns-in_err-changers c =
    let sets = sets_of c.args.self.now.sets.items in
    let none = found_at c.args.self.now.changers c.args.cell c.key_of.result _ c.key_of.ensures c.in_err-changers.ensures.value
    ∙ c.args.self.now.changed_by c.args.cell in
    subst (λ r. AreTwoOf sets c.args.cell r) (sym c.from_residual.ensures) (none_is_apart sets c.args.cell (length sets) (changer_below sets c.args.cell)
    (are_changers sets c.args.cell None none))

pub returns-in_err-second : goal.returns-in_err-second
returns-in_err-second c =
    let sets = sets_of c.args.self.now.sets.items in
    let changers = c.in_ok-changers.changers.now in
    let are = are_changers sets c.args.cell (Some changers) (found_at c.args.self.now.changers c.args.cell c.key_of.result _ c.key_of.ensures
    c.in_ok-changers.ensures.value ∙ c.args.self.now.changed_by c.args.cell) in
    subst (λ r. AreTwoOf sets c.args.cell r) (sym c.from_residual-in_err-second.ensures)
    (one_is_apart sets c.args.cell (length sets) (changer_below sets c.args.cell) changers are c.in_err-second.was)

pub returns : goal.returns
returns c =
    let sets = sets_of c.args.self.now.sets.items in
    let changers = c.in_ok-changers.changers.now in
    let are = are_changers sets c.args.cell (Some changers) (found_at c.args.self.now.changers c.args.cell c.key_of.result _ c.key_of.ensures
    c.in_ok-changers.ensures.value ∙ c.args.self.now.changed_by c.args.cell) in
    first_two sets c.args.cell (length sets) (changer_below sets c.args.cell) changers c.in_ok-second.second are c.in_ok-second.was
