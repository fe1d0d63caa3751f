use Rattle.std.proofs.Common.{refl, ◌∙◌}
use Rattle.std.proofs.lemmas.Result.{err_from_is_err_and}
use Rattle.clr_office_reading.proofs.DeltaParts.{behind_head, fails_behind}
use Rattle.clr_office_reading.proofs.workspaces.workspace.Goals as goal

pub returns-in_err-contents : goal.returns-in_err-contents
returns-in_err-contents g c =
    let p = err_from_is_err_and c.from_residual-in_err-contents.result c.from_residual-in_err-contents.ensures.1 in
    rw (p.1, p.2) (fails_behind c.in_err-contents.field-0.0 _ _ _ _ _ _ c.in_ok-read_head.ensures c.in_ok-head.ensures c.in_err-contents.ensures)

pub returns : goal.returns
returns g c = behind_head _ _ _ _ _ _ c.in_ok-read_head.ensures c.in_ok-head.ensures ∙ rw c.in_ok-contents.ensures refl
