use Rattle.std.proofs.lemmas.Result.{err_from_is_err_and}
use Rattle.clr_desk_cuts.proofs.passing.pass.Goals as goal

pub returns-in_err-rows-clause-source : goal.returns-in_err-rows-clause-source
returns-in_err-rows-clause-source g c =
    let p = err_from_is_err_and c.from_residual.result c.from_residual.ensures.1 in
    rw (p.1, p.2) c.requires.unread.reading.unfailed
