use Rattle.clr_office.proofs.Sessions.{session_uncut}
use Rattle.clr_office.proofs.run.run_office.Goals as goal

pub returns-in_default-clause-answers : goal.returns-in_default-clause-answers
returns-in_default-clause-answers g c =
    let uncut = session_uncut c.as_slice.result.now c.in_default.ensures in
    (c.in_ok-text.text.items, (c.in_ok-text.ensures.whole, c.in_ok-text.ensures.good), rw (← c.as_slice.ensures.value) uncut)
