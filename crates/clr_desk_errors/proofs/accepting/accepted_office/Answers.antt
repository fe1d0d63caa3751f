use Rattle.clr_desk_errors.proofs.Accepted.{is_accepted}
use Rattle.clr_desk_errors.proofs.accepting.accepted_office.Goals as goal

pub returns : goal.returns
returns c =
    let t = c.in_ok-text.ensures in
    is_accepted c.args.office.now c.len-standing.ensures.sound c.in_ok-text.text.items _ t.text c.in_ok-push.ensures.items t.again t.known t.admitted
