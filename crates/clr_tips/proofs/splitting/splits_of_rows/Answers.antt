use Rattle.std.proofs.Common.{◌∙◌, ap, ap₂}
use Rattle.clr_merge_sets.specs.MemberChanges.{set_of}
use Rattle.clr_tips.specs.Splitting.{splits_by, splitters_of}
use Rattle.clr_tips.proofs.splitting.splits_of_rows.Goals as goal

pub returns-in_ok-list-in-Some-Some : goal.returns-in_ok-list-in-Some-Some
returns-in_ok-list-in-Some-Some c =
    let a = c.args in
    let rows = c.in-Some-Some in
    rw (rows.is-0, rows.is-1) (c.in_ok-list-in-Some-Some.ensures
    ∙ ap (splits_by a.office.now (set_of a.members.now) a.need.now a.version a.side.now a.place rows.first.now rows.second.now)
    (c.splitters_of-by.ensures ∙ ap₂ splitters_of c.bringer_of-one.ensures c.bringer_of-two.ensures))
