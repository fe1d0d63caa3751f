use Rattle.std.proofs.Common.{◌∙◌, ap, sym}
use Rattle.clr_merge_sets.specs.MemberChanges.{set_of}
use Rattle.clr_tips.specs.Splitting.{splits_of_second}
use Rattle.clr_tips.proofs.splitting.splits_of.Goals as goal

pub returns-in_ok-list-in-Some-Some-Some : goal.returns-in_ok-list-in-Some-Some-Some
returns-in_ok-list-in-Some-Some-Some c are =
    let a = c.args in
    let m = a.members.now in
    let all = c.in-Some-Some-Some in
    rw (all.is-0, all.is-1) (c.in_ok-list-in-Some-Some-Some.ensures are
    ∙ ap (splits_of_second a.office.now (set_of m) m.changes.items a.need.now all.side.now all.place) (sym all.is-2))
