use Rattle.std.proofs.Common.{◌∙◌, ap₂, Option}
use Rattle.clr_rows.specs.declared.rows.Row.{Row}
use Rattle.clr_merge_sets.specs.MemberChanges.{set_of}
use Rattle.clr_tips.specs.Splitting.{splits_of_rows}
use Rattle.clr_tips.proofs.splitting.splits_near.Goals as goal

pub returns : goal.returns
returns c are =
    let a = c.args in
    let s = set_of a.members.now in
    c.in_ok-list.ensures
    ∙ ap₂ (λ (f g : Option Row). splits_of_rows a.office.now s a.members.now.changes.items a.need.now a.version a.side.now a.place f g)
    (c.row_of_version-first.ensures s are) (c.row_of_version-second.ensures s are)
