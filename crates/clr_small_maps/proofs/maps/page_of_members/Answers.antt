use Rattle.std.proofs.Common.{IfOk, List, ap, subst}
use Rattle.clr_rows.specs.Contents.{Changes}
use Rattle.clr_small_maps.specs.SmallMaps.{IsSmallPage}
use Rattle.clr_small_maps.proofs.maps.page_of_members.Goals as goal

pub returns : goal.returns
returns c =
    let same = ap (λ members. members.changes.items) c.in_ok-designs.ensures.members in
    subst (λ (sets : List Changes). IfOk c.page_of.result (IsSmallPage c.args.title.now c.args.words.now sets)) same c.page_of.ensures
