use Rattle.std.proofs.Common.{◌≡◌, ◌∙◌, refl, ap, sym}
use Rattle.std.specs.FinMap as finite
use Rattle.clr_rows.specs.Contents.{Content, over}
use Rattle.clr_deltas.specs.Differences.{Differences, seen_over}
use Rattle.clr_deltas.specs.Deltas.{wholes, delta_at, stored_at, saved_differences}
use Rattle.clr_workspaces.specs.Workspaces.{workspace_at}
use Rattle.clr_contents.proofs.MarkLemmas.{content-saved}
use Rattle.clr_contents.proofs.wholes.saved_rows.Goals as goal

put_over : (base : Content) (d : Differences) → over base (finite.entries d) ≡ seen_over base d
unfolding seen_over
put_over base d = refl

pub returns : goal.returns
returns c =
    let w = workspace_at (wholes c.args.live.now c.args.map.now) c.args.at in
    let ms = (delta_at c.args.map.now c.args.at).marks in
    let rows = c.in_ok-rows.ensures ∙ ap (λ (d : Differences). finite.entries d) c.in_ok-differences.ensures in
    c.in_ok-put_all.ensures.ok ∙ (λ i. over (c.in_ok-sheet.ensures i) (rows i))
    ∙ put_over w.base (saved_differences (stored_at ms c.args.mark))
    ∙ sym (content-saved c.args.live.now c.args.map.now c.args.at c.requires.child c.requires.within c.args.mark c.requires.saved)
