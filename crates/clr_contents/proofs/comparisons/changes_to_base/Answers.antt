use Rattle.std.proofs.Common.{ap, sym, ◌∙◌}
use Rattle.std.specs.FinMap as finite
use Rattle.clr_rows.specs.Contents.{no_changes}
use Rattle.clr_deltas.specs.Differences.{Differences}
use Rattle.clr_deltas.specs.Deltas.{Delta, delta_at, wholes}
use Rattle.clr_workspaces.specs.Workspaces.{workspace_at}
use Rattle.clr_contents.specs.Comparing.{set_at}
use Rattle.clr_contents.proofs.ComparedLemmas.{all_set, no_difference}
use Rattle.clr_contents.proofs.ReadLemmas.{none_current}
use Rattle.clr_contents.proofs.comparisons.changes_to_base.Goals as goal

pub returns : goal.returns
returns c =
    let w = workspace_at (wholes c.args.live.now c.args.map.now) c.args.at in
    let l : Delta = delta_at c.args.map.now c.args.at in
    let cells = c.as_slice.ensures.value ∙ c.in_ok-cells.ensures ∙ ap (λ (d : Differences). finite.keys d) c.current.ensures in
    c.in_ok-set.ensures ∙ (λ i. set_at (c.new-before.ensures i) (c.new-after.ensures i) no_changes (cells i))
    ∙ all_set w.current w.base (finite.keys l.current)
    (λ q e. sym (none_current c.args.live.now c.args.map.now c.args.at c.requires.child c.requires.within q (no_difference l.current q e)))
