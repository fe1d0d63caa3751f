use Rattle.std.proofs.Common.{ap, sym, ◌∙◌, arith}
use Rattle.std.specs.FinMap as finite
use Rattle.clr_rows.specs.Contents.{Changes, no_changes, row_at, taken_over}
use Rattle.clr_deltas.specs.Differences.{Differences}
use Rattle.clr_deltas.specs.Deltas.{Delta, delta_at, wholes}
use Rattle.clr_workspaces.specs.Workspaces.{workspace_at}
use Rattle.clr_contents.specs.Comparing.{set_at}
use Rattle.clr_contents.proofs.ComparedLemmas.{all_set, no_difference, own_row}
use Rattle.clr_contents.proofs.ReadLemmas.{none_base, parent_earlier}
use Rattle.clr_contents.proofs.comparisons.changes_to_refreshed.Goals as goal

pub new-parent-requires-clause-within : goal.new-parent-requires-clause-within
new-parent-requires-clause-within c =
    let earlier = parent_earlier c.args.live.now c.args.map.now c.args.at c.args.above c.requires.rooted c.requires.child c.requires.within c.requires.above in
    let within = c.requires.within in
    omega (arith, earlier, within)

pub returns : goal.returns
returns c =
    let ws = wholes c.args.live.now c.args.map.now in
    let w = workspace_at ws c.args.at in
    let above = (workspace_at ws c.args.above).current in
    let earlier = parent_earlier c.args.live.now c.args.map.now c.args.at c.args.above c.requires.rooted c.requires.child c.requires.within c.requires.above in
    let l : Delta = delta_at c.args.map.now c.args.at in
    let cells = c.as_slice.ensures.value ∙ c.in_ok-cells.ensures ∙ ap (λ (d : Differences). finite.keys d) c.base.ensures in
    let after = c.new-after.ensures ∙ (λ i. taken_over (c.new-parent.ensures i) c.args.own.now) in
    c.in_ok-set.ensures ∙ (λ i. set_at (c.new-before.ensures i) (after i) no_changes (cells i))
    ∙ all_set w.current (taken_over above c.args.own.now) (finite.keys l.base)
    (λ q e. own_row w.base w.current above q (sym (none_base c.args.live.now c.args.map.now c.args.at c.requires.child c.requires.within c.args.above
    c.requires.above earlier q (no_difference l.base q e)))
    ∙ ap (λ (own : Changes). row_at (taken_over above own) q) (sym c.requires.own))
