use Rattle.std.proofs.Common.{ap, ◌∙◌}
use Rattle.clr_rows.specs.Contents.{rows_after}
use Rattle.clr_workspace_parts.proofs.BuildLemmas.{all_differences}
use Rattle.clr_desk_layers.proofs.since_drafts.differences_between.Goals as goal

pub returns : goal.returns
returns c = all_differences c.args.below.now c.args.above.now c.in_ok-rows.rows.items c.in_ok-differences.differences (c.in_ok-rows.ensures
    ∙ ap rows_after c.in_ok-between.ensures) c.in_ok-differences.ensures
