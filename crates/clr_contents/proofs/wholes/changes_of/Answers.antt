use Rattle.std.proofs.Common.{ap, sym, ◌∙◌}
use Rattle.std.specs.FinMap as finite
use Rattle.clr_rows.specs.Contents.{changes, no_changes}
use Rattle.clr_deltas.specs.Differences.{Differences, RowsByCell}
use Rattle.clr_deltas.specs.Deltas.{delta_at, wholes}
use Rattle.clr_workspaces.specs.Workspaces.{workspace_at}
use Rattle.clr_contents.specs.SeenRows.{set_each}
use Rattle.clr_contents.proofs.ChangeLemmas.{changes_found}
use Rattle.clr_contents.proofs.ReadLemmas.{current-wholes}
use Rattle.clr_contents.proofs.wholes.changes_of.Goals as goal

pub returns : goal.returns
returns c =
    let base = (workspace_at (wholes c.args.live.now c.args.map.now) c.args.at).base in
    let rows = c.in_ok-rows.ensures ∙ ap (λ (d : Differences). finite.entries d) c.current.ensures in
    c.in_ok-set.ensures ∙ ap (λ (es : RowsByCell). set_each base no_changes es) rows
    ∙ changes_found base (delta_at c.args.map.now c.args.at).current
    ∙ ap (changes base) (sym (current-wholes c.args.live.now c.args.map.now c.args.at c.requires.child c.requires.within))
