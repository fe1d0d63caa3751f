use Rattle.std.proofs.Common.{rules, ap, ◌∙◌}
use Rattle.clr_rows.specs.Cells.{cell_cmp}
use Rattle.clr_rows.proofs.SortedMaps.{sorted_from_ordered}
use Rattle.clr_deltas.specs.Differences.{Differences, is_own, without_neutral}
use Rattle.clr_deltas.proofs.SweepLemmas.{filtered_from_retain, swept_differences}
use Rattle.clr_deltas.proofs.differences.Differences.sweep.Goals as goal

pub invariant_of-self : goal.invariant_of-self
invariant_of-self g c = sorted_from_ordered cell_cmp c.retain.new.self.entries c.retain.ensures.ordered

pub returns : goal.returns
returns g c =
    let below = g.V.RowView.content c.args.below.now in
    swept_differences below c.self.inside.rows.entries c.retain.new.self.entries c.self.invariant
    (filtered_from_retain _ (is_own below) _ (λ k v b w f call. search rules) _ _ c.retain.ensures.filtered)
    ∙ ap (λ (d : Differences). without_neutral below d) c.self.view_is
