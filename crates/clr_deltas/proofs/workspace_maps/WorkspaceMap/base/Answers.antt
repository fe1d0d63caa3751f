use Rattle.std.proofs.Common.{[], ap, sym, ◌∙◌}
use Rattle.clr_deltas.specs.Deltas.{Delta, delta_at}
use Rattle.clr_deltas.proofs.NamedDeltaLemmas.{value_at}
use Rattle.clr_deltas.proofs.workspace_maps.WorkspaceMap.base.Goals as goal

pub returns : goal.returns
returns c =
    sym (ap (λ (l : Delta). l.base) (value_at c.self.inside.map.entries c.args.at _ [] c.index-delta.ensures))
    ∙ ap (λ ls. (delta_at ls c.args.at).base) c.self.view_is
