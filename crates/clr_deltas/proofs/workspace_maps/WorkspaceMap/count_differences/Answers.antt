use Rattle.std.proofs.Common.{◌+◌, [], List, ap, sym, ◌∙◌}
use Rattle.clr_deltas.specs.Deltas.{Delta, delta_at, stored_in}
use Rattle.clr_deltas.proofs.NamedDeltaLemmas.{value_at}
use Rattle.clr_deltas.proofs.workspace_maps.WorkspaceMap.count_differences.Goals as goal

pub returns : goal.returns
returns c =
    (λ i. c.len.ensures.count i + c.len-2.ensures.count i) ∙ sym (ap stored_in (value_at c.self.inside.map.entries c.args.at _ [] c.index-delta.ensures))
    ∙ ap (λ (ls : List Delta). stored_in (delta_at ls c.args.at)) c.self.view_is
