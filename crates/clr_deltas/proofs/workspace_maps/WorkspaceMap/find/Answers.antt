use Rattle.std.proofs.Common.{◌∙◌, ap}
use Rattle.clr_deltas.specs.Deltas.{find_delta}
use Rattle.clr_deltas.proofs.NamedDeltaLemmas.{find_key}
use Rattle.clr_deltas.proofs.workspace_maps.WorkspaceMap.find.Goals as goal

pub returns-clause-found : goal.returns-clause-found
returns-clause-found c = c.get_index_of.ensures.index ∙ find_key c.args.name.now c.self.inside.map.entries
    ∙ ap (λ ls. find_delta ls c.args.name.now) c.self.view_is
