use Rattle.std.proofs.Common.{◌++◌, ◌∷◌, [], ◌∙◌, ap, string_bytes}
use Rattle.clr_deltas.specs.Deltas.{find_delta}
use Rattle.clr_deltas.specs.NamedDeltas.{deltas_of, delta_of}
use Rattle.clr_deltas.proofs.NamedDeltaLemmas.{insert_last}
use Rattle.clr_deltas.proofs.workspace_maps.WorkspaceMap.push.Goals as goal

pub returns-clause-ok : goal.returns-clause-ok
returns-clause-ok c =
    let absent = ap (λ ls. find_delta ls (string_bytes c.args.name)) c.self.view_is ∙ c.requires in
    ap deltas_of c.in_ok-insert.ensures.entries ∙ insert_last c.args.name c.args.delta c.self.inside.map.entries absent
    ∙ ap (λ ls. ls ++ delta_of (c.args.name, c.args.delta) ∷ []) c.self.view_is
