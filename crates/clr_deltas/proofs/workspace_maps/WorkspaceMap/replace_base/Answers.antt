use Rattle.clr_deltas.specs.Deltas.{Delta}
use Rattle.clr_deltas.specs.NamedDeltas.{delta_of}
use Rattle.clr_deltas.proofs.NamedDeltaLemmas.{changed}
use Rattle.clr_deltas.proofs.workspace_maps.WorkspaceMap.replace_base.Goals as goal

pub returns-clause-new : goal.returns-clause-new
returns-clause-new c =
    let k = c.pair_mut-delta.result.0.now in let v = c.pair_mut-delta.result.1.now in let l = delta_of (k, v) in
    changed c.self.inside.map.entries c.args.self.now c.args.at k v _ (λ (l : Delta). record l { base = c.args.base }) c.self.view_is
    c.pair_mut-delta.ensures.value (λ i. record l { base = c.replace.ensures.after i })
