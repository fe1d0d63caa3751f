use Rattle.clr_deltas.specs.Differences.{put_each}
use Rattle.clr_deltas.specs.Deltas.{Delta}
use Rattle.clr_deltas.specs.NamedDeltas.{delta_of}
use Rattle.clr_deltas.proofs.NamedDeltaLemmas.{changed}
use Rattle.clr_deltas.proofs.workspace_maps.WorkspaceMap.set_current.Goals as goal

pub returns : goal.returns
returns c =
    let k = c.pair_mut-delta.result.0.now in let v = c.pair_mut-delta.result.1.now in let l = delta_of (k, v) in
    changed c.self.inside.map.entries c.args.self.now c.args.at k v _ (λ (l : Delta). record l { current = put_each l.current c.args.rows.items })
    c.self.view_is c.pair_mut-delta.ensures.value (λ i. record l { current = c.set_each.ensures i })
