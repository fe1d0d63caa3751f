use Rattle.std.specs.FinMap as finite
use Rattle.clr_deltas.specs.Deltas.{Delta}
use Rattle.clr_deltas.specs.NamedDeltas.{delta_of}
use Rattle.clr_deltas.proofs.Answered.{on_ok, on_err}
use Rattle.clr_deltas.proofs.NamedDeltaLemmas.{changed, stays}
use Rattle.clr_deltas.proofs.workspace_maps.WorkspaceMap.put_current.Goals as goal

pub returns-clause-ok : goal.returns-clause-ok
returns-clause-ok c =
    let k = c.pair_mut-delta.result.0.now in let v = c.pair_mut-delta.result.1.now in let l = delta_of (k, v) in
    on_ok c.put.result _ _ (λ is. changed c.self.inside.map.entries c.args.self.now c.args.at k v _
    (λ (l : Delta). record l { current = finite.insert l.current c.args.cell c.args.row }) c.self.view_is c.pair_mut-delta.ensures.value
    (λ i. record l { current = is i })) c.put.ensures.ok

pub returns-clause-err : goal.returns-clause-err
returns-clause-err c =
    let k = c.pair_mut-delta.result.0.now in let v = c.pair_mut-delta.result.1.now in let l = delta_of (k, v) in
    on_err c.put.result _ _ (λ is. stays c.self.inside.map.entries c.args.self.now c.args.at k v _ c.self.view_is c.pair_mut-delta.ensures.value
    (λ i. record l { current = is i })) c.put.ensures.err
