use Rattle.std.specs.Prelude.{filter}
use Rattle.clr_deltas.specs.Differences.{no_differences}
use Rattle.clr_deltas.specs.Deltas.{is_stored_child}
use Rattle.clr_deltas.specs.Deltas.{Delta}
use Rattle.clr_deltas.specs.NamedDeltas.{delta_of}
use Rattle.clr_deltas.proofs.NamedDeltaLemmas.{changed}
use Rattle.clr_deltas.proofs.workspace_maps.WorkspaceMap.restart.Goals as goal

pub returns : goal.returns
returns c =
    let k = c.pair_mut-delta.result.0.now in let v = c.pair_mut-delta.result.1.now in let l = delta_of (k, v) in
    changed c.self.inside.map.entries c.args.self.now c.args.at k v _ (λ (l : Delta). record l {
      base = no_differences;
      current = c.args.current;
      marks =
          filter is_stored_child l.marks;
    }) c.self.view_is c.pair_mut-delta.ensures.value
    (λ i. record l { base = c.new.ensures i; current = c.args.current; marks = c.drop_saved.ensures i })
