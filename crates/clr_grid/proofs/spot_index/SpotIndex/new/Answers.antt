use Rattle.clr_grid.proofs.IndexLemmas.{none_filed, none_lean, none_other}
use Rattle.clr_grid.proofs.spot_index.SpotIndex.new.Goals as goal

pub invariant_of-result : goal.invariant_of-result
invariant_of-result c = record {
  filed = none_filed c.new.result c.new-2.result.items c.new.ensures;
  others =
      none_other c.new.result c.new-2.result.items c.new-2.ensures.items;
  lean = none_lean c.new-2.result.items c.new-2.ensures.items;
}
