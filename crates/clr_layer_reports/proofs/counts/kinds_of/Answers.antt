use Rattle.clr_layer_reports.proofs.LineLemmas.{kinds_more}
use Rattle.clr_layer_reports.proofs.counts.kinds_of.Goals as goal

pub loop-found-preserved : goal.loop-found-preserved
loop-found-preserved c =
    kinds_more c.args.faults.now c.loop-found.kinds.items _ c.loop-found.found-index _ c.loop-found-test.true c.loop-found.invariant c.in_ok-add_kind.ensures
