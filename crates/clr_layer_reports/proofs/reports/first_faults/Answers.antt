use Rattle.clr_layer_reports.proofs.LineLemmas.{all_taken, most_taken}
use Rattle.clr_layer_reports.proofs.reports.first_faults.Goals as goal

pub slice_bounds-result-end : goal.slice_bounds-result-end
slice_bounds-result-end c = most_taken 100 c.args.faults.now c.if-faults-gt-MOST_SHOWN.true

pub returns-else-faults-gt-MOST_SHOWN : goal.returns-else-faults-gt-MOST_SHOWN
returns-else-faults-gt-MOST_SHOWN c = all_taken 100 c.args.faults.now c.if-faults-gt-MOST_SHOWN.false
