use Rattle.clr_rows.proofs.FitLemmas.{put_fits}
use Rattle.clr_rule_tests.proofs.audits.Content.put.Goals as goal

pub invariant_of-self-clause-rows_fit : goal.invariant_of-self-clause-rows_fit
invariant_of-self-clause-rows_fit c = put_fits c.args.self.now.schema c.args.self.now.sheet c.put.new.self c.args.row.cell c.args.row.row c.put.result
    c.put.ensures.ok c.put.ensures.err c.args.self.now.rows_fit c.in_ok-fits.ensures
