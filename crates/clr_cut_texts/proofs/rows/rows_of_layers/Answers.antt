use Rattle.clr_rows.proofs.FitLemmas.{no_rows_fit}
use Rattle.clr_cut_texts.proofs.rows.rows_of_layers.Goals as goal

pub returns-clause-fit : goal.returns-clause-fit
returns-clause-fit c = c.wanted_content.ensures.fit (no_rows_fit c.args.schema.now _ c.new-none.ensures)
