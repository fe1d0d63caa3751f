use Rattle.std.proofs.Common.{◌≡◌, [], Ok, refl, sym, ◌∙◌, arith}
use Rattle.std.proofs.lemmas.List.{nil_from_length}
use Rattle.std.specs.Vec.Iter.{into_iter_items}
use Rattle.clr_rows.specs.Contents.{no_rows}
use Rattle.clr_office_reading.specs.Cells.{with_named_rows}
use Rattle.clr_rows.proofs.FitLemmas.{none_fit}
use Rattle.clr_office_reading.proofs.Fitting.{rows_fit}
use Rattle.clr_office_reading.proofs.live.sheet.Goals as goal

pub returns-clause-fits : goal.returns-clause-fits
unfolding with_named_rows
returns-clause-fits c =
    let none : into_iter_items c.loop-named.named-iterator ≡ [] = nil_from_length _ (omega (arith, c.in-None.ensures.steps.0)) in
    let made : with_named_rows c.args.schema.now no_rows c.args.rows.items ≡ Ok c.loop-named.sheet = sym c.loop-named.invariant ∙ rw none refl in
    rows_fit c.args.schema.now no_rows c.loop-named.sheet c.args.rows.items made (none_fit c.args.schema.now)
