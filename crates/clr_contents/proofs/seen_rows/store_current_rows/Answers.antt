use Rattle.std.proofs.Common.{◌∙◌, arith}
use Rattle.clr_deltas.proofs.DifferenceLemmas.{differences_keep, differences_next}
use Rattle.clr_deltas.specs.Deltas.{delta_at}
use Rattle.clr_contents.proofs.SeenRowLemmas.{extends_both, own_both, apart_at}
use Rattle.clr_contents.proofs.seen_rows.store_current_rows.Goals as goal

pub loop-cell-preserved : goal.loop-cell-preserved
loop-cell-preserved c =
    let old = c.loop-cell.map in
    let new = c.store_current_row.new.map in
    let e = c.in_ok-store_current_row.ensures in
    let i = c.loop-cell.invariant in
    record {
      seen = e.seen ∙ i.seen;
      extends = extends_both _ old new i.extends e.extends;
      elsewhere = λ k q apart. own_both q (delta_at c.args.map.now k) (delta_at old k) (delta_at new k) (i.elsewhere k q apart)
          (e.elsewhere k q (λ same. apart_at c.args.cells.now c.loop-cell.cell-index _ q (omega arith) (apart same)));
      is_stored = differences_next (delta_at new c.args.at).current _ _ _ (omega arith)
          (differences_keep (delta_at old c.args.at).current (delta_at new c.args.at).current _ (e.extends.each c.args.at).current i.is_stored) e.is_stored;
    }

pub returns-in_err-store_current_row-clause-elsewhere : goal.returns-in_err-store_current_row-clause-elsewhere
returns-in_err-store_current_row-clause-elsewhere c = λ k q apart.
    let old = c.loop-cell.map in
    let new = c.store_current_row.new.map in
    let lt = c.loop-cell-test.true in
    own_both q (delta_at c.args.map.now k) (delta_at old k) (delta_at new k) (c.loop-cell.invariant.elsewhere k q apart)
    (c.store_current_row.ensures.elsewhere k q (λ same. apart_at c.args.cells.now c.loop-cell.cell-index _ q (omega (arith, lt)) (apart same)))
