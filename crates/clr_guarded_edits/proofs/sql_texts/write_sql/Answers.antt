use Rattle.clr_guarded_edits.proofs.TextLemmas.{texts_in_turn}
use Rattle.clr_guarded_edits.proofs.sql_texts.write_sql.Goals as goal

pub returns : goal.returns
returns c =
    let tables = c.args.schema.now in
    let target = c.args.target.now in
    let old = c.args.old.now in
    let new = c.args.new.now in
    let between = c.in_ok-changes.ensures in
    record {
      text = rw (
        c.in_ok-extend_from_slice-2.ensures.items,
        c.in_ok-add_rows_after_demanded.ensures,
        c.in_ok-add_guarded_edits.ensures,
        c.in_ok-add_free_cells_demanded.ensures,
        c.in_ok-add_rows_demanded.ensures,
        c.in_ok-add_passes.ensures,
        c.in_ok-extend_from_slice.ensures.items,
        c.in_ok-add_beginning.ensures,
        c.tables-tables.ensures.value,
        between,
        c.new-text.ensures.items,
      ) (texts_in_turn target tables old new);
    }
