use Rattle.std.proofs.Common.{◌∙◌, append-nil, refl}
use Rattle.clr_lines.specs.Rows.{rows_text}
use Rattle.clr_lines.proofs.row_lines.rows_lines.Goals as goal

pub loop-cell-init : goal.loop-cell-init
unfolding rows_text
loop-cell-init c =
    let start = c.into_iter-cell-iterator.ensures.into_iter_gives ∙ c.iter-cell-items.ensures.rest in
    let made = c.from_writer-writer.ensures in
    let flexible = c.flexible.ensures in
    let named = c.new.ensures in
    record {
      between = record { ended = made.fields; clean = made.wrote; setup = made.cfg ∙ rw (flexible, named) refl };
      lines = rw (
        made.wtr,
        made.empty,
        append-nil c.extend_from_slice.new.self.items,
        start,
        c.in_ok-extend_from_slice.ensures.items,
        c.in_ok-add_count.ensures.ok,
        c.in_ok-lines.ensures.items,
        c.len.ensures,
      ) refl;
    }
