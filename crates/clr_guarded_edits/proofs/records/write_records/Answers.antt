use Rattle.std.proofs.Common.{◌∙◌, refl}
use Rattle.clr_guarded_edits.proofs.records.write_records.Goals as goal

pub loop-cell-init : goal.loop-cell-init
loop-cell-init c =
    let start = c.into_iter-cell-iterator.ensures.into_iter_gives ∙ c.iter-cell-items.ensures.rest in
    let made = c.from_writer-writer.ensures in
    let flexible = c.flexible.ensures in
    let named = c.new.ensures in
    record {
      between = record { ended = made.fields; clean = made.wrote; setup = made.cfg ∙ rw (flexible, named) refl };
      lines = rw (made.wtr, made.empty, start, c.in_ok-changes.ensures, c.new-2.ensures.items) refl;
    }
