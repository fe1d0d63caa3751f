use Rattle.std.proofs.Common.{ℕ, Result, Ok, ap, sym, ◌∙◌}
use Rattle.clr_rows.specs.Contents.{Content}
use Rattle.clr_readings.specs.Readings.{◌>>=◌}
use Rattle.clr_layer_changes.specs.LayerRows.{layer_rows}
use Rattle.clr_layer_changes.specs.Wanted.{replaced, with_layer}
use Rattle.clr_layer_changes.specs.declared.faults.LayersFault.{LayersFault}
use Rattle.clr_layer_changes.proofs.layer_edits.note_layer.Goals as goal

pub returns-in-Err : goal.returns-in-Err
unfolding with_layer
returns-in-Err c = λ content is.
    ap (λ (t : Result ℕ (ℕ × LayersFault)). t >>= λ table. layer_rows c.args.schema.now c.args.taken.now c.args.options table c.args.layer.now.text.items
    >>= λ rows. Ok (replaced content table rows)) (sym c.table_of.ensures ∙ c.in-Err.is)

pub returns-in_ok-note_rows-in-Ok-2 : goal.returns-in_ok-note_rows-in-Ok-2
unfolding with_layer
returns-in_ok-note_rows-in-Ok-2 c = λ content is.
    let read = ap (layer_rows c.args.schema.now c.args.taken.now c.args.options c.in-Ok.table) (sym c.as_slice.ensures.value) ∙ sym c.in_ok-rows.ensures
    ∙ c.in-Ok-2.is in (
      replaced content c.in-Ok.table c.in-Ok-2.rows,
      ap (λ (t : Result ℕ (ℕ × LayersFault)). t >>= λ table. layer_rows c.args.schema.now c.args.taken.now c.args.options table c.args.layer.now.text.items
          >>= λ rows. Ok (replaced content table rows)) (sym c.table_of.ensures ∙ c.in-Ok.is)
          ∙ ap (λ (r : Result Content (ℕ × LayersFault)). r >>= λ rows. Ok (replaced content c.in-Ok.table rows)) read,
      c.in_ok-note_rows-in-Ok-2.ensures content is,
    )

pub returns-in-Err-2 : goal.returns-in-Err-2
unfolding with_layer
returns-in-Err-2 c = λ content is.
    let read = ap (layer_rows c.args.schema.now c.args.taken.now c.args.options c.in-Ok.table) (sym c.as_slice.ensures.value) ∙ sym c.in_ok-rows.ensures
    ∙ c.in-Err-2.is in
    ap (λ (t : Result ℕ (ℕ × LayersFault)). t >>= λ table. layer_rows c.args.schema.now c.args.taken.now c.args.options table c.args.layer.now.text.items
    >>= λ rows. Ok (replaced content table rows)) (sym c.table_of.ensures ∙ c.in-Ok.is)
    ∙ ap (λ (r : Result Content (ℕ × LayersFault)). r >>= λ rows. Ok (replaced content c.in-Ok.table rows)) read
