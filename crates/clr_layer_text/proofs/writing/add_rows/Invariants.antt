use Rattle.std.proofs.Common.{◌≡◌, ◌++◌, ◌<◌, ℕ, map, take}
use Rattle.std.specs.Prelude.{slice_index_or}
use Rattle.clr_layer_text.specs.declared.rows.LayerRow.{LayerRow}
use Rattle.clr_layer_text.specs.ReadBack.{HasTexts}
use Rattle.clr_layer_text.specs.Layers.{row_fields}
use Rattle.clr_records.specs.Writing.{IsBetween, records_text, written_by}
use Rattle.clr_layer_text.proofs.writing.add_rows.Given as goal

-- the rows so far are written, and their texts are in UTF-8
abbrev pub invariant-loop-row : goal.invariant-loop-row
invariant-loop-row l = record {
  between : IsBetween l.writer;
  written : written_by l.writer ≡ written_by l.initial.writer ++ records_text (map row_fields (take l.row-index l.rows));
  texts : (k : ℕ) (d : LayerRow) → k < l.row-index → HasTexts (slice_index_or l.rows k d);
}
