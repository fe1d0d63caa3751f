use Rattle.std.proofs.Common.{◌≡◌, ◌++◌, ◌<◌, ℕ, map, take}
use Rattle.std.specs.Prelude.{slice_index_or}
use Rattle.clr_change.specs.declared.edits.Edit.{Edit}
use Rattle.clr_lines.specs.Rows.{IsBetweenRows}
use Rattle.clr_designs.specs.ReadBack.{HasTexts}
use Rattle.clr_records.specs.Writing.{written_by}
use Rattle.clr_designs.specs.Scripts.{edit_fields, script_text}
use Rattle.clr_designs.proofs.writing.add_edits.Given as goal

-- the edits so far are written, and their texts are in UTF-8
abbrev pub invariant-loop-edit : goal.invariant-loop-edit
invariant-loop-edit l = record {
  between : IsBetweenRows l.writer;
  written : written_by l.writer ≡ written_by l.initial.writer ++ script_text (map (edit_fields l.schema) (take l.edit-index l.edits));
  texts : (k : ℕ) (d : Edit) → k < l.edit-index → HasTexts (slice_index_or l.edits k d);
}
