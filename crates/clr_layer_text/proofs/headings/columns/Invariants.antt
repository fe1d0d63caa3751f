use Rattle.std.proofs.Common.{◌≡◌, ◌+◌, drop}
use Rattle.clr_records.specs.Records.{in_turn}
use Rattle.clr_readings.proofs.Fronts.{with_front}
use Rattle.clr_layer_text.specs.Layers.{column_of, columns_of}
use Rattle.clr_layer_text.proofs.headings.columns.Given as goal

-- the headings so far, with those of the columns that are left, are all the headings
abbrev pub invariant-loop-one : goal.invariant-loop-one
invariant-loop-one l = with_front l.list.items (in_turn (λ _ column. column_of l.names column) (0 + l.one-index) (drop l.one-index l.columns))
    ≡ columns_of l.names l.columns
