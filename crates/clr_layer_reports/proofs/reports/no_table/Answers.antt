use Rattle.std.specs.Prelude.{option_map, string_bytes}
use Rattle.clr_layer_reports.proofs.ReportLemmas.{no_table_said}
use Rattle.clr_layer_reports.proofs.reports.no_table.Goals as goal

pub returns : goal.returns
returns c =
    no_table_said c.no_table_line.result c.args.schema.now c.args.file.now c.args.name.now (option_map string_bytes c.in_ok-hint.hint) c.in_ok-hint.ensures
    c.no_table_line.ensures
