use Rattle.std.specs.Prelude.{codes}
use Rattle.clr_layer_reports.proofs.LineLemmas.{text_between}
use Rattle.clr_layer_reports.proofs.sentences.add_called_twice.Goals as goal

pub returns : goal.returns
returns c =
    text_between c.extend_from_slice-3.result c.args.line.now.items c.extend_from_slice.new.self.items c.extend_from_slice-2.new.self.items
    c.extend_from_slice-3.new.self.items (codes "a column of table ") c.as_bytes.result.now c.args.table.now (codes " is called WKT, as that of its shapes is")
    c.in_ok-extend_from_slice.ensures.items c.in_ok-extend_from_slice-2.ensures.items c.as_bytes.ensures.value c.extend_from_slice-3.ensures.items
