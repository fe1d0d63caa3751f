use Rattle.std.specs.Prelude.{codes}
use Rattle.clr_layer_reports.proofs.LineLemmas.{text_between}
use Rattle.clr_layer_reports.proofs.sentences.add_coalesce.Goals as goal

pub returns : goal.returns
returns c =
    text_between c.extend_from_slice-3.result c.args.line.now.items c.extend_from_slice.new.self.items c.extend_from_slice-2.new.self.items
    c.extend_from_slice-3.new.self.items (codes "; hint: COALESCE(") c.as_bytes.result.now c.args.name.now (codes ", 0) puts a number there")
    c.in_ok-extend_from_slice.ensures.items c.in_ok-extend_from_slice-2.ensures.items c.as_bytes.ensures.value c.extend_from_slice-3.ensures.items
