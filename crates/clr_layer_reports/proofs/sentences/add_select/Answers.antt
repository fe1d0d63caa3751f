use Rattle.std.specs.Prelude.{codes}
use Rattle.clr_layer_reports.proofs.LineLemmas.{two_texts}
use Rattle.clr_layer_reports.proofs.sentences.add_select.Goals as goal

pub returns : goal.returns
returns c =
    two_texts c.extend_from_slice-4.result c.args.line.now.items c.extend_from_slice.new.self.items c.extend_from_slice-2.new.self.items
    c.extend_from_slice-3.new.self.items c.extend_from_slice-4.new.self.items (codes "; hint: SELECT ") c.as_bytes.result.now c.args.spelled.now
    (codes " AS ") c.as_bytes-2.result.now c.args.name.now c.in_ok-extend_from_slice.ensures.items c.in_ok-extend_from_slice-2.ensures.items
    c.as_bytes.ensures.value c.in_ok-extend_from_slice-3.ensures.items c.as_bytes-2.ensures.value c.extend_from_slice-4.ensures.items
