use Rattle.std.specs.Prelude.{codes}
use Rattle.clr_layer_reports.proofs.LineLemmas.{words_and_text}
use Rattle.clr_layer_reports.proofs.sentences.add_lack.Goals as goal

pub returns : goal.returns
returns c =
    words_and_text c.extend_from_slice-2.result c.args.line.now.items c.extend_from_slice.new.self.items c.extend_from_slice-2.new.self.items
    (codes "the header has no column ") c.as_bytes.result.now c.args.name.now c.in_ok-extend_from_slice.ensures.items c.as_bytes.ensures.value
    c.extend_from_slice-2.ensures.items
