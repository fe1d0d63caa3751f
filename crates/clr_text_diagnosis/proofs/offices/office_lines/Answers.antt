use Rattle.std.proofs.Common.{subst}
use Rattle.clr_text_positions.specs.FaultLines.{AreFaultLines}
use Rattle.clr_text_diagnosis.proofs.offices.office_lines.Goals as goal

pub returns : goal.returns
returns c =
    let found = c.args.found.now in (
      found.fault,
      found.remark,
      c.requires,
      subst (λ name. AreFaultLines c.args.text.now name found.remark c.in_ok-lines.lines.items) c.office_fault_words.ensures c.in_ok-lines.ensures.lines,
    )
