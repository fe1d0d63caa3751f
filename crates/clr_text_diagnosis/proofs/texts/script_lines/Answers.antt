use Rattle.std.proofs.Common.{subst}
use Rattle.clr_text_positions.specs.FaultLines.{AreFaultLines}
use Rattle.clr_text_diagnosis.proofs.texts.script_lines.Goals as goal

pub returns : goal.returns
returns c =
    let found = c.args.found.now in (
      found.fault,
      found.remark,
      (found.number, c.requires.told, c.requires.at),
      subst (λ name. AreFaultLines c.args.text.now name found.remark c.in_ok-lines.lines.items) c.script_fault_words.ensures c.in_ok-lines.ensures.lines,
    )
