use Rattle.clr_text_diagnosis.proofs.shorts.certificate_line.Goals as goal

pub returns : goal.returns
returns c =
    (c.args.found.now.fault, c.args.found.now.remark, (c.args.found.now.number, c.requires.told, c.requires.at), c.in_ok-line.ensures.line)
