use Rattle.clr_text_diagnosis.proofs.shorts.office_line.Goals as goal

pub returns : goal.returns
returns c = (c.args.found.now.fault, c.args.found.now.remark, c.requires, c.in_ok-line.ensures.line)
