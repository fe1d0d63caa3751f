use Rattle.clr_contents.proofs.wholes.+whole_rows.Given as goal

abbrev pub decreases-whole_rows : goal.decreases-whole_rows
decreases-whole_rows l = l.at
