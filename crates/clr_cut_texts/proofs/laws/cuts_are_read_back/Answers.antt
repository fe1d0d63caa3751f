use Rattle.clr_cut_texts.proofs.CutsRead.{cuts_read}
use Rattle.clr_cut_texts.proofs.CutsPlain.{cuts_marked, cuts_plain}
use Rattle.clr_cut_texts.proofs.laws.cuts_are_read_back.Goals as goal

pub returns : goal.returns
returns c = record { again = cuts_read; plain = cuts_plain; marked = cuts_marked }
