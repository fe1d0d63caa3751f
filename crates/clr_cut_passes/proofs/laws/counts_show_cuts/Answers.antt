use Rattle.clr_cut_passes.proofs.CleanLemmas.{clean_told}
use Rattle.clr_cut_passes.proofs.OfficeLemmas.{clean_office, parts}
use Rattle.clr_cut_passes.proofs.laws.counts_show_cuts.Goals as goal

pub returns : goal.returns
returns c = record {
  clean = λ aim rules root sets list counts less apart are. clean_told aim rules root sets list counts less apart are;
  parts = λ aim s one other a b first second. parts aim s one other a b first second;
  office = λ aim cells whole cut merge_set list counts of_cells fits rows apart less are clean.
      clean_office aim cells whole cut merge_set list counts of_cells fits rows apart less are clean;
}
