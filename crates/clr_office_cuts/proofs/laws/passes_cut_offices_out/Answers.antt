use Rattle.clr_office_cuts.proofs.PassLemmas.{none_cut, three_cut}
use Rattle.clr_office_cuts.proofs.laws.passes_cut_offices_out.Goals as goal

pub returns : goal.returns
returns c = record {
  none = λ cells whole cut merge_set test list of_cells are some takes none. none_cut cells whole cut merge_set of_cells list are test some takes none;
  three = λ cells whole cut merge_set list start first second of_cells are some one two three.
      three_cut cells whole cut merge_set of_cells list are start first second some one two three;
}
