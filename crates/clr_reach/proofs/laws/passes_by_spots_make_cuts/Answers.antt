use Rattle.clr_reach.proofs.FoundLaws.{group_pass, takes_reach}
use Rattle.clr_reach.proofs.laws.passes_by_spots_make_cuts.Goals as goal

pub returns : goal.returns
returns c = record {
  test = λ aim s rows test fits takes. takes_reach s rows test fits aim takes;
  groups = λ s rows test list are part fits takes none. group_pass s rows test fits list are part takes none;
}
