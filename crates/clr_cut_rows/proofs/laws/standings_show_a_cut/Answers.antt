use Rattle.clr_cut_rows.proofs.StandingLemmas.{all_right, still_right}
use Rattle.clr_cut_rows.proofs.laws.standings_show_a_cut.Goals as goal

pub returns : goal.returns
returns c = record {
  rows = λ aim s root list fits are right. all_right aim s fits root list are right;
  change = λ aim s root other news fits before some either right. still_right aim s fits root other news before right some either;
}
