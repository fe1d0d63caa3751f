use Rattle.clr_cuts.proofs.AnswerLaws.{answers_safely, answers_the_same, whole_is_cut}
use Rattle.clr_cuts.proofs.laws.cuts_answer_for_the_whole.Goals as goal

pub returns : goal.returns
returns c = record { safe = λ s rows cut. answers_safely s rows cut; cut = λ s rows cut. answers_the_same s rows cut; whole = λ s. whole_is_cut s }
