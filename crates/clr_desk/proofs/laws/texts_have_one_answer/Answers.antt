use Rattle.clr_desk.proofs.OneDeskAnswer.{one_desk_answer}
use Rattle.clr_desk.proofs.laws.texts_have_one_answer.Goals as goal

pub returns : goal.returns
returns c = record { answer = one_desk_answer }
