use Rattle.clr_office.proofs.OneSession.{one_answer, one_session}
use Rattle.clr_office.proofs.laws.inputs_have_one_session.Goals as goal

pub returns : goal.returns
returns c = record { answer = one_answer; session = one_session }
