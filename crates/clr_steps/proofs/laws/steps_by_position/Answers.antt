use Rattle.clr_steps.proofs.SeenLemmas.{name_law}
use Rattle.clr_steps.proofs.RefusalLemmas.{refusal_law}
use Rattle.clr_steps.proofs.StepLemmas.{effect_law, step_law, answer_law}
use Rattle.clr_steps.proofs.laws.steps_by_position.Goals as goal

pub returns : goal.returns
returns c = record { name = name_law; refusal = refusal_law; effect = effect_law; step = step_law; answer = answer_law }
