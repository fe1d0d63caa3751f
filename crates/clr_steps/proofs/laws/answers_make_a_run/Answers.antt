use Rattle.clr_steps.proofs.MemoryLemmas.{memory_law}
use Rattle.clr_steps.proofs.RunLemmas.{more_law, run_law}
use Rattle.clr_steps.proofs.laws.answers_make_a_run.Goals as goal

pub returns : goal.returns
returns c = record { found = memory_law; run = run_law; more = more_law }
