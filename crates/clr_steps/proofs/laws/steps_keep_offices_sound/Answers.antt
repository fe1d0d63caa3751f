use Rattle.clr_steps.proofs.ComparedLemmas.{compared_law}
use Rattle.clr_steps.proofs.FitLemmas.{fit_law}
use Rattle.clr_steps.proofs.LiveLemmas.{live_law}
use Rattle.clr_steps.proofs.NothingNew.{nothing_new_law}
use Rattle.clr_steps.proofs.RuleLemmas.{kept_law, rules_law}
use Rattle.clr_steps.proofs.SchemaLemmas.{schema_law}
use Rattle.clr_steps.proofs.laws.steps_keep_offices_sound.Goals as goal

pub returns : goal.returns
returns c = record { schema = schema_law; rules = rules_law; live = live_law; kept = kept_law; compared = compared_law; nothing_new = nothing_new_law; fit = fit_law }
