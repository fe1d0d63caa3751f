use Rattle.clr_explanations.proofs.PathLemmas.{paths_lead, whole_paths}
use Rattle.clr_explanations.proofs.laws.paths_lead_to_values.Goals as goal

pub returns : goal.returns
returns c = record { lead = paths_lead; whole = whole_paths }
