use Rattle.clr_faults.proofs.KnownFaultLemmas.{fault_says}
use Rattle.clr_faults.proofs.laws.names_without_fault_are_needs.Goals as goal

pub returns : goal.returns
returns c = fault_says
