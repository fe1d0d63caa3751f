use Rattle.clr_independence.proofs.MergeSetLaws.{unfit_for}
use Rattle.clr_independence.proofs.independent_members.of_fault.Goals as goal

pub returns-in_default : goal.returns-in_default
returns-in_default c = λ o s fault. unfit_for o s c.args.fault c.in_default.not-OutOfMemory fault
