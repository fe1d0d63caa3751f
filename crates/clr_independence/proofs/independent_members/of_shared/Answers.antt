use Rattle.std.proofs.Common.{subst, sym}
use Rattle.clr_independence.specs.Independences.{IsUnfitFor}
use Rattle.clr_independence.proofs.MergeSetLaws.{unfit_scene}
use Rattle.clr_independence.proofs.independent_members.of_shared.Goals as goal

pub returns-in_default : goal.returns-in_default
returns-in_default c = λ o s none fault.
    subst (IsUnfitFor o s) (sym c.verdict_of.ensures) (unfit_scene o s c.args.fault c.in_default.not-OutOfMemory none fault)
