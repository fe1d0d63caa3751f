-- What is answered: the verdict, or want of memory where no test of names fails.
use Rattle.std.specs.Prelude.{◌≡◌, List, None}
use Rattle.clr_needs.specs.Covers.{Entry}
use Rattle.clr_steps.specs.Offices.{Office}
use Rattle.clr_clearance.specs.declared.verdicts.Verdict.{Verdict}
use Rattle.clr_clearance.specs.declared.verdicts.Verdict.TheVariants as verdict
use Rattle.clr_ordered_clearance.specs.MergeSets.{OrderedMergeSet}
use Rattle.clr_ordered_clearance.specs.Verdicts.{IsVerdictInTurn, names_fault_in_turn}

pub data IsCheckAnswer (o : Office) (ordered : OrderedMergeSet) (entries : List Entry) (v : Verdict) : Type 0 where
  of_verdict : IsVerdictInTurn o ordered entries v → IsCheckAnswer o ordered entries v
  of_memory : names_fault_in_turn o ordered ≡ None → v ≡ verdict.OutOfMemory → IsCheckAnswer o ordered entries v

-- the verdict isn't clear
pub record IsRefusingVerdict (o : Office) (ordered : OrderedMergeSet) (entries : List Entry) (v : Verdict) : Type 0 where
  pub answer : IsCheckAnswer o ordered entries v
  pub not_clear : ¬ (v ≡ verdict.Clear)
