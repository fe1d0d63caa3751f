-- What is said of a known need that its rule can't have.
use Rattle.std.specs.Prelude.{ℕ, List, [], ◌∷◌, codes}
use Rattle.clr_faults.specs.declared.known_faults.BadNeed.{BadNeed}
use Rattle.clr_faults.specs.declared.known_faults.NeedFault.{NeedFault}
use Rattle.clr_faults.specs.declared.known_faults.NeedFault.TheVariants as fault
use Rattle.clr_item_explanations.specs.Tellings.{Plain, Wrong}
use Rattle.clr_text_positions.specs.declared.paths.Key.TheVariants as key
use Rattle.clr_text_positions.specs.declared.paths.PathStep.TheVariants as step

-- what a fault of a known need means
abbrev pub need_fault_text : NeedFault → List ℕ
need_fault_text fault.FirstKey = codes "the first key isn't from 1 to 999999999999999"
need_fault_text fault.SecondKey = codes "the second key isn't from 1 to 999999999999999"
need_fault_text fault.NotAscending = codes "the second key isn't greater than the first, though both are of one table"
need_fault_text fault.FirstPart = codes "the first part isn't from 1 to 31"
need_fault_text fault.SecondPart = codes "the second part isn't from 1 to 31"

-- it is told at its name in the list of its rule
abbrev pub wrong_of_need : BadNeed → Wrong
wrong_of_need need = record { steps = step.Key key.Known ∷ step.At need.place ∷ []; telling = Plain (need_fault_text need.fault) }
