-- What a slip says.
use Rattle.std.specs.Prelude.{ℕ, List, Option, option_map, string_bytes}
use Rattle.clr_text_positions.specs.declared.paths.PathStep.{PathStep}
use Rattle.clr_item_explanations.specs.declared.slips.Slip.{Slip}

-- what is said of a fault: the steps from its item to the value that is wrong, a sentence, and a hint
pub record Said : Type 0 where
  pub steps : List PathStep
  pub sentence : List ℕ
  pub hint : Option (List ℕ)

abbrev pub said : Slip → Said
said slip = record { steps = slip.steps.items; sentence = string_bytes slip.sentence; hint = option_map string_bytes slip.hint }
