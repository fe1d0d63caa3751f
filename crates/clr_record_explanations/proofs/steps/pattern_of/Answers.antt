use Rattle.std.proofs.Common.{◌∙◌, List, ℕ, [], Bor, Option, sym, ap}
use Rattle.std.specs.Prelude.{unwrap_or}
use Rattle.std.specs.Option.{option_copied}
use Rattle.clr_record_explanations.specs.StepSlips.{step_patterns}
use Rattle.clr_record_explanations.proofs.steps.pattern_of.Goals as goal

pub returns-in-Some : goal.returns-in-Some
unfolding step_patterns
returns-in-Some c =
    ap (λ (o : Option (Bor (List ℕ))). unwrap_or (option_copied o) []) (sym c.in-Some.is)
    ∙ ap (λ (o : Option (List ℕ)). unwrap_or o []) c.find_pattern.ensures

pub returns-in-None : goal.returns-in-None
unfolding step_patterns
returns-in-None c =
    ap (λ (o : Option (Bor (List ℕ))). unwrap_or (option_copied o) []) (sym c.in-None.is)
    ∙ ap (λ (o : Option (List ℕ)). unwrap_or o []) c.find_pattern.ensures
