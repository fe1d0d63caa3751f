-- What calls at elements read.
use Rattle.std.specs.Prelude.{Result}
use Rattle.clr_readings.specs.Readings.{Gives}
use Rattle.clr_rule_text.specs.declared.faults.TextFault.{TextFault}
use Rattle.clr_rule_text.specs.Fields.{text_lacks_memory}

-- what a call at an element answers is what f reads there
abbrev pub ReadsElements : {X A : Type 0} → (X → Result A TextFault → Type 0) → (X → Result A TextFault) → Type 0
ReadsElements answers f = (x : _) (r : _) → answers x r → Gives text_lacks_memory (λ y. y) r (f x)
