-- A fault that isn't want of memory is the one that stands in the text.
use Rattle.std.proofs.Common.{◌≡◌, ◌≢◌, false, Result, Err, refl}
use Rattle.std.proofs.lemmas.Bool.{OnFalse_at}
use Rattle.clr_readings.specs.Readings.{Fails}
use Rattle.clr_rule_text.specs.declared.faults.TextFault.{TextFault}
use Rattle.clr_rule_text.specs.declared.faults.TextFault.TheVariants as fault
use Rattle.clr_rule_text.specs.Fields.{text_lacks_memory}

other : (e : TextFault) → e ≢ fault.OutOfMemory → text_lacks_memory e ≡ false
other fault.OutOfMemory kept = absurd (kept refl)
other e kept = refl

pub fails_exactly : {A : Type 0} (e : TextFault) (r : Result A TextFault) → e ≢ fault.OutOfMemory → Fails text_lacks_memory e r → r ≡ Err e
fails_exactly e r kept failed = OnFalse_at (other e kept) failed
