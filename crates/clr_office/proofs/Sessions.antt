-- An input without a separator.
use Rattle.std.proofs.Common.{◌≡◌, ℕ, List, None, Err, refl, subst}
use Rattle.clr_streams.specs.Separator.{around_separator}
use Rattle.clr_office.specs.Session.{IsSession, IsSessionOf}
use Rattle.clr_process_io.specs.declared.faults.RunFault.TheVariants as run_fault

pub session_uncut : (input : List ℕ) → None ≡ around_separator input → IsSession input (Err run_fault.NoSeparator)
session_uncut input cut = subst (λ parts. IsSessionOf parts (Err run_fault.NoSeparator)) cut refl
