-- Why a record can't be read, by the error of a reader or the fault of its fields.
use Rattle.std.specs.Prelude.{ℕ, Bool, false, true, Result, Err, if◌then◌else◌}
use Rattle.csv.specs.declared.error.ErrorKind.{ErrorKind}
use Rattle.csv.specs.declared.error.ErrorKind.TheVariants as kind
use Rattle.clr_layer_text.specs.declared.faults.LayerFault.{LayerFault}
use Rattle.clr_layer_text.specs.declared.faults.LayerFault.TheVariants.{NotCsv}
use Rattle.clr_layer_text.specs.Faults.{layer_lacks_memory}
use Rattle.clr_layer_streams.specs.declared.faults.StreamFault.{StreamFault}
use Rattle.clr_layer_streams.specs.declared.faults.StreamFault.TheVariants.{OutOfMemory, Unreadable, Record}

-- where no read of the source has failed
abbrev pub fault_of : ℕ → ErrorKind → StreamFault
fault_of number (kind.Utf8 pos err) = Record number NotCsv
fault_of number _ = OutOfMemory

abbrev pub record_fault : ℕ → LayerFault → StreamFault
record_fault number fault = if layer_lacks_memory fault then OutOfMemory else Record number fault

-- whether the answer is that a read of the source failed
abbrev pub is_unreadable : {X : Type 0} → Result X StreamFault → Bool
is_unreadable (Err Unreadable) = true
is_unreadable _ = false
