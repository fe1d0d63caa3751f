-- Why a pass ends, by the fault of its stream.
use Rattle.std.specs.Prelude.{◌≡◌, ◌⊎◌, Bool, false, true, ⊤, Result, Err}
use Rattle.clr_layer_changes.specs.declared.faults.LayersFault.TheVariants.{Unread}
use Rattle.clr_layer_streams.specs.declared.faults.StreamFault.{StreamFault}
use Rattle.clr_layer_streams.specs.declared.faults.StreamFault.TheVariants as stream
use Rattle.clr_cut_streams.specs.declared.faults.PassFault.{PassFault}
use Rattle.clr_cut_streams.specs.declared.faults.PassFault.TheVariants as pass

abbrev pub pass_fault : StreamFault → PassFault
pass_fault stream.OutOfMemory = pass.OutOfMemory
pass_fault stream.Unreadable = pass.Unreadable
pass_fault (stream.Record number fault) = pass.Record number (Unread fault)

-- why a row isn't told of: memory ran out, or a sink failed
abbrev pub IsTellingFault : Bool → Bool → PassFault → Type 0
IsTellingFault text_failed notes_failed pass.OutOfMemory = ⊤
IsTellingFault text_failed notes_failed pass.WriteFailed = (text_failed ≡ true) ⊎ (notes_failed ≡ true)
IsTellingFault text_failed notes_failed _ = ⊥

-- whether the answer is that a read of the source failed
abbrev pub is_unreadable : {X : Type 0} → Result X PassFault → Bool
is_unreadable (Err pass.Unreadable) = true
is_unreadable _ = false
