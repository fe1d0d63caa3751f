-- The first fault of a list, item by item, as a loop finds it.
use Rattle.std.proofs.Common.{◌≡◌, ℕ, suc, ◌+◌, ◌≤◌, ◌<◌, ◌≢◌, List, ◌∷◌, [], ◌++◌, length, get_or, drop, map, Option, Some, None, Result, Ok}
use Rattle.std.proofs.Common.{refl, sym, ◌∙◌, add-one}
use Rattle.std.proofs.Math.Seq.{drop-cons}
use Rattle.std.proofs.lemmas.List.{drop_all, map-append}
use Rattle.std.proofs.lemmas.Result.{IfOk-weaker}
use Rattle.std.specs.Prelude.{IfOk}
use Rattle.serde_json.specs.Data.{Data}
use Rattle.serde_json.specs.View.{view, items_view}
use Rattle.serde_json.specs.declared.value.Value.{Value as Json}
use Rattle.clr_rows.specs.declared.tables.TableDef.{TableDef}
use Rattle.clr_deltas.specs.NamedDeltas.{stored_delta}
use Rattle.clr_deltas.specs.Deltas.{Delta}
use Rattle.clr_deltas.specs.declared.stored_parts.StoredPart.{StoredPart}
use Rattle.clr_rule_text.specs.declared.faults.TextFault.{TextFault}
use Rattle.clr_rule_text.specs.declared.faults.TextFault.TheVariants as fault
use Rattle.clr_rule_text.specs.declared.formats.Format.{Format}
use Rattle.clr_readings.specs.Readings.{Fails}
use Rattle.clr_rule_text.specs.Fields.{text_lacks_memory}
use Rattle.clr_office_reading.specs.Workspaces.{delta_of}
use Rattle.clr_readings.proofs.FaultTurns.{fails_with}
use Rattle.clr_faults.specs.FirstFaults.{fault_or, first_fault_from}
use Rattle.clr_faults.specs.Readings.{deltas_with}
use Rattle.clr_faults.proofs.Lost.{fails_exactly}

-- the item at i is read next
next : {S : Type 0} (f : S → Data → Result S TextFault) (s : S) (vs : List Json) (i : ℕ) (v : Json) → i < length vs → v ≡ get_or vs i v
    → first_fault_from f s i (items_view (drop i vs)) ≡ fault_or (f s (view v)) i (λ t. first_fault_from f t (suc i) (items_view (drop (suc i) vs)))
unfolding first_fault_from
next f s vs i v lt is = rw (drop-cons vs i v) (rw (← is) refl)

pub goes_on : {S : Type 0} (f : S → Data → Result S TextFault) (s t : S) (vs : List Json) (i : ℕ) (v : Json) (whole : Option (ℕ × TextFault))
    → i < length vs → v ≡ get_or vs i v → f s (view v) ≡ Ok t
    → first_fault_from f s i (items_view (drop i vs)) ≡ whole → first_fault_from f t (i + 1) (items_view (drop (i + 1) vs)) ≡ whole
goes_on f s t vs i v whole lt is was so_far = rw (add-one i) (sym (next f s vs i v lt is ∙ rw was refl) ∙ so_far)

-- the loop ends at an item whose fault isn't want of memory
pub ends : {S E : Type 0} (f : S → Data → Result S TextFault) (e : TextFault) (s : S) (vs : List Json) (i : ℕ) (v : Json) (whole : Option (ℕ × TextFault))
    (given : Result (Option (ℕ × TextFault)) E) → i < length vs → v ≡ get_or vs i v → Fails text_lacks_memory e (f s (view v))
    → first_fault_from f s i (items_view (drop i vs)) ≡ whole → IfOk given (λ x. (x ≡ Some (i, e)) × (e ≢ fault.OutOfMemory)) → IfOk given (λ x. x ≡ whole)
ends f e s vs i v whole given lt is failed so_far told =
    IfOk-weaker given _ _ (λ x h. h.0 ∙ (sym (next f s vs i v lt is ∙ rw (fails_exactly e (f s (view v)) h.1 failed) refl) ∙ so_far)) told

pub is_done : {S : Type 0} (f : S → Data → Result S TextFault) (s : S) (vs : List Json) (i : ℕ) (whole : Option (ℕ × TextFault)) → length vs ≤ i
    → first_fault_from f s i (items_view (drop i vs)) ≡ whole → None ≡ whole
unfolding first_fault_from
is_done f s vs i whole le so_far = sym (rw (drop_all i vs le) refl) ∙ so_far

-- workspaces --------------------------------------------------------------------------------------

pub deltas : (format : Format) (tables : List TableDef) (parts : List StoredPart) (d : Data) (one : StoredPart)
    → delta_of format tables (map stored_delta parts) d ≡ Ok (stored_delta one)
    → deltas_with format tables (map stored_delta parts) d ≡ Ok (map stored_delta (parts ++ one ∷ []))
unfolding deltas_with
deltas format tables parts d one was = rw (was, map-append stored_delta parts (one ∷ [])) refl

pub deltas_fail : (format : Format) (tables : List TableDef) (earlier : List Delta) (d : Data) (e : TextFault)
    → Fails text_lacks_memory e (delta_of format tables earlier d) → Fails text_lacks_memory e (deltas_with format tables earlier d)
unfolding deltas_with
deltas_fail format tables earlier d e failed = fails_with text_lacks_memory e (delta_of format tables earlier d) (λ l. Ok (earlier ++ l ∷ [])) _ failed refl
