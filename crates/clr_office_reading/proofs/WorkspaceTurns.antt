-- Reading workspaces one after another, each after those before it.
use Rattle.std.proofs.Common.{◌≡◌, ℕ, ◌+◌, ◌≤◌, ◌<◌, List, [], ◌∷◌, ◌++◌, length, get_or, drop, map, Result, Ok, refl, sym, ◌∙◌, add-one}
use Rattle.std.proofs.Math.Seq.{drop-cons}
use Rattle.std.proofs.lemmas.List.{drop_all, map-append}
use Rattle.serde_json.specs.Data.{Data}
use Rattle.clr_rule_text.specs.Seen.{items_seen}
use Rattle.clr_rows.specs.declared.tables.TableDef.{TableDef}
use Rattle.clr_deltas.specs.NamedDeltas.{stored_delta}
use Rattle.clr_deltas.specs.Deltas.{Delta}
use Rattle.clr_rule_text.specs.declared.faults.TextFault.{TextFault}
use Rattle.clr_rule_text.specs.declared.formats.Format.{Format}
use Rattle.clr_deltas.specs.declared.stored_parts.StoredPart.{StoredPart}
use Rattle.clr_readings.specs.Readings.{◌>>=◌, Fails}
use Rattle.clr_rule_text.specs.Fields.{text_lacks_memory}
use Rattle.clr_office_reading.specs.Workspaces.{delta_of, deltas_after}
use Rattle.clr_readings.proofs.FaultTurns.{fails_with}

next : {J : Type 0} (view : J → Data) (format : Format) (tables : List TableDef) (earlier : List Delta) (vs : List J) (i : ℕ) (v : J) → i < length vs → v
    ≡ get_or vs i v
    → deltas_after format tables earlier (items_seen view (drop i vs)) ≡ delta_of format tables earlier (view v) >>= λ l. deltas_after format tables (earlier
    ++ l ∷ []) (items_seen view (drop (i + 1) vs))
unfolding deltas_after
next view format tables earlier vs i v lt is = rw (add-one i, drop-cons vs i v) (rw (← is) refl)

-- one more workspace is read
pub goes_on : {J : Type 0} (view : J → Data) (format : Format) (tables : List TableDef) (parts : List StoredPart) (vs : List J) (i : ℕ) (v : J)
    (one : StoredPart) (whole : Result (List Delta) TextFault) → i < length vs → v ≡ get_or vs i v
    → delta_of format tables (map stored_delta parts) (view v) ≡ Ok (stored_delta one)
    → deltas_after format tables (map stored_delta parts) (items_seen view (drop i vs)) ≡ whole
    → deltas_after format tables (map stored_delta (parts ++ one ∷ [])) (items_seen view (drop (i + 1) vs)) ≡ whole
goes_on view format tables parts vs i v one whole lt is was so_far = rw (map-append stored_delta parts (one ∷ []))
    (sym (next view format tables (map stored_delta parts) vs i v lt is ∙ rw was refl) ∙ so_far)

-- a workspace has a fault, and so has the whole
pub ends : {J : Type 0} (view : J → Data) (format : Format) (tables : List TableDef) (e : TextFault) (parts : List StoredPart) (vs : List J) (i : ℕ) (v : J)
    (whole : Result (List Delta) TextFault) → i < length vs → v ≡ get_or vs i v
    → Fails text_lacks_memory e (delta_of format tables (map stored_delta parts) (view v))
    → deltas_after format tables (map stored_delta parts) (items_seen view (drop i vs)) ≡ whole → Fails text_lacks_memory e whole
ends view format tables e parts vs i v whole lt is failed so_far =
    fails_with text_lacks_memory e (delta_of format tables (map stored_delta parts) (view v)) _ whole failed
    (sym (next view format tables (map stored_delta parts) vs i v lt is) ∙ so_far)

-- no workspace is left
pub is_done : {J : Type 0} (view : J → Data) (format : Format) (tables : List TableDef) (earlier : List Delta) (vs : List J) (i : ℕ)
    (whole : Result (List Delta) TextFault) → length vs ≤ i
    → deltas_after format tables earlier (items_seen view (drop i vs)) ≡ whole → whole ≡ Ok earlier
unfolding deltas_after
is_done view format tables earlier vs i whole le so_far = sym so_far ∙ rw (drop_all i vs le) refl
