-- Where no cell of a savepoint of a workspace has the fault of an office text.
use Rattle.std.proofs.Common.{◌≡◌, ◌≢◌, ℕ, List, codes, Option, Some, Result, Ok, Err, refl, ◌∙◌}
use Rattle.std.specs.Prelude.{IsOk}
use Rattle.serde_json.specs.Data.{Data}
use Rattle.clr_rows.specs.declared.tables.TableDef.{TableDef}
use Rattle.clr_rule_text.specs.declared.faults.TextFault.{TextFault}
use Rattle.clr_rule_text.specs.declared.formats.Format.{Format}
use Rattle.clr_readings.specs.Readings.{◌>>=◌}
use Rattle.clr_office_reading.specs.Workspaces.{head_of}
use Rattle.clr_faults.specs.declared.spots.FaultyItem.TheVariants.{Mark}
use Rattle.clr_faults.specs.Behind.{BehindHead, HasMark, IsOver}
use Rattle.clr_faults.specs.Parts.{cell_fault_at}
use Rattle.clr_faults.specs.Spots.{HasNone, IsFaultAt}
use Rattle.clr_faults.specs.Stages.{in_workspace, list_item_of, over_schema, saved_faults, savepoint_of}

-- a part that can be read is passed
pass : {A B : Type 0} (r : Result A TextFault) (next : Result B TextFault) → IsOk r → (r >>= λ x. next) ≡ next
pass (Ok x) next is = refl
pass (Err e) next is = absurd cc

-- what stands behind a schema that is known
over : {A : Type 0} (d : Data) (format : Format) (tables : List TableDef) (f : Format → List TableDef → Result A TextFault) → IsOver d format tables
    → over_schema f d ≡ f format tables
over d format tables f is = rw (is.formatted, is.read) refl

-- a fault that is met behind a head that can be read
inside : {A : Type 0} (d : Data) (e : TextFault) (format : Format) (tables : List TableDef) (at : ℕ) (one : Data) (f : List TableDef → Data
    → Result A TextFault)
    → BehindHead d e format tables at one → in_workspace f at d ≡ f tables one
inside d e format tables at one f behind =
    over d format tables _ behind.has.over ∙ (rw behind.there refl ∙ pass (head_of format one) (f tables one) behind.read)

-- a list whose first fault is known doesn't have this one
none_with : (faults : Result (Option (ℕ × TextFault)) TextFault) (first : Option (ℕ × TextFault)) (e : TextFault) → faults ≡ Ok first
    → ((at : ℕ) → first ≢ Some (at, e)) → HasNone faults e
none_with faults first e is none at same = let found : first ≡ Some (at, e) = cc in none at found

module _ (d : Data) (e : TextFault) (format : Format) (tables : List TableDef) (at : ℕ) (one : Data) (mark : ℕ) (item : Data)
    (has : HasMark d e format tables at one mark) (there : list_item_of (codes "marks") mark one ≡ Ok item) (read : IsOk (savepoint_of item)) where
  saved_are : saved_faults at mark d ≡ Ok (cell_fault_at (codes "rows") tables item)
  saved_are = inside d e format tables at one _ has.before ∙ (rw there refl ∙ pass (savepoint_of item) _ read)

  -- no cell of the savepoint has the fault
  pub without_cells : ((cell : ℕ) → cell_fault_at (codes "rows") tables item ≢ Some (cell, e)) → IsFaultAt d e (Mark at mark)
  without_cells none = (has.before.has.first, has.first, none_with _ _ e saved_are none)
