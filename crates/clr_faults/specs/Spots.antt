-- The item of an office text at which a fault stands.
use Rattle.std.specs.Prelude.{◌≡◌, ◌≢◌, ℕ, List, Option, Some, None, Result, Ok, MatchOption, if◌then◌else◌}
use Rattle.std.specs.Str.{is_utf8}
use Rattle.serde_json.specs.Data.{Data}
use Rattle.serde_json.specs.Read.{read}
use Rattle.clr_rule_text.specs.declared.faults.TextFault.{TextFault}
use Rattle.clr_faults.specs.declared.spots.FaultyItem.{FaultyItem}
use Rattle.clr_faults.specs.declared.spots.FaultyItem.TheVariants.{Whole, Table, Rule, Live, Workspace, Base, Row, Mark, Saved}
use Rattle.clr_faults.specs.Stages.{base_faults, live_faults, mark_faults, row_faults, rule_faults, saved_faults, table_faults, workspace_faults}

-- the first fault of a list is this one, at this place
abbrev pub HasFirst : Result (Option (ℕ × TextFault)) TextFault → TextFault → ℕ → Type 0
HasFirst faults e at = faults ≡ Ok (Some (at, e))

-- the first fault of a list isn't this one
abbrev pub HasNone : Result (Option (ℕ × TextFault)) TextFault → TextFault → Type 0
HasNone faults e = (at : ℕ) → faults ≢ Ok (Some (at, e))

-- the item, and each item that it stands in, is the first of its list whose own reading answers the fault; no item within it answers it
abbrev pub IsFaultAt : Data → TextFault → FaultyItem → Type 0
IsFaultAt d e Whole = HasNone (table_faults d) e × HasNone (rule_faults d) e × HasNone (live_faults d) e × HasNone (workspace_faults d) e
IsFaultAt d e (Table at) = HasFirst (table_faults d) e at
IsFaultAt d e (Rule at) = HasFirst (rule_faults d) e at
IsFaultAt d e (Live at) = HasFirst (live_faults d) e at
IsFaultAt d e (Workspace at) =
    HasFirst (workspace_faults d) e at × HasNone (base_faults at d) e × HasNone (row_faults at d) e × HasNone (mark_faults at d) e
IsFaultAt d e (Base at cell) = HasFirst (workspace_faults d) e at × HasFirst (base_faults at d) e cell
IsFaultAt d e (Row at cell) = HasFirst (workspace_faults d) e at × HasFirst (row_faults at d) e cell
IsFaultAt d e (Mark at mark) = HasFirst (workspace_faults d) e at × HasFirst (mark_faults at d) e mark × HasNone (saved_faults at mark d) e
IsFaultAt d e (Saved at mark cell) =
    HasFirst (workspace_faults d) e at × HasFirst (mark_faults at d) e mark × HasFirst (saved_faults at mark d) e cell

-- the value that the bytes are, if they are JSON
unfoldable pub value_in : List ℕ → Option Data
value_in bytes = if is_utf8 bytes then read bytes else None

-- where in some bytes a fault is: in the value that they are, or, where they are none, in the whole text
abbrev pub IsFoundIn : List ℕ → TextFault → FaultyItem → Type 0
IsFoundIn bytes e spot = MatchOption (value_in bytes) (spot ≡ Whole) (λ d. IsFaultAt d e spot)
