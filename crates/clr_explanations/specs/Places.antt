-- What is said of the place of a fault behind its line and its column.
use Rattle.std.specs.Prelude.{◌≡◌, ◌≢◌, ℕ, ℤ, List, [], ◌∷◌, ◌++◌, codes, decimal, Option, Some, None, Result, Ok, Err}
use Rattle.std.specs.Fmt.{signed_decimal}
use Rattle.std.specs.List.{flat_map}
use Rattle.std.specs.Option.{option_and_then, option_map_or}
use Rattle.serde_json.specs.Data.{Data}
use Rattle.serde_json.specs.Find.{as_i64, as_number, as_str, at, get}
use Rattle.clr_rule_text.specs.declared.faults.TextFault.{TextFault}
use Rattle.clr_faults.specs.declared.spots.FaultyItem.{FaultyItem}
use Rattle.clr_faults.specs.declared.spots.FaultyItem.TheVariants.{Whole, Table, Rule, Live, Workspace, Base, Row, Mark, Saved}
use Rattle.clr_text_positions.specs.Keys.{key_text}
use Rattle.clr_text_positions.specs.declared.paths.Key.{Key}
use Rattle.clr_text_positions.specs.declared.paths.Key.TheVariants as key
use Rattle.clr_text_positions.specs.declared.paths.PathStep.{PathStep}
use Rattle.clr_text_positions.specs.declared.paths.PathStep.TheVariants as step
use Rattle.clr_explanations.specs.Items.{item_at_spot}

-- steps to an item -----------------------------------------------------------------------------

-- the steps to an item of a list of a workspace
abbrev pub steps_in_workspace : ℕ → Key → ℕ → List PathStep
steps_in_workspace at k item = step.Key key.Workspaces ∷ step.At at ∷ step.Key k ∷ step.At item ∷ []

-- the steps from the whole text to an item
abbrev pub steps_to : FaultyItem → List PathStep
steps_to Whole = []
steps_to (Table at) = step.Key key.Tables ∷ step.At at ∷ []
steps_to (Rule at) = step.Key key.Rules ∷ step.At at ∷ []
steps_to (Live at) = step.Key key.Live ∷ step.At at ∷ []
steps_to (Workspace at) = step.Key key.Workspaces ∷ step.At at ∷ []
steps_to (Base at cell) = steps_in_workspace at key.Base cell
steps_to (Row at cell) = steps_in_workspace at key.Rows cell
steps_to (Mark at mark) = steps_in_workspace at key.Marks mark
steps_to (Saved at mark cell) = steps_in_workspace at key.Marks mark ++ step.Key key.Rows ∷ step.At cell ∷ []

-- steps within an item -------------------------------------------------------------------------

abbrev pub value_at_step : PathStep → Data → Option Data
value_at_step (step.Key k) d = get (key_text k) d
value_at_step (step.At i) d = at i d

-- the value that steps lead to
abbrev pub value_by : List PathStep → Data → Option Data
value_by [] d = Some d
value_by (s ∷ steps) d = option_and_then (value_by steps) (value_at_step s d)

-- the steps up to the first that leads to no value
unfoldable pub steps_within : List PathStep → Data → List PathStep
steps_within [] d = []
steps_within (s ∷ steps) d = option_map_or (λ v. s ∷ steps_within steps v) (value_at_step s d) []

-- in words -------------------------------------------------------------------------------------

abbrev pub step_text : PathStep → List ℕ
step_text (step.Key k) = codes "." ++ key_text k
step_text (step.At i) = codes "[" ++ decimal i ++ codes "]"

-- the first step of a path, whose key has no point before it
abbrev pub first_step_text : PathStep → List ℕ
first_step_text (step.Key k) = key_text k
first_step_text (step.At i) = codes "[" ++ decimal i ++ codes "]"

-- a path, as `workspaces[0].rows[3]`
unfoldable pub path_text : List PathStep → List ℕ
path_text [] = []
path_text (s ∷ steps) = first_step_text s ++ flat_map step_text steps

abbrev pub cell_of : Option (List ℕ) → Option ℤ → Option (List ℕ × ℤ)
cell_of (Some table) (Some key) = Some (table, key)
cell_of _ _ = None

-- the cell of an item: the table and the key that it has, if it has both
abbrev pub cell_in : Data → Option (List ℕ × ℤ)
cell_in item = cell_of (option_and_then as_str (get (codes "t") item)) (option_and_then as_i64 (option_and_then as_number (get (codes "k") item)))

abbrev pub cell_text : List ℕ × ℤ → List ℕ
cell_text cell = codes ", cell " ++ cell.0 ++ codes "/" ++ signed_decimal cell.1

-- a path and what follows it; of the whole text nothing is said
abbrev pub path_and_cell : List PathStep → List ℕ → List ℕ
path_and_cell [] cell = []
path_and_cell (s ∷ steps) cell = codes ", " ++ path_text (s ∷ steps) ++ cell

abbrev pub place_of : Result Data TextFault → FaultyItem → List PathStep → List ℕ
place_of (Ok item) spot steps = path_and_cell (steps_to spot ++ steps_within steps item) (option_map_or cell_text (cell_in item) [])
place_of (Err e) spot steps = path_and_cell (steps_to spot) []

-- what is said of the place of a fault: the path to its item and on to the value that steps from there lead to, and the cell of the item
abbrev pub place_text : Data → FaultyItem → List PathStep → List ℕ
place_text d spot steps = place_of (item_at_spot spot d) spot steps

-- laws -----------------------------------------------------------------------------------------

-- the steps of a path that follow those to its item lead to a value of the item
abbrev pub PathsLead : Type 0
PathsLead = (steps : List PathStep) (d : Data) → value_by (steps_within steps d) d ≢ None

-- and none is left out of those that lead to a value
abbrev pub WholePaths : Type 0
WholePaths = (steps : List PathStep) (d v : Data) → value_by steps d ≡ Some v → steps_within steps d ≡ steps
