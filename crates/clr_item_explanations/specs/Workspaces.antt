-- What is wrong with workspaces and marks.
use Rattle.std.specs.Prelude.{ℕ, List, [], ◌∷◌, ◌++◌, codes, map, take, slice_get, Option, Some, None, is_some, if◌then◌else◌}
use Rattle.std.specs.Option.{option_map_or, option_or}
use Rattle.serde_json.specs.Data.{Data}
use Rattle.clr_rows.specs.Names.{live_name}
use Rattle.clr_text_positions.specs.declared.paths.Key.{Key}
use Rattle.clr_text_positions.specs.declared.paths.Key.TheVariants as key
use Rattle.clr_text_positions.specs.declared.paths.PathStep.{PathStep}
use Rattle.clr_text_positions.specs.declared.paths.PathStep.TheVariants as step
use Rattle.clr_workspace_parts.specs.declared.parts.PartFault.{PartFault}
use Rattle.clr_workspace_parts.specs.declared.parts.PartFault.TheVariants as unfit
use Rattle.clr_item_explanations.specs.declared.fields.Wanted.TheVariants as wanted
use Rattle.clr_item_explanations.specs.Fields.{wrong_field, wrong_fields}
use Rattle.clr_item_explanations.specs.Tellings.{OfName, Plain, Wrong, at_key}
use Rattle.clr_item_explanations.specs.Values.{items_at, stands_among, text_at, value_at}

-- as they are read ---------------------------------------------------------------------------

-- LIVE, and the names of the workspaces before a place
abbrev pub names_before : ℕ → List Data → List (List ℕ)
names_before at workspaces = live_name ∷ map (text_at key.Name) (take at workspaces)

-- the parent is none of these
unfoldable pub wrong_parent : List (List ℕ) → Data → Option Wrong
wrong_parent names d = let parent = text_at key.Parent d in
    if stands_among names parent then None
    else Some (at_key key.Parent (OfName (codes "NoParent: '" ++ parent ++ codes "' is neither LIVE nor an earlier workspace") parent names))

-- the head of a workspace behind those of these names, and its lists
unfoldable pub wrong_workspace_behind : List (List ℕ) → Data → Option Wrong
wrong_workspace_behind names d =
    option_or (wrong_fields ((key.Name, wanted.Text) ∷ (key.Parent, wanted.Text) ∷ (key.Kept, wanted.OptionalFlag) ∷ []) d)
    (option_or (wrong_parent names d)
    (wrong_fields ((key.Base, wanted.OptionalList) ∷ (key.Rows, wanted.OptionalList) ∷ (key.Marks, wanted.OptionalList) ∷ []) d))

-- the workspace at a place of a text
unfoldable pub wrong_workspace : ℕ → Data → Option Wrong
wrong_workspace at d = let workspaces = items_at key.Workspaces d in
    option_map_or (wrong_workspace_behind (names_before at workspaces)) (slice_get workspaces at) None

-- a mark that has a child is that child's; all others are savepoints
unfoldable pub wrong_mark : Data → Option Wrong
wrong_mark d =
    if is_some (value_at key.Child d) then wrong_field key.Child wanted.Text d
    else wrong_fields ((key.Savepoint, wanted.Text) ∷ (key.Rows, wanted.OptionalList) ∷ []) d

-- among all of them --------------------------------------------------------------------------

abbrev pub part_fault_name : PartFault → List ℕ
part_fault_name unfit.OutOfMemory = codes "OutOfMemory"
part_fault_name unfit.BadName = codes "BadName"
part_fault_name unfit.NameTaken = codes "NameTaken"
part_fault_name unfit.NoParent = codes "NoParent"
part_fault_name unfit.TooMany = codes "TooMany"
part_fault_name unfit.BadMarks = codes "BadMarks"

-- what a fault of a workspace of this name means
abbrev pub part_fault_text : PartFault → List ℕ → List ℕ
part_fault_text unfit.BadName name =
    codes "'" ++ name ++ codes "' is no good name of a workspace: a name has 1 to 30 letters of a to z and A to Z, digits and _, a letter first"
part_fault_text unfit.NameTaken name = codes "'" ++ name ++ codes "' is LIVE or the name of an earlier workspace"
part_fault_text unfit.NoParent name = codes "the parent of '" ++ name ++ codes "' is neither LIVE nor an earlier workspace"
part_fault_text unfit.TooMany name = codes "more than 256 workspaces with LIVE, or '" ++ name ++ codes "' stands deeper than eight levels"
part_fault_text unfit.BadMarks name = codes "the marks of children of '" ++ name
    ++ codes "' aren't exactly its children, each once, or a savepoint's name is bad or taken, or there are more than 64"
part_fault_text unfit.OutOfMemory name = codes "the marks of children of '" ++ name
    ++ codes "' aren't exactly its children, each once, or a savepoint's name is bad or taken, or there are more than 64"

-- the key at which it stands
abbrev pub part_fault_key : PartFault → Key
part_fault_key unfit.BadName = key.Name
part_fault_key unfit.NameTaken = key.Name
part_fault_key unfit.NoParent = key.Parent
part_fault_key unfit.TooMany = key.Name
part_fault_key unfit.BadMarks = key.Marks
part_fault_key unfit.OutOfMemory = key.Name

-- the workspace itself where it hasn't the key
abbrev pub step_if_there : Key → Data → List PathStep
step_if_there k d = if is_some (value_at k d) then step.Key k ∷ [] else []

abbrev pub wrong_part : PartFault → Data → Wrong
wrong_part fault d = record { steps = step_if_there (part_fault_key fault) d; telling = Plain (part_fault_text fault (text_at key.Name d)) }
