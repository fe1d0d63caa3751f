-- The changes of members that bring a row which serves a need, or take one away.
use Rattle.std.specs.Prelude.{ℕ, Bool, false, not, ◌&&◌, is_none, List, [], ◌∷◌, map, filter, flat_map, Option, Some, None, option_to_list}
use Rattle.std.specs.Bool.{beq}
use Rattle.std.specs.FinMap as finite
use Rattle.std.specs.List.{enumerate_from, list_all}
use Rattle.std.specs.Option.{option_and_then, option_map}
use Rattle.clr_rows.specs.declared.cells.CellId.{CellId}
use Rattle.clr_rows.specs.declared.cells.Change.{Change}
use Rattle.clr_rows.specs.declared.rows.Row.{Row}
use Rattle.clr_rows.specs.declared.tables.TableDef.{TableDef}
use Rattle.clr_rows.specs.Contents.{Changes}
use Rattle.clr_rows.specs.Held.{Held, held_of}
use Rattle.clr_rows.specs.Schemas.{row_fault}
use Rattle.clr_rules.specs.Calls.{serves}
use Rattle.clr_needs.specs.declared.needs.Need.{Need}
use Rattle.clr_needs.specs.declared.needs.VersionId.{VersionId}
use Rattle.clr_needs.specs.Needs.{ask_of}
use Rattle.clr_steps.specs.Offices.{Office}
use Rattle.clr_steps.specs.Quiet.{MergeSet}
use Rattle.clr_clearance.specs.MergeSets.{change_sets}
use Rattle.clr_serving_rows.specs.declared.servers.Asked.{Asked}
use Rattle.clr_serving_rows.specs.declared.servers.ServerChange.{ServerChange}
use Rattle.clr_merge_sets.specs.MemberChanges.{row_in}

-- the rows of a need's subjects
pub record Subjects : Type 0 where
  pub first : Held
  pub second : Option Held

abbrev pub subjects_of : Asked → Subjects
subjects_of asked = record { first = held_of asked.first; second = option_map held_of asked.second }

-- the row of a version at its cell, if the merge set has the version
abbrev pub held_in : Office → MergeSet → VersionId → Option Held
held_in o s v = option_map (λ row. (v.cell, row)) (row_in o s v)

-- the subjects, where the second stands too, if there is to be one
abbrev pub with_second_subject : Office → MergeSet → Option VersionId → Held → Option Subjects
with_second_subject o s None first = Some (record { first = first; second = None })
with_second_subject o s (Some v) first = option_map (λ second. record { first = first; second = Some second }) (held_in o s v)

-- the rows of a need's subjects, if all of them stand
abbrev pub subjects_in : Office → MergeSet → Need → Option Subjects
subjects_in o s need = option_and_then (with_second_subject o s need.second) (held_in o s need.first)

abbrev pub fits : List TableDef → Held → Bool
fits tables s = is_none (row_fault tables s.0 s.1)

-- whether a row serves the need of some subjects; rows that don't fit the schema, of which an office has none, serve nothing
unfoldable pub serves_need : Office → Need → Subjects → Held → Bool
serves_need o need subjects server =
    list_all (fits o.schema) (subjects.first ∷ server ∷ option_to_list subjects.second)
    && serves o.book (ask_of need) subjects.first subjects.second server

-- whether there is a row at a cell, and it serves the need
abbrev pub is_served : Office → Need → Subjects → CellId → Option Row → Bool
is_served o need subjects cell None = false
is_served o need subjects cell (Some row) = serves_need o need subjects (cell, row)

-- the one row serves and the other doesn't
abbrev pub turns : Office → Need → Subjects → CellId × Change → Bool
turns o need subjects e = not (beq (is_served o need subjects e.0 e.1.before) (is_served o need subjects e.0 e.1.after))

-- a member's change, which takes the row that serves away or brings it
abbrev pub server_change : Office → Need → Subjects → ℕ → CellId × Change → ServerChange
server_change o need subjects member e = record { member = member; cell = e.0; leaves = is_served o need subjects e.0 e.1.before }

-- the changes of a member that turn whether its row serves, in the order of cells
abbrev pub changes_among : Office → Need → Subjects → ℕ → List (CellId × Change) → List ServerChange
changes_among o need subjects member changes = map (server_change o need subjects member) (filter (turns o need subjects) changes)

abbrev pub changes_of_member : Office → Need → Subjects → ℕ × Changes → List ServerChange
changes_of_member o need subjects e = changes_among o need subjects e.0 (finite.entries e.1)

-- the changes of servers by all members, in their order, and none where a subject doesn't stand
abbrev pub changes_by : Office → Need → List Changes → Option Subjects → List ServerChange
changes_by o need sets None = []
changes_by o need sets (Some subjects) = flat_map (changes_of_member o need subjects) (enumerate_from 0 sets)

-- the changes of a merge set's members that bring a row which serves the need, or take one away
abbrev pub server_changes : Office → MergeSet → Need → List ServerChange
server_changes o s need = changes_by o need (change_sets o s) (subjects_in o s need)
