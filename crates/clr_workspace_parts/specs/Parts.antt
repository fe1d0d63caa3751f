-- Workspaces handed in, as parts or by their differences: what they mean, and the first thing that is wrong with them.
use Rattle.std.specs.Prelude.{◌≡◌, ℕ, zero, suc, Bool, true, false, not, ◌&&◌, ◌||◌, ◌==◌, nat_le, if◌then◌else◌}
use Rattle.std.specs.Prelude.{List, ◌∷◌, Option, Some, None, is_some, length, map, take}
use Rattle.std.specs.List.{list_all, list_any}
use Rattle.std.specs.Option.{option_or, option_map}
use Rattle.std.specs.Str.{bytes_eq}
use Rattle.clr_rows.specs.Contents.{Content, no_rows}
use Rattle.clr_rows.specs.Names.{is_good_name}
use Rattle.clr_deltas.specs.NamedDeltas.{stored_delta}
use Rattle.clr_deltas.specs.Deltas.{whole_mark, workspaces_over}
use Rattle.clr_workspaces.specs.Marks.{Name, Mark, Saved, ChildMark, mark_count, saved_names}
use Rattle.clr_workspaces.specs.Workspaces.{Workspace, workspace_at, find, live_workspace, depth_of}
use Rattle.clr_deltas.specs.declared.stored_marks.StoredMark.{StoredMark}
use Rattle.clr_deltas.specs.declared.stored_parts.StoredPart.{StoredPart}
use Rattle.clr_workspaces.specs.declared.limits.TheConstants.{MOST_WORKSPACES, MOST_LEVELS}
use Rattle.clr_workspace_parts.specs.declared.parts.MarkPart.{MarkPart}
use Rattle.clr_workspace_parts.specs.declared.parts.MarkPart.TheVariants as part
use Rattle.clr_workspace_parts.specs.declared.parts.Part.{Part}
use Rattle.clr_workspace_parts.specs.declared.parts.PartFault.{PartFault}
use Rattle.clr_workspace_parts.specs.declared.parts.PartFault.TheVariants as fault
use Rattle.clr_workspaces.specs.Soundness.{are_good_savepoints}

-- what parts mean ----------------------------------------------------------------------------------

abbrev pub mark_of : MarkPart → Mark
mark_of (part.Saved name content) = Saved name content
mark_of (part.ChildMark name) = ChildMark name

abbrev pub marks_of : List MarkPart → List Mark
marks_of marks = map mark_of marks

abbrev pub workspace_of : Part → Workspace
workspace_of p = record { name = p.name; parent = p.parent; base = p.base; current = p.current; marks = marks_of p.marks.items; kept = p.kept }

-- the workspaces that parts give, LIVE first
abbrev pub list_of : Content → List Part → List Workspace
list_of live parts = live_workspace live ∷ map workspace_of parts

-- the workspaces under LIVE that parts by their differences give
abbrev pub spaces_of : Content → List StoredPart → List Workspace
spaces_of live parts = workspaces_over live (map stored_delta parts)

-- what is wrong with them --------------------------------------------------------------------------

-- there is room for one more workspace, and one below the position
abbrev pub has_room : List Workspace → ℕ → Bool
has_room before above = nat_le (suc (length before)) MOST_WORKSPACES && nat_le (suc (depth_of before above)) MOST_LEVELS

abbrev pub parent_fault : List Workspace → Option ℕ → Option PartFault
parent_fault before None = Some fault.NoParent
parent_fault before (Some above) = if has_room before above then None else Some fault.TooMany

-- why a workspace of the first name can't be made under the one of the second after those before it, if it can't
abbrev pub place_fault : List Workspace → Name → Name → Option PartFault
place_fault before name parent =
    if not (is_good_name name) then Some fault.BadName
    else (if is_some (find before name) then Some fault.NameTaken
    else parent_fault before (find before parent))

-- why a workspace can't stand under its name and its parent after those before it, if it can't
abbrev pub part_name_fault : List Workspace → Workspace → Option PartFault
part_name_fault before w = place_fault before w.name w.parent

-- the workspace found under the name of a child's mark is a child of the one of the given name
abbrev pub is_under : List Workspace → Name → Option ℕ → Bool
is_under ws parent None = false
is_under ws parent (Some at) = bytes_eq parent (workspace_at ws at).parent

abbrev pub is_savepoint_or_child : List Workspace → Name → Mark → Bool
is_savepoint_or_child ws parent (Saved name content) = true
is_savepoint_or_child ws parent (ChildMark name) = is_under ws parent (find ws name)

-- a workspace has one mark, if it is a child of the one of the given name
abbrev pub is_marked_once : Name → List Mark → Workspace → Bool
is_marked_once parent marks w = not (bytes_eq parent w.parent) || mark_count marks w.name == 1

-- the marks of children are the children, each once
abbrev pub has_child_marks : List Workspace → Name → List Mark → Bool
has_child_marks ws parent marks = list_all (is_savepoint_or_child ws parent) marks && list_all (is_marked_once parent marks) ws

abbrev pub has_good_marks : List Workspace → Workspace → Bool
has_good_marks ws w = are_good_savepoints (saved_names w.marks) && has_child_marks ws w.name w.marks

-- why a workspace can't have its marks, if it can't
abbrev pub marks_fault : List Workspace → Workspace → Option PartFault
marks_fault ws w = if has_good_marks ws w then None else Some fault.BadMarks

-- the least position below a number where something is wrong, and what
unfoldable pub first_below : (ℕ → Option PartFault) → ℕ → Option (ℕ × PartFault)
first_below wrong zero = None
first_below wrong (suc n) = option_or (first_below wrong n) (option_map (λ why. (n, why)) (wrong n))

-- the fault of the workspace at a position under LIVE, of names and places, and of marks
abbrev pub part_name_fault_at : List Workspace → ℕ → Option PartFault
part_name_fault_at ws i = part_name_fault (take (suc i) ws) (workspace_at ws (suc i))

abbrev pub marks_fault_at : List Workspace → ℕ → Option PartFault
marks_fault_at ws i = marks_fault ws (workspace_at ws (suc i))

-- the first of some workspaces under LIVE whose name or place has a fault, and the first whose marks have one
abbrev pub first_part_name_fault : Content → List Workspace → Option (ℕ × PartFault)
first_part_name_fault live ws = first_below (part_name_fault_at (live_workspace live ∷ ws)) (length ws)

abbrev pub first_marks_fault : Content → List Workspace → Option (ℕ × PartFault)
first_marks_fault live ws = first_below (marks_fault_at (live_workspace live ∷ ws)) (length ws)

-- the first of some workspaces that can't stand under LIVE, and why: names and places of all come before the marks of any
abbrev pub workspaces_fault : Content → List Workspace → Option (ℕ × PartFault)
workspaces_fault live ws = option_or (first_part_name_fault live ws) (first_marks_fault live ws)

abbrev pub first_fault : Content → List Part → Option (ℕ × PartFault)
first_fault live parts = workspaces_fault live (map workspace_of parts)

-- a refusal names the first workspace with a fault, or is 0 for want of memory
abbrev pub IsFirstPartFault : Option (ℕ × PartFault) → ℕ × PartFault → Type 0
IsFirstPartFault first (n, fault.OutOfMemory) = n ≡ 0
IsFirstPartFault first (n, fault.BadName) = first ≡ Some (n, fault.BadName)
IsFirstPartFault first (n, fault.NameTaken) = first ≡ Some (n, fault.NameTaken)
IsFirstPartFault first (n, fault.NoParent) = first ≡ Some (n, fault.NoParent)
IsFirstPartFault first (n, fault.TooMany) = first ≡ Some (n, fault.TooMany)
IsFirstPartFault first (n, fault.BadMarks) = first ≡ Some (n, fault.BadMarks)

-- the fault of one part, in place of which want of memory may come
abbrev pub IsPartFault : Option PartFault → PartFault → Type 0
IsPartFault found fault.OutOfMemory = Unit {0}
IsPartFault found fault.BadName = found ≡ Some fault.BadName
IsPartFault found fault.NameTaken = found ≡ Some fault.NameTaken
IsPartFault found fault.NoParent = found ≡ Some fault.NoParent
IsPartFault found fault.TooMany = found ≡ Some fault.TooMany
IsPartFault found fault.BadMarks = found ≡ Some fault.BadMarks

-- the number in the answer to the fault of the workspace at a position
abbrev pub fault_number : ℕ → PartFault → ℕ
fault_number at fault.OutOfMemory = 0
fault_number at _ = at

-- a mark has a good name that no later savepoint has, if it is a savepoint
abbrev pub has_new_name : Mark → List Mark → Bool
has_new_name (Saved name content) later = is_good_name name && not (list_any (bytes_eq name) (saved_names later))
has_new_name (ChildMark name) later = true

-- a mark over no rows; marks have the same names over any base
abbrev pub bare_mark : StoredMark → Mark
bare_mark mark = whole_mark no_rows mark

abbrev pub bare_marks : List StoredMark → List Mark
bare_marks marks = map bare_mark marks
