-- What is stored of workspaces, and the whole contents that it means.
use Rattle.std.specs.Prelude.{◌≡◌, ℕ, ◌+◌, Bool, true, false, not, ◌⊎◌, if◌then◌else◌, refl, Option, Some, None, unwrap_or}
use Rattle.std.specs.Prelude.{List, [], ◌∷◌, ◌++◌, length, map, take, filter, position, slice_set, slice_index_or}
use Rattle.std.proofs.Common.{inl, inr}
use Rattle.std.specs.Coded.{Coded, code_by, coded×, coded⊎, coded_list, coded_bool}
use Rattle.std.specs.FinMap as finite
use Rattle.std.specs.Str.{bytes_eq}
use Rattle.clr_rows.specs.declared.cells.CellId.{CellId}
use Rattle.clr_rows.specs.declared.rows.Row.{Row}
use Rattle.clr_rows.specs.Contents.{Content, no_rows}
use Rattle.clr_deltas.specs.Differences.{Differences, RowsByCell, HasDifference, IsOwnOver, coded_differences, is_among, no_differences, put_each}
use Rattle.clr_deltas.specs.Differences.{seen_over}
use Rattle.clr_deltas.specs.Differences.{without_neutral, swept_at}
use Rattle.clr_workspaces.specs.Marks.{Name, Mark, Saved, ChildMark, coded_name}
use Rattle.clr_workspaces.specs.Workspaces.{Workspace, live_workspace}
use Rattle.clr_deltas.specs.declared.stored_marks.StoredMark.{StoredMark}
use Rattle.clr_deltas.specs.declared.stored_marks.StoredMark.TheVariants as stored

-- what is stored of a workspace: its base by differences from its parent's content, and its content and savepoints by differences from its base
pub record Delta : Type 0 where
  pub name : Name
  pub parent : Name
  pub base : Differences
  pub current : Differences
  pub marks : List StoredMark
  pub kept : Bool

abbrev pub StoredMarkParts : Type 0
StoredMarkParts = (Name × Differences) ⊎ Name

abbrev pub stored_mark_parts : StoredMark → StoredMarkParts
stored_mark_parts (stored.Saved name d) = inl (name, d)
stored_mark_parts (stored.Child name) = inr name

abbrev pub stored_mark_of_parts : StoredMarkParts → StoredMark
stored_mark_of_parts (inl saved) = stored.Saved saved.0 saved.1
stored_mark_of_parts (inr name) = stored.Child name

pub stored_mark_of_parts_of_stored_mark : (mark : StoredMark) → stored_mark_of_parts (stored_mark_parts mark) ≡ mark
stored_mark_of_parts_of_stored_mark (stored.Saved name d) = refl
stored_mark_of_parts_of_stored_mark (stored.Child name) = refl

abbrev pub coded_stored : Coded StoredMark
coded_stored = code_by StoredMarkParts (coded⊎ (coded× coded_name coded_differences) coded_name) stored_mark_parts stored_mark_of_parts
    stored_mark_of_parts_of_stored_mark

abbrev pub coded_delta : Coded Delta
coded_delta =
    code_by (Name × (Name × (Differences × (Differences × (List StoredMark × Bool)))))
    (coded× coded_name (coded× coded_name (coded× coded_differences (coded× coded_differences (coded× (coded_list coded_stored) coded_bool)))))
    (λ l. (l.name, (l.parent, (l.base, (l.current, (l.marks, l.kept))))))
    (λ p. record { name = p.0; parent = p.1.0; base = p.1.1.0; current = p.1.1.1.0; marks = p.1.1.1.1.0; kept = p.1.1.1.1.1 })
    (λ _. refl)

abbrev pub no_delta : Delta
no_delta = record { name = []; parent = []; base = no_differences; current = no_differences; marks = []; kept = false }

-- the delta at a position
abbrev pub delta_at : List Delta → ℕ → Delta
delta_at ls at = slice_index_or ls at no_delta

-- the delta at a position changed by f
abbrev pub delta_changed : List Delta → ℕ → (Delta → Delta) → List Delta
delta_changed ls at f = slice_set ls at (f (delta_at ls at))

-- the position of a name
abbrev pub find_delta : List Delta → Name → Option ℕ
find_delta ls name = position (λ l. bytes_eq name l.name) ls

-- the delta is that of a child of the workspace of this name
abbrev pub IsUnder : Name → Delta → Type 0
IsUnder name l = bytes_eq name l.parent ≡ true

-- a delta without differences and marks
abbrev pub leaf : Name → Name → Delta
leaf name parent = record { name = name; parent = parent; base = no_differences; current = no_differences; marks = []; kept = false }

-- how many differences a delta has in its base and its current content
abbrev pub stored_in : Delta → ℕ
stored_in l = length (finite.keys l.base) + length (finite.keys l.current)

-- MARKS

-- the mark at a position
abbrev pub stored_at : List StoredMark → ℕ → StoredMark
stored_at marks i = slice_index_or marks i (stored.Child [])

abbrev pub is_stored_child : StoredMark → Bool
is_stored_child (stored.Saved name d) = false
is_stored_child (stored.Child name) = true

abbrev pub is_stored_saved : StoredMark → Bool
is_stored_saved mark = not (is_stored_child mark)

abbrev pub is_stored_saved_as : Name → StoredMark → Bool
is_stored_saved_as name (stored.Saved other d) = bytes_eq name other
is_stored_saved_as name (stored.Child other) = false

abbrev pub is_stored_mark_of : Name → StoredMark → Bool
is_stored_mark_of child (stored.Saved name d) = false
is_stored_mark_of child (stored.Child name) = bytes_eq child name

abbrev pub stored_without_mark_of : Name → List StoredMark → List StoredMark
stored_without_mark_of child marks = filter (λ m. not (is_stored_mark_of child m)) marks

-- the differences of a savepoint from the base
abbrev pub saved_differences : StoredMark → Differences
saved_differences (stored.Saved name d) = d
saved_differences (stored.Child name) = no_differences

-- a mark without the differences that have the row of the base
abbrev pub swept_mark : Content → StoredMark → StoredMark
swept_mark base (stored.Saved name d) = stored.Saved name (without_neutral base d)
swept_mark base (stored.Child name) = stored.Child name

-- a mark without the differences at some cells that have the row of the base
abbrev pub swept_mark_at : Content → List CellId → StoredMark → StoredMark
swept_mark_at base cells (stored.Saved name d) = stored.Saved name (swept_at base cells d)
swept_mark_at base cells (stored.Child name) = stored.Child name

-- no savepoint has a difference at a cell with this row of the base
abbrev pub AreOwnOver : Option Row → CellId → List StoredMark → Type 0
AreOwnOver base q [] = Unit {0}
AreOwnOver base q (m ∷ ms) = IsOwnOver base (finite.get (saved_differences m) q) × AreOwnOver base q ms

-- at all other cells no savepoint has come to have a difference with the row of the base
abbrev pub StayOwnBeside : List CellId → List StoredMark → List StoredMark → Type 0
StayOwnBeside cells old new = (q : CellId) → is_among cells q ≡ false → (base : Option Row) → AreOwnOver base q old → AreOwnOver base q new

-- how many differences a mark has
abbrev pub stored_in_mark : StoredMark → ℕ
stored_in_mark mark = length (finite.keys (saved_differences mark))

abbrev pub MarkStores : CellId → StoredMark → Type 0
MarkStores cell (stored.Saved name d) = HasDifference d cell
MarkStores cell (stored.Child name) = Unit {0}

-- each savepoint has a difference at a cell
abbrev pub EachMarkStores : List StoredMark → CellId → Type 0
EachMarkStores [] cell = Unit {0}
EachMarkStores (m ∷ ms) cell = MarkStores cell m × EachMarkStores ms cell

-- a delta whose base takes rows over, and whose current content is the base; the savepoints go
abbrev pub rows_taken_over : RowsByCell → Delta → Delta
rows_taken_over rows l = record l { base = put_each l.base rows; current = no_differences; marks = filter is_stored_child l.marks }

-- a delta over the parent's content, with these differences; the savepoints go
abbrev pub restarted_with : Differences → Delta → Delta
restarted_with current l = record l { base = no_differences; current = current; marks = filter is_stored_child l.marks }

-- MEANING

abbrev pub whole_mark : Content → StoredMark → Mark
whole_mark base (stored.Saved name d) = Saved name (seen_over base d)
whole_mark base (stored.Child name) = ChildMark name

-- the workspace that a delta means where its parent has this content
unfoldable pub whole_of : Content → Delta → Workspace
whole_of above l =
    let base = seen_over above l.base in
    record { name = l.name; parent = l.parent; base = base; current = seen_over base l.current; marks = map (whole_mark base) l.marks; kept = l.kept }

-- LIVE, which is stored whole beside its delta
unfoldable pub top : Content → Delta → Workspace
top live l = record { name = l.name; parent = l.parent; base = no_rows; current = live; marks = []; kept = true }

-- the current content of the first of some workspaces that has the name
unfoldable pub content_by_name : List Workspace → Name → Option Content
content_by_name [] name = None
content_by_name (w ∷ ws) name = if bytes_eq name w.name then Some w.current else content_by_name ws name

-- the content of the parent of a delta, from the workspaces before it
abbrev pub above_in : List Workspace → Delta → Content
above_in ws l = unwrap_or (content_by_name ws l.parent) no_rows

-- the workspaces that deltas mean, after those before them
unfoldable pub grow : List Workspace → List Delta → List Workspace
grow ws [] = []
grow ws (l ∷ ls) = let w = whole_of (above_in ws l) l in w ∷ grow (ws ++ w ∷ []) ls

-- the workspaces under LIVE: each base over the content of its parent, and each current content and savepoint over its base
abbrev pub workspaces_over : Content → List Delta → List Workspace
workspaces_over live deltas = grow (live_workspace live ∷ []) deltas

-- the whole workspaces, LIVE first
unfoldable pub wholes : Content → List Delta → List Workspace
wholes live [] = []
wholes live (l ∷ ls) = let w = top live l in w ∷ grow (w ∷ []) ls

-- the content that the delta at a position lies over
abbrev pub above_at : Content → List Delta → ℕ → Content
above_at live ls at = above_in (take at (wholes live ls)) (delta_at ls at)
