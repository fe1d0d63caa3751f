-- A tree: its workspaces with whole contents, what is stored of each, and how many differences that and its marks have.
use Rattle.std.specs.Prelude.{ℕ, ◌+◌, List, [], Option, length, map, slice_index_or, refl}
use Rattle.std.specs.FinMap as finite
use Rattle.std.specs.Coded.{Coded, code_by, coded×, coded_list, coded_ℕ}
use Rattle.clr_rows.specs.Contents.{Content, changes}
use Rattle.clr_workspaces.specs.Marks.{Mark, Saved, ChildMark}
use Rattle.clr_workspaces.specs.Workspaces.{Workspace, coded_workspace, workspace_at}
use Rattle.clr_deltas.specs.Differing.{delta_from}
use Rattle.clr_deltas.specs.Deltas.{Delta, coded_delta, wholes, stored_in, stored_in_mark}
use Rattle.clr_contents.specs.Lean as lean

pub record Tree : Type 0 where
  pub list : List Workspace
  pub deltas : List Delta
  pub stored : List ℕ
  pub saved : List (List ℕ)

-- how many differences are stored of the workspace at a position
abbrev pub stored_count_at : List ℕ → ℕ → ℕ
stored_count_at counts at = slice_index_or counts at 0

-- how many differences are stored of each mark of the workspace at a position
abbrev pub saved_at : List (List ℕ) → ℕ → List ℕ
saved_at counts at = slice_index_or counts at []

-- the current content of the parent
abbrev pub content_above : List Workspace → Option ℕ → Content
content_above ws above = lean.content_above ws above

-- how many cells are changed
abbrev pub change_count : Content → Content → ℕ
change_count base current = length (finite.keys (changes base current))

-- how many cells of a base aren't as its parent's content, and how many of the current content aren't as the base
abbrev pub needed : List Workspace → ℕ → ℕ
needed ws at = let w = workspace_at ws at in change_count (lean.content_of_parent ws at) w.base + change_count w.base w.current

-- how many cells of a savepoint's content aren't as the base
abbrev pub needed_of_mark : Content → Mark → ℕ
needed_of_mark base (Saved name content) = change_count base content
needed_of_mark base (ChildMark name) = 0

abbrev pub needed_of_marks : List Workspace → ℕ → List ℕ
needed_of_marks ws at = let w = workspace_at ws at in map (needed_of_mark w.base) w.marks

-- what the workspace at a position differs in from its parent's content, at exactly the cells where it differs
abbrev pub needed_delta : List Workspace → ℕ → Delta
needed_delta ws at = delta_from (lean.content_of_parent ws at) (workspace_at ws at)

-- how many differences a delta has in each of its marks
abbrev pub stored_of_marks : Delta → List ℕ
stored_of_marks l = map stored_in_mark l.marks

abbrev pub coded_tree : Coded Tree
coded_tree =
    code_by (List Workspace × (List Delta × (List ℕ × List (List ℕ))))
    (coded× (coded_list coded_workspace) (coded× (coded_list coded_delta) (coded× (coded_list coded_ℕ) (coded_list (coded_list coded_ℕ)))))
    (λ t. (t.list, (t.deltas, (t.stored, t.saved)))) (λ p. record { list = p.0; deltas = p.1.0; stored = p.1.1.0; saved = p.1.1.1 }) (λ _. refl)

abbrev pub tree_of : Content → List Delta → Tree
tree_of live ls = record { list = wholes live ls; deltas = ls; stored = map stored_in ls; saved = map stored_of_marks ls }
