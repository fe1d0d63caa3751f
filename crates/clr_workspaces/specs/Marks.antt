-- The marks of a workspace: savepoints, and the marks that the making of children left.
use Rattle.std.specs.Prelude.{◌≡◌, ℕ, suc, Bool, true, false, not, List, [], ◌∷◌, ◌++◌, Option, filter, drop, count_by, position, slice_index_or, refl, ◌⊎◌}
use Rattle.std.proofs.Common.{inl, inr}
use Rattle.std.specs.Coded.{Coded, code_by, coded×, coded⊎, coded_ℕ, coded_list}
use Rattle.std.specs.List.{list_any}
use Rattle.std.specs.Str.{bytes_eq}
use Rattle.clr_rows.specs.Contents.{Content, coded_content, no_rows}

abbrev pub Name : Type 0
Name = List ℕ

-- a savepoint with the content that it saved, or the mark of a child
pub data Mark : Type 0 where
  Saved : Name → Content → Mark
  ChildMark : Name → Mark

abbrev pub MarkParts : Type 0
MarkParts = (Name × Content) ⊎ Name

abbrev pub mark_parts : Mark → MarkParts
mark_parts (Saved name content) = inl (name, content)
mark_parts (ChildMark name) = inr name

abbrev pub mark_of_parts : MarkParts → Mark
mark_of_parts (inl saved) = Saved saved.0 saved.1
mark_of_parts (inr name) = ChildMark name

pub mark_of_parts_of_mark : (mark : Mark) → mark_of_parts (mark_parts mark) ≡ mark
mark_of_parts_of_mark (Saved name content) = refl
mark_of_parts_of_mark (ChildMark name) = refl

abbrev pub coded_name : Coded Name
coded_name = coded_list coded_ℕ

abbrev pub coded_mark : Coded Mark
coded_mark = code_by MarkParts (coded⊎ (coded× coded_name coded_content) coded_name) mark_parts mark_of_parts mark_of_parts_of_mark

-- the mark at a position
abbrev pub mark_at : List Mark → ℕ → Mark
mark_at marks i = slice_index_or marks i (ChildMark [])

abbrev pub is_child_mark : Mark → Bool
is_child_mark (Saved name content) = false
is_child_mark (ChildMark name) = true

abbrev pub is_saved : Mark → Bool
is_saved mark = not (is_child_mark mark)

-- a savepoint of this name
abbrev pub is_saved_as : Name → Mark → Bool
is_saved_as name (Saved other content) = bytes_eq name other
is_saved_as name (ChildMark other) = false

-- the mark of the child of this name
abbrev pub is_mark_of : Name → Mark → Bool
is_mark_of child (Saved name content) = false
is_mark_of child (ChildMark name) = bytes_eq child name

-- the content that a savepoint saved
abbrev pub saved_content : Mark → Content
saved_content (Saved name content) = content
saved_content (ChildMark name) = no_rows

-- how many savepoints there are
abbrev pub saved_count : List Mark → ℕ
saved_count marks = count_by is_saved marks

-- how many marks a child has
abbrev pub mark_count : List Mark → Name → ℕ
mark_count marks child = count_by (is_mark_of child) marks

-- the position of the savepoint of a name
abbrev pub find_mark : List Mark → Name → Option ℕ
find_mark marks name = position (is_saved_as name) marks

-- whether the mark of a child stands after a position
abbrev pub is_held : List Mark → ℕ → Bool
is_held marks i = list_any is_child_mark (drop (suc i) marks)

-- the names of the savepoints, in order
abbrev pub saved_names : List Mark → List Name
saved_names [] = []
saved_names (Saved name content ∷ marks) = name ∷ saved_names marks
saved_names (ChildMark name ∷ marks) = saved_names marks

-- all but the savepoints
abbrev pub without_saved : List Mark → List Mark
without_saved marks = filter is_child_mark marks

-- all but the mark of a child
abbrev pub without_mark_of : Name → List Mark → List Mark
without_mark_of child marks = filter (λ m. not (is_mark_of child m)) marks

-- the mark of a child moved to the end
abbrev pub mark_last : Name → List Mark → List Mark
mark_last child marks = without_mark_of child marks ++ ChildMark child ∷ []
