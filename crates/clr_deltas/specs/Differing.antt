-- Marks and workspaces by their differences from what they lie over, at exactly the cells where they differ.
use Rattle.std.specs.Prelude.{map}
use Rattle.clr_rows.specs.Contents.{Content}
use Rattle.clr_deltas.specs.Differences.{differences_from}
use Rattle.clr_deltas.specs.Deltas.{Delta}
use Rattle.clr_workspaces.specs.Marks.{Mark, Saved, ChildMark}
use Rattle.clr_workspaces.specs.Workspaces.{Workspace}
use Rattle.clr_deltas.specs.declared.stored_marks.StoredMark.{StoredMark}
use Rattle.clr_deltas.specs.declared.stored_marks.StoredMark.TheVariants as stored

abbrev pub mark_from : Content → Mark → StoredMark
mark_from base (Saved name content) = stored.Saved name (differences_from base content)
mark_from base (ChildMark name) = stored.Child name

-- the delta of a workspace whose parent has this content
abbrev pub delta_from : Content → Workspace → Delta
delta_from above w =
    record {
      name = w.name;
      parent = w.parent;
      base = differences_from above w.base;
      current = differences_from w.base w.current;
      marks = map (mark_from w.base) w.marks;
      kept = w.kept;
    }
