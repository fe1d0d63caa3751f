-- Parts without rows.
use Rattle.std.specs.Prelude.{◌≡◌}
use Rattle.std.specs.List.{AllByRecursion}
use Rattle.clr_rows.specs.Contents.{no_rows}
use Rattle.clr_workspaces.specs.Marks.{saved_content}
use Rattle.clr_workspace_parts.specs.Parts.{mark_of}
use Rattle.clr_workspace_parts.specs.declared.parts.MarkPart.{MarkPart}
use Rattle.clr_workspace_parts.specs.declared.parts.Part.{Part}

abbrev pub SavesNoRows : MarkPart → Type 0
SavesNoRows mark = saved_content (mark_of mark) ≡ no_rows

pub record HasNoRows (p : Part) : Type 0 where
  pub base : p.base ≡ no_rows
  pub current : p.current ≡ no_rows
  pub marks : AllByRecursion SavesNoRows p.marks.items
