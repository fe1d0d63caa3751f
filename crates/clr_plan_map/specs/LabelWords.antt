-- The words of the labels of a map.
use Rattle.std.specs.Prelude.{ℕ, List, [], ◌∷◌, ◌++◌, Option, Some, None, codes}
use Rattle.clr_rows.specs.declared.tables.TableDef.{TableDef}
use Rattle.clr_needs.specs.declared.needs.VersionId.{VersionId}
use Rattle.clr_cert.specs.declared.certificates.Entry.{Entry}
use Rattle.clr_workspaces.specs.Marks.{Name}
use Rattle.clr_member_changes.specs.Names.{member_name}
use Rattle.clr_map_scenes.specs.declared.shown_causes.CauseRow.{CauseRow}
use Rattle.clr_plan_sentences.specs.Labels.{cell_label}

-- the design that has a row, if one has it, behind ` · ` in UTF-8
abbrev pub owner_text : List Name → Option ℕ → List ℕ
owner_text members None = []
owner_text members (Some at) = 32 ∷ 194 ∷ 183 ∷ 32 ∷ member_name members at

-- a row of a cause: its cell, and the design that has it
abbrev pub cause_label : List TableDef → List Name → CauseRow → List ℕ
cause_label tables members row = cell_label tables row.cell ++ owner_text members row.owner

abbrev pub then_text : List TableDef → Option VersionId → List ℕ
then_text tables None = []
then_text tables (Some v) = codes ", then " ++ cell_label tables v.cell

-- the row that serves a need, and the one that serves it then, if there is one
abbrev pub witness_label : List TableDef → Entry → List ℕ
witness_label tables e = cell_label tables e.one.cell ++ then_text tables e.two
