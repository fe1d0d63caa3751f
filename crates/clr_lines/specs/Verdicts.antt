-- The lines of verdicts.
use Rattle.std.specs.Prelude.{ℕ, List, [], ◌++◌, codes, Option, Some, None, slice_get}
use Rattle.std.specs.Fmt.{decimal}
use Rattle.clr_rows.specs.declared.cells.CellId.{CellId}
use Rattle.clr_rows.specs.declared.tables.TableDef.{TableDef}
use Rattle.clr_workspaces.specs.Marks.{Name}
use Rattle.clr_needs.specs.declared.needs.Need.{Need}
use Rattle.clr_needs.specs.declared.needs.VersionId.{VersionId}
use Rattle.clr_cert.specs.declared.certificates.Precedence.{Precedence}
use Rattle.clr_clearance.specs.declared.verdicts.Verdict.{Verdict}
use Rattle.clr_clearance.specs.declared.verdicts.Verdict.TheVariants as verdict
use Rattle.clr_cert.specs.Texts.{entry_subject_text}
use Rattle.clr_member_changes.specs.Names.{member_name}
use Rattle.clr_lines.specs.Pieces.{cell_text, rule_text}

abbrev pub second_version_text : List TableDef → Option VersionId → ℕ → List ℕ
second_version_text tables None part = []
second_version_text tables (Some v) part = codes " " ++ entry_subject_text tables v part

-- the rule of a need and its first subject, as `rule 1 main/20/old/3`
abbrev pub first_version_text : List TableDef → Need → List ℕ
first_version_text tables need = rule_text need.rule ++ entry_subject_text tables need.first need.first_part

-- a need, as `rule 1 main/20/old/3 main/21/new`
abbrev pub need_of_versions_text : List TableDef → Need → List ℕ
need_of_versions_text tables need = first_version_text tables need ++ second_version_text tables need.second need.second_part

-- a line that ends with a name
abbrev pub name_text : List ℕ → Name → List ℕ
name_text front name = front ++ name ++ codes "\n"

-- a member in conflict, its least cell, and how many there are
abbrev pub conflict_text : List TableDef → Name → CellId → ℕ → List ℕ
conflict_text tables name cell count = codes "4 Conflict " ++ name ++ codes " " ++ cell_text tables cell ++ codes " " ++ decimal count ++ codes "\n"

-- a cell that two members change
abbrev pub shared_text : List TableDef → CellId → Name → Name → List ℕ
shared_text tables cell first second = codes "5 SharedCell " ++ cell_text tables cell ++ codes " " ++ first ++ codes " " ++ second ++ codes "\n"

-- a need that no entry covers
abbrev pub uncovered_text : List TableDef → Need → List ℕ
uncovered_text tables need = codes "6 Uncovered " ++ need_of_versions_text tables need ++ codes "\n"

-- two names of which the first isn't listed before the second
abbrev pub not_before_text : Name → Name → List ℕ
not_before_text earlier later = codes "8 NotBefore " ++ earlier ++ codes " " ++ later ++ codes "\n"

abbrev pub misplaced_text : Option Precedence → List ℕ
misplaced_text None = not_before_text [] []
misplaced_text (Some p) = not_before_text p.earlier p.later

-- the line of a verdict on members of a root: its number and its name, with its details
abbrev pub verdict_text : List TableDef → List Name → Name → Verdict → List ℕ
verdict_text tables members root verdict.Clear = codes "clear\n"
verdict_text tables members root verdict.OutOfMemory = codes "0 OutOfMemory\n"
verdict_text tables members root (verdict.RepeatedMember at) = name_text (codes "1 RepeatedMember ") (member_name members at)
verdict_text tables members root (verdict.NoWorkspace at) = name_text (codes "2 NoWorkspace ") (member_name members at)
verdict_text tables members root (verdict.NotUnderRoot at) = name_text (codes "3 NotUnderRoot ") (member_name members at)
verdict_text tables members root (verdict.Conflict at cell count) = conflict_text tables (member_name members at) cell count
verdict_text tables members root (verdict.SharedCell cell first second) = shared_text tables cell (member_name members first) (member_name members second)
verdict_text tables members root (verdict.Uncovered need) = uncovered_text tables need
verdict_text tables members root verdict.NotKept = name_text (codes "7 NotKept ") root
verdict_text tables members root (verdict.NotBefore at) = misplaced_text None

-- the line of a verdict on members of a root, some of whom go before others: its number and its name, with its details
abbrev pub verdict_text_in_turn : List TableDef → List Name → List Precedence → Name → Verdict → List ℕ
verdict_text_in_turn tables members before root (verdict.NotBefore at) = misplaced_text (slice_get before at)
verdict_text_in_turn tables members before root v = verdict_text tables members root v
