-- What lines are made of: cells, and needs that no row serves.
use Rattle.std.specs.Prelude.{ℕ, List, [], ◌++◌, codes, nat_lt, Option, Some, None, if◌then◌else◌}
use Rattle.std.specs.Fmt.{decimal, signed_decimal}
use Rattle.clr_rows.specs.declared.cells.CellId.{CellId}
use Rattle.clr_rows.specs.declared.tables.TableDef.{TableDef}
use Rattle.clr_rows.specs.Schemas.{name_of_table}
use Rattle.clr_rules.specs.declared.needs.Broken.{Broken}

-- a cell is written as `main/20`
abbrev pub cell_text : List TableDef → CellId → List ℕ
cell_text tables cell = name_of_table tables cell.table ++ codes "/" ++ signed_decimal cell.key

-- a part is written where it is above 1
abbrev pub part_text : ℕ → List ℕ
part_text part = if nat_lt 1 part then codes "/" ++ decimal part else []

-- a subject is written as `main/20`, or `main/20/3` where its part is above 1
abbrev pub subject_text : List TableDef → CellId → ℕ → List ℕ
subject_text tables cell part = cell_text tables cell ++ part_text part

abbrev pub second_text : List TableDef → Option CellId → ℕ → List ℕ
second_text tables None part = []
second_text tables (Some cell) part = codes " " ++ subject_text tables cell part

-- the rule of a need is written before its subjects, as `rule 1 `
unfoldable pub rule_text : ℕ → List ℕ
rule_text rule = codes "rule " ++ decimal rule ++ codes " "

-- the rule of a need and its first subject, as `rule 1 main/20/3`
abbrev pub first_text : List TableDef → Broken → List ℕ
first_text tables need = rule_text need.rule ++ subject_text tables need.first need.first_part

-- a need that no row serves is written as `rule 1 main/20/3 main/21`
abbrev pub need_text : List TableDef → Broken → List ℕ
need_text tables need = first_text tables need ++ second_text tables need.second need.second_part
