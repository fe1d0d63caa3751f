-- An office text as JSON: format 3, or format 4 where needs are known to be broken, with every key, and the keys of each object in the order of their bytes.
use Rattle.std.specs.Prelude.{ℤ, pos, codes, List, [], ◌∷◌}
use Rattle.serde_json.specs.Data.{Data, object, member, no_members}
use Rattle.clr_rules.specs.declared.needs.Broken.{Broken}
use Rattle.clr_office_reading.specs.Offices.{OfficeText}
use Rattle.clr_office_writing.specs.CellData.{live_data}
use Rattle.clr_office_writing.specs.RuleData.{rules_data}
use Rattle.clr_office_writing.specs.TableData.{table_data}
use Rattle.clr_office_writing.specs.Values.{list_data, number_data}
use Rattle.clr_office_writing.specs.WorkspaceData.{delta_data}

-- the number of the format
abbrev pub format_number : List Broken → ℤ
format_number [] = pos 3
format_number (b ∷ bs) = pos 4

unfoldable pub office_data : OfficeText → Data
office_data o =
    object (member (codes "format") (number_data (format_number o.known)) (member (codes "live") (live_data o.schema o.live)
    (member (codes "rules") (rules_data o.schema o.book o.known) (member (codes "tables") (list_data table_data o.schema)
    (member (codes "workspaces") (list_data (delta_data o.schema) o.deltas) no_members)))))
