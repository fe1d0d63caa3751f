-- The text of a cut: that of an office with a mark, in format 4. Its workspaces are written as their text has them, also at cells where LIVE has no row yet:
-- what a design removes isn't forgotten before the row is put in.
use Rattle.std.specs.Prelude.{ℕ, pos, true, List, codes}
use Rattle.serde_json.specs.Data.{Data, boolean, object, member, no_members}
use Rattle.serde_json.specs.Written.{compact_text}
use Rattle.clr_office_reading.specs.Offices.{OfficeText}
use Rattle.clr_office_writing.specs.CellData.{live_data}
use Rattle.clr_office_writing.specs.RuleData.{rules_data}
use Rattle.clr_office_writing.specs.TableData.{table_data}
use Rattle.clr_office_writing.specs.Values.{list_data, number_data}
use Rattle.clr_office_writing.specs.WorkspaceData.{delta_data}
use Rattle.clr_cut_texts.specs.declared.marks.TheConstants.{MARK}

-- the mark, and then what every office text has; readers that don't know the mark pass it over
unfoldable pub cut_data : OfficeText → Data
cut_data o =
    object (member MARK.now (boolean true) (member (codes "format") (number_data (pos 4)) (member (codes "live") (live_data o.schema o.live)
    (member (codes "rules") (rules_data o.schema o.book o.known) (member (codes "tables") (list_data table_data o.schema)
    (member (codes "workspaces") (list_data (delta_data o.schema) o.deltas) no_members))))))

abbrev pub cut_text : OfficeText → List ℕ
cut_text o = compact_text (cut_data o)
