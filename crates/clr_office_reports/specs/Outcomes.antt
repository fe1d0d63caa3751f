-- What reports print of an office.
use Rattle.std.specs.Prelude.{ℕ, Bool, false, true, List, ◌++◌, ⊤, codes, if◌then◌else◌, length, nat_lt}
use Rattle.clr_rules.specs.Needs.{broken_needs}
use Rattle.clr_workspaces.specs.Marks.{Name}
use Rattle.clr_steps.specs.declared.commands.Reply.{Reply}
use Rattle.clr_steps.specs.declared.commands.Reply.TheVariants.{Done, NoWorkspace}
use Rattle.clr_steps.specs.Names.{is_live}
use Rattle.clr_steps.specs.Offices.{Office, content_of, stands}
use Rattle.clr_steps.specs.Readings.{changes_in, conflicts_in}
use Rattle.clr_lines.specs.Replies.{reply_text}
use Rattle.clr_lines.specs.Reports.{audit_text, changes_text, conflicts_text}
use Rattle.clr_lines.specs.Rows.{rows_text}
use Rattle.clr_office_texts.specs.Writing.{bytes_of}
use Rattle.clr_office_reports.specs.Workspaces.{workspaces_text}
use Rattle.clr_office_reports.specs.declared.outputs.Output.{Output}

-- the lines that are printed, whether something was refused, whether something found no memory, and the office that is left
pub record Outcome : Type 0 where
  pub lines : List ℕ
  pub refused : Bool
  pub lost : Bool
  pub office : Office

abbrev pub outcome : List ℕ → Bool → Bool → Office → Outcome
outcome lines refused lost office = record { lines = lines; refused = refused; lost = lost; office = office }

-- the outcome that an output and the office that is left make
abbrev pub outcome_of : Output → Office → Outcome
outcome_of output office = outcome output.lines.items output.refused output.lost office

-- what shows an office and leaves it, and found its memory
abbrev pub shown : List ℕ → Bool → Office → Outcome
shown lines refused office = outcome lines refused false office

abbrev pub is_refused : Reply → Bool
is_refused Done = false
is_refused _ = true

-- a report on LIVE or a workspace, or that none has the name
abbrev pub report_outcome : Office → Name → List ℕ → Bool → Outcome
report_outcome o name lines refused = if stands o name then shown lines refused o else shown (reply_text o.schema NoWorkspace) true o

-- the rows of LIVE or a workspace
unfoldable pub show_outcome : Office → Name → Outcome
show_outcome o name = report_outcome o name (rows_text o.schema (content_of o name)) false

-- the changes of a workspace against its base
unfoldable pub changes_outcome : Office → Name → Outcome
changes_outcome o name = report_outcome o name (changes_text o.schema (changes_in o name)) false

-- the cells of a workspace that are in conflict with its parent
unfoldable pub conflicts_outcome : Office → Name → Outcome
conflicts_outcome o name = report_outcome o name (conflicts_text o.schema (conflicts_in o name)) false

-- the needs of the rows of LIVE or a workspace that no row serves; one such need counts as a refusal
unfoldable pub audit_outcome : Office → Name → Outcome
audit_outcome o name = let needs = broken_needs o.book (content_of o name) in report_outcome o name (audit_text o.schema needs) (nat_lt 0 (length needs))

-- the lines of all workspaces
abbrev pub workspaces_outcome : Office → Outcome
workspaces_outcome o = shown (workspaces_text o) false o

-- the text of the whole office, a line
abbrev pub dump_text : Office → List ℕ
dump_text o = bytes_of o ++ codes "\n"

abbrev pub dump_outcome : Office → Outcome
dump_outcome o = shown (dump_text o) false o

-- what is unfolded to compare what is shown by name
unfoldable pub by_name : ⊤
unfolding show_outcome stands content_of is_live
by_name = tt
