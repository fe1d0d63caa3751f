-- The draft that an office text is: its workspaces with whole contents, which must stand under LIVE.
use Rattle.std.specs.Prelude.{ℕ, List, Option, Result, Ok}
use Rattle.clr_deltas.specs.Deltas.{workspaces_over}
use Rattle.clr_workspace_parts.specs.Parts.{workspaces_fault}
use Rattle.clr_workspace_parts.specs.declared.parts.PartFault.{PartFault}
use Rattle.clr_workspace_parts.specs.declared.parts.PartFault.TheVariants as part
use Rattle.clr_rules.specs.declared.needs.Broken.{Broken}
use Rattle.clr_steps.specs.Offices.{Office}
use Rattle.clr_engine.specs.Drafts.{unheld_in}
use Rattle.clr_rule_text.specs.declared.faults.TextFault.{TextFault}
use Rattle.clr_rule_text.specs.declared.faults.TextFault.TheVariants as text
use Rattle.clr_readings.specs.Readings.{◌>>=◌}
use Rattle.clr_rule_text.specs.Fields.{none_or_fault}
use Rattle.clr_office_reading.specs.Offices.{OfficeText, known_in, office_in}

-- what is said of a text whose workspaces can't stand
abbrev pub text_fault_of : PartFault → TextFault
text_fault_of part.OutOfMemory = text.OutOfMemory
text_fault_of _ = text.BadPart

-- an office whose workspaces can stand
unfoldable pub if_standing : Office → Result Office TextFault
if_standing o = none_or_fault text.BadPart (workspaces_fault o.live o.workspaces) >>= λ _. Ok o

-- the office that is written by its differences
abbrev pub whole_office : OfficeText → Office
whole_office read = record { schema = read.schema; book = read.book; live = read.live; workspaces = workspaces_over read.live read.deltas }

-- the draft of a text: its parts are tested one after another, and then the workspaces as a whole
unfoldable pub draft_in : List ℕ → Result Office TextFault
draft_in bytes = office_in bytes >>= λ read. if_standing (whole_office read)

-- an office, beside the first content that breaks a need which isn't known and the least such need; or the fault of a text
abbrev pub Opened : Type 0
Opened = Result (Office × Option (ℕ × Broken)) TextFault

-- the draft of a text, and the first content that breaks a need which the text doesn't name as known, with that need: where there is none, it is an office
unfoldable pub opened_in : List ℕ → Opened
opened_in bytes = draft_in bytes >>= λ o. Ok (o, unheld_in o (known_in bytes))
