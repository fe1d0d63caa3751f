-- Hints at names that no workspace has, behind the notes of what is printed.
use Rattle.std.specs.Prelude.{◌≡◌, ◌++◌, ◌&&◌, ◌==◌, ℕ, Bool, not, List, Ok, Err, is_none, if◌then◌else◌}
use Rattle.std.specs.List.{list_any}
use Rattle.std.specs.Str.{bytes_eq}
use Rattle.clr_rows.specs.Names.{live_name}
use Rattle.clr_workspaces.specs.Marks.{Name}
use Rattle.clr_steps.specs.Offices.{Office}
use Rattle.clr_steps.specs.Readings.{parent_in}
use Rattle.clr_office.specs.NameHints.{AreNameHints}
use Rattle.clr_desk_prints.specs.Printing.{PrintoutOrFault}

-- what is printed, with lines behind its notes
abbrev pub with_lines : List ℕ → PrintoutOrFault → PrintoutOrFault
with_lines lines (Ok print) = Ok (record print { notes = print.notes ++ lines })
with_lines lines (Err e) = Err e

-- no workspace has the name
abbrev pub is_unknown : Office → Name → Bool
is_unknown o name = not (bytes_eq name live_name) && is_none (parent_in o name)

-- no workspace has one of the names
abbrev pub has_unknown : Office → List Name → Bool
has_unknown o names = list_any (is_unknown o) names

-- a refusal has a status of its own where a name was asked for that nothing has
abbrev pub status_refused_for : Bool → ℕ → ℕ
status_refused_for unknown status = if unknown && (status == 1) then 5 else status

abbrev pub refused_for : Bool → PrintoutOrFault → PrintoutOrFault
refused_for unknown (Ok print) = Ok (record print { status = status_refused_for unknown print.status })
refused_for unknown (Err e) = Err e

-- the second print is the first with hints at names behind its notes, and with the status of a refusal for a name that no workspace has
abbrev pub HintsAt : Office → List Name → PrintoutOrFault → PrintoutOrFault → Type 0
HintsAt o names bare print = (lines : List ℕ) × AreNameHints o names lines × (print ≡ with_lines lines (refused_for (has_unknown o names) bare))

-- what is to be printed, and behind its notes hints at names that no workspace has, which have a status of their own if something is refused
abbrev pub IsHinted : (Office → PrintoutOrFault → Type 0) → List Name → Office → PrintoutOrFault → Type 0
IsHinted IsPrint names o print = (bare : PrintoutOrFault) × IsPrint o bare × HintsAt o names bare print
