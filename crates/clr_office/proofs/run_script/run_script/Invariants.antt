use Rattle.std.proofs.Common.{drop}
use Rattle.clr_office_reports.specs.Outcomes.{outcome_of}
use Rattle.clr_office.proofs.ScriptOutcomes.{Leads}
use Rattle.clr_office.proofs.run_script.run_script.Given as goal

-- what was printed makes with what the rest prints the whole
abbrev pub invariant-loop-step : goal.invariant-loop-step
invariant-loop-step l = Leads l.fn.office l.steps (outcome_of l.all l.office) (drop l.step-index l.steps)
