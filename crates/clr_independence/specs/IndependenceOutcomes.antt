-- What is printed of the independence of members.
use Rattle.std.specs.Prelude.{◌≡◌, Bool, true, not}
use Rattle.std.specs.List.{list_any}
use Rattle.clr_steps.specs.Offices.{Office}
use Rattle.clr_steps.specs.Quiet.{MergeSet}
use Rattle.clr_office_reports.specs.Outcomes.{Outcome, shown}
use Rattle.clr_independence.specs.declared.independent_members.Independence.{Independence}
use Rattle.clr_independence.specs.declared.independent_members.Independence.TheVariants as said
use Rattle.clr_independence.specs.Independences.{IsIndependenceOf}
use Rattle.clr_independence.specs.IndependenceLines.{independence_text}

-- members are unfit, or two of them depend on one another
abbrev pub has_dependence : Independence → Bool
has_dependence (said.Unfit v) = true
has_dependence (said.Pairs pairs) = list_any (λ p. not p.independent) pairs.items

-- the lines of the independence of members of a root; a dependent pair counts as a refusal, and so do members that are unfit
abbrev pub independence_outcome : Office → MergeSet → Independence → Outcome
independence_outcome o s value = shown (independence_text o.schema s.members s.root value) (has_dependence value) o

abbrev pub IsIndependenceOutcome : Office → MergeSet → Outcome → Type 0
IsIndependenceOutcome o s all = (value : Independence) × IsIndependenceOf o s value × (all ≡ independence_outcome o s value)
