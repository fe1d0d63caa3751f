-- what callers need of the crates below
pub use Rattle.clr_check.specs.Cases
pub use Rattle.clr_check.specs.declared.cases.CaseFault
pub use Rattle.clr_merge_sets.specs.MergeSetNames
pub use Rattle.clr_merge_sets.specs.Plans
pub use Rattle.clr_merge_sets.specs.declared.plans.Plan
pub use Rattle.clr_office_reports.specs.Printing
pub use Rattle.clr_office_reports.specs.declared.outputs.Output
pub use Rattle.clr_office_texts.specs.Drafts
pub mod Answers
pub mod Clearances
pub mod NameHints
pub mod OnePlanInOrder
pub mod OneSession
pub mod Outcomes
pub mod Scripts
pub mod Session
