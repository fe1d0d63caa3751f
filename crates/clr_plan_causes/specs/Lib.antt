pub mod Badges
pub mod CauseMarks
pub mod CauseRows
pub mod PlanCauses
