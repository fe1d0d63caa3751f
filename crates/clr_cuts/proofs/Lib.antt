pub mod AnswerLaws
pub mod AuditLaws
pub mod CutLaws
pub mod DependenceLaws
pub mod OtherLaws
pub mod PassLaws
pub mod ReachLaws
pub mod TiedLaws
