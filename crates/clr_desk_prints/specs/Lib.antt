pub use Rattle.clr_office.specs.Outcomes
pub mod Calls
pub use Rattle.clr_asked_members.specs.Members
pub mod NameHints
pub mod Printing
pub mod Systems
