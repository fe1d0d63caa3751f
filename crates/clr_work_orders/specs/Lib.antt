pub mod Actions
pub mod Among
pub mod Answers
pub mod Making
pub mod Remedies
pub mod Trials
pub mod WorkOrders
