pub mod Laws
pub mod MergeOrders
pub mod OrderLines
