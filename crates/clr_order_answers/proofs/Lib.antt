pub mod Choices
pub mod Ends
pub mod Found
pub mod KnotOrders
pub mod Numbering
pub mod Restricted
pub mod Unhelped
