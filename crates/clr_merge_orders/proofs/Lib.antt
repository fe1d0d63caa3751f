pub mod FoundOrders
pub mod MoreBefore
pub mod PromiseLaws
