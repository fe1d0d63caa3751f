pub mod ChoicePrints
pub mod ChoicesInOrder
pub mod MergeOrders
pub mod OrderCertificates
pub mod PlanPrints
pub mod PlansInOrder
