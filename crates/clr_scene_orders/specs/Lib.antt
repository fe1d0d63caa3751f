pub mod Laws
pub mod SceneOrders
