pub mod FirstServers
pub mod Involvement
pub mod NewRows
pub mod Scenes
pub mod Serving
pub mod Ties
pub mod Touches
