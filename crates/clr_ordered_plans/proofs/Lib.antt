pub mod Beginnings
pub mod InOrderLaws
pub mod ListedNames
pub mod ReadableInOrder
