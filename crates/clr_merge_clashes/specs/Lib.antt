pub mod Lone
pub mod Laws
pub mod SharedCells
pub mod MergeClashes
pub mod ClashSets
pub mod Beside
