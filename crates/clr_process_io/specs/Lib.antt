pub mod ExitStatuses
pub mod Input
