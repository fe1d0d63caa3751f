pub mod SkippedRecords
pub mod SoundRecords
pub mod Splits
