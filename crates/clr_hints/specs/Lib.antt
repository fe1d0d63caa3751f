pub mod BlankLines
pub mod Encodings
pub mod JsonFaults
pub mod Metres
pub mod Names
pub mod QuotedTexts
pub mod Values
