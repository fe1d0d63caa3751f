pub mod Decimals
pub mod InTurn
pub mod RecordTurns
pub mod RecordsAgain
pub mod Turns
pub mod Utf8
pub mod ValuesAgain
