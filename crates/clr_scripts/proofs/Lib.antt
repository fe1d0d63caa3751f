pub mod Fields
pub mod ScriptTurns
