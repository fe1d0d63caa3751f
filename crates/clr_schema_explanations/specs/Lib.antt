pub mod Names
pub mod RowFaults
pub mod RuleFaults
pub mod SchemaFaults
