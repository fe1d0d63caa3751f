pub mod RuleCounts
