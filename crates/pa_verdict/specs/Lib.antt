pub mod Clauses
pub mod Verdict
