pub mod Verdicts
pub mod Sessions
pub mod Statements
