pub mod Refusals
pub mod Opens
pub mod Passes
