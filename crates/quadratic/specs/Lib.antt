pub mod Systems
pub mod Positions
pub mod Sizes
pub mod Encodings
pub mod Refusals
pub mod Answers
