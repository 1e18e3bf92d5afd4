pub mod Numerals
pub mod Lexing
pub mod Chains
pub mod ReadBack
